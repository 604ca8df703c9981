-- What actions make of what home knows.
use Rattle.std.specs.Prelude.{◌≡◌, ℕ, Bool, true, false, ◌||◌, List, [], ◌∷◌}
use Rattle.std.specs.List.{AllByRecursion}
use Rattle.aio_model.specs.declared.loops.flags.Flags.{Flags}
use Rattle.aio_model.specs.declared.scripts.loop_scripts.ActKind.{ActKind}
use Rattle.aio_model.specs.declared.scripts.loop_scripts.ActKind.TheVariants.{Schedule, Idle, Delete, Cancel as CancelOf, Nest}
use Rattle.aio_model.specs.Loop.History.{History}
use Rattle.aio_model.specs.Loop.Legal.{IsLegal}
use Rattle.aio_model.specs.Loop.Log.{rings}
use Rattle.aio_model.specs.Scripts.LoopActs.{Add, made_by_act}
use Rattle.aio_model.specs.Loop.InFlight.{AtRest}
use Rattle.aio_core.specs.Known.{Known}
use Rattle.aio_core.specs.Calls.{TableState, SeatState, IsSeatOf}
use Rattle.aio_bh.specs.Running.{SeatComesBack}
use Rattle.aio_script.specs.Loop.Bounds.{CallsHandle}

-- actions on handles, of which there are so many
abbrev pub AreWithin : ℕ → List ActKind → Type 0
AreWithin handles todo = AllByRecursion (CallsHandle handles) todo

-- the home's seat, as a callback is lent it
pub record IsLent (table : TableState) (seat : SeatState) : Type 0 where
  pub of : IsSeatOf table seat
  pub rest : seat.known.phase ≡ AtRest
  pub first : seat.known.first ≡ 64
  pub count : seat.known.count ≡ 1
  pub legal : IsLegal table.sizes seat.known.seen

-- one action was done, and nothing else
pub record Acts (what : ActKind) (before after : Known) : Type 0 where
  pub was : Flags
  pub back : SeatComesBack (made_by_act what was) before after

-- these actions
pub record ActsAll (todo : List ActKind) (before after : Known) : Type 0 where
  pub made : History
  pub adds : Add todo made
  pub back : SeatComesBack made before after

-- some entry notifies
abbrev pub some_rings : History → Bool
some_rings [] = false
some_rings (e ∷ older) = rings e || some_rings older

-- the action notifies
abbrev pub is_notifying : ActKind → Bool
is_notifying (Schedule i) = true
is_notifying (Idle i) = true
is_notifying (Delete i) = true
is_notifying (CancelOf i) = false
is_notifying Nest = false

abbrev pub some_asks : List ActKind → Bool
some_asks [] = false
some_asks (act ∷ later) = is_notifying act || some_asks later
