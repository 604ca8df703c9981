-- What a clause says of a lock and its passes.
use Rattle.std.specs.Prelude.{◌≡◌, ◌<◌, ℕ, true, Some, List, [], ◌∷◌}
use Rattle.co_mutex.specs.declared.slot.Slot.{Slot}
use Rattle.co_mutex.specs.declared.slot.Slot.TheVariants.{Out}
use Rattle.co_mutex.specs.declared.lock.CoMutex.{CoMutex}
use Rattle.co_mutex.specs.declared.lock.Pass.{Pass}
use Rattle.co_mutex.specs.Places.{PassPlace, Holds}
use Rattle.co_mutex.specs.Known.{Known, new_known}

module _ {P T N : Type 0} where
  -- the value that the lock was built with
  abbrev pub built_of : CoMutex P T N → T
  built_of m = m.table.shared.key.value.value

  abbrev pub passes_of : CoMutex P T N → ℕ
  passes_of m = m.table.shared.key.passes

  abbrev pub known : Pass P T N → Known T
  known p = p.seat.me.0

  abbrev pub carried : Pass P T N → List (ℕ × Slot T)
  carried p = p.seat.me.1

  -- the pass is the lock's, wherever it is
  pub record IsOf (m : CoMutex P T N) (p : Pass P T N) : Type 0 where
    pub table : p.seat.table_id ≡ m.table.shared.table_id
    pub opens : p.seat.me.0.opened ≡ Some m.table.shared.key.value.value
    pub passes : p.seat.me.0.passes ≡ m.table.shared.key.passes
    pub live : p.seat.me.0.live ≡ true
    pub number : p.number ≡ p.seat.me.0.number
    pub below : p.number < m.table.shared.key.passes

module _ {T : Type 0} where
  -- between two calls a pass has a slot exactly where it holds
  abbrev pub hand_of : PassPlace → List (ℕ × Slot T)
  hand_of Holds = (0, Out) ∷ []
  hand_of _ = []

module _ {P T N : Type 0} where
  -- the pass is the lock's, between two calls
  pub record IsPassOf (m : CoMutex P T N) (p : Pass P T N) : Type 0 where
    pub of : IsOf m p
    pub hand : p.seat.me.1 ≡ hand_of p.seat.me.0.place

  -- pass k of the lock, which has made no call
  pub record IsNew (m : CoMutex P T N) (k : ℕ) (p : Pass P T N) : Type 0 where
    pub is : IsPassOf m p
    pub known_is : known p ≡ new_known (Some (built_of m)) (passes_of m) k []
