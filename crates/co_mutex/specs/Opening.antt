-- The rule and the first view, from what the table is told once; and how passes go to seats of their own and come together again.
use Rattle.std.specs.Prelude.{ℕ, Some, List, [], ◌∷◌, ◌++◌, pred, zero, suc}
use Rattle.atomic_table.specs.Table.{State}
use Rattle.co_mutex.specs.declared.slot.Slot.{Slot}
use Rattle.co_mutex.specs.declared.rule.Opened.{Opened}
use Rattle.co_mutex.specs.Places.{AtRest}
use Rattle.co_mutex.specs.Known.{OtherPart, Known, new_known}
use Rattle.co_mutex.specs.Seats.{Kept}

module _ {T N : Type 0} (note : T → ℕ → N) where
  abbrev pub holds_of : Opened T → State (Slot T) (Known T) → Type 0
  holds_of key state = Kept note key.passes key.value.value state

module _ {T : Type 0} where
  -- so many passes that did nothing yet, from this number on
  abbrev pub new_parts : ℕ → ℕ → List (OtherPart T)
  new_parts p zero = []
  new_parts p (suc count) =
      record { number = p; seen = []; mine = [] } ∷ new_parts (suc p) count

  -- the first view has all passes
  abbrev pub first_view_of : Opened T → Known T
  first_view_of key = new_known (Some key.value.value) key.passes 0 (new_parts 1 (pred key.passes))

  -- the pass of a seat, alone
  abbrev pub front : Known T → Known T
  front known = record known { others = [] }

  abbrev pub behind_of : Known T → List (OtherPart T) → Known T
  behind_of known [] = known
  behind_of known (part ∷ parts) =
      record known { number = part.number; place = AtRest; seen = part.seen; mine = part.mine; did = []; others = parts }

  -- those behind it
  abbrev pub behind : Known T → Known T
  behind known = behind_of known known.others

  abbrev pub part_of : Known T → OtherPart T
  part_of known = record { number = known.number; seen = known.seen; mine = known.mine }

  abbrev pub parts_of : Known T → List (OtherPart T)
  parts_of known = part_of known ∷ known.others

  abbrev pub joined : Known T → Known T → Known T
  joined known other = record known { others = known.others ++ parts_of other }
