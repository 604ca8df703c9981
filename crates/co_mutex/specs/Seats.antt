-- What ties the passes to the history, and the whole rule of the table.
use Rattle.std.specs.Prelude.{◌≡◌, ◌≢◌, ℕ, ◌==◌, ◌≤◌, true, Some, List, length}
use mathlib.Core.Option.{some}
use lib.ListN.{get_elem?}
use Rattle.atomic_table.specs.Table.{State}
use Rattle.table_seats.specs.Seats.{IsSeenBy}
use Rattle.aio_model.specs.Lock.History.{LockEntry, maker_of, value_of, AreBelow}
use Rattle.aio_model.specs.Lock.Notes.{IsNoted}
use Rattle.co_mutex.specs.Places.{PassPlace, AtRest, is_owning}
use Rattle.co_mutex.specs.declared.slot.Slot.{Slot}
use Rattle.co_mutex.specs.Known.{OtherPart, Known}
use Rattle.co_mutex.specs.Rule.{Baton, Stands}

module _ {T : Type 0} where
  -- the seat of this id has a pass that has seen a part of the history, in which its entries are just those that it made, and
  -- which has no more of them
  pub record IsPassPart (h : List (LockEntry T)) (seat : ℕ → ℕ) (id number : ℕ) (seen mine : List (LockEntry T)) : Type 0 where
    pub sits : seat number ≡ id
    pub seen_of : IsSeenBy maker_of (λ n. n == number) h seen mine

  -- what a live seat knows: of its own pass, and of others, which are at rest
  pub record IsSeat (built : T) (h : List (LockEntry T)) (places : List PassPlace) (seat : ℕ → ℕ) (id : ℕ) (known : Known T) : Type 0 where
    pub opens : known.opened ≡ Some built
    pub sized : known.passes ≡ length places
    pub placed : get_elem? places known.number ≡ some known.place
    pub part : IsPassPart h seat id known.number known.seen known.mine
    pub value : is_owning known.place ≡ true → value_of built known.seen ≡ value_of built h
    pub others : (k : ℕ) (other : OtherPart T) → get_elem? known.others k ≡ some other → IsPassPart h seat id other.number other.seen other.mine × (get_elem? places other.number ≡ some AtRest) × (other.number ≢ known.number)

  abbrev pub SeatsStand : T → List (LockEntry T) → List PassPlace → (ℕ → ℕ) → List (Known T) → Type 0
  SeatsStand built h places seat views =
      (id : ℕ) (known : Known T) → get_elem? views id ≡ some known → known.live ≡ true → IsSeat built h places seat id known

module _ {T N : Type 0} (note : T → ℕ → N) where
  pub record Kept (passes : ℕ) (built : T) (state : State (Slot T) (Known T)) : Type 0 where
    pub history : List (LockEntry T)
    pub places : List PassPlace
    pub baton : Baton
    pub stack : List ℕ
    pub seat : ℕ → ℕ
    pub lock : Stands passes built history state.words state.homes places baton stack
    pub seats : SeatsStand built history places seat state.views
    pub noted : IsNoted note built history
    pub makers : AreBelow passes history
    pub few : passes ≤ 64
