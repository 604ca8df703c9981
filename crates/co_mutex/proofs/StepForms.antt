-- The rule after a step that makes no entry, and after one that makes one.
use Rattle.std.proofs.Common.{◌≡◌, ℕ, ◌<◌, true, false, List, ◌∷◌, slice_index, set, refl, sym, ap, ◌∙◌, subst, zero, suc}
use Rattle.std.proofs.Common.{[]}
use mathlib.Core.Option.{some}
use lib.ListN.{get_elem?}
use Rattle.atomic_table.specs.Table.{State, Act, homes_after, stepped}
use Rattle.aio_model.specs.Lock.History.{LockEntry, maker_of, value_of, IsLegalLock}
use Rattle.aio_model.specs.Lock.Notes.{IsNoted}
use Rattle.co_mutex.specs.declared.slot.Slot.{Slot}
use Rattle.co_mutex.specs.Places.{PassPlace, is_owning}
use Rattle.co_mutex.specs.Rule.{Baton, Stands}
use Rattle.co_mutex.specs.Known.{Done, Known, moves, learns, makes, KnownGoesOn}
use Rattle.co_mutex.specs.Seats.{IsSeat, Kept}
use Rattle.co_mutex.specs.Plays.{Makes}
use Rattle.co_mutex.proofs.QuietSteps.{at_low}
use Rattle.co_mutex.proofs.SeatSteps.{goes_on, ValueStays, seats_make, seats_learn, seats_move}

pub set_back : (words : List ℕ) (k : ℕ) → set words k (slice_index words k) ≡ words
set_back [] k = refl
set_back (x ∷ xs) zero = refl
set_back (x ∷ xs) (suc k) = ap (λ (l : List ℕ). x ∷ l) (set_back xs k)

pub set_as : (words : List ℕ) (k x : ℕ) → slice_index words k ≡ x → set words k x ≡ words
set_as words k x e = subst (λ z. set words k z ≡ words) e (set_back words k)

pub isnt_owning : (place : PassPlace) {X : Type 0} → is_owning place ≡ false → is_owning place ≡ true → X
isnt_owning place e f = (let bad : true ≡ false = sym f ∙ e in absurd cc)

module _ {T N : Type 0} (note : T → ℕ → N) (n : ℕ) (built : T) (id : ℕ) where
  abbrev pub S : Type 0
  S = Slot T

  module _ (v : Known T) (s : State S (Known T)) (r : Kept note n built s) (at : get_elem? s.views id ≡ some v) (live : v.live ≡ true) where
    pub seat_is : IsSeat built r.history r.places r.seat id v
    seat_is = r.seats id v at live

    pub placed_as : (place : PassPlace) → v.place ≡ place → get_elem? r.places v.number ≡ some place
    placed_as place e = seat_is.placed ∙ ap some e

    pub sized_as : v.passes ≡ n
    sized_as = seat_is.sized ∙ r.lock.each

    pub history_goes : KnownGoesOn v r.history
    history_goes = goes_on built r.history r.places r.seat s.views id v r.seats at live v.place r.lock.legal

    module _ (new : PassPlace) (d : Done) (k x : ℕ) (c : List (ℕ × S)) (a : Act S) (b : Baton) (stack : List ℕ) where
      pub kept_move : is_owning new ≡ false → Stands n built r.history (set s.words k x) (homes_after s.homes c a) (set r.places v.number new) b stack → Kept note n built (stepped s k x id c (moves v new d) a)
      kept_move isnt lock =
          record { history = r.history; places = set r.places v.number new; baton = b; stack = stack; seat = r.seat; lock = lock; seats = seats_move built r.history r.places r.seat s.views id v r.seats at live new d (λ e. isnt_owning new isnt e); noted = r.noted; makers = r.makers; few = r.few }

      pub kept_own : (value_of built v.seen ≡ value_of built r.history) → Stands n built r.history (set s.words k x) (homes_after s.homes c a) (set r.places v.number new) b stack → Kept note n built (stepped s k x id c (moves v new d) a)
      kept_own value lock =
          record { history = r.history; places = set r.places v.number new; baton = b; stack = stack; seat = r.seat; lock = lock; seats = seats_move built r.history r.places r.seat s.views id v r.seats at live new d (λ e. value); noted = r.noted; makers = r.makers; few = r.few }

      pub kept_learn : Stands n built r.history (set s.words k x) (homes_after s.homes c a) (set r.places v.number new) b stack → Kept note n built (stepped s k x id c (learns v new d r.history) a)
      kept_learn lock =
          record { history = r.history; places = set r.places v.number new; baton = b; stack = stack; seat = r.seat; lock = lock; seats = seats_learn built r.history r.places r.seat s.views id v r.seats at live new d; noted = r.noted; makers = r.makers; few = r.few }

      pub kept_make : (e : LockEntry T) → maker_of e ≡ v.number → IsNoted note built (e ∷ r.history) → ValueStays built r.history r.places r.seat s.views id v r.seats at live new (e ∷ r.history) → Stands n built (e ∷ r.history) (set s.words k x) (homes_after s.homes c a) (set r.places v.number new) b stack → Kept note n built (stepped s k x id c (makes v new d r.history e) a)
      kept_make e by_it noted stays lock =
          record { history = e ∷ r.history; places = set r.places v.number new; baton = b; stack = stack; seat = r.seat; lock = lock; seats = seats_make built r.history r.places r.seat s.views id v r.seats at live new e d by_it stays; noted = noted; makers = (subst (λ z. z < n) (sym by_it) (subst (λ z. v.number < z) r.lock.each (at_low r.places v.number v.place seat_is.placed)), r.makers); few = r.few }

      pub makes_told : (e : LockEntry T) (hand : List (ℕ × S)) → IsLegalLock (e ∷ r.history) → Makes e new d r.history hand v (makes v new d r.history e, hand)
      makes_told e hand legal = record { is = refl; goes = history_goes; legal = legal }
