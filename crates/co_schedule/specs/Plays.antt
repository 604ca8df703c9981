-- What each step on the table tells.
use Rattle.std.specs.Prelude.{◌≡◌, ℕ, ◌+◌, ◌==◌, Bool, false, Some, List, ◌∷◌, MatchBool}
use mathlib.Core.Option.{some}
use Rattle.atomic_table.specs.Table.{Me, Step, rest}
use Rattle.aio_model.specs.declared.coroutines.causes.Cause.{Cause}
use Rattle.aio_model.specs.Coroutines.History.{Entry, seat_of, co_place_of, IsLegal}
use Rattle.table_seats.specs.Seats.{Told, longer_of}
use Rattle.table_seats.specs.Calls.{IsJoined}
use Rattle.co_schedule.specs.Words.{mark_at, mark_of}
use Rattle.co_schedule.specs.Known.{MarkCompare, MarkLoad, Marked, HeadLoaded, Linked, Known}
use Rattle.co_schedule.specs.Standing.{Schedules, Looks, IsMarkOf, HeadIsLoaded, NextIsStored, Pushes, Misses, Takes, WalksOn, Opens, IsFirstEntered}

module _ {S : Type 0} where
  abbrev pub head_loaded : Step S → Me S Known → ℕ → Me S Known → Type 0
  head_loaded step before found after =
      (after.1 ≡ before.1) × ((c : ℕ) (given : Bool) → before.0.phase ≡ Marked c given → HeadIsLoaded c given found before.0 after.0)

  abbrev pub next_stored : Step S → Me S Known → ℕ → Me S Known → Type 0
  next_stored step before found after =
      (after.1 ≡ before.1) × ((c : ℕ) (given : Bool) (head : ℕ) → before.0.phase ≡ HeadLoaded c given head → NextIsStored c given head before.0 after.0)

  -- a push gives the slot back
  abbrev pub head_compared : Step S → Me S Known → ℕ → Me S Known → Type 0
  head_compared step before found after =
      (c : ℕ) (given : Bool) (head : ℕ) → before.0.phase ≡ Linked c given head → MatchBool (found == head) (Pushes c found before.0 after.0 × (after.1 ≡ rest before.1)) (Misses c given found before.0 after.0 × (after.1 ≡ before.1))

  abbrev pub taken : Step S → Me S Known → ℕ → Me S Known → Type 0
  taken step before found after = (after.1 ≡ before.1) × Takes found before.0 after.0

  abbrev pub next_loaded : Step S → Me S Known → ℕ → Me S Known → Type 0
  next_loaded step before found after =
      (after.1 ≡ before.1) × ((c : ℕ) → before.0.stage.word ≡ c + 1 → WalksOn c found before.0 after.0)

  abbrev pub entered : Step S → Me S Known → ℕ → Me S Known → Type 0
  entered step before found after =
      (after.1 ≡ rest before.1) × ((c : ℕ) (more : List ℕ) → before.0.stage.hand ≡ Some c → before.0.stage.run ≡ c ∷ more → IsFirstEntered c more before.0 after.0)

  -- what two joined seats had seen
  abbrev pub learned : Step S → Me S Known → ℕ → Me S Known → Type 0
  learned step before found after =
      (after ≡ before) × ((told : Told Entry) → before.0.told ≡ Some told → IsJoined seat_of (IsLegal before.0.coroutines) told (longer_of told.staying told.joining))

  -- who owns all has seen all, so a mark tells where its coroutine stands in what was seen
  abbrev pub mark_seen : Step S → Me S Known → ℕ → Me S Known → Type 0
  mark_seen step before found after =
      (after.1 ≡ before.1) × ((c : ℕ) → step.word ≡ mark_at c → Looks MarkLoad (mark_at c) found before.0 after.0 × (found ≡ mark_of (co_place_of c before.0.seen)))

module _ {S : Type 0} (cause_in : S → Cause) (given_in : S → Bool) where
  -- a compare that succeeds takes the slot, in which there is no state; one that fails tells where the coroutine stood
  abbrev pub marked : Step S → Me S Known → ℕ → Me S Known → Type 0
  marked step before found after =
      (y : S) (c : ℕ) → step.said ≡ some y → step.word ≡ mark_at c → MatchBool (found == 0) (Schedules c (cause_in y) (given_in y) before.0 after.0 × ((x : S) × (given_in x ≡ false) × (after.1 ≡ (c, x) ∷ before.1))) (Looks MarkCompare step.word found before.0 after.0 × IsMarkOf c found before.0 × (after.1 ≡ before.1))

module _ {S : Type 0} (given_in : S → Bool) (IsOf : ℕ → S → Type 0) where
  -- the load takes the slot of the first one
  abbrev pub opened : Step S → Me S Known → ℕ → Me S Known → Type 0
  opened step before found after =
      (c : ℕ) (more : List ℕ) → before.0.stage.run ≡ c ∷ more → (x : S) × IsOf c x × (after.1 ≡ (c, x) ∷ before.1) × Opens c found (given_in x) before.0 after.0
