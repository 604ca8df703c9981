-- A part of a run: one loop with all that its thread owns.
use Rattle.std.specs.Prelude.{◌≡◌, ℕ, ◌<◌, ◌+◌, ◌-◌, ◌*◌, Bool, true, List, [], ◌∷◌, length, slice_index_or}
use Rattle.loop_rows.specs.declared.shared.LoopShared.{LoopShared}
use Rattle.loop_threads.specs.declared.parts.Part.{Part}
use Rattle.loop_rows.specs.LoopStates.{LoopState, at_loop, IsStation}
use Rattle.loop_rows.specs.Rows.{HasNumbers}

-- the loop of a part
abbrev pub loop_of : {C W O : Type 0} → Part C W O → LoopState C O
loop_of part =
    at_loop part.number part.home.seat part.side part.lot_pass part.coroutines part.row

-- the last is that of loop 0, the one before it that of loop 1, and so on
abbrev pub InReverse : {C W O : Type 0} → List (Part C W O) → Type 0
InReverse {C} {W} {O} parts =
    (k : ℕ) (p : Part C W O) → k < length parts → (slice_index_or parts k p).number + k + 1 ≡ length parts

-- the run of each has ended
abbrev pub HaveEnded : {C W O : Type 0} → List (Part C W O) → Type 0
HaveEnded {C} {W} {O} parts =
    (k : ℕ) (p : Part C W O) → k < length parts → (slice_index_or parts k p).carried ≡ true

-- `can_work`: what the work of a part needs before each turn
module _ {C W O : Type 0} (can_work : W → List (LoopShared C O) → LoopState C O → Type 0) where
  -- The row has two numbers, in the order of the loops; the caller of the run has those before.
  pub record IsLoopPart (shared : List (LoopShared C O)) (part : Part C W O) : Type 0 where
    pub station : IsStation shared (loop_of part)
    pub numbers : HasNumbers ((64 - 2 * length shared) + 2 * part.number) 2 part.row
    pub ready : can_work part.work shared (loop_of part)

  abbrev pub AllParts : List (LoopShared C O) → List (Part C W O) → Type 0
  AllParts shared parts =
      (k : ℕ) (p : Part C W O) → k < length parts → IsLoopPart shared (slice_index_or parts k p)

-- `does`: what a turn does, and whether the run has ended by it
module _ {C W O : Type 0} (can_work : W → List (LoopShared C O) → LoopState C O → Type 0) (does : List (LoopShared C O) → W → LoopState C O → Bool → W → LoopState C O → Type 0) where
  -- one turn was given to it
  pub record TakesTurn (shared : List (LoopShared C O)) (before after : Part C W O) : Type 0 where
    pub part : IsLoopPart can_work shared after
    pub number_is : after.number ≡ before.number
    pub did : does shared before.work (loop_of before) after.carried after.work (loop_of after)

  -- so many turns were, one after another; the list has the part between two of them, newest first
  abbrev pub TakesTurns : List (LoopShared C O) → List (Part C W O) → Part C W O → Part C W O → Type 0
  TakesTurns shared [] before after = after ≡ before
  TakesTurns shared (mid ∷ older) before after =
      TakesTurns shared older before mid × TakesTurn shared mid after

  -- a part that came from this one by turns alone
  pub record ComesFrom (shared : List (LoopShared C O)) (before after : Part C W O) : Type 0 where
    pub part : IsLoopPart can_work shared after
    pub number_is : after.number ≡ before.number
    pub turns : List (Part C W O)
    pub takes : TakesTurns shared turns before after

  -- and its run has ended
  pub record IsCarried (shared : List (LoopShared C O)) (before after : Part C W O) : Type 0 where
    pub comes : ComesFrom shared before after
    pub ended : after.carried ≡ true

  -- each of the first so many came from the one at its place
  abbrev pub AllComeFrom : List (LoopShared C O) → ℕ → List (Part C W O) → List (Part C W O) → Type 0
  AllComeFrom shared n before after =
      (k : ℕ) (p q : Part C W O) → k < n → ComesFrom shared (slice_index_or before k p) (slice_index_or after k q)

  -- of so many the first came from the last, and so on
  abbrev pub AllComeReversed : List (LoopShared C O) → ℕ → List (Part C W O) → List (Part C W O) → Type 0
  AllComeReversed shared n before after =
      (k j : ℕ) (p q : Part C W O) → k + j + 1 ≡ n → ComesFrom shared (slice_index_or before k p) (slice_index_or after j q)

  -- each of the first so many came from the one at its place, and its run has ended
  abbrev pub AllCarried : List (LoopShared C O) → ℕ → List (Part C W O) → List (Part C W O) → Type 0
  AllCarried shared n before after =
      (k : ℕ) (p q : Part C W O) → k < n → IsCarried shared (slice_index_or before k p) (slice_index_or after k q)
