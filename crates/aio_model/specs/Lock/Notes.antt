-- Notes: what a lock's value holds for each pass. Whoever has the lock leaves the notes of all other passes as they are.
use Rattle.std.specs.Prelude.{◌≡◌, ◌≢◌, ℕ, List, [], ◌∷◌}
use Rattle.aio_model.specs.Lock.History.{LockEntry, Got, Wait, Grant, Release, value_of}

module _ {T N : Type 0} (note : T → ℕ → N) where
  -- the pass found the first value and leaves the second
  abbrev pub SameNotes : ℕ → T → T → Type 0
  SameNotes p x y = (k : ℕ) → k ≢ p → note y k ≡ note x k

  -- each release leaves the notes of all others as they were found
  abbrev pub IsNoted : T → List (LockEntry T) → Type 0
  IsNoted built [] = Unit {0}
  IsNoted built (Got p ∷ older) = IsNoted built older
  IsNoted built (Wait p co ∷ older) = IsNoted built older
  IsNoted built (Grant p q ∷ older) = IsNoted built older
  IsNoted built (Release p x ∷ older) = SameNotes p (value_of built older) x × IsNoted built older
