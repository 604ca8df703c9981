-- The history of a lock of coroutines, newest first: who owns it, who waits in order of pushing, which value it holds, and
-- what is legal. A coroutine is named by one number, that of its own times 2^32 and its home's.
use Rattle.std.specs.Prelude.{◌≡◌, ◌≢◌, ℕ, ◌<◌, ◌==◌, cond, Option, None, Some, List, [], ◌∷◌, ◌++◌, ◌⊎◌}
use Rattle.table_seats.specs.Seats.{entries_of}

pub data LockEntry (T : Type 0) : Type 0 where
  -- the pass found the lock free and owns it
  Got : ℕ → LockEntry T
  -- the pass was pushed, for this coroutine
  Wait : ℕ → ℕ → LockEntry T
  -- the first pass gives the lock to the second
  Grant : ℕ → ℕ → LockEntry T
  -- the pass gives the lock up and leaves this value
  Release : ℕ → T → LockEntry T

abbrev pub IsWaitingIn : ℕ → List ℕ → Type 0
IsWaitingIn p [] = ⊥
IsWaitingIn p (q ∷ rest) = (q ≡ p) ⊎ IsWaitingIn p rest

abbrev pub without_first : List ℕ → List ℕ
without_first [] = []
without_first (q ∷ rest) = rest

abbrev pub IsFirst : ℕ → List ℕ → Type 0
IsFirst q [] = ⊥
IsFirst q (first ∷ rest) = first ≡ q

module _ {T : Type 0} where
  -- the last that got the lock or was granted it, with no release after
  abbrev pub owner_of : List (LockEntry T) → Option ℕ
  owner_of [] = None
  owner_of (Got p ∷ older) = Some p
  owner_of (Wait p co ∷ older) = owner_of older
  owner_of (Grant p q ∷ older) = Some q
  owner_of (Release p x ∷ older) = None

  -- those who were pushed and not granted yet, the first pushed in front
  abbrev pub waiters_of : List (LockEntry T) → List ℕ
  waiters_of [] = []
  waiters_of (Got p ∷ older) = waiters_of older
  waiters_of (Wait p co ∷ older) = waiters_of older ++ p ∷ []
  waiters_of (Grant p q ∷ older) = without_first (waiters_of older)
  waiters_of (Release p x ∷ older) = waiters_of older

  -- the coroutine that the pass was last pushed for
  abbrev pub coroutine_of : ℕ → List (LockEntry T) → ℕ
  coroutine_of q [] = 0
  coroutine_of q (Got p ∷ older) = coroutine_of q older
  coroutine_of q (Wait p co ∷ older) = cond (q == p) co (coroutine_of q older)
  coroutine_of q (Grant p r ∷ older) = coroutine_of q older
  coroutine_of q (Release p x ∷ older) = coroutine_of q older

  -- the value of the last release, or the built one
  abbrev pub value_of : T → List (LockEntry T) → T
  value_of built [] = built
  value_of built (Got p ∷ older) = value_of built older
  value_of built (Wait p co ∷ older) = value_of built older
  value_of built (Grant p q ∷ older) = value_of built older
  value_of built (Release p x ∷ older) = x

  abbrev pub MayCome : LockEntry T → List (LockEntry T) → Type 0
  MayCome (Got p) older = (owner_of older ≡ None) × (waiters_of older ≡ [])
  MayCome (Wait p co) older = (owner_of older ≢ Some p) × ¬ (IsWaitingIn p (waiters_of older))
  MayCome (Grant p q) older = (owner_of older ≡ None) × IsFirst q (waiters_of older)
  MayCome (Release p x) older = owner_of older ≡ Some p

  abbrev pub IsLegalLock : List (LockEntry T) → Type 0
  IsLegalLock [] = Unit {0}
  IsLegalLock (entry ∷ older) = MayCome entry older × IsLegalLock older

  -- the pass that made the entry
  abbrev pub maker_of : LockEntry T → ℕ
  maker_of (Got p) = p
  maker_of (Wait p co) = p
  maker_of (Grant p q) = p
  maker_of (Release p x) = p

  abbrev pub made_by : ℕ → List (LockEntry T) → List (LockEntry T)
  made_by p history = entries_of maker_of p history

  -- each entry was made by one of so many passes
  abbrev pub AreBelow : ℕ → List (LockEntry T) → Type 0
  AreBelow passes [] = Unit {0}
  AreBelow passes (entry ∷ older) = (maker_of entry < passes) × AreBelow passes older
