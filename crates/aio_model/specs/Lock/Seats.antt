-- When a call of a pass stands in the one history of its lock.
use Rattle.std.specs.Prelude.{◌≡◌, ℕ, List, [], ◌∷◌, ◌++◌}
use Rattle.aio_model.specs.Lock.History.{LockEntry, made_by, IsLegalLock}

module _ {T : Type 0} where
  -- what was seen ends with the last entry of the call, if it made one
  abbrev pub EndsInLock : List (LockEntry T) → List (LockEntry T) → Type 0
  EndsInLock [] seen = Unit {0}
  EndsInLock (entry ∷ older) seen = (before : List (LockEntry T)) × (seen ≡ entry ∷ before)

  -- A call of this pass made just these entries: what was seen goes on, is legal, and has no other of this pass.
  pub record StandsInLock (number : ℕ) (entries seen mine seen_after mine_after : List (LockEntry T)) : Type 0 where
    pub rest : List (LockEntry T)
    pub longer : seen_after ≡ rest ++ seen
    pub legal : IsLegalLock seen_after
    pub just_these : made_by number rest ≡ entries
    pub mine_grows : mine_after ≡ entries ++ mine
    pub all_mine : made_by number seen_after ≡ mine_after
    pub ends : EndsInLock entries seen_after
