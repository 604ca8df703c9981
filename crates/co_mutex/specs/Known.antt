-- What a pass knows of its lock.
use Rattle.std.specs.Prelude.{◌≡◌, ℕ, Bool, true, false, Option, None, List, [], ◌∷◌, ◌++◌}
use Rattle.aio_model.specs.Lock.History.{LockEntry, made_by, IsLegalLock}
use Rattle.co_mutex.specs.Places.{PassPlace, AtRest}

-- the kinds of atomic step on a word
pub data Kind : Type 0 where
  LockedCompare : Kind
  LockedFetchAdd : Kind
  LockedFetchSub : Kind
  WhoStore : Kind
  HeadLoad : Kind
  NextStore : Kind
  HeadCompare : Kind
  HeadSwap : Kind
  NextLoad : Kind
  WhoLoad : Kind
  GrantStore : Kind
  GrantSwap : Kind
  HandoffLoad : Kind
  HandoffStore : Kind
  HandoffCompare : Kind
  SecondLook : Kind

-- a step that was done: its kind, its word, and what it found there, or stored
pub record Done : Type 0 where
  pub kind : Kind
  pub word : ℕ
  pub found : ℕ

-- what another pass, whose seat was joined into this one or wasn't cut off yet, has seen and made
pub record OtherPart (T : Type 0) : Type 0 where
  pub number : ℕ
  pub seen : List (LockEntry T)
  pub mine : List (LockEntry T)

-- Histories have the newest entry in front, and so have the steps that were done.
pub record Known (T : Type 0) : Type 0 where
  -- a seat that was joined into another isn't live
  pub live : Bool
  pub opened : Option T
  pub passes : ℕ
  pub number : ℕ
  pub place : PassPlace
  pub seen : List (LockEntry T)
  pub mine : List (LockEntry T)
  pub did : List Done
  pub others : List (OtherPart T)

module _ {T : Type 0} where
  abbrev pub new_known : Option T → ℕ → ℕ → List (OtherPart T) → Known T
  new_known opened passes number others =
      record { live = true; opened = opened; passes = passes; number = number; place = AtRest; seen = []; mine = []; did = []; others = others }

  -- what is left of a seat that was joined into another
  abbrev pub spent_known : Known T
  spent_known =
      record { live = false; opened = None; passes = 0; number = 0; place = AtRest; seen = []; mine = []; did = []; others = [] }

  -- a step that moves the pass and makes no entry
  abbrev pub moves : Known T → PassPlace → Done → Known T
  moves known place done = record known { place = place; did = done ∷ known.did }

  -- the same, where the pass has now seen this history
  abbrev pub learns : Known T → PassPlace → Done → List (LockEntry T) → Known T
  learns known place done history =
      record known { place = place; did = done ∷ known.did; seen = history }

  -- a step that makes an entry, over this history
  abbrev pub makes : Known T → PassPlace → Done → List (LockEntry T) → LockEntry T → Known T
  makes known place done older entry =
      record known { place = place; did = done ∷ known.did; seen = entry ∷ older; mine = entry ∷ known.mine }

  -- the same pass after these steps, none of which made an entry
  abbrev pub advances : Known T → PassPlace → List Done → Known T
  advances known place steps = record known { place = place; did = steps ++ known.did }

  -- the history goes on from what the pass had seen, with entries of other passes alone
  pub record GoesOn (number : ℕ) (seen mine history : List (LockEntry T)) : Type 0 where
    pub others : List (LockEntry T)
    pub longer : history ≡ others ++ seen
    pub foreign : made_by number others ≡ []
    pub all_mine : made_by number history ≡ mine
    pub legal : IsLegalLock history

  abbrev pub KnownGoesOn : Known T → List (LockEntry T) → Type 0
  KnownGoesOn known history = GoesOn known.number known.seen known.mine history
