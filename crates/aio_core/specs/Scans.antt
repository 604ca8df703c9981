-- What a scan does: the home loads all that was pushed and not dequeued, up to the first that is urgent.
use Rattle.std.specs.Prelude.{◌≡◌, ℕ, Bool, true, false, not, ◌&&◌, ◌||◌, Option, None, Some, MatchOption, List, [], ◌∷◌, ◌++◌, length, drop}
use Rattle.aio_model.specs.declared.loops.flags.Flags.{Flags}
use Rattle.aio_model.specs.Loop.Flags.{are_due, are_urgent, is_urgent}
use Rattle.aio_model.specs.Loop.Lists.{stack_of, out_of}
use Rattle.aio_core.specs.HomeState.{are_within}
use Rattle.aio_core.specs.Known.{Running, Scanning, Known}
use Rattle.aio_core.specs.Standing.{is_empty}
use Rattle.aio_core.specs.SleepSteps.{is_scanning, BeginsScan, ScansNext, ScansFlags, scan_in}

-- an index that was loaded, and its flags
pub record LookedAt : Type 0 where
  pub index : ℕ
  pub flags : Flags

-- what follows the index was loaded, and its flags
pub record Passes (looked : LookedAt) (before after : Known) : Type 0 where
  pub lifted : Known
  pub found : ℕ
  pub next : ScansNext looked.index found (drop 1 (scan_in before.sleep).stage.slices) (scan_in before.sleep) before lifted
  pub flags : ScansFlags looked.index looked.flags (scan_in lifted.sleep) lifted after

-- these were loaded, newest first, and were not urgent but for the newest
abbrev pub PassesAll : List LookedAt → Known → Known → Type 0
PassesAll [] before after = after ≡ before
PassesAll (looked ∷ older) before after =
    (mid : Known) × PassesAll older before mid × (is_scanning mid.sleep ≡ true) × Passes looked mid after

abbrev pub some_idle : List LookedAt → Bool
some_idle [] = false
some_idle (looked ∷ older) = some_idle older || (are_due looked.flags && looked.flags.idle)

abbrev pub none_urgent : List LookedAt → Bool
none_urgent [] = true
none_urgent (looked ∷ older) = not (are_urgent looked.flags) && none_urgent older

-- the indices, in the order in which they were loaded
abbrev pub indices_loaded : List LookedAt → List ℕ
indices_loaded [] = []
indices_loaded (looked ∷ older) = indices_loaded older ++ looked.index ∷ []

-- A home in a scan, with these words ahead.
pub record IsAhead (words : List ℕ) (known : Known) : Type 0 where
  pub scanning : known.sleep ≡ Scanning (length known.did) (scan_in known.sleep)
  pub ahead : (scan_in known.sleep).stage ≡ record { slices = words; hand = None; job = None }
  pub within : are_within known.sizes words ≡ true
  pub left : is_empty words ≡ is_empty (scan_in known.sleep).left

-- all that was in the stack and out at the head load was loaded, and none of it was urgent
pub record FoundNone (begun : Known) (loads : List LookedAt) (after : Known) : Type 0 where
  pub all : indices_loaded loads ≡ stack_of begun.seen ++ out_of begun.seen
  pub none : none_urgent loads ≡ true
  pub scanned : IsAhead [] after

-- the load that was made last found the index urgent
pub record FoundUrgent (i : ℕ) (loads : List LookedAt) (after : Known) : Type 0 where
  pub flags : Flags
  pub older : List LookedAt
  pub newest : loads ≡ record { index = i; flags = flags } ∷ older
  pub urgent : are_urgent flags ≡ true
  pub now : is_urgent i after.seen ≡ true
  pub none : none_urgent older ≡ true
  pub running : after.sleep ≡ Running

-- The way to sleep changes of a view what was seen, which steps were made, and how far it is.
abbrev pub SameButSleep : Known → Known → Type 0
SameButSleep before after =
    after ≡ record before { seen = after.seen; did = after.did; sleep = after.sleep }

pub record Scans (urgent : Option ℕ) (idle : Bool) (before after : Known) : Type 0 where
  pub head : ℕ
  pub begun : Known
  pub loads : List LookedAt
  pub begins : BeginsScan head before begun
  pub passes : PassesAll loads begun after
  pub idle_is : idle ≡ some_idle loads
  pub answer : MatchOption urgent (FoundNone begun loads after) (λ i. FoundUrgent i loads after)
  pub rest : SameButSleep before after

-- How far a scan has come.
pub record ScanSoFar (begun : Known) (words : List ℕ) (urgent : Option ℕ) (idle : Bool) (known : Known) : Type 0 where
  pub loads : List LookedAt
  pub passes : PassesAll loads begun known
  pub idle_is : idle ≡ some_idle loads
  pub none : none_urgent loads ≡ true
  pub none_yet : urgent ≡ None
  pub at : IsAhead words known
  pub rest : indices_loaded loads ++ (scan_in known.sleep).left ≡ stack_of begun.seen ++ out_of begun.seen

pub record ScanFrom (before : Known) (words : List ℕ) (urgent : Option ℕ) (idle : Bool) (known : Known) : Type 0 where
  pub head : ℕ
  pub begun : Known
  pub begins : BeginsScan head before begun
  pub so_far : ScanSoFar begun words urgent idle known
  pub same : SameButSleep before known

-- one more was loaded, which wasn't urgent
pub record ScansOn (urgent urgent_after : Option ℕ) (idle idle_after : Bool) (words_after : List ℕ) (before after : Known) : Type 0 where
  pub looked : LookedAt
  pub passes : Passes looked before after
  pub calm : are_urgent looked.flags ≡ false
  pub same : urgent_after ≡ urgent
  pub noted : idle_after ≡ (idle || (are_due looked.flags && looked.flags.idle))
  pub at : IsAhead words_after after
  pub left : (scan_in before.sleep).left ≡ looked.index ∷ (scan_in after.sleep).left

-- nothing was ahead
pub record ScanIsOver (urgent urgent_after : Option ℕ) (idle idle_after : Bool) (words : List ℕ) (before after : Known) : Type 0 where
  pub none : words ≡ []
  pub same : after ≡ before
  pub same_urgent : urgent_after ≡ urgent
  pub same_idle : idle_after ≡ idle

-- one more was loaded, which was urgent
pub record ScanMeets (urgent_after : Option ℕ) (idle idle_after : Bool) (before after : Known) : Type 0 where
  pub looked : LookedAt
  pub passes : Passes looked before after
  pub urgent : are_urgent looked.flags ≡ true
  pub met : urgent_after ≡ Some looked.index
  pub noted : idle_after ≡ (idle || (are_due looked.flags && looked.flags.idle))
