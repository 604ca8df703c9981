-- What one entry into a callback does to what is kept of the callbacks.
use Rattle.std.specs.Prelude.{◌≡◌, ◌⊎◌, ℕ, ◌-◌, ◌<◌, ◌≤◌, Bool, ◌||◌, if◌then◌else◌, MatchBool, Option, List, [], ◌∷◌, ◌++◌, length, take, slice_index_or}
use Rattle.std.specs.List.{AllByRecursion}
use Rattle.aio_model.specs.declared.scripts.loop_scripts.Act.{Act}
use Rattle.aio_model.specs.declared.scripts.loop_scripts.ActKind.{ActKind}
use Rattle.aio_model.specs.declared.loops.ran_lists.Called.{Called}
use Rattle.aio_model.specs.Loop.Frame.{Lent, Entered}
use Rattle.aio_model.specs.Scripts.LoopActs.{Waiting, DoesActs, acts_called, acts_of}
use Rattle.aio_model.specs.Scripts.LoopReplies.{named_most, called_as}
use Rattle.bell_loop.specs.Actions.{AreWithin, some_rings}
use Rattle.aio_model.specs.Counts.{counted}

-- the list of actions of each handle
abbrev pub acts_at : List (List ActKind) → ℕ → List ActKind
acts_at lists bh = slice_index_or lists bh []

-- the actions of each list are on handles, and so is what waits
pub record CanRun (handles : ℕ) (lists : List (List ActKind)) (waiting : Waiting) : Type 0 where
  pub within : (bh : ℕ) → AreWithin handles (acts_at lists bh)
  pub waits : AllByRecursion (AreWithin handles) waiting

-- the first of those called are named, and how many there were besides is counted
pub record NamesCalled (ran : List Called) (more : ℕ) (calls : List Called) : Type 0 where
  pub first : ran ≡ take named_most calls
  pub besides : more ≡ counted (length calls - named_most)

-- what is kept: what waits for a nested poll, who was called, and whether some action notified the loop
pub record BellNotes : Type 0 where
  pub waiting : Waiting
  pub ran : List Called
  pub more : ℕ
  pub rang : Bool

abbrev pub notes_left : Waiting → List Called → ℕ → Bool → BellNotes
notes_left waiting ran more rang =
    record { waiting = waiting; ran = ran; more = more; rang = rang }

-- whoever is entered first was called
abbrev pub calls_after : Lent → List Called → List Called
calls_after lent calls = if lent.first then calls ++ called_as lent ∷ [] else calls

-- at a further entry something waits; at a first one, if it may nest, there is room for it to wait
abbrev pub MayEnter : Lent → Waiting → Type 0
MayEnter lent waiting =
    MatchBool lent.first ((lent.nests_left ≡ 0) ⊎ (length waiting < 7)) ((0 < length waiting) × (length waiting ≤ 7))

-- What is to be done at an entry, and what then still waits. A further entry takes up what waits in front.
abbrev pub FindsTodo : (ℕ → List ActKind) → Bool → ℕ → Option ℕ → List ActKind → Waiting → Waiting → Type 0
FindsTodo acts first bh job todo before after =
    MatchBool first ((todo ≡ acts_called acts bh job) × (after ≡ before)) (0 < length before → before ≡ todo ∷ after)

-- one entry, where the callbacks of the handles have these actions
pub record DoesEntry (acts : ℕ → List ActKind) (before : BellNotes) (entered : Entered) (after : BellNotes) : Type 0 where
  pub names : (calls : List Called) → NamesCalled before.ran before.more calls → NamesCalled after.ran after.more (calls_after entered.lent calls)
  pub rang : after.rang ≡ (before.rang || some_rings entered.made)
  pub does : MayEnter entered.lent before.waiting → DoesActs acts before.waiting entered after.waiting

-- a list of actions for each handle, which are its callback's
pub record AreListsOf (handles : ℕ) (acts : List Act) (lists : List (List ActKind)) : Type 0 where
  pub each : length lists ≡ handles
  pub are : (bh : ℕ) → bh < handles → acts_at lists bh ≡ acts_of acts bh
