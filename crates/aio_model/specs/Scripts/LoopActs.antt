-- What the callbacks of a loop script do when they are entered: a runner of lists of actions.
use Rattle.std.specs.Prelude.{◌≡◌, ℕ, zero, suc, Bool, true, false, ◌==◌, if◌then◌else◌, MatchBool, Option, None, Some, List, [], ◌∷◌, ◌++◌, map, filter}
use Rattle.aio_model.specs.declared.loops.flags.Flags.{Flags}
use Rattle.aio_model.specs.declared.scripts.loop_scripts.Act.{Act}
use Rattle.aio_model.specs.declared.scripts.loop_scripts.ActKind.{ActKind}
use Rattle.aio_model.specs.declared.scripts.loop_scripts.ActKind.TheVariants.{Schedule, Idle, Delete, Cancel as CancelOf, Nest}
use Rattle.aio_model.specs.Loop.History.{EnqueueAsks, ToCall, ToCallIdle, ToDelete, Enqueue, Put, Cancel, History}
use Rattle.aio_model.specs.Loop.Seats.{home}
use Rattle.aio_model.specs.Loop.Frame.{Answer, Ended, Nests, Entered}

-- the actions of a handle's callback, in order
abbrev pub acts_of : List Act → ℕ → List ActKind
acts_of acts bh = map (λ act. act.what) (filter (λ act. act.bh == bh) acts)

-- what is to be done from a first entry on: by a handle its actions, by a one-shot, which has a job, nothing
abbrev pub acts_called : (ℕ → List ActKind) → ℕ → Option ℕ → List ActKind
acts_called acts_at bh None = acts_at bh
acts_called acts_at bh (Some job) = []

abbrev pub is_nest : ActKind → Bool
is_nest Nest = true
is_nest _ = false

-- the actions before the next nest, or all where there is none
abbrev pub before_nest : List ActKind → List ActKind
before_nest [] = []
before_nest (act ∷ later) = if is_nest act then [] else act ∷ before_nest later

-- the actions behind the next nest, if there is one
abbrev pub behind_nest : List ActKind → Option (List ActKind)
behind_nest [] = None
behind_nest (act ∷ later) = if is_nest act then Some later else behind_nest later

-- an enqueue by home that found these flags, and a push where it found the index not pending
abbrev pub enqueue_made : ℕ → EnqueueAsks → Flags → History
enqueue_made i asked was =
    if was.pending then Enqueue i asked home was ∷ [] else Put i home ∷ (Enqueue i asked home was ∷ [])

-- what an action adds to the history where it found these flags, newest first
abbrev pub made_by_act : ActKind → Flags → History
made_by_act (Schedule i) was = enqueue_made i ToCall was
made_by_act (Idle i) was = enqueue_made i ToCallIdle was
made_by_act (Delete i) was = enqueue_made i ToDelete was
made_by_act (CancelOf i) was = Cancel i home was ∷ []
made_by_act Nest was = []

-- these actions, done in order, add these entries, newest first; the flags that they found are for the history to tell
abbrev pub Add : List ActKind → History → Type 0
Add [] made = made ≡ []
Add (act ∷ acts) made =
    (was : Flags) × (later : History) × (made ≡ later ++ made_by_act act was) × Add acts later

-- A runner's state is what each callback that waits for a nested poll has still to do, the last that nested in front.
abbrev pub Waiting : Type 0
Waiting = List (List ActKind)

abbrev pub answer_of_acts : Option (List ActKind) → Answer
answer_of_acts None = Ended
answer_of_acts (Some later) = Nests

-- who nests waits for its nested poll, unless no nest was left: it is then cut, and does no more
abbrev pub waiting_after : Option (List ActKind) → ℕ → Waiting → Waiting
waiting_after None nests_left below = below
waiting_after (Some later) zero below = below
waiting_after (Some later) (suc nests_left) below = later ∷ below

-- One entry, where these are the actions of each handle. At a callback's first one all of its actions are still to do; at a further one what it has still to do
-- stands in front. It does the actions before the next nest, and then it nests, or has ended.
pub record DoesActs (acts_at : ℕ → List ActKind) (before : Waiting) (entered : Entered) (after : Waiting) : Type 0 where
  pub todo : List ActKind
  pub below : Waiting
  pub finds : MatchBool entered.lent.first ((todo ≡ acts_called acts_at entered.lent.bh entered.lent.job) × (below ≡ before)) (before ≡ todo ∷ below)
  pub adds : Add (before_nest todo) entered.made
  pub answers : entered.answer ≡ answer_of_acts (behind_nest todo)
  pub leaves : after ≡ waiting_after (behind_nest todo) entered.lent.nests_left below
