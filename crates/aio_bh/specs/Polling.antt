-- What a poll does.
use Rattle.std.specs.Prelude.{◌≡◌, ℕ, ◌^◌, ◌-◌, ◌+◌, List, [], ◌∷◌, ◌++◌}
use Rattle.aio_model.specs.Loop.History.{Take, Dequeue, History}
use Rattle.aio_model.specs.Loop.Legal.{IsLegal}
use Rattle.aio_model.specs.Loop.Lists.{stack_of, out_of}
use Rattle.aio_model.specs.Loop.Seats.{home, entries_of}
use Rattle.aio_model.specs.Loop.Frame.{Entered, PollPlace, Frame, start_of, DoesEntries, ran_of, cut_nests_of}
use Rattle.aio_core.specs.Known.{Known, empty_stage}
use Rattle.aio_bh.specs.HomeSteps.{home_steps, steps_for}
use Rattle.aio_bh.specs.declared.polled.Polled.{Polled}
use Rattle.aio_model.specs.Counts.{counted}

-- The home's seat went on: what was seen is longer and legal, and of what came between it has its own, for which it made just the
-- steps that they take. Its numbers, phase and sleep are as before.
pub record HomeGoesOn (before after : Known) : Type 0 where
  pub between : History
  pub seen : after.seen ≡ between ++ before.seen
  pub mine : after.mine ≡ entries_of home between ++ before.mine
  pub legal : IsLegal before.sizes after.seen
  pub rest : after ≡ record before { seen = after.seen; mine = after.mine; did = after.did; stage = after.stage; told = after.told }
  pub steps : home_steps after.did ≡ home_steps before.did + steps_for (entries_of home between)

-- the indices that were dequeued, in order
abbrev pub dequeued_in : History → List ℕ
dequeued_in [] = []
dequeued_in (Dequeue i ran ∷ older) = dequeued_in older ++ i ∷ []
dequeued_in (_ ∷ older) = dequeued_in older

-- the stacks that were taken since, one after another
abbrev pub stacks_since : History → History → List ℕ
stacks_since [] older = []
stacks_since (Take ∷ newer) older = stacks_since newer older ++ stack_of (newer ++ older)
stacks_since (_ ∷ newer) older = stacks_since newer older

-- The list was taken first, after some of others. What was out then, and then what each later take found, was dequeued since, each once
-- and in this order, and nothing else: what was pushed behind the last take is for a later poll.
pub record DequeuesTaken (before after : History) : Type 0 where
  pub others : History
  pub not_home : entries_of home others ≡ []
  pub later : History
  pub seen : after ≡ later ++ (Take ∷ (others ++ before))
  pub each_once : dequeued_in later ≡ out_of (Take ∷ (others ++ before)) ++ stacks_since later (Take ∷ (others ++ before))

-- How many polls may stand in one another, the outermost among them.
abbrev pub depths : ℕ
depths = 8

-- A poll: from the place where it began its frame leads to an end, where nothing is out; the runner did the entries of that frame and
-- no others, and what was counted is theirs.
pub record Polls {R : Type 0} (does : R → Entered → R → Type 0) (polled : Polled) (runner : R) (before : Known) (runner_after : R) (after : Known) : Type 0 where
  pub end : PollPlace
  pub frame : Frame before.sizes depths (start_of before.seen) end
  pub seen : after.seen ≡ end.seen
  pub runs : DoesEntries does runner end.log runner_after
  pub ran : polled.ran ≡ counted (ran_of end.log)
  pub progress : polled.progress ≡ end.progress
  pub cut_nests : polled.cut_nests ≡ counted (cut_nests_of end.log)
  pub dequeues : DequeuesTaken before.seen after.seen
  pub none_out : out_of after.seen ≡ []
  pub goes_on : HomeGoesOn before after
  pub stage : after.stage ≡ empty_stage
