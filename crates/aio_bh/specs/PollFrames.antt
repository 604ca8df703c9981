-- How far a poll has come, and what its parts add.
use Rattle.std.specs.Prelude.{◌≡◌, ℕ, ◌<◌, ◌≤◌, length, min, ◌+◌, ◌^◌, ◌-◌, Bool, true, false, not, ◌&&◌, ◌||◌, if◌then◌else◌, MatchBool, Option, None, List, [], ◌∷◌, ◌++◌}
use Rattle.aio_model.specs.Loop.History.{Sizes, Take, Dequeue, Free, History}
use Rattle.aio_model.specs.Loop.Flags.{is_idle, is_lot}
use Rattle.aio_model.specs.Loop.Lists.{out_of, job_of}
use Rattle.aio_model.specs.Loop.Seats.{home, entries_of}
use Rattle.aio_model.specs.Loop.Legal.{MayFollow, IsLegal}
use Rattle.aio_model.specs.Loop.InFlight.{AtRest}
use Rattle.aio_model.specs.Loop.Frame.{Answer, Entered, PollPlace, Makes, Body, Turns, DoesEntries, is_cut, ran_of, cut_nests_of}
use Rattle.aio_core.specs.Known.{Known}
use Rattle.aio_core.specs.Standing.{is_empty}
use Rattle.aio_core.specs.Words.{index_count}
use Rattle.aio_core.specs.Calls.{TableState, SeatState, IsSeatOf}
use Rattle.aio_bh.specs.HomeSteps.{home_steps}
use Rattle.aio_bh.specs.declared.polled.Polled.{Polled}
use Rattle.aio_bh.specs.Polling.{HomeGoesOn}
use Rattle.aio_model.specs.Counts.{counted}

-- what a part of a poll changes: what the home knows, the runner, and the counts
pub record Far (R : Type 0) : Type 0 where
  pub known : Known
  pub runner : R
  pub polled : Polled

abbrev pub far : {R : Type 0} → Known → R → Polled → Far R
far known runner polled = record { known = known; runner = runner; polled = polled }

abbrev pub poll_place_of : {R : Type 0} → Far R → List Entered → PollPlace
poll_place_of so_far log = record { seen = so_far.known.seen; log = log; progress = so_far.polled.progress }

-- the counts are those of the entries into the runner so far
pub record CountsEntered (polled : Polled) (log : List Entered) : Type 0 where
  pub ran : polled.ran ≡ counted (ran_of log)
  pub cut_nests : polled.cut_nests ≡ counted (cut_nests_of log)

-- the runner was entered some more
pub record EntersSome {R : Type 0} (does : R → Entered → R → Type 0) (runner : R) (log : List Entered) (runner_after : R) (log_after : List Entered) : Type 0 where
  pub more : List Entered
  pub longer : log_after ≡ more ++ log
  pub runs : DoesEntries does runner more runner_after

-- from these entries on some part of a poll was done, which leads from place to place by this relation
pub record Went {R : Type 0} (relation : PollPlace → PollPlace → Type 0) (does : R → Entered → R → Type 0) (old new : Far R) (log : List Entered) : Type 0 where
  pub log_after : List Entered
  pub goes : relation (poll_place_of old log) (poll_place_of new log_after)
  pub enters : EntersSome does old.runner log new.runner log_after
  pub counts : CountsEntered old.polled log → CountsEntered new.polled log_after

-- whatever entries there were before
pub record GoesFurther {R : Type 0} (relation : PollPlace → PollPlace → Type 0) (does : R → Entered → R → Type 0) (old new : Far R) : Type 0 where
  pub at : (log : List Entered) → Went relation does old new log
  pub goes_on : HomeGoesOn old.known new.known

-- Before a frame with so many depths below its own the home is at rest with nothing at hand, and has room for a slice a frame.
pub record CanTake (table : TableState) (deeper : ℕ) (seat : SeatState) : Type 0 where
  pub of_table : IsSeatOf table seat
  pub rest : seat.known.phase ≡ AtRest
  pub hand : seat.known.stage.hand ≡ None
  pub job : seat.known.stage.job ≡ None
  pub few : length seat.known.stage.slices + deeper ≤ 7

-- Between two turns of such a frame the home is at rest with nothing at hand, what it has taken is left exactly where something is out,
-- and no more slices are left than frames have taken one.
pub record IsBetween (table : TableState) (deeper : ℕ) (seat : SeatState) : Type 0 where
  pub of_table : IsSeatOf table seat
  pub rest : seat.known.phase ≡ AtRest
  pub legal : IsLegal table.sizes seat.known.seen
  pub hand : seat.known.stage.hand ≡ None
  pub job : seat.known.stage.job ≡ None
  pub left : is_empty seat.known.stage.slices ≡ is_empty (out_of seat.known.seen)
  pub few : length seat.known.stage.slices + deeper ≤ 8

-- nothing was out
pub record FindsNone (before after : Known) (polled polled_after : Polled) : Type 0 where
  pub none : out_of after.seen ≡ []
  pub slices : after.stage.slices ≡ []
  pub same : after ≡ before
  pub same_polled : polled_after ≡ polled

-- if it is a lot, it may be freed
abbrev pub MayEnd : Sizes → ℕ → History → Type 0
MayEnd sizes i seen =
    is_lot sizes i ≡ true → MayFollow sizes (Free i) seen

-- the first that was out was dequeued, a lot with its job
pub record TakesNext (i : ℕ) (ran : Bool) (job : Option ℕ) (before after : Known) (polled polled_after : Polled) : Type 0 where
  pub others : History
  pub not_home : entries_of home others ≡ []
  pub seen : after.seen ≡ Dequeue i ran ∷ (others ++ before.seen)
  pub mine : after.mine ≡ Dequeue i ran ∷ before.mine
  pub legal : IsLegal before.sizes after.seen
  pub index : i < index_count before.sizes
  pub job_is : (if is_lot before.sizes i then job_of i after.seen else None) ≡ job
  pub handle : job ≡ None → i < before.sizes.handles
  pub may_end : MayEnd before.sizes i after.seen
  pub was_out : out_of before.seen ≡ i ∷ out_of after.seen
  pub rest : after ≡ record before { seen = after.seen; mine = after.mine; did = after.did; stage = after.stage; told = after.told }
  pub fewer : length after.stage.slices ≤ length before.stage.slices
  pub steps : home_steps after.did ≡ home_steps before.did + 2
  pub progress : polled_after ≡ record polled { progress = polled.progress || (ran && not (is_idle i (others ++ before.seen))) }

-- the body of what is called
abbrev pub CallsBody : (PollPlace → PollPlace → Type 0) → ℕ → ℕ → Option ℕ → Bool → PollPlace → PollPlace → Type 0
CallsBody frame nests index job ran before after =
    MatchBool ran (Body frame index job true nests before after) (after ≡ before)

-- what follows where a callback nests: a frame, and then the rest of its body, with so many nests left
abbrev pub BehindNest : (PollPlace → PollPlace → Type 0) → ℕ → ℕ → PollPlace → PollPlace → Type 0
BehindNest frame index nests before after =
    (back : PollPlace) × frame before back × Body frame index None false nests back after

-- a lot is freed
abbrev pub FreesLot : Sizes → ℕ → PollPlace → PollPlace → Type 0
FreesLot sizes index before after =
    MatchBool (is_lot sizes index) (Makes (Free index) before after) (after ≡ before)

-- what follows a dequeue in its turn
abbrev pub FollowsDequeue : Sizes → (PollPlace → PollPlace → Type 0) → ℕ → ℕ → Option ℕ → Bool → PollPlace → PollPlace → Type 0
FollowsDequeue sizes frame nests index job ran before after =
    (ended : PollPlace) × CallsBody frame nests index job ran before ended × FreesLot sizes index ended after

-- one take, and then some turns
abbrev pub TakesAndSome : Sizes → (PollPlace → PollPlace → Type 0) → ℕ → PollPlace → PollPlace → Type 0
TakesAndSome sizes frame nests before after =
    (taken : PollPlace) × (count : ℕ) × Makes Take before taken × Turns sizes frame nests count taken after

-- the counts after one more entry
abbrev pub noted : Bool → Answer → ℕ → Polled → Polled
noted first answer nests polled =
    record polled { ran = (if first then min (polled.ran + 1) (2 ^ 64 - 1) else polled.ran); cut_nests = (if is_cut answer nests then min (polled.cut_nests + 1) (2 ^ 64 - 1) else polled.cut_nests) }
