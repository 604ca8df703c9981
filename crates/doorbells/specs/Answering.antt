-- What the home does for the doorbells.
use Rattle.std.specs.Prelude.{◌≡◌, ℕ, ◌<◌, ◌⊎◌, true, false, List, [], ◌∷◌, ◌++◌}
use Rattle.aio_model.specs.declared.loops.flags.Flags.{Flags}
use Rattle.aio_model.specs.Loop.History.{Sizes, Take, History}
use Rattle.aio_model.specs.Loop.Lists.{was_put}
use Rattle.aio_model.specs.Loop.Laws.{some_entry}
use Rattle.aio_model.specs.Loop.Seats.{home, entries_of}
use Rattle.aio_model.specs.Loop.Calls.{dequeue_times, stops, AwaitsCall}
use Rattle.aio_core.specs.Known.{empty_stage}
use Rattle.aio_core.specs.Calls.{TableState, SeatState, IsReady}
use Rattle.doorbells.specs.Responding.{is_new, count_of}
use Rattle.doorbells.specs.Rings.{RingsTwice}
use Rattle.aio_model.specs.Counts.{one_more}

-- the home between two polls
pub record IsHomeReady (table : TableState) (seat : SeatState) : Type 0 where
  pub ready : IsReady table seat
  pub empty : seat.known.stage ≡ empty_stage

-- what the devices counted: how often each doorbell was answered, and how many new rings a device made
pub record Counted : Type 0 where
  pub answered : List ℕ
  pub passed_on : ℕ

-- the doorbell was answered once
abbrev pub IsAnsweredOnce : ℕ → Counted → Counted → Type 0
IsAnsweredOnce bell before after =
    count_of after.answered bell ≡ one_more (count_of before.answered bell)

abbrev pub IsNotAnswered : ℕ → Counted → Counted → Type 0
IsNotAnswered bell before after = count_of after.answered bell ≡ count_of before.answered bell

-- One poll. Its take found what was seen before, and something of others. A doorbell is answered once or not at all: once, where some
-- part of what the take found has it await its answer, and nobody canceled or deleted it since then nor dequeued it before the take; not
-- at all, where the take didn't find it pushed. What a device's callback rang anew awaits its answer at the end, for the next poll.
pub record AnswersDoorbells (sizes : Sizes) (to : ℕ) (before after : History) (counted counted_after : Counted) : Type 0 where
  pub others : History
  pub not_home : entries_of home others ≡ []
  pub later : History
  pub seen : after ≡ later ++ (Take ∷ (others ++ before))
  pub most : (bell : ℕ) → bell < sizes.handles → IsAnsweredOnce bell counted counted_after ⊎ IsNotAnswered bell counted counted_after
  pub once : (bell : ℕ) (newer older : History) → bell < sizes.handles → others ++ before ≡ newer ++ older → AwaitsCall bell older → dequeue_times bell newer ≡ 0 → some_entry (stops bell) newer ≡ false → some_entry (stops bell) later ≡ false → IsAnsweredOnce bell counted counted_after
  pub none : (bell : ℕ) → bell < sizes.handles → was_put bell (others ++ before) ≡ false → IsNotAnswered bell counted counted_after
  pub passed : counted.passed_on < counted_after.passed_on → some_entry (stops to) later ≡ false → AwaitsCall to after

-- two polls, one after the other: what a callback rang anew in the first is answered once in the second
pub record AnswersTwice (sizes : Sizes) (to : ℕ) (before after : History) (counted counted_after : Counted) : Type 0 where
  pub seen_between : History
  pub counted_between : Counted
  pub first : AnswersDoorbells sizes to before seen_between counted counted_between
  pub second : AnswersDoorbells sizes to seen_between after counted_between counted_after
  pub passed : counted.passed_on < counted_between.passed_on → some_entry (stops to) first.later ≡ false → some_entry (stops to) second.others ≡ false → some_entry (stops to) second.later ≡ false → IsAnsweredOnce to counted_between counted_after

-- a ring was new, or came behind a new one, and then one poll: the doorbell was answered once, unless somebody canceled or deleted it
pub record AnswersOne (bell : ℕ) (is_new : Type 0) (before after : History) (counted counted_after : Counted) : Type 0 where
  pub between : History
  pub seen : after ≡ between ++ before
  pub once : is_new → some_entry (stops bell) between ≡ false → IsAnsweredOnce bell counted counted_after

-- Of a doorbell that was rung with another seat: its ring was new, the take found all that this seat has seen, and nobody canceled,
-- deleted or dequeued it from the ring to its answer. Then it was answered once.
abbrev pub IsAnsweredIfFound : ℕ → Flags → History → History → History → History → Counted → Counted → Type 0
IsAnsweredIfFound bell found since seen taken later counted counted_after =
    (newer : History) → is_new found ≡ true → taken ≡ newer ++ seen → dequeue_times bell (newer ++ since) ≡ 0 → some_entry (stops bell) (newer ++ since) ≡ false → some_entry (stops bell) later ≡ false → IsAnsweredOnce bell counted counted_after

-- Rings from two threads, and then one poll. That the take finds what the threads' seat has seen is a premise: no clause of the table
-- ties the home to seats that weren't joined with it.
pub record RingsAndAnswers (table : TableState) (low high : ℕ) (found_low found_high : Flags) (to : ℕ) (before after : SeatState) (home_before home_after : History) (counted counted_after : Counted) : Type 0 where
  pub rings : RingsTwice table low high found_low found_high before after
  pub answers : AnswersDoorbells table.sizes to home_before home_after counted counted_after
  pub low_once : IsAnsweredIfFound low found_low rings.since after.known.seen (answers.others ++ home_before) answers.later counted counted_after
  pub high_once : IsAnsweredIfFound high found_high rings.since after.known.seen (answers.others ++ home_before) answers.later counted counted_after
