-- The seats of a loop own the same numbers behind all that it does.
use Rattle.std.proofs.Common.{◌≡◌, ℕ, Bool, true, false, List, ap}
use Rattle.aio_model.specs.declared.coroutines.causes.Cause.{Cause}
use Rattle.aio_model.specs.declared.coroutines.causes.Cause.TheVariants.{Wake, Move}
use Rattle.aio_core.specs.Known.{Known}
use Rattle.aio_core.specs.Calls.{SeatState}
use Rattle.aio_loop.specs.Entering.{LoopEntered}
use Rattle.co_state.specs.Wants.{Wants}
use Rattle.co_state.specs.declared.co.CoStep.{CoStep}
use Rattle.co_schedule.specs.Known.{Known as CoKnown}
use Rattle.co_schedule.specs.Calls.{SeatState as CoSeatState}
use Rattle.loop_rows.specs.declared.seats.Seats.{Seats}
use Rattle.loop_rows.specs.declared.shared.LoopShared.{LoopShared}
use Rattle.loop_rows.specs.Posts.{Posts, FindsMarked}
use Rattle.co_loop.specs.Again.{PostsEachAgain}
use Rattle.co_loop.specs.Crews.{Far}
use Rattle.co_loop.specs.Loops.{OnLoop, RunnerDoes}
use Rattle.co_loop.specs.Numbers.{numbers_at, numbers}
use Rattle.co_loop.specs.Quits.{SetsEnd}
use Rattle.co_loop.proofs.SeatSteps as steps

module _ {C O : Type 0} where
  posts : (co : ℕ) (cause : Cause) (given : Bool) (b a : Seats C O) → Posts co cause given b a → numbers_at a ≡ numbers_at b
  posts co cause given b a is =
      λ i. record {
        first = ap (λ (k : Known). k.first) is.handle.stands.rest i;
        count = ap (λ (k : Known). k.count) is.handle.stands.rest i;
        co_first = ap (λ (k : CoKnown). k.first) is.scheduled.rest i;
        co_count = ap (λ (k : CoKnown). k.count) is.scheduled.rest i;
      }

  finds_marked : (co mark : ℕ) (b a : Seats C O) → FindsMarked co mark b a → numbers_at a ≡ numbers_at b
  finds_marked co mark b a is =
      λ i. record {
        first = ap (λ (s : SeatState). s.known.first) is.same i;
        count = ap (λ (s : SeatState). s.known.count) is.same i;
        co_first = ap (λ (k : CoKnown). k.first) is.looks.rest i;
        co_count = ap (λ (k : CoKnown). k.count) is.looks.rest i;
      }

  sets_end : (b a : Seats C O) → SetsEnd b a → numbers_at a ≡ numbers_at b
  sets_end b a is =
      λ i. record {
        first = ap (λ (k : Known). k.first) is.rest i;
        count = ap (λ (k : Known). k.count) is.rest i;
        co_first = ap (λ (s : CoSeatState O). s.known.first) is.same i;
        co_count = ap (λ (s : CoSeatState O). s.known.count) is.same i;
      }

  pub runner_does : (is_of : ℕ → C → O → Type 0) (resumes : C → O → Wants → CoStep → C → Type 0) (shared : List (LoopShared C O)) (what : LoopEntered) (before after : OnLoop C O) → RunnerDoes is_of resumes shared what before after → numbers after.here.far.seats ≡ numbers before.here.far.seats
  runner_does = steps.runner_does numbers_at (λ co. posts co Wake false) (λ co. posts co Move true) finds_marked sets_end

  pub posts_each_again : (n : ℕ) (before after : Far C O) → PostsEachAgain n before after → numbers after.seats ≡ numbers before.seats
  posts_each_again = steps.posts_each_again numbers_at (λ co. posts co Wake false) (λ co. posts co Move true) finds_marked sets_end
