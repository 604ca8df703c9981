-- What is to be done on loops that nobody is on.
use Rattle.std.specs.Prelude.{◌≡◌, ℕ, ◌<◌, IsFalse, false, List, [], slice_index_or}
use Rattle.co_loop.specs.declared.working.CoWork.{CoWork}
use Rattle.co_loop.specs.Building.{IsNewCrew}
use Rattle.loop_threads.specs.declared.hands.Hand.{Hand}

-- the crew is new and the run empty, and nothing has ended
pub record IsNewWork {C K O : Type 0} (own coroutines : ℕ) (origin : O) (clock : K) (work : CoWork C K O) : Type 0 where
  pub crew : IsNewCrew origin work.crew
  pub own_is : work.crew.own ≡ own
  pub coroutines_are : work.crew.coroutines ≡ coroutines
  pub run_is : work.run ≡ record { room = coroutines; cos = [] }
  pub clock_is : work.clock ≡ clock
  pub is_ended : work.is_ended ≡ false

-- with no walk begun, and a timer for each coroutine
pub record IsNewHand {C K O : Type 0} (own coroutines : ℕ) (origin : O) (clock : K) (hand : Hand (CoWork C K O)) : Type 0 where
  pub walking : IsFalse hand.side.handlers.walking
  pub timers : hand.side.timers.made ≡ coroutines
  pub work : IsNewWork own coroutines origin clock hand.work

-- each of so many loops has one, with the clock at its place
abbrev pub AreNewHands : {C K O : Type 0} → ℕ → ℕ → O → List K → List (Hand (CoWork C K O)) → Type 0
AreNewHands {C} {K} {O} loops coroutines origin clocks hands =
    (k : ℕ) (c : K) (d : Hand (CoWork C K O)) → k < loops → IsNewHand k coroutines origin (slice_index_or clocks k c) (slice_index_or hands k d)
