-- New hands can begin on new loops.
use Rattle.std.proofs.Common.{◌≡◌, ℕ, ◌<◌, ◌+◌, List, [], ◌∷◌, ◌++◌, length, drop, slice_index_or, sym, ap, ◌∙◌, subst, arith}
use Rattle.std.proofs.lemmas.List.{get_or-drop, get_or_default}
use Rattle.co_schedule.specs.Known.{Known}
use Rattle.co_schedule.specs.Calls.{SeatState, RunState}
use Rattle.aio_loop.specs.declared.side.Side.{Side}
use Rattle.loop_rows.specs.declared.shared.LoopShared.{LoopShared}
use Rattle.loop_rows.specs.declared.seats.Seats.{Seats}
use Rattle.loop_rows.specs.declared.opening.Homes.{Homes}
use Rattle.loop_rows.specs.LoopStates.{LoopState, IsStation}
use Rattle.loop_rows.specs.Opening.{NewEach}
use Rattle.loop_rows.proofs.Places.{at_push, some_of}
use Rattle.co_loop.specs.declared.working.CoWork.{CoWork}
use Rattle.co_loop.specs.Working.{CrewCanStart, CanWork}
use Rattle.co_loop.proofs.Stationed.{nobody_works}
use Rattle.loop_threads.specs.declared.hands.Hand.{Hand}
use Rattle.loop_threads.specs.Hands.{IsNewHand, AreNewHands}
use Rattle.loop_threads.specs.Running.{CanBeginEach}

abbrev empty_run : ℕ → RunState
empty_run room = record { room = room; cos = [] }

module _ {C K O : Type 0} (coroutines : ℕ) (origin : O) (shared : List (LoopShared C O)) (homes : List (Homes C O)) (seats : List (Seats C O)) where
  can_start : (own : ℕ) (clock : K) (h : Homes C O) (hand : Hand (CoWork C K O)) (loop : LoopState C O) → own < length shared → IsNewHand own coroutines origin clock hand → NewEach (length shared) coroutines origin shared homes seats → loop.number ≡ own → loop.side ≡ hand.side → loop.coroutines ≡ (slice_index_or homes own h).coroutines → IsStation shared loop
      → CrewCanStart origin shared loop hand.work.crew hand.work.run
  can_start own clock h hand loop lt new each number side co_home station =
      let work = new.work in
      let row = station.row in
      let s : Seats C O = some_of loop.row.seats.items own (omega (arith, lt, row.long)) in
      let here = λ (t : LoopShared C O). each own t h s lt in
      record {
        station = station;
        crew_is = work.crew;
        own = work.own_is ∙ sym number;
        coroutines = λ k t low. (each k t h s low).coroutines_are.coroutines ∙ sym work.coroutines_are;
        of = λ k t low. (each k t h s low).coroutines_are.origins;
        run_is = work.run_is ∙ ap empty_run (sym work.coroutines_are);
        idle = ap (λ (x : SeatState O). x.known.stage.taken) co_home ∙ ap (λ (x : Known). x.stage.taken) (here (some_of shared own lt)).coroutines_are.home_is;
        timers = omega (arith, work.coroutines_are, new.timers, ap (λ (x : Side). x.timers.made) side);
      }

  pub hands_begin : (is_of : ℕ → C → O → Type 0) (loops : ℕ) (clocks : List K) (hands : List (Hand (CoWork C K O))) → AreNewHands loops coroutines origin clocks hands → length shared ≡ loops → NewEach loops coroutines origin shared homes seats → CanBeginEach (CanWork is_of) shared homes hands
  hands_begin is_of loops clocks hands new long each k h d lt =
      let hand = slice_index_or hands k d in
      let clock = slice_index_or clocks k d.work.clock in
      let is : IsNewHand k coroutines origin clock hand = new k d.work.clock d (omega (arith, lt, long)) in
      let all : NewEach (length shared) coroutines origin shared homes seats = λ j t g s low. each j t g s (omega (arith, low, long)) in
      record {
        walking = is.walking;
        ready = λ loop number home side lots co_home station.
            let can = can_start k clock h hand loop lt is all number side co_home station in
            record { fits = nobody_works is_of origin shared loop hand.work.crew hand.work.run can; own = can.own; timers = can.timers };
      }

-- one more hand, with the first of the clocks that are left
pub one_hand_more : {C K O : Type 0} (coroutines : ℕ) (origin : O) (clocks left : List K) (hands more : List (Hand (CoWork C K O))) (own : ℕ) (clock : K) (hand : Hand (CoWork C K O)) → length hands ≡ own → left ≡ drop own clocks → own < length clocks → clock ≡ slice_index_or left 0 clock → more ≡ hands ++ hand ∷ [] → AreNewHands own coroutines origin clocks hands → IsNewHand own coroutines origin clock hand
    → AreNewHands (own + 1) coroutines origin clocks more
one_hand_more {C} {K} {O} coroutines origin clocks left hands more own clock hand long rest below is e was here k c d lt =
    let none : own + 0 ≡ own = omega arith in
    let at : clock ≡ slice_index_or clocks own clock = is ∙ ap (λ (l : List K). slice_index_or l 0 clock) rest ∙ get_or-drop own clocks 0 clock ∙ ap (λ (n : ℕ). slice_index_or clocks n clock) none in
    subst (λ (l : List (Hand (CoWork C K O))). IsNewHand k coroutines origin (slice_index_or clocks k c) (slice_index_or l k d)) (sym e)
    (at_push (λ (j : ℕ) (x : Hand (CoWork C K O)). IsNewHand j coroutines origin (slice_index_or clocks j c) x) hands own hand long
    (subst (λ (x : K). IsNewHand own coroutines origin x hand) (at ∙ get_or_default clocks own clock c below) here) k d lt (λ low. was k c d low))
