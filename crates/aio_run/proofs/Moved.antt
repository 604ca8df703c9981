-- Who moves to a loop in a run goes there by an answer of its own.
use Rattle.std.proofs.Common.{◌≡◌, ℕ, ◌-◌, ◌*◌, ◌<◌, ◌≤◌, true, false, MatchOption, Option, None, List, [], ◌∷◌, length, slice_index_or, refl, sym, ap, ◌∙◌, subst, arith}
use Rattle.aio_model.specs.declared.coroutines.causes.Cause.TheVariants.{Wake, Move}
use Rattle.co_state.specs.Wants.{Wants}
use Rattle.co_state.specs.declared.co.CoStep.{CoStep}
use Rattle.co_state.specs.declared.co.CoStep.TheVariants as step
use Rattle.co_schedule.specs.Known.{Known}
use Rattle.co_schedule.specs.Calls.{SeatState}
use Rattle.loop_rows.specs.declared.opening.Homes.{Homes}
use Rattle.loop_rows.specs.declared.rows.Row.{Row}
use Rattle.loop_rows.specs.declared.seats.Seats.{Seats}
use Rattle.loop_rows.specs.declared.shared.LoopShared.{LoopShared}
use Rattle.loop_rows.specs.Posts.{Posts, FindsMarked}
use Rattle.co_loop.specs.declared.leaving.Leaving.{Leaving}
use Rattle.co_loop.specs.declared.working.CoWork.{CoWork}
use Rattle.co_loop.specs.Crews.{destination}
use Rattle.co_loop.specs.Quits.{SetsEnd}
use Rattle.co_loop.specs.Rows.{AreOfOrigin}
use Rattle.co_loop.specs.Working.{CanWork, Works}
use Rattle.co_loop.proofs.Sent.{HasSent, turn_keeps}
use Rattle.loop_threads.specs.declared.ending.LoopRun.{LoopRun}
use Rattle.loop_threads.specs.declared.hands.Hand.{Hand}
use Rattle.loop_threads.specs.declared.parts.Part.{Part}
use Rattle.loop_threads.specs.Parts.{TakesTurns, loop_of}
use Rattle.aio_run.specs.Posting.{HaveBegunAlone}
use Rattle.aio_run.specs.Readiness.{AreQuiet}
use Rattle.aio_run.specs.Runs.{AreRun}
use Rattle.aio_run.proofs.Begun.{at_place}
use Rattle.aio_run.proofs.MovesOwned.{AllMove, all_moved, none_by_pair}
use Rattle.aio_run.proofs.Served.{by_caller, made_first, made_last, first_part, part_default, runs_part}

module _ {C O : Type 0} (Sent : ℕ → ℕ → Type 0) where
  -- whoever moves to this loop by the seat was sent there
  abbrev pub MovedBy : ℕ → Seats C O → Type 0
  MovedBy t s = AllMove (Sent t) s.coroutines.known.mine

  woken : (t co : ℕ) (b a : Seats C O) → Posts co Wake false b a → MovedBy t b → MovedBy t a
  woken t co b a is was = subst (AllMove (Sent t)) (sym is.scheduled.stands.stands.mine_grows) was

  moved : (t co : ℕ) (b a : Seats C O) → Sent t co → Posts co Move true b a → MovedBy t b → MovedBy t a
  moved t co b a sent is was = subst (AllMove (Sent t)) (sym is.scheduled.stands.stands.mine_grows) (sent, was)

  marked : (t co mark : ℕ) (b a : Seats C O) → FindsMarked co mark b a → MovedBy t b → MovedBy t a
  marked t co mark b a is was = subst (λ (k : Known). AllMove (Sent t) k.mine) (sym is.looks.rest) was

  ended : (t : ℕ) (b a : Seats C O) → SetsEnd b a → MovedBy t b → MovedBy t a
  ended t b a is was = subst (λ (s : SeatState O). AllMove (Sent t) s.known.mine) (sym is.same) was

module _ {C K O : Type 0} (E R : Type 0) (is_of : ℕ → C → O → Type 0) (resumes : C → O → Wants → CoStep → C → Type 0) (time : K → ℕ) (shared : List (LoopShared C O)) (origin : O) (of : AreOfOrigin origin shared) (Sent : ℕ → ℕ → Type 0)
    (answers : (own co : ℕ) (was after : C) (asked : Wants) (home : ℕ) → is_of co after origin → resumes was origin asked (step.Move home) after → Sent (destination own (length shared) home) co) where
  abbrev SentOn : Part C (CoWork C K O) O → Type 0
  SentOn part =
      HasSent (length shared) Sent (λ asked. MovedBy Sent) origin part.work (loop_of part)

  turns_keep : (turns : List (Part C (CoWork C K O) O)) (before after : Part C (CoWork C K O) O) → TakesTurns (CanWork is_of) (Works E R is_of resumes time) shared turns before after → SentOn before → SentOn after
  turns_keep [] before after same sent = subst SentOn (sym same) sent
  turns_keep (mid ∷ older) before after takes sent =
      turn_keeps (length shared) Sent (λ asked. MovedBy Sent) (λ asked. woken Sent) (λ asked. moved Sent) (λ asked. marked Sent) (λ asked. ended Sent) origin is_of resumes answers time shared mid.work (loop_of mid) after.carried after.work (loop_of after) refl takes.1.did (turns_keep older before mid takes.0 sent)

  module _ (homes : List (Homes C O)) (hands : List (Hand (CoWork C K O))) (row : Row C O) (ends : List (LoopRun C (CoWork C K O) O)) (are : AreRun (CanWork is_of) (Works E R is_of resumes time) shared homes hands row ends) (some : 0 < length shared) (few : length shared ≤ 16)
      (quiet : AreQuiet (length shared) hands) (homes_long : length homes ≡ length shared) (hands_long : length hands ≡ length shared) (many : ℕ) (homes_are : List ℕ) (begun : HaveBegunAlone many homes_are (length shared) row.seats.items) (r : LoopRun C (CoWork C K O) O) where
    abbrev first : (p : ℕ) → p < length shared → Part C (CoWork C K O) O
    first p lt = first_part E R is_of resumes time shared homes hands row ends are some few p lt

    -- on the part of a loop nobody was sent anywhere when its run began
    sent_first : (p : ℕ) (lt : p < length shared) → SentOn (first p lt)
    sent_first p lt =
        let n = length shared in
        let j = n - p - 1 in
        let d = part_default E R is_of resumes time shared homes hands row ends are some few p lt in
        let is = are.carried.parts_are j d (omega (arith, lt, are.carried.many)) in
        let h = at_place homes p (omega (arith, lt, homes_long)) in
        let hand = at_place hands p (omega (arith, lt, hands_long)) in
        let begins = are.carried.begins p j h hand d (omega (arith, lt)) in
        let work = (first p lt).work in
        let crew = is.ready.fits.is_crew in
        let at = at_place shared work.crew.own crew.own in
        record {
          origin_is = sym (crew.of work.crew.own at crew.own) ∙ of work.crew.own at crew.own;
          kept = λ co. subst (λ (o : Option (Leaving C)). MatchOption o (Unit {0}) (λ left. Sent left.to co)) (sym (ap (λ (x : CoWork C K O). slice_index_or x.crew.leaving.items co None) begins.work_is ∙ (quiet p hand lt).2 co)) tt;
          seats = λ t s within low.
              subst (AllMove (Sent t)) (sym (made_first E R is_of resumes time shared homes hands row ends are some few t r low s p lt ∙ none_by_pair homes_are t many n (64 - 2 * n) p (slice_index_or row.seats.items t s).coroutines.known.seen (omega (arith, few)) (omega (arith, few)) lt (begun t s low))) tt;
        }

    -- all that moved to this loop in the run
    pub moved_there : (k : ℕ) (low : k < length shared) (w : Seats C O) → AllMove (Sent k) (slice_index_or ends k r).coroutines.history
    moved_there k low w =
        let n = length shared in
        let t = at_place shared k low in
        let s = at_place are.joined.row.seats.items k (omega (arith, low, are.is_row.long)) in
        let m = at_place are.joined.members.items k (omega (arith, low, are.members)) in
        all_moved (Sent k) (slice_index_or shared k t).coroutines.coroutines many n (64 - 2 * n) k homes_are (slice_index_or ends k r).coroutines.history (slice_index_or row.seats.items k w).coroutines.known.seen (omega (arith, few)) (omega (arith, few)) (are.ends k t m s r low).coroutines.whole.legal (begun k w low)
        (by_caller E R is_of resumes time shared homes hands row ends are some few k r low w)
        (λ p lt.
        let runs = runs_part E R is_of resumes time shared homes hands row ends are some few p lt in
        let comes = runs.carried.comes in
        let last = turns_keep comes.turns (first p lt) runs.last comes.takes (sent_first p lt) in
        subst (AllMove (Sent k)) (sym (made_last E R is_of resumes time shared homes hands row ends are some few k r low w p lt)) (last.seats k w (omega (arith, low, comes.part.station.row.long)) low))
