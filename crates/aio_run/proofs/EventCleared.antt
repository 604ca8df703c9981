-- What the history of an ended loop tells: handle 0 was called where home entered a coroutine, and event 0 was cleared.
use Rattle.std.proofs.Common.{◌≡◌, ℕ, ◌<◌, ◌-◌, true, false, inl, List, length, slice_index_or, refl, sym, ap, ◌∙◌, arith}
use Rattle.std.proofs.lemmas.Bool.{false≢true}
use Rattle.aio_model.specs.Loop.Laws.{some_entry}
use Rattle.aio_core.specs.Known.{Known}
use Rattle.co_state.specs.Wants.{Wants}
use Rattle.co_state.specs.declared.co.CoStep.{CoStep}
use Rattle.co_schedule.specs.Calls.{SeatState as CoSeatState}
use Rattle.co_loop.specs.declared.working.CoWork.{CoWork}
use Rattle.co_loop.specs.Working.{CanWork, Works}
use Rattle.loop_rows.specs.declared.opening.Homes.{Homes}
use Rattle.loop_rows.specs.declared.rows.Row.{Row}
use Rattle.loop_rows.specs.declared.seats.Seats.{Seats}
use Rattle.loop_rows.specs.declared.shared.LoopShared.{LoopShared}
use Rattle.loop_threads.specs.declared.ending.LoopRun.{LoopRun}
use Rattle.loop_threads.specs.declared.hands.Hand.{Hand}
use Rattle.loop_threads.specs.declared.members.Member.{Member}
use Rattle.loop_threads.specs.declared.parts.Part.{Part}
use Rattle.loop_threads.specs.Ending.{EndsLoop}
use Rattle.loop_threads.specs.Running.{BeginsRun, Runs}
use Rattle.aio_run.specs.Posting.{HaveSizes}
use Rattle.aio_run.specs.Readiness.{AreQuiet}
use Rattle.aio_run.specs.Runs.{AreRun}
use Rattle.aio_run.specs.Setting.{clears}
use Rattle.aio_run.proofs.Begun.{at_place}
use Rattle.aio_run.proofs.HomeGrows.{StandsOn, by_more, by_same, commit_on}
use Rattle.aio_run.proofs.HomeTurns.{Tells, tells_as, turns_tell, end_found}

-- the end of a loop makes home's history longer
end_on : {C W O : Type 0} (shared : LoopShared C O) (member : Member C W O) (seats : Seats C O) (run : LoopRun C W O) → EndsLoop shared member seats run → StandsOn member.home.seat.known.seen run.calls.known.seen
end_on shared member seats run over test stands =
    let joined = over.calls.is_whole.parts.joined in
    by_same over.calls.whole.seen run.calls.known.seen (ap (λ (k : Known). k.seen) over.calls.same) test
    (by_more joined.0 over.asleep.known.seen over.calls.whole.seen joined.1 test
    (commit_on 0 shared.bottoms.sizes.events _ 0 _ member.home.seat.known over.asleep.known over.sleeps.commits test stands))

module _ {C K O : Type 0} (E R : Type 0) (is_of : ℕ → C → O → Type 0) (resumes : C → O → Wants → CoStep → C → Type 0) (time : K → ℕ) (shared : List (LoopShared C O)) (sized : HaveSizes shared) where
  -- one loop from its beginning to its end
  tells_whole : (homes : Homes C O) (hand : Hand (CoWork C K O)) (first : Part C (CoWork C K O) O) (member : Member C (CoWork C K O) O) (row : Row C O) (t : LoopShared C O) (s : Seats C O) (run : LoopRun C (CoWork C K O) O)
      → BeginsRun homes hand first → first.number < length shared → hand.work.is_ended ≡ false → Runs (CanWork is_of) (Works E R is_of resumes time) shared row first member → EndsLoop t member s run → Tells homes.coroutines.known member.coroutines.known true run.calls.known.seen
  tells_whole homes hand first member row t s run begins low quiet runs over =
      let comes = runs.carried.comes in
      let last = runs.last in
      let start = homes.coroutines.known in
      let begun : Tells start first.coroutines.known first.work.is_ended first.home.seat.known.seen = record {
        called = inl (ap (λ (c : CoSeatState O). c.known) begins.coroutines_are);
        cleared = λ e. absurd (false≢true (sym quiet ∙ sym (ap (λ (w : CoWork C K O). w.is_ended) begins.work_is) ∙ e));
      } in
      let turned = turns_tell E R is_of resumes time shared sized start comes.turns first last comes.takes low begun in
      let ended = end_found E R is_of resumes time shared sized start comes.turns first last comes.takes begins.not_ended runs.carried.ended in
      let home : last.home.seat.known.seen ≡ member.home.seat.known.seen = ap (λ h. h.seat.known.seen) (sym runs.is.home_is) in
      tells_as start last.coroutines.known member.coroutines.known last.work.is_ended true last.home.seat.known.seen run.calls.known.seen
      (ap (λ (c : CoSeatState O). c.known) runs.is.coroutines_are) (sym ended)
      (λ test stands. end_on t member s run over test (by_same last.home.seat.known.seen member.home.seat.known.seen (sym home) test stands)) turned.1

  module _ (homes : List (Homes C O)) (hands : List (Hand (CoWork C K O))) (row : Row C O) (ends : List (LoopRun C (CoWork C K O) O)) (are : AreRun (CanWork is_of) (Works E R is_of resumes time) shared homes hands row ends)
      (homes_long : length homes ≡ length shared) (hands_long : length hands ≡ length shared) (quiet : AreQuiet (length shared) hands) (k : ℕ) (r : LoopRun C (CoWork C K O) O) (low : k < length shared) where
    pub loop_tells : (h : Homes C O) (m : Member C (CoWork C K O) O) → Tells (slice_index_or homes k h).coroutines.known (slice_index_or are.joined.members.items k m).coroutines.known true (slice_index_or ends k r).calls.known.seen
    loop_tells h m =
        let j = length shared - k - 1 in
        let part = at_place are.carried.parts j (omega (arith, low, are.carried.many)) in
        let first = slice_index_or are.carried.parts j part in
        let d = at_place hands k (omega (arith, low, hands_long)) in
        let t = at_place shared k low in
        let s = at_place are.joined.row.seats.items k (omega (arith, low, are.is_row.long)) in
        tells_whole (slice_index_or homes k h) (slice_index_or hands k d) first (slice_index_or are.joined.members.items k m) are.joined.row (slice_index_or shared k t) (slice_index_or are.joined.row.seats.items k s) (slice_index_or ends k r)
        (are.carried.begins k j h d part (omega (arith, low))) (are.carried.parts_are j part (omega (arith, low, are.carried.many))).station.within (quiet k d low).0 (are.carried.runs k j part m (omega (arith, low))) (are.ends k t m s r low)

    pub event_cleared : some_entry (clears 0) (slice_index_or ends k r).calls.known.seen ≡ true
    event_cleared =
        let h = at_place homes k (omega (arith, low, homes_long)) in
        let m = at_place are.joined.members.items k (omega (arith, low, are.members)) in
        (loop_tells h m).cleared refl
