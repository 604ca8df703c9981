-- What stands within the seat of all other numbers stands in the whole histories of its loop.
use Rattle.std.proofs.Common.{◌≡◌, ℕ, ◌+◌, ◌≤◌, ◌++◌, sym, ap, ◌∙◌, subst, arith}
use Rattle.table_seats.specs.Seats.{IsPart, own_entries}
use Rattle.aio_model.specs.Loop.History.{History}
use Rattle.aio_model.specs.Loop.Lists.{seat_of}
use Rattle.aio_model.specs.Coroutines.History.{seat_of as co_seat_of}
use Rattle.aio_core.specs.Known.{Known, numbers_of}
use Rattle.aio_notify.specs.Settling.{EndsQuiet}
use Rattle.co_schedule.specs.Known.{Known as CoKnown, numbers_of as co_numbers_of}
use Rattle.co_schedule.specs.Calls.{EndState, Ends}
use Rattle.loop_rows.specs.declared.shared.LoopShared.{LoopShared}
use Rattle.loop_rows.specs.declared.seats.Seats.{Seats}
use Rattle.loop_rows.specs.Rows.{AreSeatsOf}
use Rattle.loop_threads.specs.Within.{IsSeenWithin, StandsIn, HaveOwn}
use Rattle.loop_threads.proofs.Holding.{still_made, fewer, part_of_part}

pub ended_keeps : {C O : Type 0} {shared : LoopShared C O} {seats : Seats C O} {home end : Known} {co_home : CoKnown} {co_end : EndState} → EndsQuiet seats.bottoms.known home end → Ends shared.coroutines co_home seats.coroutines.known co_end → AreSeatsOf 0 64 shared seats → HaveOwn seats
    → (part : Seats C O) (first count : ℕ) → AreSeatsOf first count shared part → first + count ≤ 64 → IsSeenWithin part seats → StandsIn part end.seen co_end.history
ended_keeps {C} {O} {shared} {seats} {home} {end} {co_home} {co_end} quiet ended is own part first count at h within =
    let whole = quiet.is_whole.parts in
    let co_whole = ended.whole in
    let e : end.seen ≡ quiet.whole.seen = ap (λ (k : Known). k.seen) quiet.same in
    record {
      seen = subst (λ (xs : History). IsPart part.bottoms.known.seen xs) (sym e) (whole.stayed.0 ++ within.seen.0, part_of_part part.bottoms.known.seen seats.bottoms.known.seen quiet.whole.seen within.seen.0 whole.stayed.0 within.seen.1 whole.stayed.1);
      made = ap (own_entries seat_of (numbers_of part.bottoms.known)) e
          ∙ still_made seat_of (numbers_of part.bottoms.known) (numbers_of seats.bottoms.known) whole.stayed.0 seats.bottoms.known.seen quiet.whole.seen part.bottoms.known.mine seats.bottoms.known.mine whole.stayed.1 whole.made_by_staying (sym own.own)
          (fewer (numbers_of part.bottoms.known) (numbers_of seats.bottoms.known) (omega (arith, is.first_is)) (omega (arith, at.first_is, at.count_is, is.first_is, is.count_is, h))) within.made;
      co_seen = (co_whole.stayed.0 ++ within.co_seen.0, part_of_part part.coroutines.known.seen seats.coroutines.known.seen co_end.history within.co_seen.0 co_whole.stayed.0 within.co_seen.1 co_whole.stayed.1);
      co_made = still_made co_seat_of (co_numbers_of part.coroutines.known) (co_numbers_of seats.coroutines.known) co_whole.stayed.0 seats.coroutines.known.seen co_end.history part.coroutines.known.mine seats.coroutines.known.mine co_whole.stayed.1 co_whole.made_by_staying (sym own.co_own)
          (fewer (co_numbers_of part.coroutines.known) (co_numbers_of seats.coroutines.known) (omega (arith, is.co_first_is)) (omega (arith, at.co_first_is, at.co_count_is, is.co_first_is, is.co_count_is, h))) within.co_made;
    }
