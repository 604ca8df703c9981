-- Loops that were opened for walkers have room for each.
use Rattle.std.proofs.Common.{ℕ, ◌<◌, arith}
use Rattle.loop_rows.specs.declared.opening.Opened.{Opened}
use Rattle.loop_rows.specs.Opening.{AreNewLoops}
use Rattle.loop_rows.proofs.Places.{some_of}
use Rattle.loop_thread_tests.specs.Walkers.{HaveRoomForWalkers}

pub have_room : {C O : Type 0} (loops : ℕ) (origin : O) (opened : Opened C O) → AreNewLoops loops 16 origin opened → HaveRoomForWalkers opened.shared.items
have_room loops origin opened new k t lt =
    let low : k < loops = omega (arith, lt, new.long) in
    (new.each k t (some_of opened.homes.items k (omega (arith, low, new.homes_long))) (some_of opened.row.seats.items k (omega (arith, lt, new.is_row.long))) low).coroutines_are.coroutines
