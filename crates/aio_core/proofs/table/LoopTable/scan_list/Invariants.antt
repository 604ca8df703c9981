use Rattle.std.proofs.Common.{◌≡◌, length}
use Rattle.aio_core.specs.SleepSteps.{scan_in}
use Rattle.aio_core.specs.Scans.{ScanFrom}
use Rattle.aio_core.specs.Calls.{IsSeatOf}
use Rattle.aio_core.proofs.table.LoopTable.scan_list.Given as goal

abbrev pub invariant-loop-ahead : goal.invariant-loop-ahead
invariant-loop-ahead g l = record {
  seat : IsSeatOf l.self l.seat;
  number : (l.seat.known.first ≡ 64) × (l.seat.known.count ≡ 1);
  from : ScanFrom l.fn.seat.known l.ahead l.scanned.urgent l.scanned.idle l.seat.known;
}

abbrev pub decreases-loop-ahead : goal.decreases-loop-ahead
decreases-loop-ahead g l = length (scan_in l.seat.known.sleep).left
