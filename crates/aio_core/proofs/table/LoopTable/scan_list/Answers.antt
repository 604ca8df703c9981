use Rattle.aio_core.proofs.Passing.{scan_goes_on, scan_ends}
use Rattle.aio_core.proofs.table.LoopTable.scan_list.Goals as goal

pub loop-ahead-preserved : goal.loop-ahead-preserved
loop-ahead-preserved g c =
    let l = c.loop-ahead in
    let n = c.scan_on.new in
    record {
      seat = c.scan_on.ensures.seat;
      number = c.scan_on.ensures.number;
      from = scan_goes_on c.args.seat.now.known l.ahead n.ahead l.scanned.urgent n.scanned.urgent l.scanned.idle n.scanned.idle l.seat.known n.seat.known l.invariant.from c.loop-ahead-test.ensures.on;
    }

pub returns-clause-scans : goal.returns-clause-scans
returns-clause-scans g c =
    let l = c.loop-ahead in
    let n = c.scan_on.new in
    scan_ends c.args.seat.now.known l.ahead l.scanned.urgent n.scanned.urgent l.scanned.idle n.scanned.idle l.seat.known n.seat.known l.invariant.from c.loop-ahead-test.ensures.on
