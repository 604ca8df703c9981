use Rattle.aio_core.proofs.Passing.{passes_of}
use Rattle.aio_core.proofs.table.LoopTable.pass.Goals as goal

pub returns-clause-passed : goal.returns-clause-passed
returns-clause-passed g c =
    passes_of c.index_of-bh.result c.scan_next-word.result c.scan_flags-found.result c.from_word.result c.args.ahead.now c.lift.new.self c.args.seat.now.known c.scan_next-word.new.seat.known c.scan_flags-found.new.seat.known c.requires.at c.scan_next-word.ensures.step c.scan_flags-found.ensures.step c.from_word.ensures.value c.lift.ensures
