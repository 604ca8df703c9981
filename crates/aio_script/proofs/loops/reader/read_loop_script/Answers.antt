use Rattle.aio_script.proofs.LoopBounded.{loop_bounded_from_gives}
use Rattle.aio_script.proofs.loops.reader.read_loop_script.Goals as goal

pub returns-clause-bounded : goal.returns-clause-bounded
returns-clause-bounded c = loop_bounded_from_gives c.args.text.now c.read_loop_text.result c.read_loop_text.ensures
