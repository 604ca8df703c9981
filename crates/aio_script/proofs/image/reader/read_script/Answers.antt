use Rattle.aio_script.proofs.Bounded.{bounded_from_gives}
use Rattle.aio_script.proofs.image.reader.read_script.Goals as goal

pub returns-clause-bounded : goal.returns-clause-bounded
returns-clause-bounded c = bounded_from_gives c.args.text.now c.read_text.result c.read_text.ensures
