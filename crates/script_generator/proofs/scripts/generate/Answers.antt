use Rattle.script_generator.proofs.Bounded.{bounded_if-generated}
use Rattle.script_generator.proofs.scripts.generate.Goals as goal

pub returns-clause-bounded : goal.returns-clause-bounded
returns-clause-bounded c = bounded_if-generated c.args.n c.args.from c.make_script.result c.requires.few c.make_script.ensures
