use Rattle.std.proofs.Common.{◌==◌}
use Rattle.aio_script.proofs.Firsts.{first_is}
use Rattle.aio_script.proofs.text.find.Goals as goal

pub returns : goal.returns
returns c = first_is (λ x. x == c.args.byte) c.args.text.now c.memchr.result c.memchr.ensures
