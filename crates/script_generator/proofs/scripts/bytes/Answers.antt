use Rattle.std.proofs.Common.{rules}
use Rattle.script_generator.proofs.Generating.{bytes_to-next, bytes_to-none}
use Rattle.script_generator.proofs.scripts.bytes.Goals as goal

pub loop-j-init : goal.loop-j-init
loop-j-init c = search (rules, bytes_to-none)

pub loop-j-preserved : goal.loop-j-preserved
loop-j-preserved c = search (rules, bytes_to-next)
