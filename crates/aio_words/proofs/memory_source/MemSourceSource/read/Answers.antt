use Rattle.std.proofs.Common.{◌≡◌, ◌≤◌, Some, length, take, drop, sym, ap, arith}
use Rattle.std.proofs.lemmas.Grind.{common_steps}
use Rattle.aio_words.proofs.SourceReads.{front_and_rest}
use Rattle.aio_words.proofs.memory_source.MemSourceSource.read.Goals as goal

pub returns-clause-taken : goal.returns-clause-taken
returns-clause-taken c =
    let before : drop c.self.inside.at c.self.inside.bytes.items ≡ c.args.self.now.left = ap (λ s. s.left) c.self.view_is in
    let copied : c.copy_from_slice.new.self ≡ take c.min-n.result c.args.self.now.left = grind (arith, common_steps) in
    let within : c.min-n.result ≤ length c.args.self.now.left = grind (arith, common_steps) in
    ap Some (sym (front_and_rest c.self.inside.bytes.items c.args.self.now.left c.copy_from_slice.new.self (drop c.min-n.result c.args.buf.now) c.self.inside.at c.min-n.result before copied within))
