use Rattle.std.proofs.Common.{arith}
use Rattle.co_mutex.proofs.Decks.{are_all}
use Rattle.lock_tests.proofs.closing.closed.Goals as goal

pub close-requires : goal.close-requires
close-requires g c =
    let a = c.requires.size.1 in
    let b = c.args.passes.ok.0 in (c.requires.size.0, are_all c.args.lock c.args.passes.items (omega (arith, a, b)) c.requires.each)
