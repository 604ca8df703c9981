use Rattle.std.proofs.Common.{arith}
use Rattle.shared_tests.proofs.Sitting.{sits_begun, sits_queued}
use Rattle.shared_tests.proofs.player.Player.begin.Goals as goal

pub returns-in-Begun-clause-sits : goal.returns-in-Begun-clause-sits
returns-in-Begun-clause-sits g c =
    sits_begun c.args.self.now.stream c.args.self.now.left c.args.self.now.request c.args.image.now c.enter-answer.new.self c.requires.sits
    (omega (arith, c.if-self-eq0.false)) c.in-Begun.ensures.entered

pub returns-in-Queued-clause-sits : goal.returns-in-Queued-clause-sits
returns-in-Queued-clause-sits g c =
    sits_queued c.args.self.now.stream c.args.self.now.left c.args.self.now.request c.args.image.now c.enter-answer.new.self c.requires.sits
    (omega (arith, c.if-self-eq0.false)) c.in-Queued.ensures.entered
