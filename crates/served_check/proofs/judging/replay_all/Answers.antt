use Rattle.std.proofs.lemmas.Bool.{MatchBool-at_false, MatchBool-at_true}
use Rattle.served_check.proofs.Serving.{SoFar-next, stops}
use Rattle.served_check.proofs.judging.replay_all.Goals as goal

pub loop-placed-preserved : goal.loop-placed-preserved
loop-placed-preserved c =
    SoFar-next c.args.size c.args.lines.now c.args.served.now c.args.bytes.now c.loop-placed.placed-index c.placed-item.result c.loop-placed.cursors
    c.loop-placed.bytes c.loop-placed-test.true c.placed-item.is c.loop-placed.invariant c.replay_one.new.cursors c.replay_one.new.bytes
    c.in_ok-replay_one.ensures.at
    (MatchBool-at_true _ _ c.if-not-branch.false c.in_ok-replay_one.ensures.served)

pub returns-then-not-branch-clause-goes : goal.returns-then-not-branch-clause-goes
returns-then-not-branch-clause-goes c =
    stops c.args.size c.args.lines.now c.args.served.now c.args.bytes.now c.loop-placed.placed-index c.placed-item.result c.loop-placed.cursors
    c.loop-placed.bytes c.loop-placed-test.true c.placed-item.is c.loop-placed.invariant
    (MatchBool-at_false _ _ c.if-not-branch.true c.in_ok-replay_one.ensures.served)
