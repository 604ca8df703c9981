use Rattle.std.proofs.Common.{MatchBool, subst}
use Rattle.bell_loop.specs.Running.{Idles}
use Rattle.bell_loop.specs.Ending.{IsCommitted}
use Rattle.bell_loop.proofs.Scanning.{others-then}
use Rattle.bell_loop.proofs.steps.fall_asleep.Goals as goal

pub returns-then-accept_and_commit-clause-others : goal.returns-then-accept_and_commit-clause-others
returns-then-accept_and_commit-clause-others g c =
    others-then _ _ _ c.loop.invariant.others c.accept_and_commit.ensures.others

pub loop-preserved : goal.loop-preserved
loop-preserved g c = record {
  idles = subst (λ b. MatchBool b (IsCommitted c.args.table.now c.accept_and_commit.new.home.seat) (Idles c.args.table.now c.accept_and_commit.new.home.seat)) c.if-accept_and_commit.false c.accept_and_commit.ensures.sleeps;
  others = others-then _ _ _ c.loop.invariant.others c.accept_and_commit.ensures.others;
}
