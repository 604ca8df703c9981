use Rattle.std.proofs.Common.{ap, sym, ◌∙◌, refl, subst}
use Rattle.aio_model.specs.Loop.Legal.{IsLegal}
use Rattle.aio_core.specs.Known.{Known, is_running}
use Rattle.aio_core.specs.Scans.{SameButSleep}
use Rattle.aio_core.proofs.Passing.{to_same, same_then}
use Rattle.bell_loop.specs.Running.{OnlyOthers}
use Rattle.bell_loop.proofs.Committing.{commit_others, commit_legal, Idles-slept}
use Rattle.bell_loop.proofs.steps.sleep_and_accept.Goals as goal

pub returns-clause-idles : goal.returns-clause-idles
returns-clause-idles c =
    let first = c.requires.idles.first in
    let count = c.requires.idles.count in
    let before = c.args.home.now.seat.known in
    let committed = c.commit-commit.new.home.seat.known in
    let woken = c.wake.new.home.seat.known in
    let after = c.accept.new.home.seat.known in
    let accepted : SameButSleep woken after = to_same woken after _ c.accept.ensures.same refl in
    let same = same_then before woken after (same_then before committed woken c.commit-commit.ensures.same c.wake.ensures.same) accepted in
    let seen = ap (λ (k : Known). k.seen) c.accept.ensures.same ∙ c.wake.ensures.seen in
    Idles-slept _ _ _ c.requires.idles c.accept.ensures.seat same (ap (λ (k : Known). is_running k.sleep) c.accept.ensures.same ∙ c.wake.ensures.running)
    (subst (IsLegal c.args.home.now.seat.known.sizes) (sym seen) (commit_legal _ _ _ _ _ first count c.commit-commit.ensures.commits))

pub returns-clause-others : goal.returns-clause-others
returns-clause-others c =
    let seen = ap (λ (k : Known). k.seen) c.accept.ensures.same ∙ c.wake.ensures.seen in
    subst (OnlyOthers c.args.home.now.seat.known.seen) (sym seen) (commit_others _ _ _ _ _ c.requires.idles.first c.requires.idles.count c.commit-commit.ensures.commits)
