use Rattle.std.proofs.Common.{ap, subst}
use Rattle.aio_core.specs.Known.{Known}
use Rattle.bell_loop.specs.Running.{OnlyOthers}
use Rattle.bell_loop.proofs.Committing.{commit_others, commit_legal, Idles-accepted, Idles-awake}
use Rattle.bell_loop.proofs.steps.accept_and_commit.Goals as goal

pub returns-in-Sleep-clause-others : goal.returns-in-Sleep-clause-others
returns-in-Sleep-clause-others c =
    let accepted = Idles-accepted _ _ _ c.requires.idles c.accept.ensures.seat c.accept.ensures.same in
    subst (λ h. OnlyOthers h c.commit.new.home.seat.known.seen) (ap (λ (k : Known). k.seen) c.accept.ensures.same) (commit_others _ _ _ _ _ accepted.first accepted.count c.commit.ensures.commits)

pub returns-in-Awake-clause-others : goal.returns-in-Awake-clause-others
returns-in-Awake-clause-others c =
    let accepted = Idles-accepted _ _ _ c.requires.idles c.accept.ensures.seat c.accept.ensures.same in
    subst (λ h. OnlyOthers h c.commit.new.home.seat.known.seen) (ap (λ (k : Known). k.seen) c.accept.ensures.same) (commit_others _ _ _ _ _ accepted.first accepted.count c.commit.ensures.commits)

pub returns-in-Awake-clause-sleeps : goal.returns-in-Awake-clause-sleeps
returns-in-Awake-clause-sleeps c =
    let accepted = Idles-accepted _ _ _ c.requires.idles c.accept.ensures.seat c.accept.ensures.same in
    Idles-awake _ _ _ _ _ accepted c.commit.ensures.seat c.commit.ensures.same c.in-Awake.is c.commit.ensures.awake (commit_legal _ _ _ _ _ accepted.first accepted.count c.commit.ensures.commits)
