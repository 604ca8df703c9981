use Rattle.aio_loop.proofs.Pairs.{kept_same, walking_same, polls_with}
use Rattle.aio_loop.proofs.bottoms.poll_both.Goals as goal

pub returns-clause-same_runner : goal.returns-clause-same_runner
returns-clause-same_runner g c =
    let polls = c.poll.ensures.polls in
    kept_same _ (λ b. b.runner.ghost_name) (λ x y e h. h.0) polls.end.log c.args.both.now c.poll.new.runner polls.runs

pub returns-clause-same_side : goal.returns-clause-same_side
returns-clause-same_side g c =
    let polls = c.poll.ensures.polls in
    kept_same _ (λ b. b.side.ghost_name) (λ x y e h. h.1) polls.end.log c.args.both.now c.poll.new.runner polls.runs

pub returns-clause-walking : goal.returns-clause-walking
returns-clause-walking g c =
    let polls = c.poll.ensures.polls in
    walking_same _ g.R.LoopRunner.does (λ b. b.runner.now) (λ b. b.side.now) (λ x y e h. h.2) polls.end.log c.args.both.now c.poll.new.runner polls.runs

pub returns-clause-polls : goal.returns-clause-polls
returns-clause-polls g c =
    polls_with _ g.R.LoopRunner.does (λ b. b.runner.now) (λ b. b.side.now) (λ x y e h. h.2) c.poll.result c.args.both.now c.poll.new.runner c.args.home.now.seat.known c.poll.new.home.seat.known c.poll.ensures.polls
