use Rattle.std.proofs.Common.{◌≡◌}
use Rattle.aio_bh.proofs.Steps.{Polls-of, returns_then}
use Rattle.aio_bh.proofs.Turning.{no_slices}
use Rattle.aio_bh.proofs.polls.LoopTableBottomHalves.poll.Goals as goal

pub returns-clause-polls : goal.returns-clause-polls
returns-clause-polls g c =
    let a = c.args in
    let home = c.frame.new.home in
    let between = c.frame.ensures.between in
    Polls-of a.self.now.sizes g.R.Runner.does a.home.now.seat.known home.seat.known a.runner.now c.frame.new.runner c.zero-polled.result c.frame.new.polled c.requires.home.ready.of.sizes c.zero-polled.ensures c.frame.ensures.goes c.frame.ensures.none_out
    (no_slices home.seat.known.stage.slices _ between.left c.frame.ensures.none_out) between.hand between.job

pub returns-clause-returns : goal.returns-clause-returns
returns-clause-returns g c =
    let a = c.args in
    returns_then a.pool.now a.home.now.seat.known c.frame.new.home.seat.known a.pass.now c.give_kept.new.home c.frame.new.pass c.give_kept.ensures.given c.frame.ensures.gives
