use Rattle.std.proofs.Common.{◌≡◌, sym, subst}
use Rattle.aio_model.specs.Loop.History.{ToCall, ToCallIdle, ToDelete}
use Rattle.aio_model.specs.Loop.Log.{flags_before, enqueued_log}
use Rattle.aio_model.specs.Loop.Seats.{home}
use Rattle.aio_core.specs.Standing.{asks_of_kind}
use Rattle.bell_loop.specs.Running.{GoesTo}
use Rattle.bell_loop.proofs.LogsGoOn.{Goes-enqueued}
use Rattle.bell_loop.proofs.steps.enqueue.Goals as goal

pub returns-in-Sched-clause-goes : goal.returns-in-Sched-clause-goes
returns-in-Sched-clause-goes g c =
    subst (λ k. GoesTo (enqueued_log c.args.bh (asks_of_kind k) home) (λ log. c.schedule.result ≡ flags_before c.args.bh log) c.args.seat.now.known.seen c.schedule.new.seat.known.seen) (sym c.in-Sched.is)
    (Goes-enqueued c.args.bh ToCall c.schedule.result _ _ c.requires.idles.first c.schedule.ensures.stands)

pub returns-in-Idle-clause-goes : goal.returns-in-Idle-clause-goes
returns-in-Idle-clause-goes g c =
    subst (λ k. GoesTo (enqueued_log c.args.bh (asks_of_kind k) home) (λ log. c.schedule_idle.result ≡ flags_before c.args.bh log) c.args.seat.now.known.seen c.schedule_idle.new.seat.known.seen) (sym c.in-Idle.is)
    (Goes-enqueued c.args.bh ToCallIdle c.schedule_idle.result _ _ c.requires.idles.first c.schedule_idle.ensures.stands)

pub returns-in-Del-clause-goes : goal.returns-in-Del-clause-goes
returns-in-Del-clause-goes g c =
    subst (λ k. GoesTo (enqueued_log c.args.bh (asks_of_kind k) home) (λ log. c.delete.result ≡ flags_before c.args.bh log) c.args.seat.now.known.seen c.delete.new.seat.known.seen) (sym c.in-Del.is)
    (Goes-enqueued c.args.bh ToDelete c.delete.result _ _ c.requires.idles.first c.delete.ensures.stands)
