use Rattle.std.proofs.Common.{◌∙◌, map, ap, subst}
use Rattle.aio_model.specs.declared.scripts.loop_scripts.Command.TheVariants.{Poll}
use Rattle.aio_model.specs.declared.scripts.loop_replies.LoopReply.TheVariants.{Ran}
use Rattle.bell_loop.specs.Entering.{acts_at}
use Rattle.bell_loop.specs.Running as one
use Rattle.bell_loop.specs.Machines.{machine_state_of}
use Rattle.bell_loop.proofs.Commanding.{Answers-poll}
use Rattle.bell_loop.proofs.machine.Machine.poll.Goals as goal

pub returns-clause-answers : goal.returns-clause-answers
returns-clause-answers g c =
    let old = c.args.self.now in
    let after = c.poll-polled.new in
    let reply = Ran after.callbacks.ran after.callbacks.more c.poll-polled.result.progress c.poll-polled.result.cut_nests in
    let lists = c.poll-polled.ensures.lists ∙ ap (λ s. s.lists) c.begin_poll.ensures.rest in
    Answers-poll reply (machine_state_of old) _
    (ap (λ l. record { sizes = old.table.sizes; lists = map (λ x. x.items) l.now; seen = after.home.seat.known.seen; rang = after.callbacks.rang; living = 0; marks = old.marks }) lists)
    (subst (λ s. one.AnswersSeen old.table.sizes (acts_at (map (λ x. x.items) s.lists.now)) Poll reply s.rang after.callbacks.rang old.home.seat.known.seen after.home.seat.known.seen) c.begin_poll.ensures.rest c.poll-polled.ensures.answers)
    c.poll-polled.ensures.none_lives c.poll-polled.ensures.events
