use Rattle.std.proofs.Common.{map, sym, ap, ◌∙◌, subst}
use Rattle.aio_model.specs.declared.scripts.loop_replies.LoopReply.TheVariants.{Ran}
use Rattle.bell_loop.specs.Machines.{machine_state_of, ran_in, more_in}
use Rattle.bell_loop.specs.Ending.{EndsBy}
use Rattle.bell_loop.proofs.Ended.{EndsBy-of, none_pending, none_set}
use Rattle.bell_loop.proofs.machine.Machine.end.Goals as goal

pub settled-requires-clause-none_pending : goal.settled-requires-clause-none_pending
settled-requires-clause-none_pending g c alone =
    let start = c.args.self in
    let polled = c.poll.new.self in
    let begins =
    ap (λ s. record { sizes = start.table.sizes; lists = map (λ l. l.items) s.lists.now; seen = start.home.seat.known.seen; rang = s.rang; living = start.living; marks = start.marks }) c.forget_lists.ensures.rest
    ∙ ap (λ l. record { sizes = start.table.sizes; lists = map (λ x. x.items) l; seen = start.home.seat.known.seen; rang = start.callbacks.rang; living = start.living; marks = start.marks }) c.forget_lists.ensures.none in
    none_pending (Ran (ran_in polled) (more_in polled) c.poll.result.progress c.poll.result.cut_nests) (machine_state_of start) _ (machine_state_of polled) (machine_state_of c.clear_all.new.self) c.fall_asleep.new.home.seat.known.seen
    begins c.poll.ensures.answers (c.poll.ensures.quiet (ap (map (λ l. l.items)) c.forget_lists.ensures.none)) c.clear_all.ensures.leads c.fall_asleep.ensures.others c.requires.stands alone

pub settled-requires-clause-none_set : goal.settled-requires-clause-none_set
settled-requires-clause-none_set g c alone =
    let start = c.args.self in
    let polled = c.poll.new.self in
    let begins =
    ap (λ s. record { sizes = start.table.sizes; lists = map (λ l. l.items) s.lists.now; seen = start.home.seat.known.seen; rang = s.rang; living = start.living; marks = start.marks }) c.forget_lists.ensures.rest
    ∙ ap (λ l. record { sizes = start.table.sizes; lists = map (λ x. x.items) l; seen = start.home.seat.known.seen; rang = start.callbacks.rang; living = start.living; marks = start.marks }) c.forget_lists.ensures.none in
    none_set (Ran (ran_in polled) (more_in polled) c.poll.result.progress c.poll.result.cut_nests) (machine_state_of start) _ (machine_state_of polled) (machine_state_of c.clear_all.new.self) c.fall_asleep.new.home.seat.known.seen
    begins c.poll.ensures.answers (c.poll.ensures.quiet (ap (map (λ l. l.items)) c.forget_lists.ensures.none)) c.clear_all.ensures.leads c.fall_asleep.ensures.others c.requires.stands alone

pub returns : goal.returns
returns g c =
    let start = c.args.self in
    let polled = c.poll.new.self in
    let begins =
    ap (λ s. record { sizes = start.table.sizes; lists = map (λ l. l.items) s.lists.now; seen = start.home.seat.known.seen; rang = s.rang; living = start.living; marks = start.marks }) c.forget_lists.ensures.rest
    ∙ ap (λ l. record { sizes = start.table.sizes; lists = map (λ x. x.items) l; seen = start.home.seat.known.seen; rang = start.callbacks.rang; living = start.living; marks = start.marks }) c.forget_lists.ensures.none in
    record {
      ends = subst (EndsBy (machine_state_of start)) (sym c.settled.ensures.seen)
          (EndsBy-of (Ran (ran_in polled) (more_in polled) c.poll.result.progress c.poll.result.cut_nests) (machine_state_of start) _ (machine_state_of polled) (machine_state_of c.clear_all.new.self) c.fall_asleep.new.home.seat.known.seen
          begins c.poll.ensures.answers (c.poll.ensures.quiet (ap (map (λ l. l.items)) c.forget_lists.ensures.none)) c.clear_all.ensures.leads c.fall_asleep.ensures.others c.settled.ensures.alone);
    }
