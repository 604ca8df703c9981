use Rattle.std.proofs.Common.{◌≡◌, false, nat_lt, sym, ◌∙◌, arith}
use Rattle.std.proofs.lemmas.Bool.Decides.{nat_tests}
use Rattle.aio_model.proofs.HandlerLists.{no_event_behind}
use Rattle.aio_model.proofs.handlers.states.has_event.Goals as goal

pub returns-else-event-lt64 : goal.returns-else-event-lt64
returns-else-event-lt64 c =
    let behind : nat_lt c.args.event 64 ≡ false = grind (arith, nat_tests) in
    behind ∙ sym (no_event_behind c.args.events c.args.event c.ranges.events.fits c.if-event-lt64.false)
