use Rattle.std.proofs.Common.{◌≡◌, ◌<◌, false, sym, ap, ◌∙◌, subst}
use Rattle.aio_model.specs.Loop.History.{History}
use Rattle.aio_model.specs.Loop.Lists.{is_set}
use Rattle.aio_core.specs.Known.{Known}
use Rattle.aio_notify.proofs.Ends.{none_next, events_further, same_further}
use Rattle.aio_notify.proofs.settling.first_event.Goals as goal

pub loop-event-preserved : goal.loop-event-preserved
loop-event-preserved g c =
    let before = c.args.whole.now.seat.known in
    let mid = c.loop-event.whole.seat.known in
    let after = c.look_at_event.new.whole.seat.known in
    let n = c.loop-event.event in
    let so_far = c.loop-event.invariant in
    let look = c.look_at_event.ensures.step in
    let seen : mid.seen ≡ before.seen = ap (λ (k : Known). k.seen) so_far.3 in
    let fails : is_set n before.seen ≡ false = ap (λ (h : History). is_set n h) (sym seen) ∙ sym c.look_at_event.ensures.told ∙ c.if-look_at_event.false in (
      c.look_at_event.ensures.seat,
      events_further n before mid after so_far.1 look,
      none_next _ _ n so_far.2 (subst (λ k. n < k) c.events-event-end.ensures.value c.loop-event-test.true) fails,
      same_further before mid after _ _ look.0 so_far.3 look.1,
    )
