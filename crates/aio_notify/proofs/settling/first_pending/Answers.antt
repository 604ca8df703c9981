use Rattle.std.proofs.Common.{◌≡◌, ◌<◌, false, sym, ap, ◌∙◌, subst}
use Rattle.aio_model.specs.Loop.History.{History}
use Rattle.aio_model.specs.Loop.Flags.{is_pending}
use Rattle.aio_core.specs.Known.{Known}
use Rattle.aio_notify.proofs.Ends.{none_next, flags_further, same_further}
use Rattle.aio_notify.proofs.settling.first_pending.Goals as goal

pub loop-bh-preserved : goal.loop-bh-preserved
loop-bh-preserved g c =
    let before = c.args.whole.now.seat.known in
    let mid = c.loop-bh.whole.seat.known in
    let after = c.look_at_flags.new.whole.seat.known in
    let n = c.loop-bh.bh in
    let so_far = c.loop-bh.invariant in
    let look = c.look_at_flags.ensures.step in
    let seen : mid.seen ≡ before.seen = ap (λ (k : Known). k.seen) so_far.3 in
    let fails : is_pending n before.seen ≡ false = ap (λ (h : History). is_pending n h) (sym seen) ∙ sym c.look_at_flags.ensures.told ∙ c.if-look_at_flags.false in (
      c.look_at_flags.ensures.seat,
      flags_further n before mid after so_far.1 look,
      none_next _ _ n so_far.2 (subst (λ k. n < k) c.indices-bh-end.ensures.value c.loop-bh-test.true) fails,
      same_further before mid after _ _ look.0 so_far.3 look.1,
    )
