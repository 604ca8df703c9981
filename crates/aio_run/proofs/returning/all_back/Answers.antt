use Rattle.std.proofs.Common.{◌≡◌, ◌∙◌, length, sym, subst, arith}
use Rattle.stream_ends.specs.Starts.{AllAt}
use Rattle.stream_ends.specs.Stops.{HasStopped}
use Rattle.stream_ends.proofs.Places.{all_push}
use Rattle.aio_run.proofs.returning.all_back.Goals as goal

pub loop-number-preserved : goal.loop-number-preserved
loop-number-preserved g c =
    let was = c.loop-number.invariant in
    let P = HasStopped g.D.Device.bytes c.args.script.now c.args.lock.now in
    let long : length c.loop-number.streams.items ≡ c.loop-number.number = omega (arith, was.1, c.loop-number.streams.ok.0) in (
      c.back.ensures.berths,
      omega (arith, was.1, c.push_reserved.ensures.len),
      c.push_reserved.ensures.capacity ∙ was.2,
      subst (AllAt P) (sym c.push_reserved.ensures.items) (all_push P c.loop-number.streams.items c.back.result was.3 (subst (λ n. P n c.back.result) (sym long) c.back.ensures.stopped)),
    )
