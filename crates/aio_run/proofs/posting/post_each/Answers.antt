use Rattle.std.proofs.Common.{◌≡◌, ◌<◌, ◌+◌, ◌∙◌, suc, length, max, sym, ap, subst, arith, slice_index_or}
use Rattle.co_schedule.specs.Standing.{was_scheduled_by}
use Rattle.img_streams.specs.Streams.{IsStreamAt}
use Rattle.stream_ends.specs.Images.{homes_of}
use Rattle.aio_run.proofs.Begun.{begun_more, never_yet, home_at, first_left, others_left}
use Rattle.aio_run.proofs.posting.post_each.Goals as goal

pub overflow_cast-number : goal.overflow_cast-number
overflow_cast-number g c =
    omega (arith, c.loop-number-test.true, ap length c.as_slice-lines.ensures, c.requires.few)

pub post_one-requires-clause-to : goal.post_one-requires-clause-to
post_one-requires-clause-to g c =
    let k = c.loop-number.number in
    let low = c.loop-number-test.true in
    let is = home_at c.as_slice-lines.result.now c.args.script.now.streams k (record { id = 0; home = 0 }) c.as_slice-lines.ensures low in
    subst (λ n. n < length c.args.shared.now) is (c.requires.homes k (omega (arith, low, ap length c.as_slice-lines.ensures)))

pub post_one-requires-clause-below : goal.post_one-requires-clause-below
post_one-requires-clause-below g c t =
    let k = c.loop-number.number in
    let low = c.loop-number-test.true in
    let is = home_at c.as_slice-lines.result.now c.args.script.now.streams k (record { id = 0; home = 0 }) c.as_slice-lines.ensures low in
    let there = subst (λ n. n < length c.args.shared.now) is (c.requires.homes k (omega (arith, low, ap length c.as_slice-lines.ensures))) in
    let many : (slice_index_or c.args.shared.now _ t).coroutines.coroutines ≡ max 1 (length c.args.script.now.streams) = c.requires.tables _ t there in
    omega (arith, low, ap length c.as_slice-lines.ensures, many)

pub post_one-requires-clause-of : goal.post_one-requires-clause-of
post_one-requires-clause-of g c t =
    let k = c.loop-number.number in
    let low = c.loop-number-test.true in
    let is = home_at c.as_slice-lines.result.now c.args.script.now.streams k (record { id = 0; home = 0 }) c.as_slice-lines.ensures low in
    let there = subst (λ n. n < length c.args.shared.now) is (c.requires.homes k (omega (arith, low, ap length c.as_slice-lines.ensures))) in
    let at = first_left c.args.streams.items k c.take_first-stream.result c.take_first-stream.new.queue.items (sym c.take_first-stream.ensures ∙ c.loop-number.invariant.0) in
    let started = c.requires.started.each k c.take_first-stream.result at in
    subst (λ o. IsStreamAt g.D.Device.bytes k c.take_first-stream.result o) (sym (c.requires.of _ t there)) (started.of, ap (λ id. id.co) started.co_is)

pub post_one-requires-clause-fresh : goal.post_one-requires-clause-fresh
post_one-requires-clause-fresh g c s =
    let k = c.loop-number.number in
    let low = c.loop-number-test.true in
    let is = home_at c.as_slice-lines.result.now c.args.script.now.streams k (record { id = 0; home = 0 }) c.as_slice-lines.ensures low in
    let there = subst (λ n. n < length c.args.shared.now) is (c.requires.homes k (omega (arith, low, ap length c.as_slice-lines.ensures))) in
    ap (was_scheduled_by k) (c.loop-number.invariant.3 _ s there) ∙ never_yet k (homes_of c.args.script.now.streams) _ k (omega arith)

pub loop-number-preserved : goal.loop-number-preserved
loop-number-preserved g c =
    let k = c.loop-number.number in
    let low = c.loop-number-test.true in
    let next : k + 1 ≡ suc k = omega arith in
    let is = home_at c.as_slice-lines.result.now c.args.script.now.streams k (record { id = 0; home = 0 }) c.as_slice-lines.ensures low in (
      others_left c.args.streams.items k (k + 1) c.take_first-stream.result c.take_first-stream.new.queue.items next (sym c.take_first-stream.ensures ∙ c.loop-number.invariant.0),
      c.post_one.ensures.row.0,
      c.post_one.ensures.row.1,
      begun_more k (k + 1) (homes_of c.args.script.now.streams) (length c.args.shared.now) _ c.loop-number.row.seats.items c.post_one.new.row.seats.items next is c.loop-number.invariant.3 c.post_one.ensures.others c.post_one.ensures.made,
      (λ own. c.post_one.ensures.own (length c.args.shared.now) (c.loop-number.invariant.4 own)),
    )
