use Rattle.std.proofs.Common.{◌≡◌, ◌+◌, ◌-◌, ◌<◌, ◌∙◌, length, get_or, slice_index, set, ap, arith}
use Rattle.std.proofs.Math.ListN.{length-set}
use Rattle.std.proofs.lemmas.List.{get_or_default}
use Rattle.reply_printing.proofs.LinkedPlaces.{AreLinked, AreLinked-more}
use Rattle.reply_printing.proofs.links.Links.link.Goals as goal

pub loop-place-preserved : goal.loop-place-preserved
loop-place-preserved c =
    let served = c.args.served.now in
    let place = c.loop-place.place - 1 in
    let before = c.loop-place.self in
    let found = c.index-served-place.result in
    let placed = get_or served place found in
    let inside : place < length served = omega arith in
    let upper : c.loop-place.place ≡ place + 1 = omega arith in
    let known : placed.stream < length before.next = omega (arith, c.requires.streams place found inside) in
    let room : place < length before.behind.items = omega arith in
    let more : AreLinked served (set before.next placed.stream place) (set before.behind.items place (slice_index before.next placed.stream)) place =
    AreLinked-more served before.next before.behind.items place placed inside (get_or_default served place found placed inside) known room
    c.loop-place.place upper c.loop-place.invariant.linked in
    record {
      within = omega arith;
      sized = ap length c.put_first.ensures.next ∙ length-set before.next placed.stream place ∙ c.loop-place.invariant.sized;
      room = ap length c.put_first.ensures.behind ∙ length-set before.behind.items place (slice_index before.next placed.stream) ∙ c.loop-place.invariant.room;
      linked = rw (c.put_first.ensures.next, c.put_first.ensures.behind) more;
    }
