use Rattle.std.proofs.Common.{◌∙◌, ◌+◌, ◌<◌, [], map, ap, subst, sym, arith}
use Rattle.img_streams.specs.Lines.{line_from}
use Rattle.img_streams.proofs.Gathering.{IsAlong, along_first, own_here, along_more}
use Rattle.img_streams.proofs.room.places_and_buffers.Goals as goal

pub loop-at-init : goal.loop-at-init
loop-at-init c =
    let lines = c.args.lines.now in
    let id = c.args.id in
    subst (IsAlong lines id c.first-at.result c.new-places.result.items) (sym (ap (λ l. map (λ buffer. buffer.items) l) c.new-buffers.ensures.items))
    (subst (λ l. IsAlong lines id c.first-at.result l []) (sym c.new-places.ensures.items)
    (along_first lines id c.first-at.result (c.first-at.ensures ∙ c.requires.links.firsts id c.requires.known)))

pub loop-at-preserved : goal.loop-at-preserved
loop-at-preserved c =
    let lines = c.args.lines.now in
    let id = c.args.id in
    let at = c.loop-at.at in
    let step = c.index-lines-at.result in
    let places = c.loop-at.places.items in
    let buffers = map (λ buffer. buffer.items) c.loop-at.buffers.items in
    let below = c.loop-at-test.true in
    let along = c.loop-at.invariant in
    let own = own_here lines id at places buffers along step below in
    let known = subst (λ n. n < 64) (sym own) c.requires.known in
    let next = c.next-at.ensures ∙ c.requires.links.nexts at step (omega arith) below known ∙ ap (λ n. line_from n lines (at + 1)) own in
    along_more lines id at places buffers along step below c.index-lines-at.is c.next-at.result c.push.new.self.items (map (λ buffer. buffer.items) c.add_buffer.new.buffers.items)
    next c.in_ok-push.ensures.items c.in_ok-add_buffer.ensures
