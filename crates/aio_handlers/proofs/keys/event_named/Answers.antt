use Rattle.std.proofs.Common.{sym, ◌∙◌, ap, subst}
use Rattle.aio_handlers.specs.declared.places.Slot.{Slot}
use Rattle.aio_handlers.specs.Slots.{slot_of}
use Rattle.aio_handlers.proofs.Sought.{Seeks, seeks_found, seeks_next, shorter_from}
use Rattle.aio_handlers.proofs.keys.event_named.Goals as goal

pub returns-then-at-id-clause-named : goal.returns-then-at-id-clause-named
returns-then-at-id-clause-named c =
    let live = c.args.live.now.items in
    let seeks = subst (Seeks (slot_of c.args.places.now) c.args.id live) c.in-Some.is c.loop-at.invariant in
    seeks_found (slot_of c.args.places.now) c.args.id live c.first-at.ensures.linked.each_once c.in-Some.event seeks (ap (λ (s : Slot). s.id) (sym c.at.ensures) ∙ c.if-at-id.true)

pub loop-at-smaller : goal.loop-at-smaller
loop-at-smaller c =
    let live = c.args.live.now.items in
    let seeks = subst (Seeks (slot_of c.args.places.now) c.args.id live) c.in-Some.is c.loop-at.invariant in
    shorter_from live c.in-Some.event c.loop-at.at c.next-at.result c.first-at.ensures.linked.each_once seeks.on c.in-Some.is c.next-at.ensures.next

pub loop-at-preserved : goal.loop-at-preserved
loop-at-preserved c =
    let live = c.args.live.now.items in
    let seeks = subst (Seeks (slot_of c.args.places.now) c.args.id live) c.in-Some.is c.loop-at.invariant in
    let next = seeks_next (slot_of c.args.places.now) c.args.id live c.first-at.ensures.linked.each_once c.in-Some.event seeks (λ e. c.if-at-id.false (ap (λ (s : Slot). s.id) c.at.ensures ∙ e)) in
    subst (Seeks (slot_of c.args.places.now) c.args.id live) (sym c.next-at.ensures.next) next
