use Rattle.std.proofs.Common.{◌≡◌, ◌++◌, ◌∷◌, [], sym, ◌∙◌, ap, subst}
use Rattle.aio_chain.specs.LinkList.{next_after}
use Rattle.aio_handlers.proofs.Sought.{Fills, fills_absent, fills_found, fills_passed, fills_moved, shorter_from}
use Rattle.aio_handlers.proofs.keys.fill.Goals as goal
use Rattle.aio_handlers.proofs.keys.fill.Goals.{then-has_event, else-has_event}

pub push_back-requires-clause-absent : goal.push_back-requires-clause-absent
push_back-requires-clause-absent c =
    let live = c.args.live.now.items in
    let fills = subst (Fills c.args.found live c.loop-at.waiting.items) c.in-Some.is c.loop-at.invariant.0 in
    fills_absent c.args.found live c.first-at.ensures.linked.each_once c.loop-at.waiting.items c.in-Some.event fills

pub loop-at-smaller : goal.loop-at-smaller
loop-at-smaller c =
    let live = c.args.live.now.items in
    let fills = subst (Fills c.args.found live c.loop-at.waiting.items) c.in-Some.is c.loop-at.invariant.0 in
    shorter_from live c.in-Some.event c.loop-at.at c.next-at.result c.first-at.ensures.linked.each_once fills.on c.in-Some.is c.next-at.ensures.next

pub loop-at-preserved : goal.loop-at-preserved
loop-at-preserved c =
    let live = c.args.live.now.items in
    let found = c.args.found in
    let event = c.in-Some.event in
    let waiting = c.loop-at.waiting.items in
    let once = c.first-at.ensures.linked.each_once in
    let fills = subst (Fills found live waiting) c.in-Some.is c.loop-at.invariant.0 in
    elim c.if-has_event.branch [
      | then-has_event w ↦
          let more = fills_found found live once waiting event fills (sym c.has_event.ensures ∙ w.if-has_event.true) in
          let items : c.if-has_event.waiting.items ≡ waiting ++ event ∷ [] = ap (λ list. list.items) w.waiting-is ∙ w.push_back.ensures.items in (
            fills_moved found live (waiting ++ event ∷ []) c.if-has_event.waiting.items (next_after event live) c.next-at.result items c.next-at.ensures.next more,
            ap (λ list. list.room) w.waiting-is ∙ w.push_back.ensures.room ∙ c.loop-at.invariant.1,
          )
      | else-has_event w ↦
          let more = fills_passed found live once waiting event fills (sym c.has_event.ensures ∙ w.if-has_event.false) in
          let items : c.if-has_event.waiting.items ≡ waiting = ap (λ list. list.items) w.waiting-is in (
            fills_moved found live waiting c.if-has_event.waiting.items (next_after event live) c.next-at.result items c.next-at.ensures.next more,
            ap (λ list. list.room) w.waiting-is ∙ c.loop-at.invariant.1,
          )
    ]
