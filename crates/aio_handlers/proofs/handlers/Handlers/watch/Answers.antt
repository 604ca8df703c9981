use Rattle.std.proofs.Common.{◌≡◌, Bool, true, false, cond, Some, None, is_some, refl, sym, ◌∙◌, ap}
use Rattle.aio_chain.specs.LinkList.{contains}
use Rattle.aio_model.specs.declared.handlers.calls.Handler.{Handler}
use Rattle.aio_model.specs.Handlers.Calls.{on_event}
use Rattle.aio_handlers.specs.Slots.{slot_of, handler_at}
use Rattle.aio_handlers.proofs.Told.{on_event-handlers_at}
use Rattle.aio_handlers.proofs.handlers.Handlers.watch.Goals as goal

some_is : (b : Bool) (h : Handler) → b ≡ is_some (cond b (Some h) None)
some_is true h = refl
some_is false h = refl

pub returns : goal.returns
returns c = λ event low.
    let slots = slot_of c.self.inside.places in
    let live = c.self.inside.live.items in
    c.self.invariant.watched_are event low ∙ some_is (contains event live) (handler_at slots event) ∙ ap is_some (sym (on_event-handlers_at slots event live))
    ∙ ap (λ v. is_some (on_event event v.live)) c.self.view_is
