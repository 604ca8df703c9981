use Rattle.std.proofs.Common.{◌≡◌, false, refl, sym, ◌∙◌, ap, subst}
use Rattle.std.proofs.lemmas.Bool.{false≢true}
use Rattle.aio_chain.specs.LinkList.{contains}
use Rattle.aio_handlers.specs.Kept.{handlers_of}
use Rattle.aio_handlers.specs.Slots.{slot_of, handlers_at}
use Rattle.aio_handlers.specs.StandsFor.{StandsFor}
use Rattle.aio_handlers.proofs.Told.{handlers_at-filter}
use Rattle.aio_handlers.proofs.Sought.{contains-filter}
use Rattle.aio_handlers.proofs.Standing.{stands_begun}
use Rattle.aio_handlers.proofs.handlers.Handlers.walk_begin.Goals as goal

pub invariant_of-self : goal.invariant_of-self
invariant_of-self c = record {
  sized = c.self.invariant.sized;
  holds = c.self.invariant.holds;
  filled = c.self.invariant.filled;
  have_slots = c.self.invariant.have_slots;
  watched_are = c.self.invariant.watched_are;
  live_room = c.self.invariant.live_room;
  waiting_room = c.fill.ensures.room;
  used_is = c.self.invariant.used_is;
  used_fits = c.self.invariant.used_fits;
  waiting_live = λ event h.
      contains-filter c.args.found event c.self.inside.live.items (sym (ap (contains event) c.fill.ensures.items) ∙ h);
  ids_below = c.self.invariant.ids_below;
  ids_apart = c.self.invariant.ids_apart;
  idle = λ walks. absurd (false≢true (sym walks));
}

pub returns-clause-stands : goal.returns-clause-stands
returns-clause-stands c = λ calls stands.
    let slots = slot_of c.self.inside.places in
    let still : c.self.inside.walking ≡ false = ap (λ v. v.walking) c.self.view_is ∙ c.requires in
    let waits = ap (handlers_at slots) c.fill.ensures.items ∙ handlers_at-filter slots c.args.found c.self.inside.live.items in
    let stood = subst (λ v. StandsFor v calls) (sym c.self.view_is) stands in
    stands_begun (handlers_of c.self.inside) _ calls stood c.args.found refl refl refl waits (c.self.invariant.idle still).0
