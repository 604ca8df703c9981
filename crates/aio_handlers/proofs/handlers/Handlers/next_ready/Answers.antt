use Rattle.std.proofs.Common.{◌≡◌, true, refl, sym, ◌∙◌, ap, subst}
use Rattle.std.proofs.lemmas.Bool.{both_ways}
use Rattle.aio_chain.specs.LinkList.{contains}
use Rattle.aio_chain.proofs.Steps.{contains-from_without}
use Rattle.aio_chain.proofs.Walks.{contains-first}
use Rattle.aio_model.specs.Handlers.Calls.{others}
use Rattle.aio_handlers.specs.declared.places.Slot.{Slot}
use Rattle.aio_handlers.specs.Kept.{handlers_of}
use Rattle.aio_handlers.specs.Slots.{slot_of, handlers_at}
use Rattle.aio_handlers.specs.StandsFor.{StandsFor}
use Rattle.aio_handlers.proofs.Told.{handlers_at-without}
use Rattle.aio_handlers.proofs.Answered.{apart_from}
use Rattle.aio_handlers.proofs.Standing.{stands_given}
use Rattle.aio_handlers.proofs.handlers.Handlers.next_ready.Goals as goal

pub invariant_of-self : goal.invariant_of-self
invariant_of-self c = record {
  sized = c.self.invariant.sized;
  holds = c.self.invariant.holds;
  filled = c.self.invariant.filled;
  have_slots = c.self.invariant.have_slots;
  watched_are = c.self.invariant.watched_are;
  live_room = c.self.invariant.live_room;
  waiting_room = c.unlink.ensures.room ∙ c.self.invariant.waiting_room;
  used_is = c.self.invariant.used_is;
  used_fits = c.self.invariant.used_fits;
  waiting_live = λ event h.
      c.self.invariant.waiting_live event (contains-from_without event c.in_ok-event.event c.self.inside.waiting.items (sym (ap (contains event) c.unlink.ensures.items) ∙ h));
  ids_below = c.self.invariant.ids_below;
  ids_apart = c.self.invariant.ids_apart;
  idle = λ still.
      let walks : c.self.inside.walking ≡ true = ap (λ v. v.walking) c.self.view_is ∙ c.requires in
      absurd (both_ways c.self.inside.walking still walks);
}

pub at-slot-requires : goal.at-slot-requires
at-slot-requires c =
    let here = contains-first c.self.inside.waiting.items c.in_ok-event.event (sym c.in_ok-event.ensures.first) in
    c.self.invariant.have_slots c.in_ok-event.event (c.self.invariant.waiting_live c.in_ok-event.event here)

pub returns-clause-stands : goal.returns-clause-stands
returns-clause-stands c = λ calls stands.
    let slots = slot_of c.self.inside.places in
    let waiting = c.self.inside.waiting.items in
    let event = c.in_ok-event.event in
    let here = contains-first waiting event (sym c.in_ok-event.ensures.first) in
    let apart = apart_from slots c.self.inside.live.items c.self.invariant.ids_apart event (c.self.invariant.waiting_live event here) in
    let waits = ap (handlers_at slots) c.unlink.ensures.items
    ∙ handlers_at-without slots event waiting (λ other h. apart other (c.self.invariant.waiting_live other h))
    ∙ ap (λ (s : Slot). others s.id (handlers_at slots waiting)) (sym c.at-slot.ensures) in
    let stood = subst (λ v. StandsFor v calls) (sym c.self.view_is) stands in
    stands_given (handlers_of c.self.inside) _ calls stood c.at-slot.result.id refl refl refl waits refl
