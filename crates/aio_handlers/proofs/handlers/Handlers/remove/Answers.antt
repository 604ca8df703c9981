use Rattle.std.proofs.Common.{ℕ, ◌≡◌, ◌∷◌, ◌+◌, true, length, Some, None, refl, sym, ◌∙◌, ap, subst, arith}
use Rattle.std.proofs.lemmas.Bool.{both_ways, false≢true}
use Rattle.aio_chain.specs.LinkList.{contains, without}
use Rattle.aio_model.specs.Handlers.Calls.{named, others}
use Rattle.aio_handlers.specs.declared.answers.Removed.TheVariants.{Freed, Marked, Gone}
use Rattle.aio_handlers.specs.declared.places.Slot.{Slot}
use Rattle.aio_handlers.specs.Answers.{remove_answer, removed_as}
use Rattle.aio_handlers.specs.Kept.{handlers_of}
use Rattle.aio_handlers.specs.Slots.{slot_of, handler_at, handlers_at, event_named}
use Rattle.aio_handlers.specs.StandsFor.{StandsFor}
use Rattle.aio_handlers.proofs.Told.{length-without, handlers_at-same}
use Rattle.aio_handlers.proofs.Placed.{AreNumbered, slots_taken, have_taken, numbered_taken}
use Rattle.aio_handlers.proofs.Watched.{watched_fewer}
use Rattle.aio_handlers.proofs.Removal.{without_among, removed_in, removed_live, removed_waiting, removed_named, gone_live, gone_waiting, gone_named}
use Rattle.aio_handlers.proofs.Standing.{marked_after, marked_none, stands_removed}
use Rattle.aio_model.specs.declared.handlers.calls.HandlerCall.TheVariants.{Remove}
use Rattle.aio_handlers.proofs.handlers.Handlers.remove.Goals as goal

pub take-tag-requires : goal.take-tag-requires
take-tag-requires c =
    let live = c.self.inside.live.items in
    let found : event_named (slot_of c.self.inside.places) c.args.id.number live ≡ Some c.in-Some.event = sym c.in-Some.ensures.named in
    c.self.invariant.have_slots c.in-Some.event (removed_in (slot_of c.self.inside.places) live c.self.inside.waiting.items c.args.id.number c.self.invariant.waiting_live c.in-Some.event found c.self.invariant.ids_apart)

pub unlink-requires : goal.unlink-requires
unlink-requires c =
    let slots = slot_of c.self.inside.places in
    let live = c.self.inside.live.items in
    let waiting = c.self.inside.waiting.items in
    let id = c.args.id.number in
    let among = c.self.invariant.waiting_live in
    let event = c.in-Some.event in
    let found : event_named slots id live ≡ Some event = sym c.in-Some.ensures.named in
    let apart = c.self.invariant.ids_apart in
    removed_in slots live waiting id among event found apart

pub returns-in_default-clause-answer : goal.returns-in_default-clause-answer
returns-in_default-clause-answer c =
    let slots = slot_of c.self.inside.places in
    let live = c.self.inside.live.items in
    let waiting = c.self.inside.waiting.items in
    let id = c.args.id.number in
    let among = c.self.invariant.waiting_live in
    let none : event_named slots id live ≡ None = sym c.in_default.ensures.named in
    let says : remove_answer (handlers_of c.self.inside) id ≡ Gone = ap (removed_as c.self.inside.walking) (gone_named slots live waiting id among none) in
    subst (λ v. Gone ≡ remove_answer v id) c.self.view_is (sym says)

pub returns-in_default-clause-stands : goal.returns-in_default-clause-stands
returns-in_default-clause-stands c = λ calls stands.
    let slots = slot_of c.self.inside.places in
    let live = c.self.inside.live.items in
    let waiting = c.self.inside.waiting.items in
    let id = c.args.id.number in
    let among = c.self.invariant.waiting_live in
    let none : event_named slots id live ≡ None = sym c.in_default.ensures.named in
    let v = handlers_of c.self.inside in
    let stood = subst (λ v. StandsFor v calls) (sym c.self.view_is) stands in
    let marks : v.marked ≡ marked_after v.walking (named id v.live) v.marked = sym (ap (λ h. marked_after v.walking h v.marked) (gone_named slots live waiting id among none) ∙ marked_none v.walking v.marked) in
    let gone = stands_removed v v calls stood id refl (gone_live slots live waiting id among none) refl (gone_waiting slots live waiting id among none) marks in
    subst (λ v. StandsFor v (Remove id ∷ calls)) c.self.view_is gone

pub invariant_of-self : goal.invariant_of-self
invariant_of-self c =
    let slots = slot_of c.self.inside.places in
    let live = c.self.inside.live.items in
    let waiting = c.self.inside.waiting.items in
    let id = c.args.id.number in
    let among = c.self.invariant.waiting_live in
    let event = c.in-Some.event in
    let found : event_named slots id live ≡ Some event = sym c.in-Some.ensures.named in
    let apart = c.self.invariant.ids_apart in
    let here = removed_in slots live waiting id among event found apart in
    let places = c.self.inside.places in
    let places' = c.take-tag.new.self in
    let numbered : AreNumbered slots live c.self.inside.added = record { below = c.self.invariant.ids_below; apart = apart } in
    let fewer = numbered_taken places places' live c.self.invariant.have_slots event c.take-tag.ensures.takes here c.self.inside.added numbered in
    let watched = watched_fewer c.self.inside.watched c.without_event-self-inside.result live event c.self.invariant.watched_are c.without_event-self-inside.ensures.others c.without_event-self-inside.ensures.cleared in
    let shorter = length-without event live c.event_named.ensures.linked.each_once here in
    let left = ap length c.unlink.ensures.items in
    let was : (k : ℕ) → contains k c.unlink.new.self.items ≡ true → contains k (without event live) ≡ true = λ k h. sym (ap (contains k) c.unlink.ensures.items) ∙ h in
    record {
      sized = c.take-tag.ensures.sized ∙ c.self.invariant.sized;
      holds = omega (arith, c.take-tag.ensures.holds, c.self.invariant.holds);
      filled = omega (arith, c.take-tag.ensures.filled, c.self.invariant.filled, shorter, left);
      have_slots = λ k h. have_taken places places' live c.self.invariant.have_slots event c.take-tag.ensures.takes here c.self.inside.added numbered k (was k h);
      watched_are = λ k low. watched k low ∙ sym (ap (contains k) c.unlink.ensures.items);
      live_room = c.unlink.ensures.room ∙ c.self.invariant.live_room;
      waiting_room = c.take_out.ensures.room ∙ c.self.invariant.waiting_room;
      used_is = omega (arith, shorter, left, c.self.invariant.used_is);
      used_fits = omega (arith, c.self.invariant.used_fits);
      waiting_live = λ k h. ap (contains k) c.unlink.ensures.items ∙ without_among event waiting live among k (sym (ap (contains k) c.take_out.ensures.items) ∙ h);
      ids_below = λ k h. fewer.below k (was k h);
      ids_apart = λ k j h g. fewer.apart k j (was k h) (was j g);
      idle = λ still. absurd (both_ways c.self.inside.walking still c.if-self.true);
    }

pub returns-then-self-clause-answer : goal.returns-then-self-clause-answer
returns-then-self-clause-answer c =
    let slots = slot_of c.self.inside.places in
    let live = c.self.inside.live.items in
    let waiting = c.self.inside.waiting.items in
    let id = c.args.id.number in
    let among = c.self.invariant.waiting_live in
    let event = c.in-Some.event in
    let found : event_named slots id live ≡ Some event = sym c.in-Some.ensures.named in
    let apart = c.self.invariant.ids_apart in
    let says : remove_answer (handlers_of c.self.inside) id ≡ Marked c.take-tag.result.tag =
    ap (removed_as c.self.inside.walking) (removed_named slots live waiting id among event found apart) ∙ ap (λ w. removed_as w (Some (handler_at slots event))) c.if-self.true
    ∙ ap (λ (s : Slot). Marked s.tag) (sym c.take-tag.ensures.was) in
    subst (λ v. Marked c.take-tag.result.tag ≡ remove_answer v id) c.self.view_is (sym says)

pub returns-then-self-clause-stands : goal.returns-then-self-clause-stands
returns-then-self-clause-stands c = λ calls stands.
    let slots = slot_of c.self.inside.places in
    let live = c.self.inside.live.items in
    let waiting = c.self.inside.waiting.items in
    let id = c.args.id.number in
    let among = c.self.invariant.waiting_live in
    let event = c.in-Some.event in
    let found : event_named slots id live ≡ Some event = sym c.in-Some.ensures.named in
    let apart = c.self.invariant.ids_apart in
    let v = handlers_of c.self.inside in
    let stood = subst (λ v. StandsFor v calls) (sym c.self.view_is) stands in
    let here = removed_in slots live waiting id among event found apart in
    let numbered : AreNumbered slots live c.self.inside.added = record { below = c.self.invariant.ids_below; apart = apart } in
    let slots' = slot_of c.take-tag.new.self in
    let kept = slots_taken c.self.inside.places c.take-tag.new.self live c.self.invariant.have_slots event c.take-tag.ensures.takes here c.self.inside.added numbered in
    let lives : handlers_at slots' c.unlink.new.self.items ≡ others id (handlers_at slots live) =
    ap (handlers_at slots') c.unlink.ensures.items ∙ handlers_at-same slots slots' (without event live) kept ∙ removed_live slots live waiting id among event found apart in
    let waits : handlers_at slots' c.take_out.new.links.items ≡ others id (handlers_at slots waiting) =
    ap (handlers_at slots') c.take_out.ensures.items ∙ handlers_at-same slots slots' (without event waiting) (λ k h. kept k (without_among event waiting live among k h))
    ∙ removed_waiting slots live waiting id among event found apart in
    let marks : v.marked + 1 ≡ marked_after v.walking (named id v.live) v.marked =
    sym (ap (λ h. marked_after v.walking h v.marked) (removed_named slots live waiting id among event found apart) ∙ ap (λ w. marked_after w (Some (handler_at slots event)) v.marked) c.if-self.true) in
    stands_removed v _ calls stood id refl lives refl waits marks

pub invariant_of-self-2 : goal.invariant_of-self-2
invariant_of-self-2 c =
    let slots = slot_of c.self.inside.places in
    let live = c.self.inside.live.items in
    let waiting = c.self.inside.waiting.items in
    let id = c.args.id.number in
    let among = c.self.invariant.waiting_live in
    let event = c.in-Some.event in
    let found : event_named slots id live ≡ Some event = sym c.in-Some.ensures.named in
    let apart = c.self.invariant.ids_apart in
    let here = removed_in slots live waiting id among event found apart in
    let places = c.self.inside.places in
    let places' = c.take-tag.new.self in
    let numbered : AreNumbered slots live c.self.inside.added = record { below = c.self.invariant.ids_below; apart = apart } in
    let fewer = numbered_taken places places' live c.self.invariant.have_slots event c.take-tag.ensures.takes here c.self.inside.added numbered in
    let watched = watched_fewer c.self.inside.watched c.without_event-self-inside.result live event c.self.invariant.watched_are c.without_event-self-inside.ensures.others c.without_event-self-inside.ensures.cleared in
    let shorter = length-without event live c.event_named.ensures.linked.each_once here in
    let left = ap length c.unlink.ensures.items in
    let was : (k : ℕ) → contains k c.unlink.new.self.items ≡ true → contains k (without event live) ≡ true = λ k h. sym (ap (contains k) c.unlink.ensures.items) ∙ h in
    record {
      sized = c.take-tag.ensures.sized ∙ c.self.invariant.sized;
      holds = omega (arith, c.take-tag.ensures.holds, c.self.invariant.holds);
      filled = omega (arith, c.take-tag.ensures.filled, c.self.invariant.filled, shorter, left);
      have_slots = λ k h. have_taken places places' live c.self.invariant.have_slots event c.take-tag.ensures.takes here c.self.inside.added numbered k (was k h);
      watched_are = λ k low. watched k low ∙ sym (ap (contains k) c.unlink.ensures.items);
      live_room = c.unlink.ensures.room ∙ c.self.invariant.live_room;
      waiting_room = c.self.invariant.waiting_room;
      used_is = omega (arith, shorter, left, c.self.invariant.used_is);
      used_fits = omega (arith, c.self.invariant.used_fits);
      waiting_live = λ k h. let empty = (c.self.invariant.idle c.if-self.false).1 in absurd (false≢true (sym (ap (contains k) empty) ∙ h));
      ids_below = λ k h. fewer.below k (was k h);
      ids_apart = λ k j h g. fewer.apart k j (was k h) (was j g);
      idle = c.self.invariant.idle;
    }

pub returns-clause-answer : goal.returns-clause-answer
returns-clause-answer c =
    let slots = slot_of c.self.inside.places in
    let live = c.self.inside.live.items in
    let waiting = c.self.inside.waiting.items in
    let id = c.args.id.number in
    let among = c.self.invariant.waiting_live in
    let event = c.in-Some.event in
    let found : event_named slots id live ≡ Some event = sym c.in-Some.ensures.named in
    let apart = c.self.invariant.ids_apart in
    let says : remove_answer (handlers_of c.self.inside) id ≡ Freed c.take-tag.result.tag =
    ap (removed_as c.self.inside.walking) (removed_named slots live waiting id among event found apart) ∙ ap (λ w. removed_as w (Some (handler_at slots event))) c.if-self.false
    ∙ ap (λ (s : Slot). Freed s.tag) (sym c.take-tag.ensures.was) in
    subst (λ v. Freed c.take-tag.result.tag ≡ remove_answer v id) c.self.view_is (sym says)

pub returns-clause-stands : goal.returns-clause-stands
returns-clause-stands c = λ calls stands.
    let slots = slot_of c.self.inside.places in
    let live = c.self.inside.live.items in
    let waiting = c.self.inside.waiting.items in
    let id = c.args.id.number in
    let among = c.self.invariant.waiting_live in
    let event = c.in-Some.event in
    let found : event_named slots id live ≡ Some event = sym c.in-Some.ensures.named in
    let apart = c.self.invariant.ids_apart in
    let v = handlers_of c.self.inside in
    let stood = subst (λ v. StandsFor v calls) (sym c.self.view_is) stands in
    let here = removed_in slots live waiting id among event found apart in
    let numbered : AreNumbered slots live c.self.inside.added = record { below = c.self.invariant.ids_below; apart = apart } in
    let slots' = slot_of c.take-tag.new.self in
    let kept = slots_taken c.self.inside.places c.take-tag.new.self live c.self.invariant.have_slots event c.take-tag.ensures.takes here c.self.inside.added numbered in
    let lives : handlers_at slots' c.unlink.new.self.items ≡ others id (handlers_at slots live) =
    ap (handlers_at slots') c.unlink.ensures.items ∙ handlers_at-same slots slots' (without event live) kept ∙ removed_live slots live waiting id among event found apart in
    let none = (c.self.invariant.idle c.if-self.false).1 in
    let waits : handlers_at slots' waiting ≡ others id (handlers_at slots waiting) = ap (handlers_at slots') none ∙ sym (ap (λ xs. others id (handlers_at slots xs)) none) in
    let marks : v.marked ≡ marked_after v.walking (named id v.live) v.marked =
    sym (ap (λ h. marked_after v.walking h v.marked) (removed_named slots live waiting id among event found apart) ∙ ap (λ w. marked_after w (Some (handler_at slots event)) v.marked) c.if-self.false) in
    stands_removed v _ calls stood id refl lives refl waits marks
