use Rattle.std.proofs.Common.{◌≡◌, ℕ, ◌<◌, ◌≤◌, ◌+◌, ◌∷◌, ◌++◌, [], true, false, length, length-append, refl, sym, ◌∙◌, ap, subst, arith, Ok, Err}
use Rattle.std.proofs.lemmas.List.{length-map, map_push}
use Rattle.std.proofs.lemmas.Bool.{or_left}
use Rattle.aio_chain.specs.LinkList.{contains}
use Rattle.aio_chain.proofs.Contained.{contains-append}
use Rattle.aio_model.specs.declared.handlers.calls.Handler.{Handler}
use Rattle.aio_handlers.specs.declared.answers.AddRefusal.TheVariants.{Taken, Full, Worn}
use Rattle.aio_handlers.specs.declared.places.Slot.{Slot}
use Rattle.aio_handlers.specs.Answers.{add_answer}
use Rattle.aio_handlers.specs.Kept.{handlers_of}
use Rattle.aio_handlers.specs.Slots.{slot_of, handler_at, handlers_at}
use Rattle.aio_handlers.specs.StandsFor.{StandsFor}
use Rattle.aio_handlers.proofs.Told.{handlers_at-same}
use Rattle.aio_handlers.proofs.Placed.{has_place, AreNumbered, slots_put, have_put, numbered_put}
use Rattle.aio_handlers.proofs.Watched.{watched_more}
use Rattle.aio_handlers.proofs.Answered.{answer_taken, answer_fresh, fresh_full, fresh_worn, fresh_ok}
use Rattle.aio_handlers.proofs.Standing.{stands_added}
use Rattle.aio_handlers.proofs.handlers.Handlers.add.Goals as goal

pub returns-then-has-clause-answer : goal.returns-then-has-clause-answer
returns-then-has-clause-answer c =
    let h = handlers_of c.self.inside in
    let slots = slot_of c.self.inside.places in
    let here : contains c.args.event c.self.inside.live.items ≡ true = sym c.has.ensures.has ∙ c.if-has.true in
    let taken = answer_taken h slots c.self.inside.live.items refl c.args.event here in
    let says : add_answer h c.args.event ≡ Err (Taken (record { number = c.at.result.id })) = taken ∙ ap (λ (s : Slot). Err (Taken (record { number = s.id }))) (sym c.at.ensures) in
    subst (λ v. Err (Taken (record { number = c.at.result.id })) ≡ add_answer v c.args.event) c.self.view_is (sym says)

pub returns-then-self-clause-answer : goal.returns-then-self-clause-answer
returns-then-self-clause-answer c =
    let h = handlers_of c.self.inside in
    let absent : contains c.args.event c.self.inside.live.items ≡ false = sym c.has.ensures.has ∙ c.if-has.false in
    let fresh = answer_fresh h (slot_of c.self.inside.places) c.self.inside.live.items refl c.args.event absent in
    let count = length-map c.self.inside.live.items (handler_at (slot_of c.self.inside.places)) in
    let full : h.room ≤ length h.live + h.marked = omega (arith, count, c.self.invariant.used_is) in
    subst (λ v. Err Full ≡ add_answer v c.args.event) c.self.view_is (sym (fresh ∙ fresh_full h full))

pub returns-then-self-2-clause-answer : goal.returns-then-self-2-clause-answer
returns-then-self-2-clause-answer c =
    let h = handlers_of c.self.inside in
    let absent : contains c.args.event c.self.inside.live.items ≡ false = sym c.has.ensures.has ∙ c.if-has.false in
    let fresh = answer_fresh h (slot_of c.self.inside.places) c.self.inside.live.items refl c.args.event absent in
    let count = length-map c.self.inside.live.items (handler_at (slot_of c.self.inside.places)) in
    let has_room : length h.live + h.marked < h.room = omega (arith, count, c.self.invariant.used_is, c.if-self.false) in
    subst (λ v. Err Worn ≡ add_answer v c.args.event) c.self.view_is (sym (fresh ∙ fresh_worn h has_room c.if-self-2.true))

pub returns-clause-answer : goal.returns-clause-answer
returns-clause-answer c =
    let h = handlers_of c.self.inside in
    let absent : contains c.args.event c.self.inside.live.items ≡ false = sym c.has.ensures.has ∙ c.if-has.false in
    let fresh = answer_fresh h (slot_of c.self.inside.places) c.self.inside.live.items refl c.args.event absent in
    let count = length-map c.self.inside.live.items (handler_at (slot_of c.self.inside.places)) in
    let has_room : length h.live + h.marked < h.room = omega (arith, count, c.self.invariant.used_is, c.if-self.false) in
    subst (λ v. Ok (record { number = c.self.inside.added }) ≡ add_answer v c.args.event) c.self.view_is (sym (fresh ∙ fresh_ok h has_room c.if-self-2.false))

pub put-requires-clause-has_room : goal.put-requires-clause-has_room
put-requires-clause-has_room c =
    let live = c.self.inside.live.items in
    let absent : contains c.args.event live ≡ false = sym c.has.ensures.has ∙ c.if-has.false in
    let low : (i : ℕ) → contains i live ≡ true → i < 64 = λ i h. omega (arith, c.has.ensures.linked.below i h, c.self.invariant.live_room) in
    let place = has_place live c.args.event 64 c.has.ensures.linked.each_once low c.requires absent in
    omega (arith, place, c.self.invariant.filled, c.self.invariant.holds)

pub invariant_of-self : goal.invariant_of-self
invariant_of-self c =
    let live = c.self.inside.live.items in
    let event = c.args.event in
    let added = c.self.inside.added in
    let places = c.self.inside.places in
    let places' = c.put.new.self in
    let absent : contains event live ≡ false = sym c.has.ensures.has ∙ c.if-has.false in
    let items = c.push_back.ensures.items in
    let count = ap length items ∙ length-append live (event ∷ []) in
    let numbered : AreNumbered (slot_of places) live added = record { below = c.self.invariant.ids_below; apart = c.self.invariant.ids_apart } in
    let more = numbered_put places places' live c.self.invariant.have_slots event (record { id = added; tag = c.args.tag }) c.put.ensures.puts absent added numbered refl in
    let was : (k : ℕ) → contains k c.push_back.new.self.items ≡ true → contains k (live ++ event ∷ []) ≡ true = λ k h. sym (ap (contains k) items) ∙ h in
    let watched = watched_more c.self.inside.watched c.with_event-self-inside.result live event c.self.invariant.watched_are c.with_event-self-inside.ensures.others c.with_event-self-inside.ensures.set in
    record {
      sized = c.put.ensures.sized ∙ c.self.invariant.sized;
      holds = omega (arith, c.put.ensures.holds, c.self.invariant.holds);
      filled = omega (arith, c.put.ensures.filled, c.self.invariant.filled, count);
      have_slots = λ k h. have_put places places' live c.self.invariant.have_slots event (record { id = added; tag = c.args.tag }) c.put.ensures.puts absent k (was k h);
      watched_are = λ k low. watched k low ∙ sym (ap (contains k) items);
      live_room = c.push_back.ensures.room ∙ c.self.invariant.live_room;
      waiting_room = c.self.invariant.waiting_room;
      used_is = omega (arith, count, c.self.invariant.used_is);
      used_fits = omega arith;
      waiting_live = λ k h. ap (contains k) items ∙ contains-append k live (event ∷ []) ∙ or_left _ _ (c.self.invariant.waiting_live k h);
      ids_below = λ k h. more.below k (was k h);
      ids_apart = λ k j h g. more.apart k j (was k h) (was j g);
      idle = c.self.invariant.idle;
    }

pub returns-clause-stands : goal.returns-clause-stands
returns-clause-stands c = λ calls stands.
    let places = c.self.inside.places in
    let slots = slot_of places in
    let slots' = slot_of c.put.new.self in
    let live = c.self.inside.live.items in
    let waiting = c.self.inside.waiting.items in
    let event = c.args.event in
    let absent : contains event live ≡ false = sym c.has.ensures.has ∙ c.if-has.false in
    let slot : Slot = record { id = c.self.inside.added; tag = c.args.tag } in
    let kept = slots_put places c.put.new.self live c.self.invariant.have_slots event slot c.put.ensures.puts absent in
    let here : handler_at slots' event ≡ record { id = c.self.inside.added; event = event; tag = c.args.tag } = ap (λ (s : Slot). let h : Handler = record { id = s.id; event = event; tag = s.tag } in h) c.put.ensures.puts.here in
    let lives : handlers_at slots' c.push_back.new.self.items ≡ handlers_at slots live ++ record { id = c.self.inside.added; event = event; tag = c.args.tag } ∷ [] =
    ap (handlers_at slots') c.push_back.ensures.items ∙ map_push (handler_at slots') live event
    ∙ ap (λ hs. hs ++ handler_at slots' event ∷ []) (handlers_at-same slots slots' live kept) ∙ ap (λ h. handlers_at slots live ++ h ∷ []) here in
    let waits : handlers_at slots' waiting ≡ handlers_at slots waiting = handlers_at-same slots slots' waiting (λ k h. kept k (c.self.invariant.waiting_live k h)) in
    let stood = subst (λ v. StandsFor v calls) (sym c.self.view_is) stands in
    stands_added (handlers_of c.self.inside) _ calls stood c.self.inside.added event c.args.tag refl lives refl waits refl
