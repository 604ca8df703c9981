-- What an add and a removal answer, by the events that have a live handler.
use Rattle.std.proofs.Common.{◌≡◌, ℕ, ◌+◌, ◌<◌, ◌≤◌, true, false, cond, eqb, List, length, Some, None, Ok, Err, refl, sym, ◌∙◌, ap, inl, inr}
use Rattle.std.proofs.lemmas.Bool.{cases_Bool, eq-eqb, ne_eqb, eqb-true, eqb-false, le-leb, lt-leb}
use Rattle.aio_chain.specs.LinkList.{contains}
use Rattle.aio_model.specs.Handlers.Calls.{on_event}
use Rattle.aio_handlers.specs.declared.places.Slot.{Slot}
use Rattle.aio_handlers.specs.declared.answers.AddRefusal.TheVariants.{Taken, Full, Worn}
use Rattle.aio_handlers.specs.Slots.{id_at, handler_at, handlers_at}
use Rattle.aio_handlers.specs.Answers.{fresh_answer, taken_or, add_answer}
use Rattle.aio_handlers.specs.StandsFor.{HandlerList}
use Rattle.aio_handlers.proofs.Told.{on_event-handlers_at}

module _ (handlers : HandlerList) (slots : ℕ → Slot) (events : List ℕ) (is : handlers.live ≡ handlers_at slots events) (event : ℕ) where
  pub answer_taken : contains event events ≡ true → add_answer handlers event ≡ Err (Taken (record { number = id_at slots event }))
  answer_taken here =
      ap (λ hs. taken_or (on_event event hs) (fresh_answer handlers)) is ∙ ap (λ h. taken_or h (fresh_answer handlers)) (on_event-handlers_at slots event events)
      ∙ ap (λ b. taken_or (cond b (Some (handler_at slots event)) None) (fresh_answer handlers)) here

  pub answer_fresh : contains event events ≡ false → add_answer handlers event ≡ fresh_answer handlers
  answer_fresh absent =
      ap (λ hs. taken_or (on_event event hs) (fresh_answer handlers)) is ∙ ap (λ h. taken_or h (fresh_answer handlers)) (on_event-handlers_at slots event events)
      ∙ ap (λ b. taken_or (cond b (Some (handler_at slots event)) None) (fresh_answer handlers)) absent

module _ (handlers : HandlerList) where
  pub fresh_full : handlers.room ≤ length handlers.live + handlers.marked → fresh_answer handlers ≡ Err Full
  fresh_full full =
      let test = le-leb handlers.room (length handlers.live + handlers.marked) full in
      rw test refl

  pub fresh_worn : length handlers.live + handlers.marked < handlers.room → handlers.count ≡ 4294967295 → fresh_answer handlers ≡ Err Worn
  fresh_worn has_room worn =
      let test = lt-leb handlers.room (length handlers.live + handlers.marked) has_room in
      let last = eq-eqb handlers.count 4294967295 worn in
      rw (test, last) refl

  pub fresh_ok : length handlers.live + handlers.marked < handlers.room → (handlers.count ≡ 4294967295 → ⊥) → fresh_answer handlers ≡ Ok (record { number = handlers.count })
  fresh_ok has_room more =
      let test = lt-leb handlers.room (length handlers.live + handlers.marked) has_room in
      let last = ne_eqb handlers.count 4294967295 more in
      rw (test, last) refl

-- events of other numbers are others
pub apart_from : (slots : ℕ → Slot) (events : List ℕ) → ((event other : ℕ) → contains event events ≡ true → contains other events ≡ true → id_at slots event ≡ id_at slots other → event ≡ other)
    → (event : ℕ) → contains event events ≡ true → (other : ℕ) → contains other events ≡ true → eqb event other ≡ eqb (id_at slots other) (id_at slots event)
apart_from slots events apart event here other there = elim (cases_Bool (eqb event other)) [
  | inl t ↦
      let same = ap (id_at slots) (sym (eqb-true event other t)) in
      t ∙ sym (eq-eqb (id_at slots other) (id_at slots event) same)
  | inr f ↦
      let differ = ne_eqb (id_at slots other) (id_at slots event) (λ e. eqb-false event other f (apart event other here there (sym e))) in
      f ∙ sym differ
]
