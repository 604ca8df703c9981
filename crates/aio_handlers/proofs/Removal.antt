-- What a removal leaves of the lists, by the event that was sought.
use Rattle.std.proofs.Common.{◌≡◌, ℕ, true, false, eqb, List, Some, None, option_map, sym, ◌∙◌, ap, inl, inr}
use Rattle.std.proofs.lemmas.Bool.{cases_Bool, both_ways, eqb-true}
use Rattle.aio_chain.specs.LinkList.{contains, without}
use Rattle.aio_chain.proofs.Steps.{contains-without_same, contains-without_other, contains-from_without}
use Rattle.aio_model.specs.Handlers.Calls.{named, others}
use Rattle.aio_handlers.specs.declared.places.Slot.{Slot}
use Rattle.aio_handlers.specs.Slots.{id_at, handler_at, handlers_at, event_named}
use Rattle.aio_handlers.proofs.Told.{handlers_at-without, named-handlers_at, IsNamed, is_named, none_named, others-absent}
use Rattle.aio_handlers.proofs.Answered.{apart_from}

abbrev pub IsAmong : List ℕ → List ℕ → Type 0
IsAmong some all = (event : ℕ) → contains event some ≡ true → contains event all ≡ true

pub without_among : (event : ℕ) (some all : List ℕ) → IsAmong some all → IsAmong (without event some) (without event all)
without_among event some all among = λ k h. elim (cases_Bool (eqb k event)) [
  | inl e ↦
      let gone : contains k (without event some) ≡ false = ap (λ x. contains x (without event some)) (eqb-true k event e) ∙ contains-without_same event some in
      absurd (both_ways (contains k (without event some)) gone h)
  | inr ne ↦ contains-without_other k event all ne ∙ among k (contains-from_without k event some h)
]

module _ (slots : ℕ → Slot) (live waiting : List ℕ) (id : ℕ) (among : IsAmong waiting live) where
  module _ (event : ℕ) (found : event_named slots id live ≡ Some event)
      (apart : (event other : ℕ) → contains event live ≡ true → contains other live ≡ true → id_at slots event ≡ id_at slots other → event ≡ other) where
    it : IsNamed slots id live event
    it = is_named slots id live event found

    pub removed_in : contains event live ≡ true
    removed_in = it.is_in

    pub removed_live : handlers_at slots (without event live) ≡ others id (handlers_at slots live)
    removed_live =
        handlers_at-without slots event live (apart_from slots live apart event it.is_in) ∙ ap (λ k. others k (handlers_at slots live)) it.has_id

    pub removed_waiting : handlers_at slots (without event waiting) ≡ others id (handlers_at slots waiting)
    removed_waiting =
        handlers_at-without slots event waiting (λ other h. apart_from slots live apart event it.is_in other (among other h))
        ∙ ap (λ k. others k (handlers_at slots waiting)) it.has_id

    pub removed_named : named id (handlers_at slots live) ≡ Some (handler_at slots event)
    removed_named = named-handlers_at slots id live ∙ ap (option_map (handler_at slots)) found

  module _ (none : event_named slots id live ≡ None) where
    pub gone_live : handlers_at slots live ≡ others id (handlers_at slots live)
    gone_live = sym (others-absent slots id live (none_named slots id live none))

    pub gone_waiting : handlers_at slots waiting ≡ others id (handlers_at slots waiting)
    gone_waiting = sym (others-absent slots id waiting (λ event h. none_named slots id live none event (among event h)))

    pub gone_named : named id (handlers_at slots live) ≡ None
    gone_named = named-handlers_at slots id live ∙ ap (option_map (handler_at slots)) none
