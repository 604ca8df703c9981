-- Walks along the events that have a live handler.
use Rattle.std.proofs.Common.{◌≡◌, ℕ, ◌<◌, true, false, ◌||◌, eqb, List, [], ◌∷◌, ◌++◌, length, filter, Option, Some, None, IfSome, refl, sym, ◌∙◌, ap, subst, inl, inr, arith}
use Rattle.std.proofs.lemmas.Bool.{cases_Bool, eq-eqb, ne_eqb, or_parts, or_from, or_left, or_right, or_cases}
use Rattle.std.proofs.lemmas.List.{append_assoc, append-nil}
use Rattle.std.proofs.lemmas.List.Elements.{filter-append}
use Rattle.aio_chain.specs.LinkList.{contains, first_of, next_after, IsEachOnce, rest_at, rest_from}
use Rattle.aio_chain.proofs.Contained.{once_middle}
use Rattle.aio_chain.proofs.Walks.{rest_from-first, first_in, Stepped, stepped}
use Rattle.aio_model.specs.Handlers.Calls.{has_event}
use Rattle.aio_handlers.specs.declared.places.Slot.{Slot}
use Rattle.aio_handlers.specs.Slots.{id_at, event_named}

-- a walk stands at an index of the list, or has come to its end
abbrev pub IsOn : Option ℕ → List ℕ → Type 0
IsOn at items = IfSome at (λ i. contains i items ≡ true)

pub shorter_from : (items : List ℕ) (event : ℕ) (at next : Option ℕ) → IsEachOnce items → contains event items ≡ true → at ≡ Some event → next ≡ next_after event items
    → length (rest_from next items) < length (rest_from at items)
shorter_from items event at next once here is goes_on =
    let step = stepped items event once here in
    let less : length (rest_from (next_after event items) items) < length (rest_at event items) = subst (λ xs. length (rest_from (next_after event items) items) < length xs) (sym step.rest) (omega arith) in
    let first : length (rest_from next items) < length (rest_at event items) = subst (λ o. length (rest_from o items) < length (rest_at event items)) (sym goes_on) less in
    subst (λ o. length (rest_from next items) < length (rest_from o items)) (sym is) first

module _ (slots : ℕ → Slot) (id : ℕ) (items : List ℕ) where
  -- what is sought lies behind
  pub record Seeks (at : Option ℕ) : Type 0 where
    pub on : IsOn at items
    pub same : event_named slots id (rest_from at items) ≡ event_named slots id items

  pub seeks_first : Seeks (first_of items)
  seeks_first = record { on = first_in items; same = ap (event_named slots id) (rest_from-first items) }

  module _ (once : IsEachOnce items) (event : ℕ) (seeks : Seeks (Some event)) where
    pub seeks_found : id_at slots event ≡ id → Some event ≡ event_named slots id items
    seeks_found is =
        let step = stepped items event once seeks.on in
        let test = eq-eqb (id_at slots event) id is in
        let here : event_named slots id (event ∷ rest_from (next_after event items) items) ≡ Some event = rw test refl in
        sym here ∙ ap (event_named slots id) (sym step.rest) ∙ seeks.same

    pub seeks_next : (id_at slots event ≡ id → ⊥) → Seeks (next_after event items)
    seeks_next other =
        let step = stepped items event once seeks.on in
        let test = ne_eqb (id_at slots event) id other in
        let here : event_named slots id (event ∷ rest_from (next_after event items) items) ≡ event_named slots id (rest_from (next_after event items) items) = rw test refl in
        record {
          on = step.next_in;
          same = sym here ∙ ap (event_named slots id) (sym step.rest) ∙ seeks.same;
        }

module _ (found : ℕ) (items : List ℕ) where
  -- those that were seen, of which the found ones are waiting, and more of them may come
  pub record Fills (waiting : List ℕ) (at : Option ℕ) : Type 0 where
    pub seen : List ℕ
    pub on : IsOn at items
    pub all : seen ++ rest_from at items ≡ items
    pub are : waiting ≡ filter (has_event found) seen

  pub fills_first : Fills [] (first_of items)
  fills_first = record { seen = []; on = first_in items; all = rest_from-first items; are = refl }

  pub fills_end : (waiting : List ℕ) → Fills waiting None → waiting ≡ filter (has_event found) items
  fills_end waiting fills =
      fills.are ∙ ap (filter (has_event found)) (sym (append-nil fills.seen) ∙ fills.all)

  -- an event that isn't in a list isn't among those of it that were found
  filter_absent : (i : ℕ) (xs : List ℕ) → contains i xs ≡ false → contains i (filter (has_event found) xs) ≡ false
  filter_absent i [] h = refl
  filter_absent i (x ∷ xs) h =
      let parts = or_parts (eqb i x) (contains i xs) h in
      elim (cases_Bool (has_event found x)) [
        | inl t ↦ rw t (or_from _ _ parts.0 (filter_absent i xs parts.1))
        | inr f ↦ rw f (filter_absent i xs parts.1)
      ]

  module _ (once : IsEachOnce items) (waiting : List ℕ) (event : ℕ) (fills : Fills waiting (Some event)) where
    step : Stepped items event
    step = stepped items event once fills.on

    cut : fills.seen ++ event ∷ rest_from (next_after event items) items ≡ items
    cut = ap (λ xs. fills.seen ++ xs) (sym step.rest) ∙ fills.all

    pub fills_absent : contains event waiting ≡ false
    fills_absent =
        ap (contains event) fills.are ∙ filter_absent event fills.seen (once_middle event fills.seen (rest_from (next_after event items) items) (subst IsEachOnce (sym cut) once)).0

    pub fills_found : has_event found event ≡ true → Fills (waiting ++ event ∷ []) (next_after event items)
    fills_found test =
        let one : filter (has_event found) (event ∷ []) ≡ event ∷ [] = rw test refl in
        record {
          seen = fills.seen ++ event ∷ [];
          on = step.next_in;
          all = append_assoc fills.seen (event ∷ []) (rest_from (next_after event items) items) ∙ cut;
          are =
              ap (λ xs. xs ++ event ∷ []) fills.are ∙ ap (λ xs. filter (has_event found) fills.seen ++ xs) (sym one)
              ∙ sym (filter-append (has_event found) fills.seen (event ∷ []));
        }

    pub fills_passed : has_event found event ≡ false → Fills waiting (next_after event items)
    fills_passed test =
        let none : filter (has_event found) (event ∷ []) ≡ [] = rw test refl in
        record {
          seen = fills.seen ++ event ∷ [];
          on = step.next_in;
          all = append_assoc fills.seen (event ∷ []) (rest_from (next_after event items) items) ∙ cut;
          are =
              fills.are ∙ sym (append-nil (filter (has_event found) fills.seen)) ∙ ap (λ xs. filter (has_event found) fills.seen ++ xs) (sym none)
              ∙ sym (filter-append (has_event found) fills.seen (event ∷ []));
        }

pub fills_moved : (found : ℕ) (items waiting waiting' : List ℕ) (at at' : Option ℕ) → waiting' ≡ waiting → at' ≡ at → Fills found items waiting at → Fills found items waiting' at'
fills_moved found items waiting waiting' at at' same moved fills =
    let first : Fills found items waiting at' = subst (Fills found items waiting) (sym moved) fills in
    subst (λ xs. Fills found items xs at') (sym same) first

pub contains-filter : (found k : ℕ) (xs : List ℕ) → contains k (filter (has_event found) xs) ≡ true → contains k xs ≡ true
contains-filter found k [] h = h
contains-filter found k (x ∷ xs) h = elim (cases_Bool (has_event found x)) [
  | inl t ↦
      let among : (eqb k x || contains k (filter (has_event found) xs)) ≡ true = rw t at h in
      elim (or_cases (eqb k x) (contains k (filter (has_event found) xs)) among) [
        | inl e ↦ or_left _ _ e
        | inr rest ↦ or_right (eqb k x) _ (contains-filter found k xs rest)
      ]
  | inr f ↦ let among : contains k (filter (has_event found) xs) ≡ true = rw f at h in or_right (eqb k x) _ (contains-filter found k xs among)
]
