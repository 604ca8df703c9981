-- The handlers that a list of events names, where the list or the slots change.
use Rattle.std.proofs.Common.{◌≡◌, ℕ, ◌+◌, true, false, cond, eqb, List, [], ◌∷◌, length, filter, Some, None, option_map, refl, sym, ◌∙◌, ap, subst, inl, inr, arith, length-append}
use Rattle.std.proofs.lemmas.Bool.{false≢true, cases_Bool, eq-eqb, ne_eqb, eqb-true, eqb-false, or_left, or_right, or_cases}
use Rattle.aio_chain.specs.LinkList.{contains, without, IsEachOnce}
use Rattle.aio_chain.proofs.Contained.{split_at, once_middle}
use Rattle.aio_chain.proofs.Steps.{without-split}
use Rattle.aio_model.specs.declared.handlers.calls.Handler.{Handler}
use Rattle.aio_model.specs.Handlers.Calls.{named, others, on_event, has_event}
use Rattle.aio_handlers.specs.declared.places.Slot.{Slot}
use Rattle.aio_handlers.specs.Slots.{id_at, handler_at, handlers_at, event_named}

-- a list is one shorter without an index of it
pub length-without : (i : ℕ) (xs : List ℕ) → IsEachOnce xs → contains i xs ≡ true → length (without i xs) + 1 ≡ length xs
length-without i xs once here =
    let cut = split_at i xs here in
    let behind = (once_middle i cut.front cut.back (subst IsEachOnce cut.is once)).1 in
    let e = ap length (ap (without i) cut.is ∙ without-split i cut.front cut.back cut.absent behind) in
    omega (arith, e, ap length cut.is, length-append cut.front cut.back, length-append cut.front (i ∷ cut.back))

module _ (slots slots' : ℕ → Slot) where
  -- events whose slots stay as they are name the same handlers
  pub handlers_at-same : (events : List ℕ) → ((event : ℕ) → contains event events ≡ true → slots' event ≡ slots event) → handlers_at slots' events ≡ handlers_at slots events
  handlers_at-same [] same = refl
  handlers_at-same (x ∷ events) same =
      let here : handler_at slots' x ≡ handler_at slots x = ap (λ (s : Slot). let h : Handler = record { id = s.id; event = x; tag = s.tag } in h) (same x (or_left _ _ (eq-eqb x x refl))) in
      ap (λ h. h ∷ handlers_at slots' events) here ∙ ap (λ hs. handler_at slots x ∷ hs) (handlers_at-same events (λ event h. same event (or_right (eqb event x) _ h)))

module _ (slots : ℕ → Slot) where
  -- of these events no other has the number of this one
  abbrev pub Apart : ℕ → List ℕ → Type 0
  Apart event events = (other : ℕ) → contains other events ≡ true → eqb event other ≡ eqb (id_at slots other) (id_at slots event)

  pub handlers_at-without : (event : ℕ) (events : List ℕ) → Apart event events → handlers_at slots (without event events) ≡ others (id_at slots event) (handlers_at slots events)
  handlers_at-without event [] apart = refl
  handlers_at-without event (x ∷ events) apart =
      let same = apart x (or_left _ _ (eq-eqb x x refl)) in
      let rest = handlers_at-without event events (λ other h. apart other (or_right (eqb other x) _ h)) in
      elim (cases_Bool (eqb event x)) [
        | inl t ↦ let id = sym same ∙ t in rw (t, id) rest
        | inr f ↦ let id = sym same ∙ f in rw (f, id) (ap (λ hs. handler_at slots x ∷ hs) rest)
      ]

  pub named-handlers_at : (id : ℕ) (events : List ℕ) → named id (handlers_at slots events) ≡ option_map (handler_at slots) (event_named slots id events)
  named-handlers_at id [] = refl
  named-handlers_at id (x ∷ events) = elim (cases_Bool (eqb (id_at slots x) id)) [
    | inl t ↦ rw t refl
    | inr f ↦ rw f (named-handlers_at id events)
  ]

  pub on_event-handlers_at : (event : ℕ) (events : List ℕ) → on_event event (handlers_at slots events) ≡ cond (contains event events) (Some (handler_at slots event)) None
  on_event-handlers_at event [] = refl
  on_event-handlers_at event (x ∷ events) = elim (cases_Bool (eqb event x)) [
    | inl t ↦
        let same = eqb-true event x t in
        let back = eq-eqb x event (sym same) in
        rw (t, back) (ap (λ e. Some (handler_at slots e)) (sym same))
    | inr f ↦
        let back = ne_eqb x event (λ e. eqb-false event x f (sym e)) in
        rw (f, back) (on_event-handlers_at event events)
  ]

  pub handlers_at-filter : (found : ℕ) (events : List ℕ) → handlers_at slots (filter (has_event found) events) ≡ filter (λ handler. has_event found handler.event) (handlers_at slots events)
  handlers_at-filter found [] = refl
  handlers_at-filter found (x ∷ events) = elim (cases_Bool (has_event found x)) [
    | inl t ↦ rw t (ap (λ hs. handler_at slots x ∷ hs) (handlers_at-filter found events))
    | inr f ↦ rw f (handlers_at-filter found events)
  ]

  -- the event that was sought
  pub record IsNamed (id : ℕ) (events : List ℕ) (event : ℕ) : Type 0 where
    pub is_in : contains event events ≡ true
    pub has_id : id_at slots event ≡ id

  pub is_named : (id : ℕ) (events : List ℕ) (event : ℕ) → event_named slots id events ≡ Some event → IsNamed id events event
  is_named id [] event e = absurd (cc)
  is_named id (x ∷ events) event e = elim (cases_Bool (eqb (id_at slots x) id)) [
    | inl t ↦
        let found : Some x ≡ Some event = rw t at e in
        let same : event ≡ x = cc in
        record {
          is_in = or_left _ _ (eq-eqb event x same);
          has_id = ap (id_at slots) same ∙ eqb-true (id_at slots x) id t;
        }
    | inr f ↦
        let found : event_named slots id events ≡ Some event = rw f at e in
        let rest = is_named id events event found in
        record { is_in = or_right (eqb event x) _ rest.is_in; has_id = rest.has_id }
  ]

  -- no event that is none of those sought has the number
  pub none_named : (id : ℕ) (events : List ℕ) → event_named slots id events ≡ None → (event : ℕ) → contains event events ≡ true → eqb (id_at slots event) id ≡ false
  none_named id [] e event h = absurd (false≢true h)
  none_named id (x ∷ events) e event h = elim (cases_Bool (eqb (id_at slots x) id)) [
    | inl t ↦
        let found : Some x ≡ None = rw t at e in
        absurd (cc)
    | inr f ↦
        let rest : event_named slots id events ≡ None = rw f at e in
        elim (or_cases (eqb event x) (contains event events) h) [
          | inl same ↦ ap (λ k. eqb (id_at slots k) id) (eqb-true event x same) ∙ f
          | inr later ↦ none_named id events rest event later
        ]
  ]

  -- where none has the number, none is left out
  pub others-absent : (id : ℕ) (events : List ℕ) → ((event : ℕ) → contains event events ≡ true → eqb (id_at slots event) id ≡ false) → others id (handlers_at slots events) ≡ handlers_at slots events
  others-absent id [] h = refl
  others-absent id (x ∷ events) h =
      let here = h x (or_left _ _ (eq-eqb x x refl)) in
      rw here (ap (λ hs. handler_at slots x ∷ hs) (others-absent id events (λ event k. h event (or_right (eqb event x) _ k))))
