-- What the places of handlers keep where one is put or taken.
use Rattle.std.proofs.Common.{◌≡◌, ℕ, ◌+◌, ◌<◌, ◌≤◌, true, false, List, [], ◌∷◌, ◌++◌, length, length-append, sym, ◌∙◌, ap, subst, inl, inr, arith}
use Rattle.std.proofs.lemmas.Bool.{both_ways, cases_eq}
use Rattle.slab.specs.Slab.{get}
use Rattle.aio_chain.specs.LinkList.{contains, without, IsEachOnce}
use Rattle.aio_chain.proofs.Contained.{once_push, length-le_room}
use Rattle.aio_chain.proofs.Steps.{contains-without_same, contains-from_without}
use Rattle.aio_handlers.specs.declared.places.Slot.{Slot}
use Rattle.aio_handlers.specs.declared.places.Places.{Places}
use Rattle.aio_handlers.specs.Slots.{or_no_slot, key_of, slot_of, id_at}
use Rattle.aio_handlers.specs.Placing.{HasSlot, AllHaveSlots, Puts, TakesEvent}
use Rattle.aio_handlers.proofs.Watched.{contains-push_other}

-- where an event has no handler, fewer than all have one
pub has_place : (live : List ℕ) (event room : ℕ) → IsEachOnce live → ((i : ℕ) → contains i live ≡ true → i < room) → event < room → contains event live ≡ false → length live + 1 ≤ room
has_place live event room once below low absent =
    let all : (i : ℕ) → contains i (live ++ event ∷ []) ≡ true → i < room = λ i h. elim (cases_eq i event) [
      | inl e ↦ omega arith
      | inr ne ↦ below i (sym (contains-push_other i event live ne) ∙ h)
    ] in
    let short = length-le_room (live ++ event ∷ []) room (once_push event live absent once) all in
    omega (arith, short, length-append live (event ∷ []))

-- numbers that are below a bound, and tell events apart
pub record AreNumbered (slots : ℕ → Slot) (live : List ℕ) (added : ℕ) : Type 0 where
  pub below : (event : ℕ) → contains event live ≡ true → id_at slots event < added
  pub apart : (event other : ℕ) → contains event live ≡ true → contains other live ≡ true → id_at slots event ≡ id_at slots other → event ≡ other

module _ (old new : Places) (live : List ℕ) (have : AllHaveSlots old live) (event : ℕ) where
  module _ (slot : Slot) (puts : Puts old new event slot) (absent : contains event live ≡ false) where
    other_put : (k : ℕ) → contains k live ≡ true → k ≡ event → ⊥
    other_put k h e = both_ways (contains event live) absent (sym (ap (λ x. contains x live) e) ∙ h)

    pub slots_put : (k : ℕ) → contains k live ≡ true → slot_of new k ≡ slot_of old k
    slots_put k h = puts.others k (other_put k h) (have k h)

    pub have_put : AllHaveSlots new (live ++ event ∷ [])
    have_put = λ k h. elim (cases_eq k event) [
      | inl e ↦ subst (HasSlot new) (sym e) puts.has
      | inr ne ↦ puts.have k ne (have k (sym (contains-push_other k event live ne) ∙ h))
    ]

    pub numbered_put : (added : ℕ) → AreNumbered (slot_of old) live added → slot.id ≡ added → AreNumbered (slot_of new) (live ++ event ∷ []) (added + 1)
    numbered_put added numbered is =
        let mine : (k : ℕ) → k ≡ event → id_at (slot_of new) k ≡ added = λ k e. ap (id_at (slot_of new)) e ∙ ap (λ (s : Slot). s.id) puts.here ∙ is in
        let was : (k : ℕ) → contains k (live ++ event ∷ []) ≡ true → (k ≡ event → ⊥) → contains k live ≡ true = λ k h ne. sym (contains-push_other k event live ne) ∙ h in
        let same : (k : ℕ) → contains k live ≡ true → id_at (slot_of new) k ≡ id_at (slot_of old) k = λ k h. ap (λ (s : Slot). s.id) (slots_put k h) in
        record {
          below = λ k h. elim (cases_eq k event) [
            | inl e ↦ omega (arith, mine k e)
            | inr ne ↦ omega (arith, same k (was k h ne), numbered.below k (was k h ne))
          ];
          apart = λ k j h g e. elim (cases_eq k event) [
            | inl ke ↦ elim (cases_eq j event) [
              | inl je ↦ ke ∙ sym je
              | inr nj ↦ absurd (omega (arith, e, mine k ke, same j (was j g nj), numbered.below j (was j g nj)))
            ]
            | inr nk ↦ elim (cases_eq j event) [
              | inl je ↦ absurd (omega (arith, e, mine j je, same k (was k h nk), numbered.below k (was k h nk)))
              | inr nj ↦ numbered.apart k j (was k h nk) (was j g nj) (sym (same k (was k h nk)) ∙ e ∙ same j (was j g nj))
            ]
          ];
        }

  module _ (takes : TakesEvent old new event) (here : contains event live ≡ true) (added : ℕ) (numbered : AreNumbered (slot_of old) live added) where
    left : (k : ℕ) → contains k (without event live) ≡ true → contains k live ≡ true
    left k h = contains-from_without k event live h

    key_apart : (k : ℕ) → contains k (without event live) ≡ true → key_of old k ≡ key_of old event → ⊥
    key_apart k h e =
        let same : k ≡ event = numbered.apart k event (left k h) here (ap (λ key. (or_no_slot (get old.slab key)).id) e) in
        both_ways (contains k (without event live)) (ap (λ x. contains x (without event live)) same ∙ contains-without_same event live) h

    pub slots_taken : (k : ℕ) → contains k (without event live) ≡ true → slot_of new k ≡ slot_of old k
    slots_taken k h = takes.others k (key_apart k h)

    pub have_taken : AllHaveSlots new (without event live)
    have_taken = λ k h. takes.have k (key_apart k h) (have k (left k h))

    pub numbered_taken : AreNumbered (slot_of new) (without event live) added
    numbered_taken =
        let same : (k : ℕ) → contains k (without event live) ≡ true → id_at (slot_of new) k ≡ id_at (slot_of old) k = λ k h. ap (λ (s : Slot). s.id) (slots_taken k h) in
        record {
          below = λ k h. omega (arith, same k h, numbered.below k (left k h));
          apart = λ k j h g e. numbered.apart k j (left k h) (left j g) (sym (same k h) ∙ e ∙ same j g);
        }
