-- The word of the events that are watched, where an event more is watched or one fewer.
use Rattle.std.proofs.Common.{◌≡◌, ℕ, ◌<◌, Bool, true, false, ◌||◌, List, [], ◌∷◌, ◌++◌, refl, sym, ◌∙◌, ap, inl, inr}
use Rattle.std.proofs.lemmas.Bool.{cases_eq, ne_eqb}
use Rattle.aio_chain.specs.LinkList.{contains, without}
use Rattle.aio_chain.proofs.Contained.{contains-append, contains-middle}
use Rattle.aio_chain.proofs.Steps.{contains-without_same, contains-without_other}
use Rattle.aio_model.specs.Handlers.Calls.{has_event}
use Rattle.aio_handlers.specs.Kept.{AreWatched}

or_none : (b : Bool) → (b || (false || false)) ≡ b
or_none true = refl
or_none false = refl

-- another index is in a list as before where one is put behind it
pub contains-push_other : (k i : ℕ) (xs : List ℕ) → (k ≡ i → ⊥) → contains k (xs ++ i ∷ []) ≡ contains k xs
contains-push_other k i xs differ =
    contains-append k xs (i ∷ []) ∙ ap (λ b. contains k xs || (b || false)) (ne_eqb k i differ) ∙ or_none (contains k xs)

module _ (old new : ℕ) (events : List ℕ) (event : ℕ) (watched : AreWatched old events)
    (others : (other : ℕ) → other < 64 → (other ≡ event → ⊥) → has_event new other ≡ has_event old other) where
  pub watched_more : has_event new event ≡ true → AreWatched new (events ++ event ∷ [])
  watched_more set = λ k low. elim (cases_eq k event) [
    | inl e ↦ ap (has_event new) e ∙ set ∙ sym (ap (λ i. contains i (events ++ event ∷ [])) e ∙ contains-middle event events [])
    | inr ne ↦ others k low ne ∙ watched k low ∙ sym (contains-push_other k event events ne)
  ]

  pub watched_fewer : has_event new event ≡ false → AreWatched new (without event events)
  watched_fewer cleared = λ k low. elim (cases_eq k event) [
    | inl e ↦ ap (has_event new) e ∙ cleared ∙ sym (ap (λ i. contains i (without event events)) e ∙ contains-without_same event events)
    | inr ne ↦ others k low ne ∙ watched k low ∙ sym (contains-without_other k event events (ne_eqb k event ne))
  ]
