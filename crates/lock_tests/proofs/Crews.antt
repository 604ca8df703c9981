-- Players that come, go, and are put back where they stood.
use Rattle.std.proofs.Common.{◌≡◌, ℕ, zero, suc, ◌<◌, Option, Some, None, List, [], ◌∷◌, ◌++◌, length, slice_set, slice_index_or, refl, sym, ap, ◌∙◌, subst, arith, ⊎_elim, ◌⊎◌, inl, inr}
use mathlib.Core.Option.{some, some-ne-none, some-injective}
use lib.ListN.{get_elem?}
use Rattle.co_mutex.specs.declared.lock.CoMutex.{CoMutex}
use Rattle.co_mutex.proofs.Deals.{at_snoc_index}
use Rattle.lock_tests.specs.declared.number.Number.{Number}
use Rattle.lock_tests.specs.declared.player.Player.{Player}
use Rattle.lock_tests.specs.Crews.{IsPlayerOf, ArePlayersOf}
use Rattle.co_mutex.proofs.Decks.{at_front, at_end}

module _ {A : Type 0} where
  pub at_index : (xs : List A) (k : ℕ) (d : A) → k < length xs → get_elem? xs k ≡ some (slice_index_or xs k d)
  at_index [] k d low = absurd (omega (arith, low))
  at_index (x ∷ xs) zero d low = refl
  at_index (x ∷ xs) (suc k) d low = at_index xs k d (omega (arith, low))

  pub after_set : (xs : List A) (k j : ℕ) (x y : A) → get_elem? (slice_set xs k x) j ≡ some y → ((j ≡ k) × (x ≡ y)) ⊎ (get_elem? xs j ≡ some y)
  after_set [] k j x y at = absurd (some-ne-none y (sym at))
  after_set (z ∷ xs) zero zero x y at = inl (refl, some-injective x y at)
  after_set (z ∷ xs) zero (suc j) x y at = inr at
  after_set (z ∷ xs) (suc k) zero x y at = inr at
  after_set (z ∷ xs) (suc k) (suc j) x y at =
      ⊎_elim (λ t. inl (ap suc t.0, t.1)) (λ t. inr t) (after_set xs k j x y at)

module _ (m : CoMutex Number ℕ ℕ) (n : ℕ) where
  pub set_seat : (xs : List (Option Player)) (k : ℕ) (seat : Option Player) → ArePlayersOf m n xs → ((p : Player) → seat ≡ Some p → IsPlayerOf m n k p) → ArePlayersOf m n (slice_set xs k seat)
  set_seat xs k seat each fits j p at =
      ⊎_elim (λ t. subst (λ i. IsPlayerOf m n i p) (sym t.0) (fits p t.1)) (λ t. each j p t) (after_set xs k j seat (Some p) at)

abbrev IsNobody : Option Player → Type 0
IsNobody None = Unit {0}
IsNobody (Some p) = ⊥

abbrev player_in : Player → Option Player → Player
player_in p None = p
player_in p (Some q) = q

module _ (m : CoMutex Number ℕ ℕ) (n : ℕ) where
  -- one goes
  pub goes : (xs : List (Option Player)) (k : ℕ) (seat : Option Player) → ArePlayersOf m n xs → seat ≡ None → ArePlayersOf m n (slice_set xs k seat)
  goes xs k seat each gone =
      set_seat m n xs k seat each (λ p is. absurd (subst IsNobody (sym gone ∙ is) tt))

  -- one comes
  pub comes : (xs : List (Option Player)) (k : ℕ) (seat : Option Player) (q : Player) → ArePlayersOf m n xs → seat ≡ Some q → IsPlayerOf m n k q → ArePlayersOf m n (slice_set xs k seat)
  comes xs k seat q each here fit =
      set_seat m n xs k seat each (λ p is. subst (IsPlayerOf m n k) (ap (player_in q) (sym here ∙ is)) fit)

  -- who was at a place
  pub was_there : (xs : List (Option Player)) (k : ℕ) (d found : Option Player) (q : Player) → ArePlayersOf m n xs → k < length xs → found ≡ slice_index_or xs k d → Some q ≡ found → IsPlayerOf m n k q
  was_there xs k d found q each low is here =
      each k q (at_index xs k d low ∙ ap some (sym is ∙ sym here))

  -- one comes behind all
  pub comes_behind : (old new : List (Option Player)) (q : Player) → new ≡ old ++ Some q ∷ [] → ArePlayersOf m n old → IsPlayerOf m n (length old) q → ArePlayersOf m n new
  comes_behind old new q e each last k p at =
      ⊎_elim (λ t. each k p t) (λ t. subst (λ z. IsPlayerOf m n z p) (sym t.0) (subst (IsPlayerOf m n (length old)) (ap (player_in q) t.1) last)) (at_snoc_index old (Some q) (Some p) k (subst (λ (l : List (Option Player)). get_elem? l k ≡ some (Some p)) e at))

  -- the last one
  pub was_last : (old new : List (Option Player)) (q : Player) → old ≡ new ++ Some q ∷ [] → ArePlayersOf m n old → IsPlayerOf m n (length new) q
  was_last old new q e each =
      each (length new) q (subst (λ (l : List (Option Player)). get_elem? l (length new) ≡ some (Some q)) (sym e) (at_end new (Some q)))

  -- and those before it
  pub were_before : (old new : List (Option Player)) (seat : Option Player) → old ≡ new ++ seat ∷ [] → ArePlayersOf m n old → ArePlayersOf m n new
  were_before old new seat e each k q at =
      each k q (subst (λ (l : List (Option Player)). get_elem? l k ≡ some (Some q)) (sym e) (at_front new seat (Some q) k at))
