-- Passes that lie where their numbers are, are all of a lock.
use Rattle.std.proofs.Common.{◌≡◌, ℕ, zero, suc, ◌<◌, List, [], ◌∷◌, ◌++◌, length, refl, sym, ap, subst, arith, ⊎_elim}
use mathlib.Core.Option.{some, some-ne-none}
use lib.ListN.{get_elem?}
use Rattle.co_mutex.specs.declared.lock.CoMutex.{CoMutex}
use Rattle.co_mutex.specs.declared.lock.Pass.{Pass}
use Rattle.co_mutex.specs.Passes.{IsNew, passes_of}
use Rattle.co_mutex.specs.Closing.{AreAll}
use Rattle.co_mutex.proofs.Deals.{at_snoc_index}
use Rattle.co_mutex.specs.Decks.{IsResting, AreResting}

pub there_is : {A : Type 0} (xs : List A) (k : ℕ) → k < length xs → (a : A) × (get_elem? xs k ≡ some a)
there_is [] k low = absurd (omega (arith, low))
there_is (x ∷ xs) zero low = (x, refl)
there_is (x ∷ xs) (suc k) low = there_is xs k (omega (arith, low))

module _ {A : Type 0} where
  pub at_front : (xs : List A) (p q : A) (k : ℕ) → get_elem? xs k ≡ some q → get_elem? (xs ++ p ∷ []) k ≡ some q
  at_front [] p q k at = absurd (some-ne-none q (sym at))
  at_front (x ∷ xs) p q zero at = at
  at_front (x ∷ xs) p q (suc k) at = at_front xs p q k at

  pub at_end : (xs : List A) (p : A) → get_elem? (xs ++ p ∷ []) (length xs) ≡ some p
  at_end [] p = refl
  at_end (x ∷ xs) p = at_end xs p

module _ {P T N : Type 0} (m : CoMutex P T N) where
  pub new_rest : (k : ℕ) (p : Pass P T N) → IsNew m k p → IsResting m k p
  new_rest k p new =
      (new.is, ap (λ v. v.place) new.known_is, ap (λ v. v.number) new.known_is)

  pub are_all : (passes : List (Pass P T N)) → passes_of m ≡ length passes → AreResting m passes → AreAll m passes
  are_all passes long each =
      record {
        each = λ p t. ((each t.0 p t.1).0, (each t.0 p t.1).1);
        all = λ k low. let there = there_is passes k (subst (λ n. k < n) long low) in (there.0, (k, there.1), (each k there.0 there.1).2);
      }

  -- one more behind them
  pub one_more : (old new : List (Pass P T N)) (p : Pass P T N) → new ≡ old ++ p ∷ [] → AreResting m old → IsResting m (length old) p → AreResting m new
  one_more old new p e each last k q at =
      ⊎_elim (λ t. each k q t) (λ t. subst (λ z. IsResting m z q) (sym t.0) (subst (IsResting m (length old)) t.1 last)) (at_snoc_index old p q k (subst (λ (l : List (Pass P T N)). get_elem? l k ≡ some q) e at))

  -- the last one, and those before it
  pub last_one : (old new : List (Pass P T N)) (p : Pass P T N) → old ≡ new ++ p ∷ [] → AreResting m old → IsResting m (length new) p
  last_one old new p e each =
      each (length new) p (subst (λ (l : List (Pass P T N)). get_elem? l (length new) ≡ some p) (sym e) (at_end new p))

  pub before_it : (old new : List (Pass P T N)) (p : Pass P T N) → old ≡ new ++ p ∷ [] → AreResting m old → AreResting m new
  before_it old new p e each k q at =
      each k q (subst (λ (l : List (Pass P T N)). get_elem? l k ≡ some q) (sym e) (at_front new p q k at))
