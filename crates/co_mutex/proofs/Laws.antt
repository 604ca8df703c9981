-- Laws of legal lock histories: no pass waits twice, and the owner doesn't wait.
use Rattle.std.proofs.Common.{◌≡◌, ℕ, inl, inr, ⊎_elim, Some, List, [], ◌∷◌, ◌++◌, sym, ap, ◌∙◌, subst}
use Rattle.aio_model.specs.Lock.History.{LockEntry, Got, Wait, Grant, Release, IsWaitingIn, IsFirst, without_first, owner_of, waiters_of, IsLegalLock}
use Rattle.co_mutex.proofs.WaitLists.{waits_either}

pub not_member : ℕ → List ℕ → Type 0
not_member p xs = ¬ (IsWaitingIn p xs)

abbrev pub Once : List ℕ → Type 0
Once [] = Unit {0}
Once (q ∷ rest) = ¬ (IsWaitingIn q rest) × Once rest

pub once_tail : (xs : List ℕ) → Once xs → Once (without_first xs)
once_tail [] o = tt
once_tail (x ∷ xs) o = o.1

pub once_last : (xs : List ℕ) (p : ℕ) → Once xs → ¬ (IsWaitingIn p xs) → Once (xs ++ p ∷ [])
once_last [] p o isnt = ((λ w. w), tt)
once_last (x ∷ xs) p o isnt =
    ((λ w. ⊎_elim (λ a. o.0 a) (λ c. ⊎_elim (λ e. isnt (inl (sym e))) (λ k. k) c) (waits_either x xs (p ∷ []) w)), once_last xs p o.1 (λ w. isnt (inr w)))

pub tail_waits : (r : ℕ) (xs : List ℕ) → IsWaitingIn r (without_first xs) → IsWaitingIn r xs
tail_waits r [] w = w
tail_waits r (x ∷ xs) w = inr w

pub first_gone : (q : ℕ) (xs : List ℕ) → Once xs → IsFirst q xs → ¬ (IsWaitingIn q (without_first xs))
first_gone q [] o f w = f
first_gone q (x ∷ xs) o f w = o.0 (subst (λ k. IsWaitingIn k xs) (sym f) w)

some_same : (a c : ℕ) → Some a ≡ Some c → a ≡ c
some_same a c e = cc

module _ {T : Type 0} where
  pub legal_once : (h : List (LockEntry T)) → IsLegalLock h → Once (waiters_of h)
  legal_once [] l = tt
  legal_once (Got p ∷ h) l = legal_once h l.1
  legal_once (Wait p co ∷ h) l = once_last (waiters_of h) p (legal_once h l.1) l.0.1
  legal_once (Grant p q ∷ h) l = once_tail (waiters_of h) (legal_once h l.1)
  legal_once (Release p x ∷ h) l = legal_once h l.1

  pub legal_owner : (h : List (LockEntry T)) (p : ℕ) → IsLegalLock h → owner_of h ≡ Some p → ¬ (IsWaitingIn p (waiters_of h))
  legal_owner [] p l o w = w
  legal_owner (Got q ∷ h) p l o w = subst (IsWaitingIn p) l.0.1 w
  legal_owner (Wait q co ∷ h) p l o w =
      ⊎_elim (λ a. legal_owner h p l.1 o a) (λ c. ⊎_elim (λ e. l.0.0 (o ∙ ap Some (sym e))) (λ k. k) c) (waits_either p (waiters_of h) (q ∷ []) w)
  legal_owner (Grant q r ∷ h) p l o w =
      first_gone r (waiters_of h) (legal_once h l.1) l.0.1 (subst (λ k. IsWaitingIn k (without_first (waiters_of h))) (sym (some_same r p o)) w)
  legal_owner (Release q x ∷ h) p l o w = absurd cc
