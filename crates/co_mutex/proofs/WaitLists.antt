-- Who waits, in lists put together and reversed.
use Rattle.std.proofs.Common.{◌≡◌, ℕ, ◌⊎◌, inl, inr, ⊎_elim, List, [], ◌∷◌, ◌++◌, reverse, refl, sym, subst}
use Rattle.std.proofs.lemmas.List.{reverse-append}
use Rattle.aio_chain.proofs.Chains.{Each, each_of}
use Rattle.aio_model.specs.Lock.History.{IsWaitingIn}

pub waits_front : (i : ℕ) (xs ys : List ℕ) → IsWaitingIn i xs → IsWaitingIn i (xs ++ ys)
waits_front i [] ys w = absurd w
waits_front i (x ∷ xs) ys w = ⊎_elim (λ e. inl e) (λ r. inr (waits_front i xs ys r)) w

pub waits_back : (i : ℕ) (xs ys : List ℕ) → IsWaitingIn i ys → IsWaitingIn i (xs ++ ys)
waits_back i [] ys w = w
waits_back i (x ∷ xs) ys w = inr (waits_back i xs ys w)

pub waits_either : (i : ℕ) (xs ys : List ℕ) → IsWaitingIn i (xs ++ ys) → IsWaitingIn i xs ⊎ IsWaitingIn i ys
waits_either i [] ys w = inr w
waits_either i (x ∷ xs) ys w =
    ⊎_elim (λ e. inl (inl e)) (λ r. ⊎_elim (λ a. inl (inr a)) (λ b. inr b) (waits_either i xs ys r)) w

pub each_reversed : (xs : List ℕ) → Each (λ i. IsWaitingIn i (reverse xs)) xs
each_reversed [] = tt
each_reversed (x ∷ xs) =
    let turned : reverse (x ∷ xs) ≡ reverse xs ++ x ∷ [] = reverse-append (x ∷ []) xs in
    (subst (IsWaitingIn x) (sym turned) (waits_back x (reverse xs) (x ∷ []) (inl refl)), each_of (λ i. IsWaitingIn i (reverse xs)) (λ i. IsWaitingIn i (reverse (x ∷ xs))) xs (λ i w. subst (IsWaitingIn i) (sym turned) (waits_front i (reverse xs) (x ∷ []) w)) (each_reversed xs))

-- those in the pushed list wait
pub stack_waits : (waiters before stack : List ℕ) → waiters ≡ before ++ reverse stack → Each (λ i. IsWaitingIn i waiters) stack
stack_waits waiters before stack e =
    each_of (λ i. IsWaitingIn i (reverse stack)) (λ i. IsWaitingIn i waiters) stack (λ i w. subst (IsWaitingIn i) (sym e) (waits_back i before (reverse stack) w)) (each_reversed stack)

-- so do those that are left of a walk
pub left_waits : (waiters left found stack : List ℕ) → waiters ≡ (reverse left ++ found) ++ reverse stack → Each (λ i. IsWaitingIn i waiters) left
left_waits waiters left found stack e =
    each_of (λ i. IsWaitingIn i (reverse left)) (λ i. IsWaitingIn i waiters) left (λ i w. subst (IsWaitingIn i) (sym e) (waits_front i (reverse left ++ found) (reverse stack) (waits_front i (reverse left) found w))) (each_reversed left)
