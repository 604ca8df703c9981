-- The lists: what each step makes of the chain of pushed waiters and of the popped list.
use Rattle.std.proofs.Common.{◌≡◌, ℕ, ◌+◌, ◌<◌, List, [], ◌∷◌, ◌++◌, reverse, refl, sym, ap, ◌∙◌, arith, append-nil, append_assoc}
use Rattle.std.proofs.lemmas.List.{reverse-append}
use Rattle.aio_chain.specs.Chains.{IsChain}
use Rattle.co_mutex.specs.Places.{ToPop, Walking, pending}

reverse_front : (p : ℕ) (xs : List ℕ) → reverse (p ∷ xs) ≡ reverse xs ++ p ∷ []
reverse_front p xs = reverse-append (p ∷ []) xs

-- a push goes behind all waiters
pub pushed_last : (waiters before stack : List ℕ) (p : ℕ) → waiters ≡ before ++ reverse stack → waiters ++ p ∷ [] ≡ before ++ reverse (p ∷ stack)
pushed_last waiters before stack p e =
    ap (λ (l : List ℕ). l ++ p ∷ []) e ∙ append_assoc before (reverse stack) (p ∷ []) ∙ ap (λ (l : List ℕ). before ++ l) (sym (reverse_front p stack))

-- the pushed list is taken whole
pub taken_last : (waiters stack : List ℕ) (word : ℕ) → waiters ≡ pending (ToPop []) ++ reverse stack → waiters ≡ pending (Walking word stack []) ++ reverse []
taken_last waiters stack word e =
    e ∙ sym (append-nil (reverse stack)) ∙ sym (append-nil (reverse stack ++ []))

-- one more of it was found
pub walked_on : (waiters rest found stack : List ℕ) (q word m : ℕ) → waiters ≡ pending (Walking word (q ∷ rest) found) ++ reverse stack → waiters ≡ pending (Walking m rest (q ∷ found)) ++ reverse stack
walked_on waiters rest found stack q word m e =
    e ∙ ap (λ (l : List ℕ). (l ++ found) ++ reverse stack) (reverse_front q rest) ∙ ap (λ (l : List ℕ). l ++ reverse stack) (append_assoc (reverse rest) (q ∷ []) found)

-- what a next load makes of a walk: the word leads to a waiter, and the load to what follows it
pub record Walks (next : ℕ → ℕ) (word : ℕ) (left : List ℕ) : Type 0 where
  pub q : ℕ
  pub word_is : word ≡ q + 1
  pub rest : List ℕ
  pub left_is : left ≡ q ∷ rest
  pub chain : IsChain next (next q) rest

pub walk_of : (next : ℕ → ℕ) (word : ℕ) (left : List ℕ) → 0 < word → IsChain next word left → Walks next word left
walk_of next word [] low chain = absurd (omega (arith, low, chain))
walk_of next word (q ∷ rest) low chain =
    record { q = q; word_is = chain.0; rest = rest; left_is = refl; chain = chain.1 }
