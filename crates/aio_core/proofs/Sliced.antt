-- The home's slices: what taking, lifting and dequeuing make of them.
use Rattle.std.proofs.Common.{◌≡◌, ℕ, ◌+◌, ◌<◌, ◌≤◌, Bool, true, false, cond, eqb, Option, Some, None, List, [], ◌∷◌, ◌++◌, refl, sym, ap, ◌∙◌, subst, arith, append-nil}
use Rattle.std.proofs.lemmas.Bool.{eqb-true, eqb-false}
use Rattle.aio_chain.specs.Chains.{IsChain, AreChains}
use Rattle.aio_chain.proofs.Chains.{Each, taken_whole, none_taken, first_of_chain}
use Rattle.aio_core.specs.Rule.{IsOut, NoneEmpty}
use Rattle.aio_core.specs.Standing.{is_empty, with_slice, without_first}

-- the word that leads to a chain is a member's or 0
pub chain_word_below : (next : ℕ → ℕ) (word k : ℕ) (xs : List ℕ) → IsChain next word xs → Each (λ i. i < k) xs → word ≤ k
chain_word_below next word k [] h below = omega arith
chain_word_below next word k (x ∷ xs) h below =
    let is = h.0 in let low = below.0 in omega arith

-- a chain is empty exactly where its word is 0
full_front : (next : ℕ → ℕ) (word : ℕ) (xs ys : List ℕ) → 0 < word → IsChain next word xs → is_empty (xs ++ ys) ≡ false
full_front next word [] ys some_word h = absurd (omega arith)
full_front next word (x ∷ xs) ys some_word h = refl

-- nothing is out exactly where no slice is left
pub chains_empty : (next : ℕ → ℕ) (words items : List ℕ) → AreChains next words items → NoneEmpty words → is_empty words ≡ is_empty items
chains_empty next [] items h full = ap is_empty (sym h)
chains_empty next (word ∷ words) items h full =
    sym (ap is_empty h.2 ∙ full_front next word h.0 h.1 full.0 h.3)

none_empty-push : (words : List ℕ) (word : ℕ) → NoneEmpty words → 0 < word → NoneEmpty (words ++ word ∷ [])
none_empty-push [] word h full = (full, tt)
none_empty-push (w ∷ words) word h full = (h.0, none_empty-push words word h.1 full)

module _ (next : ℕ → ℕ) (slices : List ℕ) (word : ℕ) (stack : List ℕ) (chain : IsChain next word stack) where
  chains_taken : (items : List ℕ) (b : Bool) → eqb word 0 ≡ b → AreChains next slices items → AreChains next (cond b slices (slices ++ word ∷ [])) (items ++ stack)
  chains_taken items true is h =
      let none = none_taken next word stack chain (eqb-true word 0 is) in
      subst (AreChains next slices) (sym (ap (λ (l : List ℕ). items ++ l) none ∙ append-nil items)) h
  chains_taken items false is h = taken_whole next slices word items stack h chain

  -- the stack goes behind all that is out
  pub out_taken : (hand : Option ℕ) (out : List ℕ) → IsOut next slices hand out → IsOut next (with_slice slices word) hand (out ++ stack)
  out_taken None out h = chains_taken out (eqb word 0) refl h
  out_taken (Some i) out h =
      (h.0 ++ stack, ap (λ (l : List ℕ). l ++ stack) h.1, chains_taken h.0 (eqb word 0) refl h.2)

  none_empty_by : (b : Bool) → eqb word 0 ≡ b → NoneEmpty slices → NoneEmpty (cond b slices (slices ++ word ∷ []))
  none_empty_by true is h = h
  none_empty_by false is h =
      none_empty-push slices word h (let no = eqb-false word 0 is in omega arith)

  pub none_empty-taken : NoneEmpty slices → NoneEmpty (with_slice slices word)
  none_empty-taken = none_empty_by (eqb word 0) refl

module _ (next : ℕ → ℕ) (i : ℕ) (more : List ℕ) where
  chains_lifted : (items back : List ℕ) (b : Bool) → eqb (next i) 0 ≡ b → IsChain next (next i) items → AreChains next more back → AreChains next (cond b more (next i ∷ more)) (items ++ back)
  chains_lifted items back true is chain rest =
      let none = none_taken next (next i) items chain (eqb-true (next i) 0 is) in
      subst (AreChains next more) (sym (ap (λ (l : List ℕ). l ++ back) none)) rest
  chains_lifted items back false is chain rest = (items, back, refl, chain, rest)

  -- the first of the first slice goes into the hand
  pub out_lifted : (out : List ℕ) → IsOut next ((i + 1) ∷ more) None out → IsOut next (without_first (next i) more) (Some i) out
  out_lifted out h =
      let first = first_of_chain next i h.0 h.3 in
      (first.0 ++ h.1, h.2 ∙ ap (λ (l : List ℕ). l ++ h.1) first.1, chains_lifted first.0 h.1 (eqb (next i) 0) refl first.2 h.4)

  none_empty_lift : (b : Bool) → eqb (next i) 0 ≡ b → NoneEmpty more → NoneEmpty (cond b more (next i ∷ more))
  none_empty_lift true is h = h
  none_empty_lift false is h = ((let no = eqb-false (next i) 0 is in omega arith), h)

  pub none_empty-lifted : NoneEmpty more → NoneEmpty (without_first (next i) more)
  none_empty-lifted = none_empty_lift (eqb (next i) 0) refl

-- what follows the one that is lifted is out, or nothing
pub lifted_word_below : (next : ℕ → ℕ) (i k : ℕ) (more out : List ℕ) → IsOut next ((i + 1) ∷ more) None out → Each (λ j. j < k) out → next i ≤ k
lifted_word_below next i k more out h below =
    let first = first_of_chain next i h.0 h.3 in
    let all : Each (λ j. j < k) (i ∷ (first.0 ++ h.1)) = subst (Each (λ j. j < k)) (h.2 ∙ ap (λ (l : List ℕ). l ++ h.1) first.1) below in
    chain_word_below next (next i) k first.0 first.2 (front first.0 h.1 all.1)
  where
    front : (xs ys : List ℕ) → Each (λ j. j < k) (xs ++ ys) → Each (λ j. j < k) xs
    front [] ys h = tt
    front (x ∷ xs) ys h = (h.0, front xs ys h.1)
