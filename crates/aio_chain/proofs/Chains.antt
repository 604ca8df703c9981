-- Laws of chains: what keeps one, pushing in front, taking whole, walking, and reversing.
use Rattle.std.proofs.Common.{◌≡◌, ◌≢◌, ℕ, ◌+◌, ◌==◌, eqb, true, false, if◌then◌else◌, List, [], ◌∷◌, ◌++◌, reverse, refl, sym, ap, ◌∙◌, subst, arith, append-nil, append_assoc}
use Rattle.std.proofs.lemmas.Bool.{eq-eqb, ne_eqb}
use Rattle.std.proofs.lemmas.List.{reverse-append}
use Rattle.aio_chain.specs.Chains.{IsChain, AreChains}

-- each member passes
abbrev pub Each : (ℕ → Type 0) → List ℕ → Type 0
Each P [] = Unit {0}
Each P (i ∷ rest) = P i × Each P rest

pub each_of : (P Q : ℕ → Type 0) (xs : List ℕ) → ((i : ℕ) → P i → Q i) → Each P xs → Each Q xs
each_of P Q [] f h = tt
each_of P Q (x ∷ xs) f h = (f x h.0, each_of P Q xs f h.1)

pub each-front : (P : ℕ → Type 0) (xs ys : List ℕ) → Each P (xs ++ ys) → Each P xs
each-front P [] ys h = tt
each-front P (x ∷ xs) ys h = (h.0, each-front P xs ys h.1)

pub each-back : (P : ℕ → Type 0) (xs ys : List ℕ) → Each P (xs ++ ys) → Each P ys
each-back P [] ys h = h
each-back P (x ∷ xs) ys h = each-back P xs ys h.1

-- a chain stays where the next words of its members do
pub chain_kept : (next other : ℕ → ℕ) (word : ℕ) (xs : List ℕ) → IsChain next word xs → Each (λ i. other i ≡ next i) xs → IsChain other word xs
chain_kept next other word [] h k = h
chain_kept next other word (x ∷ xs) h k =
    (h.0, chain_kept next other (other x) xs (subst (λ w. IsChain next w xs) (sym k.0) h.1) k.1)

-- so do several, one after another
pub chains_kept : (next other : ℕ → ℕ) (words xs : List ℕ) → AreChains next words xs → Each (λ i. other i ≡ next i) xs → AreChains other words xs
chains_kept next other [] xs h k = h
chains_kept next other (word ∷ words) xs h k =
    let all = subst (Each (λ i. other i ≡ next i)) h.2 k in
    (h.0, h.1, h.2, chain_kept next other word h.0 h.3 (each-front _ h.0 h.1 all), chains_kept next other words h.1 h.4 (each-back _ h.0 h.1 all))

-- a member whose next word leads to a chain, put in front of it
pub pushed : (next : ℕ → ℕ) (word i : ℕ) (xs : List ℕ) → IsChain next word xs → next i ≡ word → IsChain next (i + 1) (i ∷ xs)
pushed next word i xs h e = (refl, subst (λ w. IsChain next w xs) (sym e) h)

-- one word leads through one list
pub one_chain : (next : ℕ → ℕ) (word : ℕ) (xs ys : List ℕ) → IsChain next word xs → IsChain next word ys → xs ≡ ys
one_chain next word [] [] h k = refl
one_chain next word [] (y ∷ ys) h k = absurd (omega (arith, h, k.0))
one_chain next word (x ∷ xs) [] h k = absurd (omega (arith, h.0, k))
one_chain next word (x ∷ xs) (y ∷ ys) h k =
    let same : x ≡ y = omega (arith, h.0, k.0) in
    let rest = one_chain next (next x) xs ys h.1 (subst (λ z. IsChain next (next z) ys) (sym same) k.1) in
    λ i. same i ∷ rest i

-- a chain that is taken whole goes behind the others; from an empty one nothing is taken
pub taken_whole : (next : ℕ → ℕ) (words : List ℕ) (word : ℕ) (items xs : List ℕ) → AreChains next words items → IsChain next word xs → AreChains next (words ++ word ∷ []) (items ++ xs)
taken_whole next [] word items xs h k =
    (xs, [], ap (λ (l : List ℕ). l ++ xs) h ∙ sym (append-nil xs), k, refl)
taken_whole next (w ∷ words) word items xs h k =
    (h.0, h.1 ++ xs, ap (λ (l : List ℕ). l ++ xs) h.2 ∙ append_assoc h.0 h.1 xs, h.3, taken_whole next words word h.1 xs h.4 k)

-- an empty chain adds nothing
pub none_taken : (next : ℕ → ℕ) (word : ℕ) (xs : List ℕ) → IsChain next word xs → word ≡ 0 → xs ≡ []
none_taken next word [] h e = refl
none_taken next word (x ∷ xs) h e = absurd (omega (arith, h.0, e))

-- the first member of a chain that isn't empty
pub first_of_chain : (next : ℕ → ℕ) (i : ℕ) (xs : List ℕ) → IsChain next (i + 1) xs → (rest : List ℕ) × (xs ≡ i ∷ rest) × IsChain next (next i) rest
first_of_chain next i [] h = absurd (omega (arith, h))
first_of_chain next i (x ∷ xs) h =
    let same : x ≡ i = omega (arith, h.0) in
    (xs, (λ k. same k ∷ xs), subst (λ z. IsChain next (next z) xs) same h.1)

-- the next words, but for one
abbrev pub relinked : (ℕ → ℕ) → ℕ → ℕ → ℕ → ℕ
relinked next at word i = if i == at then word else next i

-- a new next word of an index that is in no chain leaves them
pub chain_apart : (next : ℕ → ℕ) (at to word : ℕ) (xs : List ℕ) → IsChain next word xs → Each (λ i. at ≢ i) xs → IsChain (relinked next at to) word xs
chain_apart next at to word xs h apart =
    chain_kept next (relinked next at to) word xs h (each_of (λ i. at ≢ i) _ xs (λ i ne. let e : eqb i at ≡ false = ne_eqb i at (λ q. ne (sym q)) in rw e refl) apart)

-- the first member of one chain goes in front of another
pub moved_over : (next : ℕ → ℕ) (i done_word : ℕ) (rest done : List ℕ) → IsChain next (i + 1) (i ∷ rest) → IsChain next done_word done → Each (λ j. i ≢ j) rest → Each (λ j. i ≢ j) done
    → IsChain (relinked next i done_word) (next i) rest × IsChain (relinked next i done_word) (i + 1) (i ∷ done)
moved_over next i done_word rest done h k alone apart =
    let here : eqb i i ≡ true = eq-eqb i i refl in
    (chain_apart next i done_word (next i) rest h.1 alone, pushed (relinked next i done_word) done_word i done (chain_apart next i done_word done_word done k apart) (rw here refl))

-- no index stands in the list twice
abbrev pub AreOnce : List ℕ → Type 0
AreOnce [] = Unit {0}
AreOnce (i ∷ rest) = Each (λ j. i ≢ j) rest × AreOnce rest

-- no index stands in both
abbrev pub AreDisjoint : List ℕ → List ℕ → Type 0
AreDisjoint xs ys = Each (λ x. Each (λ y. x ≢ y) ys) xs

-- disjoint ones stay disjoint where the first member of the one goes in front of the other
pub stay_disjoint : (i : ℕ) (rest done : List ℕ) → Each (λ j. i ≢ j) rest → AreDisjoint rest done → AreDisjoint rest (i ∷ done)
stay_disjoint i [] done alone apart = tt
stay_disjoint i (x ∷ xs) done alone apart =
    (((λ e. alone.0 (sym e)), apart.0), stay_disjoint i xs done alone.1 apart.1)

-- the next words once a walk has moved each of these in front of what the word leads to
abbrev pub walked : (ℕ → ℕ) → List ℕ → ℕ → (ℕ → ℕ)
walked next [] word = next
walked next (i ∷ rest) word = walked (relinked next i word) rest (i + 1)

-- the word that leads to the last one moved
abbrev pub word_behind : List ℕ → ℕ → ℕ
word_behind [] word = word
word_behind (i ∷ rest) word = word_behind rest (i + 1)

reversed_one : (i : ℕ) (rest done : List ℕ) → reverse rest ++ i ∷ done ≡ reverse (i ∷ rest) ++ done
reversed_one i rest done = sym (append_assoc (reverse rest) (i ∷ []) done) ∙ ap (λ (l : List ℕ). l ++ done) (sym (reverse-append (i ∷ []) rest))

-- such a walk leaves the chain reversed, in front of the other one
pub reversed : (next : ℕ → ℕ) (word done_word : ℕ) (xs done : List ℕ) → IsChain next word xs → IsChain next done_word done → AreOnce xs → AreDisjoint xs done
    → IsChain (walked next xs done_word) (word_behind xs done_word) (reverse xs ++ done)
reversed next word done_word [] done h k once apart = k
reversed next word done_word (i ∷ rest) done h k once apart =
    let moved = moved_over next i done_word rest done (refl, h.1) k once.0 apart.0 in
    let more = reversed (relinked next i done_word) (next i) (i + 1) rest (i ∷ done) moved.0 moved.1 once.1 (stay_disjoint i rest done once.0 apart.1) in
    subst (IsChain (walked (relinked next i done_word) rest (i + 1)) (word_behind rest (i + 1))) (reversed_one i rest done) more
