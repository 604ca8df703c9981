-- Chains of next words: a word is 0 at the end of a chain, and else one more than the index that it leads to.
use Rattle.std.specs.Prelude.{◌≡◌, ℕ, ◌+◌, List, [], ◌∷◌, ◌++◌}

-- from the word on, the next words lead through these indices, and end behind the last
abbrev pub IsChain : (ℕ → ℕ) → ℕ → List ℕ → Type 0
IsChain next word [] = word ≡ 0
IsChain next word (i ∷ rest) = (word ≡ i + 1) × IsChain next (next i) rest

-- the list is that of the chains from these words, one after another
abbrev pub AreChains : (ℕ → ℕ) → List ℕ → List ℕ → Type 0
AreChains next [] items = items ≡ []
AreChains next (word ∷ words) items =
    (front : List ℕ) × (back : List ℕ) × (items ≡ front ++ back) × IsChain next word front × AreChains next words back
