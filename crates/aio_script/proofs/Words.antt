-- Lines of many words.
use Rattle.std.proofs.Common.{◌≡◌, ℕ, Bool, inl, inr, List, [], ◌∷◌}
use Rattle.std.specs.List.{slice_split, onto_first}
use Rattle.std.proofs.lemmas.Bool.{cases_Bool}
use Rattle.aio_script.specs.Image.Reading.{AreSeveral}
use Rattle.aio_script.specs.Text.{words_of}

-- some word stands behind each space
behind_space : (p : ℕ → Bool) (rest first : List ℕ) → AreSeveral (first ∷ slice_split p rest)
behind_space p [] first = tt
behind_space p (byte ∷ rest) first = elim (cases_Bool (p byte)) [
  | inl hit ↦ rw hit tt
  | inr miss ↦ rw miss (on_more (slice_split p rest))
]
  where
    on_more : (parts : List (List ℕ)) → AreSeveral (first ∷ onto_first byte parts)
    on_more [] = tt
    on_more (part ∷ parts) = tt

pub AreSeveral-cons : (text first rest : List ℕ) → words_of text ≡ first ∷ words_of rest → AreSeveral (words_of text)
AreSeveral-cons text first rest h = rw h (behind_space _ rest first)
