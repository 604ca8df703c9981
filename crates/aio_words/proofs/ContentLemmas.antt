-- How facts of content join over several calls.
use Rattle.std.proofs.Common.{◌≡◌, ℕ, List, [], ◌++◌, Option, Some, None, option_map, IfSome, refl, sym, ap, ◌∙◌, append_assoc}
use Rattle.std.proofs.lemmas.List.{append-nil}
use Rattle.aio_words.specs.Content.{TakesBytes, with_piece, AppendsFront}

-- Sources

joined : (known : Option (List ℕ)) (first second : List ℕ)
    → option_map (λ left. first ++ left) (option_map (λ left. second ++ left) known) ≡ option_map (λ left. (first ++ second) ++ left) known
joined None first second = refl
joined (Some left) first second = ap Some (sym (append_assoc first second left))

-- two reads, one behind the other
pub TakesBytes-append : (before between now : Option (List ℕ)) (first second : List ℕ)
    → TakesBytes before between first → TakesBytes between now second → TakesBytes before now (first ++ second)
TakesBytes-append before between now first second took went_on =
    took ∙ ap (λ known. option_map (λ left. first ++ left) known) went_on ∙ joined now first second

-- what was taken up to the end is all that there was
pub Takes_to_end : (before now : Option (List ℕ)) (taken : List ℕ)
    → TakesBytes before now taken → IfSome now (λ left. left ≡ []) → IfSome before (λ bytes. bytes ≡ taken)
Takes_to_end None now taken took at_end = tt
Takes_to_end (Some bytes) None taken took at_end = cc
Takes_to_end (Some bytes) (Some left) taken took at_end =
    let all : bytes ≡ taken ++ left = cc in
    all ∙ ap (λ xs. taken ++ xs) at_end ∙ append-nil taken

-- Sinks

pub with_piece-nil : (held : Option (List ℕ)) → with_piece [] held ≡ held
with_piece-nil None = refl
with_piece-nil (Some bytes) = ap Some (append-nil bytes)

-- two pieces, one behind the other
pub with_piece-with_piece : (held : Option (List ℕ)) (first second : List ℕ)
    → with_piece second (with_piece first held) ≡ with_piece (first ++ second) held
with_piece-with_piece None first second = refl
with_piece-with_piece (Some bytes) first second = ap Some (append_assoc bytes first second)

-- a front of a piece is one of a longer text too
pub AppendsFront-longer : (before now : Option (List ℕ)) (piece behind : List ℕ)
    → AppendsFront before now piece → AppendsFront before now (piece ++ behind)
AppendsFront-longer before now piece behind some = record {
  front = some.front;
  rest = some.rest ++ behind;
  whole = ap (λ xs. xs ++ behind) some.whole ∙ append_assoc some.front some.rest behind;
  holds = some.holds;
}

-- a whole piece was appended, and then a front of the next
pub AppendsFront-behind : (before between now : Option (List ℕ)) (first second : List ℕ)
    → between ≡ with_piece first before → AppendsFront between now second → AppendsFront before now (first ++ second)
AppendsFront-behind before between now first second appended some = record {
  front = first ++ some.front;
  rest = some.rest;
  whole = ap (λ xs. first ++ xs) some.whole ∙ sym (append_assoc first some.front some.rest);
  holds = some.holds ∙ ap (with_piece some.front) appended ∙ with_piece-with_piece before first some.front;
}
