-- Two lists of names in which each stream's indices stand in the same order are one list, in another order.
use Rattle.std.proofs.Common.{◌≡◌, ℕ, ◌+◌, ◌==◌, true, false, cond, List, [], ◌∷◌, ◌++◌, length, get_or, IsPermutation, inl, inr, refl, sym, ◌∙◌, ap, subst, arith}
use Rattle.std.proofs.lemmas.Bool.{eqb-true, eq-eqb, ne_eqb, cases_Bool, cases_eq, cond-true, cond-false}
use Rattle.std.proofs.lemmas.List.Sorted.{IsPermutation-refl, IsPermutation-cons, IsPermutation-sym, IsPermutation-trans, IsPermutation-middle}
use Rattle.aio_model.specs.Serving.SerialHistory.{CountsFrom}

-- the indices of a stream's names
abbrev pub indices_in : ℕ → List (ℕ × ℕ) → List ℕ
indices_in stream [] = []
indices_in stream (name ∷ names) = cond (name.0 == stream) (name.1 ∷ indices_in stream names) (indices_in stream names)

pub indices_in-append : (stream : ℕ) (xs ys : List (ℕ × ℕ)) → indices_in stream (xs ++ ys) ≡ indices_in stream xs ++ indices_in stream ys
indices_in-append stream [] ys = refl
indices_in-append stream (x ∷ xs) ys =
    let ih = indices_in-append stream xs ys in
    elim (x.0 == stream) as (λ b. cond b (x.1 ∷ indices_in stream (xs ++ ys)) (indices_in stream (xs ++ ys)) ≡ cond b (x.1 ∷ indices_in stream xs) (indices_in stream xs) ++ indices_in stream ys) [
      | true ↦ ap (λ (l : List ℕ). x.1 ∷ l) ih
      | false ↦ ih
    ]

rest_of : List ℕ → List ℕ
rest_of [] = []
rest_of (x ∷ xs) = xs

first_same : (x y : ℕ) (xs ys : List ℕ) → x ∷ xs ≡ y ∷ ys → x ≡ y
first_same x y xs ys e = ap (λ (l : List ℕ). get_or l 0 x) e

rest_same : (x y : ℕ) (xs ys : List ℕ) → x ∷ xs ≡ y ∷ ys → xs ≡ ys
unfolding rest_of
rest_same x y xs ys e = ap rest_of e

-- the first name of a stream
record Found (stream index : ℕ) (names : List (ℕ × ℕ)) : Type 0 where
  pub front : List (ℕ × ℕ)
  pub back : List (ℕ × ℕ)
  pub is : names ≡ front ++ (stream, index) ∷ back
  pub first : indices_in stream front ≡ []

found : (stream index : ℕ) (rest : List ℕ) (names : List (ℕ × ℕ)) → indices_in stream names ≡ index ∷ rest → Found stream index names
found stream index rest [] e = cc e
found stream index rest (name ∷ names) e = elim (cases_Bool (name.0 == stream)) [
  | inl h ↦
      let same : name.1 ∷ indices_in stream names ≡ index ∷ rest = sym (cond-true _ _ _ h) ∙ e in
      let stands : name.0 ≡ stream = eqb-true name.0 stream h in
      let number : name.1 ≡ index = first_same name.1 index (indices_in stream names) rest same in
      record {
        front = [];
        back = names;
        is = ap (λ (n : ℕ × ℕ). n ∷ names) (λ i. (stands i, number i));
        first = refl;
      }
  | inr h ↦
      let more : Found stream index names = found stream index rest names (sym (cond-false _ _ _ h) ∙ e) in
      record {
        front = name ∷ more.front;
        back = more.back;
        is = ap (λ (l : List (ℕ × ℕ)). name ∷ l) more.is;
        first = cond-false _ _ _ h ∙ more.first;
      }
]

pub permuted : (xs ys : List (ℕ × ℕ)) → ((stream : ℕ) → indices_in stream xs ≡ indices_in stream ys) → IsPermutation xs ys
permuted [] [] same = IsPermutation-refl []
permuted [] (y ∷ ys) same = cc (same y.0 ∙ cond-true (y.0 == y.0) (y.1 ∷ indices_in y.0 ys) (indices_in y.0 ys) (eq-eqb y.0 y.0 refl))
permuted (x ∷ xs) ys same =
    let s = x.0 in
    let here : indices_in s (x ∷ xs) ≡ x.1 ∷ indices_in s xs = cond-true (s == s) (x.1 ∷ indices_in s xs) (indices_in s xs) (eq-eqb s s refl) in
    let at : Found s x.1 ys = found s x.1 (indices_in s xs) ys (sym (same s) ∙ here) in
    let others : (stream : ℕ) → indices_in stream xs ≡ indices_in stream (at.front ++ at.back) = λ stream.
    let parts : indices_in stream ys ≡ indices_in stream at.front ++ indices_in stream (x ∷ at.back) =
    ap (indices_in stream) at.is ∙ indices_in-append stream at.front (x ∷ at.back) in
    let whole = indices_in-append stream at.front at.back in
    elim (cases_eq stream s) [
      | inl e ↦ subst (λ (t : ℕ). indices_in t xs ≡ indices_in t (at.front ++ at.back)) (sym e) (
          rest_same x.1 x.1 (indices_in s xs) (indices_in s (at.front ++ at.back)) (
          sym here ∙ same s ∙ ap (indices_in s) at.is ∙ indices_in-append s at.front (x ∷ at.back)
          ∙ ap (λ (l : List ℕ). l ++ indices_in s (x ∷ at.back)) at.first
          ∙ cond-true (s == s) (x.1 ∷ indices_in s at.back) (indices_in s at.back) (eq-eqb s s refl)
          ∙ ap (λ (l : List ℕ). x.1 ∷ (l ++ indices_in s at.back)) (sym at.first)
          ∙ ap (λ (l : List ℕ). x.1 ∷ l) (sym (indices_in-append s at.front at.back))
          ))
      | inr ne ↦
          let away : (s == stream) ≡ false = ne_eqb s stream (λ e. ne (sym e)) in
          sym (cond-false (s == stream) (x.1 ∷ indices_in stream xs) (indices_in stream xs) away)
          ∙ same stream ∙ parts
          ∙ ap (λ (l : List ℕ). indices_in stream at.front ++ l) (cond-false (s == stream) (x.1 ∷ indices_in stream at.back) (indices_in stream at.back) away)
          ∙ sym whole
    ] in
    IsPermutation-trans (x ∷ xs) (x ∷ (at.front ++ at.back)) ys
    (IsPermutation-cons x xs (at.front ++ at.back) (permuted xs (at.front ++ at.back) others))
    (subst (λ (l : List (ℕ × ℕ)). IsPermutation (x ∷ (at.front ++ at.back)) l) (sym at.is)
    (IsPermutation-sym (at.front ++ x ∷ at.back) (x ∷ (at.front ++ at.back)) (IsPermutation-middle at.front x at.back)))

-- as many numbers that count from the same one are the same
pub counts_same : (n : ℕ) (xs ys : List ℕ) → CountsFrom n xs → CountsFrom n ys → length xs ≡ length ys → xs ≡ ys
counts_same n [] [] c d e = refl
counts_same n [] (y ∷ ys) c d e = absurd (omega arith)
counts_same n (x ∷ xs) [] c d e = absurd (omega arith)
counts_same n (x ∷ xs) (y ∷ ys) c d e =
    let head : x ≡ y = c.0 ∙ sym d.0 in
    let tail : xs ≡ ys = counts_same (n + 1) xs ys c.1 d.1 (omega arith) in
    λ i. head i ∷ tail i
