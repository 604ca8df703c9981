-- Replies that go on from the beginning, as many as there are requests, are a serial history.
use Rattle.std.proofs.Common.{◌≡◌, ℕ, ◌+◌, ◌<◌, ◌≤◌, ◌==◌, ◌&&◌, List, [], ◌∷◌, ◌++◌, length, map, Option, Some, option_map, IsPermutation, inl, inr, ◌⊎◌, refl, sym, ◌∙◌, ap, subst, arith, length-append}
use Rattle.std.proofs.lemmas.Bool.{cases_Bool, eqb-true, eq-eqb, and_parts, cond-true, cond-false}
use Rattle.std.proofs.lemmas.List.{length-map}
use Rattle.std.proofs.lemmas.List.Sorted.{IsPermutation-refl, IsPermutation-cons, IsPermutation-trans, IsPermutation-middle, length_permutation}
use Rattle.aio_model.specs.declared.serving.requests.Request.{Request}
use Rattle.aio_model.specs.declared.serving.replies.Placed.{Placed}
use Rattle.aio_model.specs.Serving.Asked.{Asked, request_named}
use Rattle.aio_model.specs.Serving.{bytes_after}
use Rattle.aio_model.specs.Serving.SerialHistory.{asked_name, placed_name, CountsFrom, FitAlong, indices_of, IsSerialHistory}
use Rattle.served_check.specs.Cursors.{none_done, one_more_of}
use Rattle.served_check.specs.Judging.{RepliesGoOn}
use Rattle.served_check.proofs.RepliesGoOn.{counts_on, counts_first}

-- ---- lists of names

abbrev IsIn : ℕ × ℕ → List (ℕ × ℕ) → Type 0
IsIn name [] = ⊥
IsIn name (other ∷ names) = (other ≡ name) ⊎ IsIn name names

-- where a name stands
record Stands (name : ℕ × ℕ) (names : List (ℕ × ℕ)) : Type 0 where
  pub front : List (ℕ × ℕ)
  pub back : List (ℕ × ℕ)
  pub is : names ≡ front ++ name ∷ back

stands_at : (name : ℕ × ℕ) (names : List (ℕ × ℕ)) → IsIn name names → Stands name names
stands_at name [] is_in = absurd is_in
stands_at name (other ∷ names) is_in = elim is_in [
  | inl e ↦ record { front = []; back = names; is = ap (λ (n : ℕ × ℕ). n ∷ names) e }
  | inr more ↦
      let rest : Stands name names = stands_at name names more in
      record { front = other ∷ rest.front; back = rest.back; is = ap (λ (l : List (ℕ × ℕ)). other ∷ l) rest.is }
]

-- it stands there without another one too
still_in : (name gone : ℕ × ℕ) (front back : List (ℕ × ℕ)) → (gone ≡ name → ⊥) → IsIn name (front ++ gone ∷ back) → IsIn name (front ++ back)
still_in name gone [] back other is_in = elim is_in [
  | inl e ↦ absurd (other e)
  | inr more ↦ more
]
still_in name gone (first ∷ front) back other is_in = elim is_in [
  | inl e ↦ inl e
  | inr more ↦ inr (still_in name gone front back other more)
]

abbrev AreIn : List (ℕ × ℕ) → List Placed → Type 0
AreIn names [] = Unit {0}
AreIn names (placed ∷ served) = IsIn (placed_name placed) names × AreIn names served

abbrev IsAway : ℕ × ℕ → List Placed → Type 0
IsAway name [] = Unit {0}
IsAway name (placed ∷ served) = (name ≡ placed_name placed → ⊥) × IsAway name served

abbrev AreApart : List Placed → Type 0
AreApart [] = Unit {0}
AreApart (placed ∷ served) = IsAway (placed_name placed) served × AreApart served

are_still_in : (gone : ℕ × ℕ) (front back : List (ℕ × ℕ)) (served : List Placed) → IsAway gone served → AreIn (front ++ gone ∷ back) served → AreIn (front ++ back) served
are_still_in gone front back [] away are_in = tt
are_still_in gone front back (placed ∷ served) away are_in =
    (still_in (placed_name placed) gone front back away.0 are_in.0, are_still_in gone front back served away.1 are_in.1)

-- as many names, each of them there and none twice, are all
all_of : (names : List (ℕ × ℕ)) (served : List Placed) → AreIn names served → AreApart served → length names ≡ length served
    → IsPermutation names (map placed_name served)
all_of [] [] are_in apart many = IsPermutation-refl []
all_of (name ∷ names) [] are_in apart many = absurd (omega (arith, many))
all_of names (placed ∷ served) are_in apart many =
    let name = placed_name placed in
    let at : Stands name names = stands_at name names are_in.0 in
    let long : length names ≡ length at.front + length (name ∷ at.back) = ap length at.is ∙ length-append at.front (name ∷ at.back) in
    let fewer : length (at.front ++ at.back) ≡ length served = omega (arith, many, long, length-append at.front at.back) in
    let rest : IsPermutation (at.front ++ at.back) (map placed_name served) =
    all_of (at.front ++ at.back) served
    (are_still_in name at.front at.back served apart.0 (subst (λ (l : List (ℕ × ℕ)). AreIn l served) at.is are_in.1))
    apart.1 fewer in
    subst (λ (l : List (ℕ × ℕ)). IsPermutation l (name ∷ map placed_name served)) (sym at.is)
    (IsPermutation-trans (at.front ++ name ∷ at.back) (name ∷ (at.front ++ at.back)) (name ∷ map placed_name served)
    (IsPermutation-middle at.front name at.back)
    (IsPermutation-cons name (at.front ++ at.back) (map placed_name served) rest))

-- ---- replies that go on

named_in : (asked : List Asked) (stream index : ℕ) (request : Request) → request_named asked stream index ≡ Some request
    → IsIn (stream, index) (map asked_name asked)
named_in [] stream index request named = cc named
named_in (a ∷ asked) stream index request named = elim (cases_Bool (a.stream == stream && a.index == index)) [
  | inl h ↦
      let both = and_parts (a.stream == stream) (a.index == index) h in
      let s : a.stream ≡ stream = eqb-true a.stream stream both.0 in
      let n : a.index ≡ index = eqb-true a.index index both.1 in
      inl (λ i. (s i, n i))
  | inr h ↦ inr (named_in asked stream index request (sym (cond-false _ _ _ h) ∙ named))
]

along_in : (size : ℕ) (asked : List Asked) (served : List Placed) (bytes : Option (List ℕ)) → FitAlong size asked bytes served
    → AreIn (map asked_name asked) served
along_in size asked [] bytes along = tt
along_in size asked (placed ∷ served) bytes along = (
  named_in asked placed.stream placed.index along.0 along.1,
  along_in size asked served (option_map (bytes_after along.0 placed.reply) bytes) along.3,
)

-- a name that was passed doesn't come again
away_past : (stream index : ℕ) (done : ℕ → ℕ) (served : List Placed) → index < done stream → ((s : ℕ) → CountsFrom (done s) (indices_of s served))
    → IsAway (stream, index) served
away_past stream index done [] below counts = tt
away_past stream index done (placed ∷ served) below counts =
    let here : placed.index ≡ done placed.stream = counts_first placed served (done placed.stream) (counts placed.stream) in
    let more : done stream ≤ one_more_of placed.stream done stream = elim (cases_Bool (placed.stream == stream)) [
      | inl h ↦ subst (λ n. done stream ≤ n) (sym (cond-true _ _ _ h)) (omega arith)
      | inr h ↦ subst (λ n. done stream ≤ n) (sym (cond-false _ _ _ h)) (omega arith)
    ] in (
      λ e.
          let s : stream ≡ placed.stream = ap (λ (n : ℕ × ℕ). n.0) e in
          let i : index ≡ placed.index = ap (λ (n : ℕ × ℕ). n.1) e in
          omega (arith, below, here, i, ap done s),
      away_past stream index (one_more_of placed.stream done) served (omega (arith, below, more)) (λ s. counts_on s placed served done (counts s)),
    )

apart_along : (done : ℕ → ℕ) (served : List Placed) → ((s : ℕ) → CountsFrom (done s) (indices_of s served)) → AreApart served
apart_along done [] counts = tt
apart_along done (placed ∷ served) counts =
    let here : placed.index ≡ done placed.stream = counts_first placed served (done placed.stream) (counts placed.stream) in
    let next : one_more_of placed.stream done placed.stream ≡ done placed.stream + 1 = cond-true _ _ _ (eq-eqb placed.stream placed.stream refl) in
    let rest : (s : ℕ) → CountsFrom (one_more_of placed.stream done s) (indices_of s served) = λ s. counts_on s placed served done (counts s) in
    (away_past placed.stream placed.index (one_more_of placed.stream done) served (omega (arith, here, next)) rest, apart_along (one_more_of placed.stream done) served rest)

module _ (size : ℕ) (asked : List Asked) (bytes : List ℕ) (served : List Placed) where
  pub RepliesGoOn-whole : length served ≡ length asked → RepliesGoOn size asked none_done bytes served → IsSerialHistory size asked (Some bytes) served
  RepliesGoOn-whole many goes = record {
    each_once = all_of (map asked_name asked) served (along_in size asked served (Some bytes) goes.fits) (apart_along none_done served goes.in_order)
        (length-map asked asked_name ∙ sym many);
    in_order = goes.in_order;
    fits = goes.fits;
  }

  pub whole-RepliesGoOn : IsSerialHistory size asked (Some bytes) served → RepliesGoOn size asked none_done bytes served
  whole-RepliesGoOn history = record { fits = history.fits; in_order = history.in_order }

  pub whole-long : IsSerialHistory size asked (Some bytes) served → length served ≡ length asked
  whole-long history =
      sym (length-map served placed_name)
      ∙ length_permutation (map asked_name asked) (map placed_name served) history.each_once
      ∙ length-map asked asked_name
