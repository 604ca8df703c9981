-- Links that lead through the replies of each stream: a place more in front.
use Rattle.std.proofs.Common.{◌≡◌, ℕ, ◌+◌, ◌<◌, ◌≤◌, ◌≢◌, ◌==◌, cond, List, [], ◌∷◌, length, drop, get_or, set, slice_index, inl, inr, sym, ◌∙◌, ap, subst, arith, get_or-set_other, get_or-set_same}
use Rattle.std.proofs.Math.Seq.{drop-length}
use Rattle.std.proofs.lemmas.Bool.{cases_Bool, eqb-true, eqb-false, cond-true, cond-false}
use Rattle.std.proofs.lemmas.List.{drop_more, get_or_default}
use Rattle.aio_model.specs.declared.serving.replies.Placed.{Placed}
use Rattle.aio_model.specs.Scripts.PrintedText.{Standing}
use Rattle.reply_printing.specs.Standings.{standings_of, StandsAmong, LeadThrough, LeadThroughAll}

-- all stand at this place or behind it
abbrev AreFrom : ℕ → List Standing → Type 0
AreFrom place [] = Unit {0}
AreFrom place (standing ∷ rest) = (place ≤ standing.place) × AreFrom place rest

AreFrom-standings : (first stream place : ℕ) (served : List Placed) → first ≤ place → AreFrom first (standings_of stream place served)
AreFrom-standings first stream place [] low = tt
AreFrom-standings first stream place (placed ∷ served) low =
    let one : Standing = record { place = place; reply = placed.reply } in
    let rest : AreFrom first (standings_of stream (place + 1) served) = AreFrom-standings first stream (place + 1) served (omega arith) in
    let whole : AreFrom first (one ∷ standings_of stream (place + 1) served) = (low, rest) in
    elim (cases_Bool (placed.stream == stream)) [
      | inl h ↦ subst (AreFrom first) (sym (cond-true (placed.stream == stream) (one ∷ standings_of stream (place + 1) served) (standings_of stream (place + 1) served) h)) whole
      | inr h ↦ subst (AreFrom first) (sym (cond-false (placed.stream == stream) (one ∷ standings_of stream (place + 1) served) (standings_of stream (place + 1) served) h)) rest
    ]

-- what is set behind a place before them leaves them
LeadThrough-kept : (served : List Placed) (stream : ℕ) (behind : List ℕ) (place first value : ℕ) (standings : List Standing)
    → AreFrom (first + 1) standings → LeadThrough served stream behind place standings → LeadThrough served stream (set behind first value) place standings
LeadThrough-kept served stream behind place first value [] from lead = tt
LeadThrough-kept served stream behind place first value (standing ∷ rest) from lead =
    let other : place ≢ first = omega (arith, lead.0, from.0) in
    let same : slice_index (set behind first value) place ≡ slice_index behind place = get_or-set_other behind first place value 0 other in
    let tail : LeadThrough served stream (set behind first value) (slice_index behind place) rest =
    LeadThrough-kept served stream behind (slice_index behind place) first value rest from.1 lead.2 in
    (lead.0, lead.1, subst (λ n. LeadThrough served stream (set behind first value) n rest) (sym same) tail)

-- from this place on all are linked
abbrev pub AreLinked : List Placed → List ℕ → List ℕ → ℕ → Type 0
AreLinked served next behind place =
    (stream : ℕ) → LeadThrough served stream behind (slice_index next stream) (standings_of stream place (drop place served))

module _ (served : List Placed) (next behind : List ℕ) (place : ℕ) (placed : Placed)
    (inside : place < length served) (here : placed ≡ get_or served place placed) (known : placed.stream < length next)
    (room : place < length behind) where
  abbrev put_next : List ℕ
  put_next = set next placed.stream place

  abbrev put_behind : List ℕ
  put_behind = set behind place (slice_index next placed.stream)

  abbrev later : ℕ → List Standing
  later stream = standings_of stream (place + 1) (drop (place + 1) served)

  abbrev one : Standing
  one = record { place = place; reply = placed.reply }

  one_more : (stream : ℕ) → standings_of stream place (drop place served) ≡ cond (placed.stream == stream) (one ∷ later stream) (later stream)
  one_more stream =
      ap (standings_of stream place) (drop_more served place placed inside ∙ ap (λ (p : Placed). p ∷ drop (place + 1) served) (sym here))

  at_place : (d : Placed) → get_or served place d ≡ placed
  at_place d = get_or_default served place d placed inside ∙ sym here

  stands : StandsAmong served placed.stream one
  stands = record {
    inside = inside;
    own = λ d. ap (λ (p : Placed). p.stream) (at_place d);
    same = λ d. ap (λ (p : Placed). p.reply) (at_place d);
  }

  kept : (stream at : ℕ) → LeadThrough served stream behind at (later stream) → LeadThrough served stream put_behind at (later stream)
  kept stream at lead =
      LeadThrough-kept served stream behind at place (slice_index next placed.stream) (later stream)
      (AreFrom-standings (place + 1) stream (place + 1) (drop (place + 1) served) (omega arith)) lead

  -- the stream's own
  own_linked : AreLinked served next behind (place + 1) → LeadThrough served placed.stream put_behind (slice_index put_next placed.stream) (one ∷ later placed.stream)
  own_linked linked =
      let first : slice_index put_next placed.stream ≡ place = get_or-set_same next placed.stream place 0 known in
      let then : slice_index put_behind (slice_index put_next placed.stream) ≡ slice_index next placed.stream =
      ap (λ n. slice_index put_behind n) first ∙ get_or-set_same behind place (slice_index next placed.stream) 0 room in (
        first,
        stands,
        subst (λ n. LeadThrough served placed.stream put_behind n (later placed.stream)) (sym then)
            (kept placed.stream (slice_index next placed.stream) (linked placed.stream)),
      )

  other_linked : (stream : ℕ) → stream ≢ placed.stream → AreLinked served next behind (place + 1) → LeadThrough served stream put_behind (slice_index put_next stream) (later stream)
  other_linked stream other linked =
      let same : slice_index put_next stream ≡ slice_index next stream = get_or-set_other next placed.stream stream place 0 other in
      subst (λ n. LeadThrough served stream put_behind n (later stream)) (sym same) (kept stream (slice_index next stream) (linked stream))

  pub AreLinked-more : (upper : ℕ) → upper ≡ place + 1 → AreLinked served next behind upper → AreLinked served put_next put_behind place
  AreLinked-more upper is linked stream =
      let before : AreLinked served next behind (place + 1) = subst (AreLinked served next behind) is linked in
      elim (cases_Bool (placed.stream == stream)) [
        | inl h ↦
            let e : placed.stream ≡ stream = eqb-true placed.stream stream h in
            let own : LeadThrough served stream put_behind (slice_index put_next stream) (one ∷ later stream) =
            subst (λ (s : ℕ). LeadThrough served s put_behind (slice_index put_next s) (one ∷ later s)) e (own_linked before) in
            subst (LeadThrough served stream put_behind (slice_index put_next stream))
            (sym (one_more stream ∙ cond-true (placed.stream == stream) (one ∷ later stream) (later stream) h)) own
        | inr h ↦
            let other : stream ≢ placed.stream = λ e. eqb-false placed.stream stream h (sym e) in
            subst (LeadThrough served stream put_behind (slice_index put_next stream))
            (sym (one_more stream ∙ cond-false (placed.stream == stream) (one ∷ later stream) (later stream) h)) (other_linked stream other before)
      ]

-- behind the last one there is nothing to lead through
pub AreLinked-none : (served : List Placed) (next behind : List ℕ) (place : ℕ) → place ≡ length served → AreLinked served next behind place
AreLinked-none served next behind place is stream =
    let none : drop place served ≡ [] = ap (λ n. drop n served) is ∙ drop-length served in
    subst (λ (rest : List Placed). LeadThrough served stream behind (slice_index next stream) (standings_of stream place rest)) (sym none) tt

-- in front of the first one they are all
pub AreLinked-all : (served : List Placed) (next behind : List ℕ) (place : ℕ) → place ≡ 0 → AreLinked served next behind place → LeadThroughAll served next behind
AreLinked-all served next behind place is linked = subst (AreLinked served next behind) is linked
