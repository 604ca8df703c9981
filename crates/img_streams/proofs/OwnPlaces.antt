-- Where a stream's lines stand, and which of these places is the first from some line on.
use Rattle.std.proofs.Common.{◌≡◌, ℕ, zero, suc, ◌+◌, ◌<◌, ◌≤◌, ◌==◌, true, false, List, [], ◌∷◌, length, get_or, drop, nat_lt, inl, inr, refl, sym, ap, ◌∙◌, subst, arith}
use Rattle.std.specs.List.{AllWithin}
use Rattle.std.specs.List.Sorted.{IsPartitionedBy, IsPartitionPoint}
use Rattle.std.proofs.lemmas.List.{drop_more, drop_all}
use Rattle.std.proofs.lemmas.Bool.{cases_Bool, cond-true, cond-false, ltb-true, ltb-false, lt-ltb}
use Rattle.aio_model.specs.declared.scripts.image_scripts.Step.{Step}
use Rattle.img_streams.specs.Lines.{next_own, line_from, places_from, places_of}

own_place : (id at : ℕ) (step : Step) (lines : List Step) → (step.stream == id) ≡ true → places_from id at (step ∷ lines) ≡ at ∷ places_from id (at + 1) lines
own_place id at step lines e = cond-true (step.stream == id) _ _ e

other_place : (id at : ℕ) (step : Step) (lines : List Step) → (step.stream == id) ≡ false → places_from id at (step ∷ lines) ≡ places_from id (at + 1) lines
other_place id at step lines e = cond-false (step.stream == id) _ _ e

first_low : (at other : ℕ) (later : List ℕ) → ((k : ℕ) → k < length later → at + 1 ≤ get_or later k other) → (k : ℕ) → k < length (at ∷ later) → at ≤ get_or (at ∷ later) k other
first_low at other later low zero inside = omega arith
first_low at other later low (suc k) inside = let more = low k (omega arith) in omega (arith, more)

-- they are at this place or behind it
places_low : (id at : ℕ) (lines : List Step) (k other : ℕ) → k < length (places_from id at lines) → at ≤ get_or (places_from id at lines) k other
places_low id at [] k other inside = absurd (omega arith)
places_low id at (step ∷ lines) k other inside =
    elim (cases_Bool (step.stream == id)) [
      | inl e ↦
          let is = own_place id at step lines e in
          subst (λ (places : List ℕ). at ≤ get_or places k other) (sym is)
          (first_low at other (places_from id (at + 1) lines) (λ n below. places_low id (at + 1) lines n other below) k
          (subst (λ (places : List ℕ). k < length places) is inside))
      | inr e ↦
          let is = other_place id at step lines e in
          let later : at + 1 ≤ get_or (places_from id (at + 1) lines) k other =
          places_low id (at + 1) lines k other (subst (λ (places : List ℕ). k < length places) is inside) in
          subst (λ (places : List ℕ). at ≤ get_or places k other) (sym is) (omega (arith, later))
    ]

first_rise : (at other : ℕ) (later : List ℕ) → ((k : ℕ) → k < length later → at + 1 ≤ get_or later k other)
    → ((i j : ℕ) → i ≤ j → j < length later → get_or later i other ≤ get_or later j other)
    → (i j : ℕ) → i ≤ j → j < length (at ∷ later) → get_or (at ∷ later) i other ≤ get_or (at ∷ later) j other
first_rise at other later low rise zero j order inside = first_low at other later low j inside
first_rise at other later low rise (suc i) zero order inside = absurd (omega arith)
first_rise at other later low rise (suc i) (suc j) order inside = rise i j (omega arith) (omega arith)

-- they rise
places_rise : (id at : ℕ) (lines : List Step) (i j other : ℕ) → i ≤ j → j < length (places_from id at lines)
    → get_or (places_from id at lines) i other ≤ get_or (places_from id at lines) j other
places_rise id at [] i j other order inside = absurd (omega arith)
places_rise id at (step ∷ lines) i j other order inside =
    elim (cases_Bool (step.stream == id)) [
      | inl e ↦
          let is = own_place id at step lines e in
          subst (λ (places : List ℕ). get_or places i other ≤ get_or places j other) (sym is)
          (first_rise at other (places_from id (at + 1) lines) (λ k below. places_low id (at + 1) lines k other below)
          (λ m n up below. places_rise id (at + 1) lines m n other up below) i j order
          (subst (λ (places : List ℕ). j < length places) is inside))
      | inr e ↦
          let is = other_place id at step lines e in
          subst (λ (places : List ℕ). get_or places i other ≤ get_or places j other) (sym is)
          (places_rise id (at + 1) lines i j other order (subst (λ (places : List ℕ). j < length places) is inside))
    ]

-- At this index the places of the lines, of which the first stands at `at`, come to the line that is `more` lines further.
abbrev IsPoint : ℕ → ℕ → List ℕ → ℕ → Type 0
IsPoint at more places i =
    AllWithin (λ place. place < at + more) places 0 i × AllWithin (λ place. at + more ≤ place) places i (length places)

-- the place found there is the stream's next line
abbrev IsFound : ℕ → ℕ → ℕ → List Step → List ℕ → ℕ → Type 0
IsFound id at more lines places i = get_or places i (at + length lines) ≡ at + more + next_own id (drop more lines)

module _ (id at : ℕ) (step : Step) (lines : List Step)
    (ih : (more i : ℕ) → more ≤ length lines → IsPoint (at + 1) more (places_from id (at + 1) lines) i → IsFound id (at + 1) more lines (places_from id (at + 1) lines) i) where
  abbrev later : List ℕ
  later = places_from id (at + 1) lines

  end : at + length (step ∷ lines) ≡ at + 1 + length lines
  end = omega arith

  found_own : (step.stream == id) ≡ true → (more i : ℕ) → more ≤ length (step ∷ lines) → IsPoint at more (at ∷ later) i → IsFound id at more (step ∷ lines) (at ∷ later) i
  found_own e zero zero inside point = let here : next_own id (step ∷ lines) ≡ 0 = cond-true (step.stream == id) _ _ e in omega (arith, here)
  found_own e zero (suc i) inside point = let low : at < at + 0 = point.0 0 0 (omega arith) (omega arith) in absurd (omega (arith, low))
  found_own e (suc more) zero inside point = let high : at + suc more ≤ at = point.1 0 0 (omega arith) (omega arith) in absurd (omega (arith, high))
  found_own e (suc more) (suc i) inside point =
      let same : at + suc more ≡ at + 1 + more = omega arith in
      ap (λ (n : ℕ). get_or later i n) end
      ∙ ih more i (omega arith) (
        λ k d low high. subst (λ (n : ℕ). get_or later k d < n) same (point.0 (suc k) d (omega arith) (omega arith)),
        λ k d low high. subst (λ (n : ℕ). n ≤ get_or later k d) same (point.1 (suc k) d (omega arith) (omega arith)),
      )
      ∙ omega arith

  found_other : (step.stream == id) ≡ false → (more i : ℕ) → more ≤ length (step ∷ lines) → IsPoint at more later i → IsFound id at more (step ∷ lines) later i
  found_other e zero i inside point =
      let past : next_own id (step ∷ lines) ≡ 1 + next_own id lines = cond-false (step.stream == id) _ _ e in
      ap (λ (n : ℕ). get_or later i n) end
      ∙ ih 0 i (omega arith) (
        λ k d low high. let small : get_or later k d < at + 0 = point.0 k d low high in omega (arith, small),
        λ k d low high. let large : at + 1 ≤ get_or later k d = places_low id (at + 1) lines k d high in omega (arith, large),
      )
      ∙ omega (arith, past)
  found_other e (suc more) i inside point =
      let same : at + suc more ≡ at + 1 + more = omega arith in
      ap (λ (n : ℕ). get_or later i n) end
      ∙ ih more i (omega arith) (
        λ k d low high. subst (λ (n : ℕ). get_or later k d < n) same (point.0 k d low high),
        λ k d low high. subst (λ (n : ℕ). n ≤ get_or later k d) same (point.1 k d low high),
      )
      ∙ omega arith

found : (id at : ℕ) (lines : List Step) (more i : ℕ) → more ≤ length lines → IsPoint at more (places_from id at lines) i → IsFound id at more lines (places_from id at lines) i
found id at [] more i inside point =
    let none : next_own id (drop more []) ≡ 0 = ap (next_own id) (drop_all more [] (omega arith)) in
    omega (arith, none, inside)
found id at (step ∷ lines) more i inside point =
    elim (cases_Bool (step.stream == id)) [
      | inl e ↦
          let is = own_place id at step lines e in
          subst (λ (places : List ℕ). IsFound id at more (step ∷ lines) places i) (sym is)
          (found_own id at step lines (λ m j below p. found id (at + 1) lines m j below p) e more i inside
          (subst (λ (places : List ℕ). IsPoint at more places i) is point))
      | inr e ↦
          let is = other_place id at step lines e in
          subst (λ (places : List ℕ). IsFound id at more (step ∷ lines) places i) (sym is)
          (found_other id at step lines (λ m j below p. found id (at + 1) lines m j below p) e more i inside
          (subst (λ (places : List ℕ). IsPoint at more places i) is point))
    ]

module _ (id : ℕ) (lines : List Step) (places : List ℕ) (from : ℕ) (is : places ≡ places_of id lines) where
  pub parted : IsPartitionedBy (λ place. nat_lt place from) places
  parted i j d order inside before =
      let own : j < length (places_of id lines) = subst (λ (l : List ℕ). j < length l) is inside in
      let rise : get_or places i d ≤ get_or places j d =
      subst (λ (l : List ℕ). get_or l i d ≤ get_or l j d) (sym is) (places_rise id 0 lines i j d order own) in
      lt-ltb (get_or places i d) from (omega (arith, rise, ltb-true (get_or places j d) from before))

  pub next_found : (i : ℕ) → from ≤ length lines → IsPartitionPoint (λ place. nat_lt place from ≡ true) (λ place. nat_lt place from ≡ false) places i
      → get_or places i (length lines) ≡ line_from id lines from
  next_found i inside point =
      let none : from ≡ 0 + from = omega arith in
      let many : length lines ≡ 0 + length lines = omega arith in
      let both : IsPoint 0 from places i = (
        λ k d low high. subst (λ (n : ℕ). get_or places k d < n) none (ltb-true (get_or places k d) from (point.0 k d low high)),
        λ k d low high. subst (λ (n : ℕ). n ≤ get_or places k d) none (ltb-false (get_or places k d) from (point.1 k d low high)),
      ) in
      ap (λ (l : List ℕ). get_or l i (length lines)) is
      ∙ ap (λ (n : ℕ). get_or (places_of id lines) i n) many
      ∙ found id 0 lines from i inside (subst (λ (l : List ℕ). IsPoint 0 from l i) is both)
      ∙ omega arith

-- ---- along the links

-- up to the stream's next line there is no place
pub places_skip : (id at : ℕ) (lines : List Step) → places_from id at lines ≡ places_from id (at + next_own id lines) (drop (next_own id lines) lines)
places_skip id at [] = refl
places_skip id at (step ∷ lines) =
    elim (cases_Bool (step.stream == id)) [
      | inl e ↦
          let none : next_own id (step ∷ lines) ≡ 0 = cond-true (step.stream == id) _ _ e in
          ap (λ (n : ℕ). places_from id n (step ∷ lines)) (let z : at ≡ at + 0 = omega arith in z)
          ∙ ap (λ (n : ℕ). places_from id (at + n) (drop n (step ∷ lines))) (sym none)
      | inr e ↦
          let past : next_own id (step ∷ lines) ≡ suc (next_own id lines) = cond-false (step.stream == id) _ _ e ∙ omega arith in
          other_place id at step lines e
          ∙ places_skip id (at + 1) lines
          ∙ ap (λ (n : ℕ). places_from id n (drop (next_own id lines) lines)) (let z : at + 1 + next_own id lines ≡ at + suc (next_own id lines) = omega arith in z)
          ∙ ap (λ (n : ℕ). places_from id (at + n) (drop n (step ∷ lines))) (sym past)
    ]

-- at a line of the stream its place comes first
pub places_more : (id at : ℕ) (lines : List Step) (step : Step) → at < length lines → ((get_or lines at step).stream == id) ≡ true
    → places_from id at (drop at lines) ≡ at ∷ places_from id (at + 1) (drop (at + 1) lines)
places_more id at lines step inside own =
    ap (places_from id at) (drop_more lines at step inside) ∙ own_place id at (get_or lines at step) (drop (at + 1) lines) own
