-- Links through the lines of each stream: a line more in front.
use Rattle.std.proofs.Common.{◌≡◌, ◌≢◌, ℕ, ◌+◌, ◌<◌, ◌≤◌, ◌==◌, List, length, get_or, set, slice_index, replicate, inl, inr, sym, ap, ◌∙◌, subst, arith, get_or-set_other, get_or-set_same, length-set}
use Rattle.std.proofs.lemmas.List.{get_or_default, get_or-replicate}
use Rattle.std.proofs.lemmas.Bool.{cases_Bool, cases_lt, eqb-true, eqb-false}
use Rattle.aio_model.specs.declared.scripts.image_scripts.Step.{Step}
use Rattle.img_streams.specs.Lines.{line_from}
use Rattle.img_streams.specs.Links.{LeadFrom}
use Rattle.img_streams.proofs.LinesAlong.{next_here, next_past, next_end}

module _ (lines : List Step) (at : ℕ) (step : Step) (first next : List ℕ)
    (inside : at < length lines) (here : step ≡ get_or lines at step) (lead : LeadFrom lines (at + 1) first next) where
  own : (other : Step) → (get_or lines at other).stream ≡ step.stream
  own other = ap (λ (s : Step). s.stream) (get_or_default lines at other step inside ∙ sym here)

  -- behind this line nothing changes
  past : (id : ℕ) → step.stream ≢ id → line_from id lines (at + 1) ≡ line_from id lines at
  past id other = next_past id lines at step inside (λ e. other (sym (own step) ∙ e))

  -- a line of a stream that has links
  pub linked : step.stream < 64 → length first ≡ 64 → LeadFrom lines at (set first step.stream at) (set next at (slice_index first step.stream))
  linked known many = record {
    many = length-set next at (slice_index first step.stream) ∙ lead.many;
    firsts = λ id low. elim (cases_Bool (step.stream == id)) [
      | inl e ↦
          let same : step.stream ≡ id = eqb-true step.stream id e in
          let there : slice_index (set first step.stream at) step.stream ≡ at = get_or-set_same first step.stream at 0 (omega (arith, known, many)) in
          ap (λ (n : ℕ). slice_index (set first step.stream at) n) (sym same)
          ∙ there
          ∙ sym (next_here id lines at step inside (own step ∙ same))
      | inr e ↦
          let other : step.stream ≢ id = eqb-false step.stream id e in
          get_or-set_other first step.stream id at 0 (λ s. other (sym s)) ∙ lead.firsts id low ∙ past id other
    ];
    nexts = λ place any from below low. elim (cases_lt at place) [
      | inl later ↦
          get_or-set_other next at place (slice_index first step.stream) 0 (let ne : place ≢ at = omega (arith, later) in ne)
          ∙ lead.nexts place any (omega (arith, later)) below low
      | inr up ↦
          let is : place ≡ at = omega (arith, up, from) in
          subst
          (λ (n : ℕ). slice_index (set next at (slice_index first step.stream)) n ≡ line_from (get_or lines n any).stream lines (n + 1))
          (sym is)
          (get_or-set_same next at (slice_index first step.stream) 0 (omega (arith, inside, lead.many))
          ∙ lead.firsts step.stream known
          ∙ ap (λ (id : ℕ). line_from id lines (at + 1)) (sym (own any)))
    ];
  }

  -- a line of another
  pub unlinked : 64 ≤ step.stream → LeadFrom lines at first next
  unlinked high = record {
    many = lead.many;
    firsts = λ id low. lead.firsts id low ∙ past id (let ne : step.stream ≢ id = omega (arith, high, low) in ne);
    nexts = λ place any from below low. elim (cases_lt at place) [
      | inl later ↦ lead.nexts place any (omega (arith, later)) below low
      | inr up ↦
          let is : place ≡ at = omega (arith, up, from) in
          let same : (get_or lines place any).stream ≡ step.stream = ap (λ (n : ℕ). (get_or lines n any).stream) is ∙ own any in
          absurd (omega (arith, high, low, same))
    ];
  }

-- behind the last line there is none
pub none_linked : (lines : List Step) (next : List ℕ) → length next ≡ length lines → LeadFrom lines (length lines) (replicate 64 (length lines)) next
none_linked lines next many = record {
  many = many;
  firsts = λ id low. get_or-replicate 64 id (length lines) 0 low ∙ sym (next_end id lines (length lines) (omega arith));
  nexts = λ place step from below low. absurd (omega (arith, from, below));
}
