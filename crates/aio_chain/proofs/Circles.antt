-- Circles of neighbours: one index more, and one less.
use Rattle.std.proofs.Common.{◌≡◌, ℕ, ◌+◌, ◌<◌, ◌≤◌, true, false, ◌||◌, eqb, List, [], ◌∷◌, ◌++◌, length, refl, sym, ◌∙◌, ap, subst, inl, inr, arith}
use Rattle.std.proofs.lemmas.Bool.{false≢true, cases_Bool, both_ways, eq-eqb, ne_eqb, eqb-true, or_parts, or_from, or_left, or_right, or_cases}
use Rattle.std.proofs.lemmas.List.{append_assoc}
use Rattle.aio_chain.specs.declared.links.Node.{Node}
use Rattle.aio_chain.specs.LinkList.{contains, IsEachOnce}
use Rattle.aio_chain.specs.Nodes.{next_of_node, prev_in, IsPath, walk, IsCircle, items_in, ArePlaced, PutsBetween, TakesOut}
use Rattle.aio_chain.proofs.Contained.{absent_parts, absent_from, contains-append, contains-insert, contains-middle, eqb-false_comm, once_middle, once_insert, once_remove, once_push, once_left, length-le_room}
use Rattle.aio_chain.proofs.Paths.{last_of, sources, sources-append, sources-push, Joined, path_parts, path_from, walk-path, SameBut, path_kept}

-- at an equal number, and at another
eqb-same : (a : ℕ) → eqb a a ≡ true
eqb-same a = eq-eqb a a refl

module _ (next prev next' prev' : ℕ → ℕ) (at i b : ℕ) (before : prev at ≡ b) (put : PutsBetween next prev next' prev' at i) where
  put_same : SameBut next prev next' prev' i b at i
  put_same = record {
    on = λ k h g.
        let k_i = eqb-false_comm i k h in
        let k_b : eqb k (prev at) ≡ false = ap (eqb k) before ∙ eqb-false_comm b k g in
        put.on k ∙ (rw (k_i, k_b) refl);
    back = λ k h g.
        let k_at = eqb-false_comm at k h in
        let k_i = eqb-false_comm i k g in
        put.back k ∙ (rw (k_at, k_i) refl);
  }

  put_on_before : eqb i b ≡ false → next' b ≡ i
  put_on_before apart =
      let b_b : eqb b (prev at) ≡ true = eq-eqb b (prev at) (sym before) in
      put.on b ∙ (rw (eqb-false_comm i b apart, b_b) refl)

  put_back_here : eqb i at ≡ false → prev' i ≡ b
  put_back_here apart =
      let i_i = eqb-same i in
      put.back i ∙ (rw (apart, i_i) before)

  put_on_here : next' i ≡ at
  put_on_here =
      let i_i = eqb-same i in
      put.on i ∙ (rw i_i refl)

  put_back_behind : prev' at ≡ i
  put_back_behind =
      let at_at = eqb-same at in
      put.back at ∙ (rw at_at refl)

module _ (next prev next' prev' : ℕ → ℕ) (i at b : ℕ) (before : prev i ≡ b) (behind : next i ≡ at) (taken : TakesOut next prev next' prev' i) where
  take_same : SameBut next prev next' prev' i b at i
  take_same = record {
    on = λ k h g.
        let k_b : eqb k (prev i) ≡ false = ap (eqb k) before ∙ eqb-false_comm b k g in
        let k_i = eqb-false_comm i k h in
        taken.on k ∙ (rw (k_i, k_b) refl);
    back = λ k h g.
        let k_at : eqb k (next i) ≡ false = ap (eqb k) behind ∙ eqb-false_comm at k h in
        let k_i = eqb-false_comm i k g in
        taken.back k ∙ (rw (k_i, k_at) refl);
  }

  take_on_before : eqb i b ≡ false → next' b ≡ at
  take_on_before apart =
      let b_b : eqb b (prev i) ≡ true = eq-eqb b (prev i) (sym before) in
      taken.on b ∙ (rw (eqb-false_comm i b apart, b_b) behind)

  take_back_behind : eqb i at ≡ false → prev' at ≡ b
  take_back_behind apart =
      let at_at : eqb at (next i) ≡ true = eq-eqb at (next i) (sym behind) in
      taken.back at ∙ (rw (eqb-false_comm i at apart, at_at) before)

  take_alone : next' i ≡ i
  take_alone =
      let i_i = eqb-same i in
      taken.on i ∙ (rw i_i refl)

-- what a circle says of its indices and of the end
module _ (next prev : ℕ → ℕ) (end : ℕ) (items : List ℕ) (circle : IsCircle next prev end items) where
  pub end_absent : contains end items ≡ false
  end_absent = elim (cases_Bool (contains end items)) [
    | inl h ↦ absurd (omega (arith, circle.below end h))
    | inr h ↦ h
  ]

  pub circle_once : IsEachOnce (items ++ end ∷ [])
  circle_once = once_push end items end_absent circle.each_once

  pub circle_sources : sources end (items ++ end ∷ []) ≡ end ∷ items
  circle_sources = sources-push end items end

  pub absent_round : (k : ℕ) → k < end → contains k items ≡ false → contains k (items ++ end ∷ []) ≡ false
  absent_round k below absent =
      absent_from k items (end ∷ []) absent (or_from _ _ (ne_eqb k end (λ e. omega arith)) refl)

  pub circle_walks : walk next prev end end (next end) ≡ items
  circle_walks =
      walk-path next prev end end items end circle.path end_absent (length-le_room items end circle.each_once circle.below)

-- a circle cut between two of its indices
pub record Cut (next prev : ℕ → ℕ) (end : ℕ) (front : List ℕ) (at : ℕ) (back : List ℕ) : Type 0 where
  pub joined : Joined next prev end front at back
  pub once : IsEachOnce (front ++ at ∷ back)
  pub once_sources : IsEachOnce (sources end front ++ last_of end front ∷ sources at back)

module _ (next prev : ℕ → ℕ) (end : ℕ) (items : List ℕ) (circle : IsCircle next prev end items)
    (front : List ℕ) (at : ℕ) (back : List ℕ) (is : items ++ end ∷ [] ≡ front ++ at ∷ back) where
  cut_sources : end ∷ items ≡ sources end front ++ last_of end front ∷ sources at back
  cut_sources =
      sym (circle_sources next prev end items circle) ∙ ap (sources end) is ∙ sources-append end front at back

  pub circle_cut : Cut next prev end front at back
  circle_cut = record {
    joined = path_parts next prev end front at back (subst (IsPath next prev end) is circle.path);
    once = subst IsEachOnce is (circle_once next prev end items circle);
    once_sources =
        let once : IsEachOnce (end ∷ items) = (end_absent next prev end items circle, circle.each_once) in
        subst IsEachOnce cut_sources once;
  }

  pub absent_cut_sources : (k : ℕ) → k < end → contains k items ≡ false → contains k (sources end front ++ last_of end front ∷ sources at back) ≡ false
  absent_cut_sources k below absent =
      ap (contains k) (sym cut_sources) ∙ or_from _ _ (ne_eqb k end (λ e. omega arith)) absent

  pub absent_cut : (k : ℕ) → k < end → contains k items ≡ false → contains k (front ++ at ∷ back) ≡ false
  absent_cut k below absent =
      ap (contains k) (sym is) ∙ absent_round next prev end items circle k below absent

  -- the index before the cut
  pub before_cut : last_of end front ≤ end
  before_cut =
      let here : contains (last_of end front) (end ∷ items) ≡ true =
      ap (contains (last_of end front)) cut_sources ∙ contains-middle (last_of end front) (sources end front) (sources at back) in
      elim (or_cases (eqb (last_of end front) end) (contains (last_of end front) items) here) [
        | inl e ↦ omega (arith, eqb-true (last_of end front) end e)
        | inr h ↦ omega (arith, circle.below (last_of end front) h)
      ]

-- a path with one index more
module _ (next prev next' prev' : ℕ → ℕ) (end : ℕ) (front : List ℕ) (at : ℕ) (back : List ℕ) (cut : Cut next prev end front at back)
    (i : ℕ) (put : PutsBetween next prev next' prev' at i)
    (no_source : contains i (sources end front ++ last_of end front ∷ sources at back) ≡ false)
    (absent : contains i (front ++ at ∷ back) ≡ false) where
  pub path_put : IsPath next' prev' end (front ++ i ∷ at ∷ back)
  path_put =
      let b = last_of end front in
      let j = cut.joined in
      let source = absent_parts i (sources end front) (b ∷ sources at back) no_source in
      let source_rest = or_parts (eqb i b) (contains i (sources at back)) source.1 in
      let target = absent_parts i front (at ∷ back) absent in
      let target_rest = or_parts (eqb i at) (contains i back) target.1 in
      let mid_source = once_middle b (sources end front) (sources at back) cut.once_sources in
      let mid = once_middle at front back cut.once in
      let same = put_same next prev next' prev' at i b j.back put in
      let kept = path_kept next prev next' prev' i b at i same in
      path_from next' prev' end front i (at ∷ back) (record {
        front = kept end front source.0 mid_source.0 mid.0 target.0 j.front;
        on = put_on_before next prev next' prev' at i b j.back put source_rest.0;
        back = put_back_here next prev next' prev' at i b j.back put target_rest.0;
        rest = (
          put_on_here next prev next' prev' at i b j.back put,
          put_back_behind next prev next' prev' at i b j.back put,
          kept at back source_rest.1 mid_source.1 mid.1 target_rest.1 j.rest,
        );
      })

-- a path with one index less
module _ (next prev next' prev' : ℕ → ℕ) (end : ℕ) (front : List ℕ) (i at : ℕ) (back : List ℕ) (cut : Cut next prev end front i (at ∷ back))
    (taken : TakesOut next prev next' prev' i) where
  pub path_taken : IsPath next' prev' end (front ++ at ∷ back)
  path_taken =
      let b = last_of end front in
      let j = cut.joined in
      let on = j.rest.0 in
      let S = sources at back in
      let mid_source = once_middle b (sources end front) (i ∷ S) cut.once_sources in
      let b_rest = or_parts (eqb b i) (contains b S) mid_source.1 in
      let moved : IsEachOnce ((sources end front ++ b ∷ []) ++ i ∷ S) =
      subst IsEachOnce (sym (append_assoc (sources end front) (b ∷ []) (i ∷ S))) cut.once_sources in
      let i_source = once_middle i (sources end front ++ b ∷ []) S moved in
      let i_front = absent_parts i (sources end front) (b ∷ []) i_source.0 in
      let i_b = (or_parts (eqb i b) false i_front.1).0 in
      let i_mid = once_middle i front (at ∷ back) cut.once in
      let i_rest = or_parts (eqb i at) (contains i back) i_mid.1 in
      let at_mid = once_middle at front back (once_remove i front (at ∷ back) cut.once) in
      let same = take_same next prev next' prev' i at b j.back on taken in
      let kept = path_kept next prev next' prev' i b at i same in
      path_from next' prev' end front at back (record {
        front = kept end front i_front.0 mid_source.0 at_mid.0 i_mid.0 j.front;
        on = take_on_before next prev next' prev' i at b j.back on taken i_b;
        back = take_back_behind next prev next' prev' i at b j.back on taken i_rest.0;
        rest = kept at back i_source.1 b_rest.1 at_mid.1 i_rest.1 j.rest.2;
      })

-- a circle with one index more
module _ (next prev next' prev' : ℕ → ℕ) (end : ℕ) (items : List ℕ) (circle : IsCircle next prev end items)
    (front : List ℕ) (at : ℕ) (back : List ℕ) (is : items ++ end ∷ [] ≡ front ++ at ∷ back)
    (i : ℕ) (below : i < end) (absent : contains i items ≡ false) (put : PutsBetween next prev next' prev' at i)
    (items' : List ℕ) (is' : items' ++ end ∷ [] ≡ front ++ i ∷ at ∷ back) where
  put_once : IsEachOnce (items' ++ end ∷ [])
  put_once =
      let cut = circle_cut next prev end items circle front at back is in
      let no = absent_cut next prev end items circle front at back is i below absent in
      subst IsEachOnce (sym is') (once_insert i front (at ∷ back) no cut.once)

  put_contains : (k : ℕ) → (contains k items' || (eqb k end || false)) ≡ (eqb k i || (contains k items || (eqb k end || false)))
  put_contains k =
      sym (contains-append k items' (end ∷ [])) ∙ ap (contains k) is' ∙ contains-insert k i front (at ∷ back)
      ∙ ap (λ xs. eqb k i || contains k xs) (sym is) ∙ ap (λ b. eqb k i || b) (contains-append k items (end ∷ []))

  put_end : contains end items' ≡ false
  put_end = (once_middle end items' [] put_once).0

  put_below : (k : ℕ) → contains k items' ≡ true → k < end
  put_below k h =
      let all : (eqb k i || (contains k items || (eqb k end || false))) ≡ true = sym (put_contains k) ∙ or_left _ _ h in
      elim (or_cases (eqb k i) (contains k items || (eqb k end || false)) all) [
        | inl e ↦ omega (arith, eqb-true k i e)
        | inr other ↦
            elim (or_cases (contains k items) (eqb k end || false) other) [
              | inl old ↦ circle.below k old
              | inr at_end ↦
                  elim (or_cases (eqb k end) false at_end) [
                    | inl e ↦ absurd (both_ways (contains end items') put_end (ap (λ x. contains x items') (sym (eqb-true k end e)) ∙ h))
                    | inr no_more ↦ absurd (false≢true no_more)
                  ]
            ]
      ]

  put_alone : (k : ℕ) → k < end → contains k items' ≡ false → next' k ≡ k
  put_alone k low gone =
      let b = last_of end front in
      let cut = circle_cut next prev end items circle front at back is in
      let apart : eqb k end ≡ false = ne_eqb k end (λ e. omega arith) in
      let none : (contains k items' || (eqb k end || false)) ≡ false = or_from _ _ gone (or_from _ _ apart refl) in
      let all : (eqb k i || (contains k items || (eqb k end || false))) ≡ false = sym (put_contains k) ∙ none in
      let parts = or_parts (eqb k i) (contains k items || (eqb k end || false)) all in
      let old = (or_parts (contains k items) (eqb k end || false) parts.1).0 in
      let sources_no = absent_cut_sources next prev end items circle front at back is k low old in
      let rest = absent_parts k (sources end front) (b ∷ sources at back) sources_no in
      let k_b = (or_parts (eqb k b) (contains k (sources at back)) rest.1).0 in
      let same = put_same next prev next' prev' at i b cut.joined.back put in
      same.on k (eqb-false_comm k i parts.0) (eqb-false_comm k b k_b) ∙ circle.alone k low old

  pub circle_put : IsCircle next' prev' end items'
  circle_put =
      let cut = circle_cut next prev end items circle front at back is in
      record {
        path =
            subst (IsPath next' prev' end) (sym is') (path_put next prev next' prev' end front at back cut i put (absent_cut_sources next prev end items circle front at back is i below absent) (absent_cut next prev end items circle front at back is i below absent));
        each_once = once_left items' (end ∷ []) put_once;
        below = put_below;
        alone = put_alone;
      }

-- a circle with one index less
module _ (next prev next' prev' : ℕ → ℕ) (end : ℕ) (items : List ℕ) (circle : IsCircle next prev end items)
    (front : List ℕ) (i at : ℕ) (back : List ℕ) (is : items ++ end ∷ [] ≡ front ++ i ∷ at ∷ back)
    (taken : TakesOut next prev next' prev' i)
    (items' : List ℕ) (is' : items' ++ end ∷ [] ≡ front ++ at ∷ back) where
  taken_once : IsEachOnce (items' ++ end ∷ [])
  taken_once =
      let cut = circle_cut next prev end items circle front i (at ∷ back) is in
      subst IsEachOnce (sym is') (once_remove i front (at ∷ back) cut.once)

  taken_contains : (k : ℕ) → (contains k items || (eqb k end || false)) ≡ (eqb k i || (contains k items' || (eqb k end || false)))
  taken_contains k =
      sym (contains-append k items (end ∷ [])) ∙ ap (contains k) is ∙ contains-insert k i front (at ∷ back)
      ∙ ap (λ xs. eqb k i || contains k xs) (sym is') ∙ ap (λ b. eqb k i || b) (contains-append k items' (end ∷ []))

  taken_end : contains end items' ≡ false
  taken_end = (once_middle end items' [] taken_once).0

  taken_below : (k : ℕ) → contains k items' ≡ true → k < end
  taken_below k h =
      let all : (contains k items || (eqb k end || false)) ≡ true = taken_contains k ∙ or_right (eqb k i) _ (or_left _ _ h) in
      elim (or_cases (contains k items) (eqb k end || false) all) [
        | inl old ↦ circle.below k old
        | inr at_end ↦
            elim (or_cases (eqb k end) false at_end) [
              | inl e ↦ absurd (both_ways (contains end items') taken_end (ap (λ x. contains x items') (sym (eqb-true k end e)) ∙ h))
              | inr no_more ↦ absurd (false≢true no_more)
            ]
      ]

  taken_apart : (k : ℕ) → k < end → contains k items' ≡ false → eqb k i ≡ false → next' k ≡ k
  taken_apart k low gone k_i =
      let b = last_of end front in
      let cut = circle_cut next prev end items circle front i (at ∷ back) is in
      let apart : eqb k end ≡ false = ne_eqb k end (λ e. omega arith) in
      let none : (eqb k i || (contains k items' || (eqb k end || false))) ≡ false = or_from _ _ k_i (or_from _ _ gone (or_from _ _ apart refl)) in
      let all : (contains k items || (eqb k end || false)) ≡ false = taken_contains k ∙ none in
      let old = (or_parts (contains k items) (eqb k end || false) all).0 in
      let sources_no = absent_cut_sources next prev end items circle front i (at ∷ back) is k low old in
      let rest = absent_parts k (sources end front) (b ∷ sources i (at ∷ back)) sources_no in
      let k_b = (or_parts (eqb k b) (contains k (sources i (at ∷ back))) rest.1).0 in
      let same = take_same next prev next' prev' i at b cut.joined.back cut.joined.rest.0 taken in
      same.on k (eqb-false_comm k i k_i) (eqb-false_comm k b k_b) ∙ circle.alone k low old

  taken_alone : (k : ℕ) → k < end → contains k items' ≡ false → next' k ≡ k
  taken_alone k low gone = elim (cases_Bool (eqb k i)) [
    | inl e ↦
        let k_i = eqb-true k i e in
        let cut = circle_cut next prev end items circle front i (at ∷ back) is in
        let here = take_alone next prev next' prev' i at (last_of end front) cut.joined.back cut.joined.rest.0 taken in
        subst (λ x. next' x ≡ x) (sym k_i) here
    | inr k_i ↦ taken_apart k low gone k_i
  ]

  pub circle_taken : IsCircle next' prev' end items'
  circle_taken =
      let cut = circle_cut next prev end items circle front i (at ∷ back) is in
      record {
        path = subst (IsPath next' prev' end) (sym is') (path_taken next prev next' prev' end front i at back cut taken);
        each_once = once_left items' (end ∷ []) taken_once;
        below = taken_below;
        alone = taken_alone;
      }

-- nodes that keep this list
pub record Keeps (nodes : List Node) (end : ℕ) (items : List ℕ) : Type 0 where
  pub items_are : items_in nodes end ≡ items
  pub placed : ArePlaced nodes end

pub keeps_from : (nodes : List Node) (end : ℕ) (items : List ℕ) → length nodes ≡ end + 1 → IsCircle (next_of_node nodes) (prev_in nodes) end items → Keeps nodes end items
keeps_from nodes end items sized circle =
    let e : items_in nodes end ≡ items = circle_walks (next_of_node nodes) (prev_in nodes) end items circle in
    record {
      items_are = e;
      placed = record {
        sized = sized;
        circle = subst (IsCircle (next_of_node nodes) (prev_in nodes) end) (sym e) circle;
      };
    }
