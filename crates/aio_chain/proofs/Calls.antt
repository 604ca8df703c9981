-- What each call of a list of indices reads and writes, in terms of the list.
use Rattle.std.proofs.Common.{◌≡◌, ℕ, ◌+◌, ◌<◌, ◌≤◌, true, false, not, cond, eqb, List, [], ◌∷◌, ◌++◌, length, take, Some, None, refl, sym, ◌∙◌, ap, subst, inl, inr, arith}
use Rattle.std.proofs.lemmas.Bool.{cases_Bool, eq-eqb, ne_eqb, or_parts, or_left, or_right}
use Rattle.std.proofs.lemmas.List.{append_assoc, take_at}
use Rattle.aio_chain.specs.declared.links.Node.{Node}
use Rattle.aio_chain.specs.LinkList.{contains, first_of, next_after, put_before, without, IsEachOnce}
use Rattle.aio_chain.specs.Nodes.{next_of_node, prev_in, IsPath, IsCircle, items_in, ArePlaced, PutsBetween, TakesOut}
use Rattle.aio_chain.proofs.Contained.{split_at, contains-middle, contains-right, once_middle, eqb-false_comm}
use Rattle.aio_chain.proofs.Steps.{next_after-split, put_before-split, without-split}
use Rattle.aio_chain.proofs.Circles.{circle_cut, before_cut, circle_put, circle_taken, Keeps, keeps_from}

-- the list cut at an index of it, with the end behind it
round : (items front back : List ℕ) (i end : ℕ) → items ≡ front ++ i ∷ back → items ++ end ∷ [] ≡ front ++ i ∷ (back ++ end ∷ [])
round items front back i end e = ap (λ xs. xs ++ end ∷ []) e ∙ append_assoc front (i ∷ back) (end ∷ [])

module _ (next prev : ℕ → ℕ) (end : ℕ) (items : List ℕ) (circle : IsCircle next prev end items) where
  -- the next of an index whose rest of the list is this
  next_at : (i : ℕ) (front back : List ℕ) → items ≡ front ++ i ∷ back → IsPath next prev i (back ++ end ∷ [])
  next_at i front back e =
      (circle_cut next prev end items circle front i (back ++ end ∷ []) (round items front back i end e)).joined.rest

  in_back : (i x : ℕ) (front back : List ℕ) → items ≡ front ++ i ∷ x ∷ back → contains x items ≡ true
  in_back i x front back e =
      ap (contains x) e ∙ contains-right x front (i ∷ x ∷ back) (or_right (eqb x i) _ (or_left _ _ (eq-eqb x x refl)))

  next_is : (i : ℕ) (front back : List ℕ) → items ≡ front ++ i ∷ back → (cond (eqb (next i) end) None (Some (next i))) ≡ first_of back
  next_is i front [] e =
      let n = next_at i front [] e in
      let at_end : eqb (next i) end ≡ true = eq-eqb (next i) end n.0 in
      rw at_end refl
  next_is i front (x ∷ back) e =
      let n = next_at i front (x ∷ back) e in
      let low = circle.below x (in_back i x front back e) in
      let apart : eqb (next i) end ≡ false = ne_eqb (next i) end (λ q. omega (arith, n.0)) in
      rw apart (ap Some n.0)

  next_ne : (i : ℕ) (front back : List ℕ) → items ≡ front ++ i ∷ back → eqb (next i) i ≡ false
  next_ne i front [] e =
      let n = next_at i front [] e in
      let low = circle.below i (ap (contains i) e ∙ contains-middle i front []) in
      ne_eqb (next i) i (λ q. omega (arith, n.0))
  next_ne i front (x ∷ back) e =
      let n = next_at i front (x ∷ back) e in
      let once = subst IsEachOnce e circle.each_once in
      let apart = (or_parts (eqb i x) _ (once_middle i front (x ∷ back) once).1).0 in
      ap (λ k. eqb k i) n.0 ∙ eqb-false_comm i x apart

  pub has_is : (i : ℕ) → i < end → not (eqb (next i) i) ≡ contains i items
  has_is i low = elim (cases_Bool (contains i items)) [
    | inl h ↦
        let cut = split_at i items h in
        let apart = next_ne i cut.front cut.back cut.is in
        rw (apart, h) refl
    | inr h ↦
        let alone : eqb (next i) i ≡ true = eq-eqb (next i) i (circle.alone i low h) in
        rw (alone, h) refl
  ]

  pub next_after_is : (i : ℕ) → contains i items ≡ true → (cond (eqb (next i) end) None (Some (next i))) ≡ next_after i items
  next_after_is i h =
      let cut = split_at i items h in
      next_is i cut.front cut.back cut.is ∙ sym (ap (next_after i) cut.is ∙ next_after-split i cut.front cut.back cut.absent)

  -- the neighbours of an index in the list, and the last index
  pub prev_low : (i : ℕ) → contains i items ≡ true → prev i ≤ end
  prev_low i h =
      let cut = split_at i items h in
      let is = round items cut.front cut.back i end cut.is in
      let low = before_cut next prev end items circle cut.front i (cut.back ++ end ∷ []) is in
      omega (arith, (circle_cut next prev end items circle cut.front i (cut.back ++ end ∷ []) is).joined.back)

  pub last_low : prev end ≤ end
  last_low =
      let low = before_cut next prev end items circle items end [] refl in
      omega (arith, (circle_cut next prev end items circle items end [] refl).joined.back)

  next_low_at : (i : ℕ) (front back : List ℕ) → items ≡ front ++ i ∷ back → next i ≤ end
  next_low_at i front [] e = omega (arith, (next_at i front [] e).0)
  next_low_at i front (x ∷ back) e =
      omega (arith, (next_at i front (x ∷ back) e).0, circle.below x (in_back i x front back e))

  pub next_low : (i : ℕ) → contains i items ≡ true → next i ≤ end
  next_low i h = let cut = split_at i items h in next_low_at i cut.front cut.back cut.is

module _ (next prev next' prev' : ℕ → ℕ) (end : ℕ) (items : List ℕ) (circle : IsCircle next prev end items) where
  pub circle_push : (i : ℕ) → i < end → contains i items ≡ false → PutsBetween next prev next' prev' end i → IsCircle next' prev' end (items ++ i ∷ [])
  circle_push i low absent put =
      circle_put next prev next' prev' end items circle items end [] refl i low absent put (items ++ i ∷ []) (append_assoc items (i ∷ []) (end ∷ []))

  pub circle_insert : (at i : ℕ) → contains at items ≡ true → i < end → contains i items ≡ false → PutsBetween next prev next' prev' at i
      → IsCircle next' prev' end (put_before at i items)
  circle_insert at i here low absent put =
      let cut = split_at at items here in
      let after : put_before at i items ≡ cut.front ++ i ∷ at ∷ cut.back = ap (put_before at i) cut.is ∙ put_before-split at i cut.front cut.back cut.absent in
      let is' : put_before at i items ++ end ∷ [] ≡ cut.front ++ i ∷ at ∷ (cut.back ++ end ∷ []) = ap (λ xs. xs ++ end ∷ []) after ∙ append_assoc cut.front (i ∷ at ∷ cut.back) (end ∷ []) in
      circle_put next prev next' prev' end items circle cut.front at (cut.back ++ end ∷ []) (round items cut.front cut.back at end cut.is) i low absent put (put_before at i items) is'

  circle_unlink_at : (i : ℕ) (front back : List ℕ) → items ≡ front ++ i ∷ back → TakesOut next prev next' prev' i → IsCircle next' prev' end (front ++ back)
  circle_unlink_at i front [] e taken =
      circle_taken next prev next' prev' end items circle front i end [] (round items front [] i end e) taken (front ++ []) (append_assoc front [] (end ∷ []))
  circle_unlink_at i front (x ∷ back) e taken =
      circle_taken next prev next' prev' end items circle front i x (back ++ end ∷ []) (round items front (x ∷ back) i end e) taken (front ++ x ∷ back) (append_assoc front (x ∷ back) (end ∷ []))

  pub circle_unlink : (i : ℕ) → contains i items ≡ true → TakesOut next prev next' prev' i → IsCircle next' prev' end (without i items)
  circle_unlink i here taken =
      let cut = split_at i items here in
      let once = subst IsEachOnce cut.is circle.each_once in
      let behind = (once_middle i cut.front cut.back once).1 in
      let after : without i items ≡ cut.front ++ cut.back = ap (without i) cut.is ∙ without-split i cut.front cut.back cut.absent behind in
      subst (IsCircle next' prev' end) (sym after) (circle_unlink_at i cut.front cut.back cut.is taken)

-- the nodes that a step left, as the vector has them: its front of so many
module _ (nodes given left tail : List Node) (end count : ℕ) (was : given ≡ nodes) (placed : ArePlaced nodes end)
    (sized : length left ≡ length given) (whole : count ≡ length nodes) where
  keeps_left : (items : List ℕ) → IsCircle (next_of_node left) (prev_in left) end items → Keeps (take count (left ++ tail)) end items
  keeps_left items circle =
      let e : take count (left ++ tail) ≡ left = take_at left tail count (sized ∙ ap length was ∙ sym whole) in
      let size : length left ≡ end + 1 = sized ∙ ap length was ∙ placed.sized in
      subst (λ ns. Keeps ns end items) (sym e) (keeps_from left end items size circle)

  pub pushed : (i : ℕ) → i < end → contains i (items_in nodes end) ≡ false → PutsBetween (next_of_node given) (prev_in given) (next_of_node left) (prev_in left) end i
      → Keeps (take count (left ++ tail)) end (items_in nodes end ++ i ∷ [])
  pushed i low absent put =
      let put' = subst (λ ns. PutsBetween (next_of_node ns) (prev_in ns) (next_of_node left) (prev_in left) end i) was put in
      keeps_left (items_in nodes end ++ i ∷ []) (circle_push (next_of_node nodes) (prev_in nodes) (next_of_node left) (prev_in left) end (items_in nodes end) placed.circle i low absent put')

  pub inserted : (at i : ℕ) → contains at (items_in nodes end) ≡ true → i < end → contains i (items_in nodes end) ≡ false
      → PutsBetween (next_of_node given) (prev_in given) (next_of_node left) (prev_in left) at i
      → Keeps (take count (left ++ tail)) end (put_before at i (items_in nodes end))
  inserted at i here low absent put =
      let put' = subst (λ ns. PutsBetween (next_of_node ns) (prev_in ns) (next_of_node left) (prev_in left) at i) was put in
      keeps_left (put_before at i (items_in nodes end)) (circle_insert (next_of_node nodes) (prev_in nodes) (next_of_node left) (prev_in left) end (items_in nodes end) placed.circle at i here low absent put')

  pub unlinked : (i : ℕ) → contains i (items_in nodes end) ≡ true → TakesOut (next_of_node given) (prev_in given) (next_of_node left) (prev_in left) i
      → Keeps (take count (left ++ tail)) end (without i (items_in nodes end))
  unlinked i here taken =
      let taken' = subst (λ ns. TakesOut (next_of_node ns) (prev_in ns) (next_of_node left) (prev_in left) i) was taken in
      keeps_left (without i (items_in nodes end)) (circle_unlink (next_of_node nodes) (prev_in nodes) (next_of_node left) (prev_in left) end (items_in nodes end) placed.circle i here taken')
