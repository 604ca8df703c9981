-- A reply is found by its name among the served ones, where its stream's replies stand in their order.
use Rattle.std.proofs.Common.{◌≡◌, ℕ, zero, suc, ◌+◌, ◌<◌, ◌==◌, ◌&&◌, true, List, [], ◌∷◌, length, map, get_or, Some, inl, inr, sym, ◌∙◌, ap, subst, arith}
use Rattle.std.proofs.lemmas.Bool.{cases_Bool, eq-eqb, ne_eqb, and_left, and_right, and_from, cond-true, cond-false}
use Rattle.aio_model.specs.declared.serving.replies.Placed.{Placed}
use Rattle.aio_model.specs.Serving.SerialHistory.{CountsFrom, indices_of}
use Rattle.aio_model.specs.Scripts.PrintedText.{Standing, standing_from}
use Rattle.reply_printing.specs.Standings.{standings_of}

module _ (stream : ℕ) (d : Standing) where
  pub standing_from-counts : (place index : ℕ) (served : List Placed) (k : ℕ)
      → CountsFrom index (indices_of stream served) → k < length (standings_of stream place served)
      → standing_from place served stream (index + k) ≡ Some (get_or (standings_of stream place served) k d)
  standing_from-counts place index [] k counts inside = absurd (omega arith)
  standing_from-counts place index (placed ∷ served) k counts inside =
      let one : Standing = record { place = place; reply = placed.reply } in
      let rest : List Standing = standings_of stream (place + 1) served in
      elim (cases_Bool (placed.stream == stream)) [
        | inl h ↦
            let all : standings_of stream place (placed ∷ served) ≡ one ∷ rest = cond-true (placed.stream == stream) (one ∷ rest) rest h in
            let indices : indices_of stream (placed ∷ served) ≡ placed.index ∷ indices_of stream served = ap (map (λ (p : Placed). p.index)) (cond-true _ _ _ h) in
            let counted : CountsFrom index (placed.index ∷ indices_of stream served) = subst (CountsFrom index) indices counts in
            own_found place index placed served k h counted.0 (subst (λ (xs : List Standing). k < length xs) all inside)
            (λ j below. standing_from-counts (place + 1) (index + 1) served j counted.1 below)
            ∙ ap (λ (xs : List Standing). Some (get_or xs k d)) (sym all)
        | inr h ↦
            let all : standings_of stream place (placed ∷ served) ≡ rest = cond-false (placed.stream == stream) (one ∷ rest) rest h in
            let indices : indices_of stream (placed ∷ served) ≡ indices_of stream served = ap (map (λ (p : Placed). p.index)) (cond-false _ _ _ h) in
            cond-false (placed.stream == stream && placed.index == index + k) _ _ (and_left _ _ h)
            ∙ standing_from-counts (place + 1) index served k (subst (CountsFrom index) indices counts) (subst (λ (xs : List Standing). k < length xs) all inside)
            ∙ ap (λ (xs : List Standing). Some (get_or xs k d)) (sym all)
      ]
    where
      -- the first one of the stream, or one behind it
      own_found : (place index : ℕ) (placed : Placed) (served : List Placed) (k : ℕ)
          → (placed.stream == stream) ≡ true → placed.index ≡ index
          → k < length (record { place = place; reply = placed.reply } ∷ standings_of stream (place + 1) served)
          → ((j : ℕ) → j < length (standings_of stream (place + 1) served) → standing_from (place + 1) served stream (index + 1 + j) ≡ Some (get_or (standings_of stream (place + 1) served) j d))
          → standing_from place (placed ∷ served) stream (index + k) ≡ Some (get_or (record { place = place; reply = placed.reply } ∷ standings_of stream (place + 1) served) k d)
      own_found place index placed served zero h is inside later =
          let here : placed.index ≡ index + zero = omega (arith, is) in
          cond-true (placed.stream == stream && placed.index == index + zero) _ _ (and_from _ _ h (eq-eqb placed.index (index + zero) here))
      own_found place index placed served (suc j) h is inside later =
          let other : placed.index ≡ index + suc j → ⊥ = λ e. omega (arith, is, e) in
          let step : index + suc j ≡ index + 1 + j = omega arith in
          cond-false (placed.stream == stream && placed.index == index + suc j) _ _ (and_right _ _ (ne_eqb placed.index (index + suc j) other))
          ∙ ap (λ n. standing_from (place + 1) served stream n) step
          ∙ later j (omega (arith, inside))
