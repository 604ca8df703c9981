-- Requests that are served in the order of a script's lines: what one line more asks, and what is printed of it.
use Rattle.std.proofs.Common.{◌≡◌, ℕ, ◌+◌, ◌<◌, List, [], ◌∷◌, ◌++◌, length, map, take, drop, get_or, Some, sym, ◌∙◌, ap, arith, length-append}
use Rattle.std.proofs.lemmas.List.{append-nil, take_more, drop_more, take-append-drop, length-take-le, get_or-map, get_or_at, map-append, length-map}
use Rattle.aio_model.specs.declared.serving.replies.Placed.{Placed}
use Rattle.aio_model.specs.declared.scripts.image_scripts.Step.{Step}
use Rattle.aio_model.specs.Serving.Asked.{Asked, requests_of, asked_by, asked_below, asked}
use Rattle.aio_model.specs.Serving.SerialHistory.{asked_name, placed_name}
use Rattle.aio_model.specs.Scripts.PrintedText.{line_standing, line_of, line_for, standing_from}
use Rattle.aio_model.proofs.Names.{asked_below-append, standing_from-asked}

-- what is asked by the line at k, as it stands among all
abbrev pub asked_at : List Step → ℕ → Step → List Asked
asked_at lines k step = asked_by step.stream (requests_of step.stream (take k lines)) step.what

module _ (lines : List Step) (k : ℕ) (step : Step) (inside : k < length lines) (here : step ≡ get_or lines k step) where
  pub asked-more : asked (take (k + 1) lines) ≡ asked (take k lines) ++ asked_at lines k step
  asked-more =
      ap asked (take_more lines k step inside ∙ ap (λ s. take k lines ++ s ∷ []) (sym here))
      ∙ asked_below-append [] (take k lines) (step ∷ [])
      ∙ ap (λ tail. asked (take k lines) ++ tail) (append-nil (asked_at lines k step))

  -- the requests below that line
  abbrev pub asked_rest : List Asked
  asked_rest = asked_below (take k lines ++ step ∷ []) (drop (k + 1) lines)

  pub asked-split : asked lines ≡ asked (take k lines) ++ (asked_at lines k step ++ asked_rest)
  asked-split =
      ap asked (sym (take-append-drop k lines) ∙ ap (λ tail. take k lines ++ tail) (drop_more lines k step inside ∙ ap (λ s. s ∷ drop (k + 1) lines) (sym here)))
      ∙ asked_below-append [] (take k lines) (step ∷ drop (k + 1) lines)

-- The line of a request, where the replies have the names of a script's requests in the same order: it is that of the
-- reply at the same place.
module _ (lines : List Step) (served : List Placed) (names : map placed_name served ≡ map asked_name (asked lines)) where
  module _ (front : List Asked) (a : Asked) (rest : List Asked) (split : asked lines ≡ front ++ a ∷ rest) where
    pub served-inside : length front < length served
    served-inside =
        let same : length served ≡ length (asked lines) = sym (length-map served placed_name) ∙ ap length names ∙ length-map (asked lines) asked_name in
        let parts : length (asked lines) ≡ length front + length (a ∷ rest) = ap length split ∙ length-append front (a ∷ rest) in
        omega arith

    module _ (d : Placed) where
      pub name-served : placed_name (get_or served (length front) d) ≡ asked_name a
      name-served =
          sym (get_or-map placed_name served (length front) d (asked_name a) served-inside)
          ∙ ap (λ all. get_or all (length front) (asked_name a)) (names ∙ ap (map asked_name) split ∙ map-append asked_name front (a ∷ rest))
          ∙ get_or_at (map asked_name front) (asked_name a) (map asked_name rest) (asked_name a) (length front) (length-map front asked_name)

      pub line_for-served : line_for served a ≡ line_of (length front) a.stream a.request (get_or served (length front) d).reply
      line_for-served =
          let k = length front in
          let placed = get_or served k d in
          let whole : served ≡ take k served ++ placed ∷ drop (k + 1) served =
          sym (take-append-drop k served) ∙ ap (λ tail. take k served ++ tail) (drop_more served k d served-inside) in
          let named : map placed_name (take k served ++ placed ∷ drop (k + 1) served) ≡ map asked_name (asked lines) =
          sym (ap (map placed_name) whole) ∙ names in
          let stands : standing_from 0 served placed.stream placed.index ≡ Some (record { place = length (take k served); reply = placed.reply }) =
          ap (λ all. standing_from 0 all placed.stream placed.index) whole
          ∙ standing_from-asked lines (take k served) placed (drop (k + 1) served) named in
          let place : length (take k served) ≡ k = length-take-le k served (omega (arith, served-inside)) in
          let found : standing_from 0 served a.stream a.index ≡ Some (record { place = k; reply = placed.reply }) =
          ap (λ (n : ℕ × ℕ). standing_from 0 served n.0 n.1) (sym name-served) ∙ stands
          ∙ ap (λ n. Some (record { place = n; reply = placed.reply })) place in
          ap (line_standing a.stream a.request) found
