-- Requests by their names, from a script's lines.
use Rattle.std.proofs.Common.{◌≡◌, ℕ, ◌+◌, ◌<◌, ◌≤◌, ◌==◌, ◌&&◌, true, cond, List, [], ◌∷◌, ◌++◌, length, take, get_or, Some, None, inl, inr, refl, sym, ◌∙◌, ap, subst, arith}
use Rattle.std.specs.List.{slice_get, count_by}
use Rattle.std.proofs.lemmas.Bool.{cases_Bool, eqb-true, eq-eqb, and_from, and_parts, cond-true, cond-false}
use Rattle.std.proofs.lemmas.List.{append_assoc, take_more, length-append}
use Rattle.std.proofs.lemmas.List.Sums.{sum_by-append, sum_by-cons}
use Rattle.std.proofs.lemmas.Option.{get_or_from_slice_get}
use Rattle.aio_model.specs.declared.serving.requests.Request.{Request}
use Rattle.aio_model.specs.declared.scripts.image_scripts.Step.{Step}
use Rattle.aio_model.specs.declared.scripts.image_scripts.What.{What}
use Rattle.aio_model.specs.declared.scripts.image_scripts.What.TheVariants.{Ask, Delay, Move}
use Rattle.aio_model.specs.Serving.Asked.{Asked, is_ask, requests_of, asked_by, asked_below, asked, request_named}
use Rattle.aio_model.proofs.InOrder.{asked_rest, asked-split}
use Rattle.aio_model.proofs.Names.{request_named-asked, requests_of-push}

-- with the line at k
pub requests_of-more : (stream : ℕ) (lines : List Step) (k : ℕ) (step : Step) → k < length lines → get_or lines k step ≡ step
    → requests_of stream (take (k + 1) lines) ≡ requests_of stream (take k lines) + cond (step.stream == stream && is_ask step.what) 1 0
requests_of-more stream lines k step inside here =
    ap (requests_of stream) (take_more lines k step inside ∙ ap (λ (s : Step). take k lines ++ s ∷ []) here)
    ∙ requests_of-push stream (take k lines) step

abbrev pub ask : ℕ → Request → Step
ask stream request = record { stream = stream; what = Ask request }

module _ (lines : List Step) (stream k : ℕ) (request : Request) (inside : k < length lines) (here : slice_get lines k ≡ Some (ask stream request)) where
  at_k : get_or lines k (ask stream request) ≡ ask stream request
  at_k = get_or_from_slice_get lines k (ask stream request) (ask stream request) here

  -- the request of a line has the number of its stream's requests above as its index
  pub named_at : request_named (asked lines) stream (requests_of stream (take k lines)) ≡ Some request
  named_at =
      request_named-asked lines (asked (take k lines)) (record { stream = stream; index = requests_of stream (take k lines); request = request })
      (asked_rest lines k (ask stream request) inside (sym at_k))
      (asked-split lines k (ask stream request) inside (sym at_k))

  pub one_above : requests_of stream (take (k + 1) lines) ≡ requests_of stream (take k lines) + 1
  one_above =
      requests_of-more stream lines k (ask stream request) inside at_k
      ∙ ap (λ n. requests_of stream (take k lines) + n) (cond-true (stream == stream && true) 1 0 (and_from _ _ (eq-eqb stream stream refl) refl))

-- ---- names that aren't there

module _ (stream index : ℕ) where
  absent_by : (own number : ℕ) (what : What) (rest : List Asked) → (is_ask what ≡ true → own ≡ stream → number ≡ index → ⊥)
      → request_named rest stream index ≡ None → request_named (asked_by own number what ++ rest) stream index ≡ None
  absent_by own number (Ask request) rest other absent =
      elim (cases_Bool (own == stream && number == index)) [
        | inl h ↦
            let both = and_parts (own == stream) (number == index) h in
            absurd (other refl (eqb-true own stream both.0) (eqb-true number index both.1))
        | inr h ↦ cond-false _ _ _ h ∙ absent
      ]
  absent_by own number (Delay ns) rest other absent = absent
  absent_by own number (Move loop) rest other absent = absent

  absent_below : (above lines : List Step) → requests_of stream (above ++ lines) ≤ index → request_named (asked_below above lines) stream index ≡ None
  absent_below above [] few = refl
  absent_below above (step ∷ lines) few =
      let next : (above ++ step ∷ []) ++ lines ≡ above ++ step ∷ lines = append_assoc above (step ∷ []) lines in
      let counted : Step → ℕ = λ (s : Step). cond (s.stream == stream && is_ask s.what) 1 0 in
      let parts : requests_of stream (above ++ step ∷ lines) ≡ requests_of stream above + requests_of stream (step ∷ lines) =
      sum_by-append counted above (step ∷ lines) in
      let first : requests_of stream (step ∷ lines) ≡ counted step + requests_of stream lines = sum_by-cons counted step lines in
      absent_by step.stream (requests_of step.stream above) step.what (asked_below (above ++ step ∷ []) lines)
      (λ asks own number.
      let one : counted step ≡ 1 = cond-true (step.stream == stream && is_ask step.what) 1 0 (and_from _ _ (eq-eqb step.stream stream own) asks) in
      let here : requests_of stream above ≡ index = ap (λ s. requests_of s above) (sym own) ∙ number in
      omega (arith, parts, first, one, here, few))
      (absent_below (above ++ step ∷ []) lines (subst (λ all. requests_of stream all ≤ index) (sym next) few))

-- a stream has no request of a number that is no less than how many it has
pub absent_past : (lines : List Step) (stream index : ℕ) → requests_of stream lines ≤ index → request_named (asked lines) stream index ≡ None
absent_past lines stream index few = absent_below stream index [] lines few

-- ---- how many there are in all

length-asked_by : (stream index : ℕ) (what : What) → length (asked_by stream index what) ≡ cond (is_ask what) 1 0
length-asked_by stream index (Ask request) = refl
length-asked_by stream index (Delay ns) = refl
length-asked_by stream index (Move loop) = refl

length-asked_below : (above lines : List Step) → length (asked_below above lines) ≡ count_by (λ (step : Step). is_ask step.what) lines
length-asked_below above [] = refl
length-asked_below above (step ∷ lines) =
    let first = asked_by step.stream (requests_of step.stream above) step.what in
    length-append first (asked_below (above ++ step ∷ []) lines)
    ∙ ap (λ n. n + length (asked_below (above ++ step ∷ []) lines)) (length-asked_by step.stream (requests_of step.stream above) step.what)
    ∙ ap (λ n. cond (is_ask step.what) 1 0 + n) (length-asked_below (above ++ step ∷ []) lines)
    ∙ sym (sum_by-cons (λ (s : Step). cond (is_ask s.what) 1 0) step lines)

pub length-asked : (lines : List Step) → length (asked lines) ≡ count_by (λ (step : Step). is_ask step.what) lines
length-asked lines = length-asked_below [] lines
