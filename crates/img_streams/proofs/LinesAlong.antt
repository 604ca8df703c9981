-- Lines of a stream, one after the other.
use Rattle.std.proofs.Common.{◌≡◌, ◌≢◌, ℕ, zero, suc, ◌+◌, ◌<◌, ◌≤◌, ◌==◌, ◌&&◌, true, false, cond, List, [], ◌∷◌, length, get_or, take, drop, Some, inl, inr, refl, sym, ap, ◌∙◌, subst, arith}
use Rattle.std.proofs.lemmas.List.{drop_more, drop_all, take_all, length-drop, get_or-drop, get_or_default}
use Rattle.std.proofs.Math.Seq.{take-add}
use Rattle.std.proofs.lemmas.List.Sums.{sum_by-append, sum_by-cons, sum_by_more, sum_by-take-le}
use Rattle.std.proofs.lemmas.Bool.{cases_Bool, cases_lt, eqb-true, eq-eqb, ne_eqb, and_left, and_right, and_from, cond-true, cond-false}
use Rattle.aio_model.specs.declared.serving.requests.Request.{Request}
use Rattle.aio_model.specs.declared.scripts.image_scripts.Step.{Step}
use Rattle.aio_model.specs.declared.scripts.image_scripts.What.{What}
use Rattle.aio_model.specs.declared.scripts.image_scripts.What.TheVariants.{Ask, Delay}
use Rattle.aio_model.specs.Serving.Asked.{is_ask, requests_of, asked, request_named}
use Rattle.aio_model.specs.Serving.{length_of}
use Rattle.aio_model.proofs.InOrder.{asked-split, asked_rest}
use Rattle.aio_model.proofs.Names.{request_named-asked}
use Rattle.img_streams.specs.Lines.{next_own, line_from, StandsAt, IsShort, AreShort}

-- ---- the next line

own_first : (id : ℕ) (step : Step) (lines : List Step) → step.stream ≡ id → next_own id (step ∷ lines) ≡ 0
own_first id step lines e = cond-true (step.stream == id) _ _ (eq-eqb step.stream id e)

other_first : (id : ℕ) (step : Step) (lines : List Step) → step.stream ≢ id → next_own id (step ∷ lines) ≡ 1 + next_own id lines
other_first id step lines ne = cond-false (step.stream == id) _ _ (ne_eqb step.stream id ne)

pub next_past : (id : ℕ) (lines : List Step) (at : ℕ) (step : Step) → at < length lines → (get_or lines at step).stream ≢ id
    → line_from id lines (at + 1) ≡ line_from id lines at
next_past id lines at step inside other =
    let here : next_own id (drop at lines) ≡ 1 + next_own id (drop (at + 1) lines) =
    ap (next_own id) (drop_more lines at step inside) ∙ other_first id (get_or lines at step) (drop (at + 1) lines) other in
    omega arith

pub next_here : (id : ℕ) (lines : List Step) (at : ℕ) (step : Step) → at < length lines → (get_or lines at step).stream ≡ id
    → line_from id lines at ≡ at
next_here id lines at step inside own =
    let here : next_own id (drop at lines) ≡ 0 =
    ap (next_own id) (drop_more lines at step inside) ∙ own_first id (get_or lines at step) (drop (at + 1) lines) own in
    omega arith

pub next_end : (id : ℕ) (lines : List Step) (at : ℕ) → length lines ≤ at → line_from id lines at ≡ at
next_end id lines at past = let none : next_own id (drop at lines) ≡ 0 = ap (next_own id) (drop_all at lines past) in omega arith

own_inside : (id : ℕ) (lines : List Step) → next_own id lines ≤ length lines
own_inside id [] = omega arith
own_inside id (step ∷ lines) =
    let ih : next_own id lines ≤ length lines = own_inside id lines in
    elim (cases_Bool (step.stream == id)) [
      | inl e ↦ let first : next_own id (step ∷ lines) ≡ 0 = cond-true (step.stream == id) _ _ e in omega (arith, first)
      | inr e ↦ let first : next_own id (step ∷ lines) ≡ 1 + next_own id lines = cond-false (step.stream == id) _ _ e in omega (arith, first, ih)
    ]

pub line_inside : (id : ℕ) (lines : List Step) (from : ℕ) → from ≤ length lines → line_from id lines from ≤ length lines
line_inside id lines from inside = omega (arith, own_inside id (drop from lines), length-drop from lines)

-- ---- how many requests stand above

abbrev counted : ℕ → Step → ℕ
counted id step = cond (step.stream == id && is_ask step.what) 1 0

none_own : (id : ℕ) (lines : List Step) → requests_of id (take (next_own id lines) lines) ≡ 0
none_own id [] = refl
none_own id (step ∷ lines) =
    let ih : requests_of id (take (next_own id lines) lines) ≡ 0 = none_own id lines in
    elim (cases_Bool (step.stream == id)) [
      | inl e ↦
          let first : next_own id (step ∷ lines) ≡ 0 = cond-true (step.stream == id) _ _ e in
          ap (λ (n : ℕ). requests_of id (take n (step ∷ lines))) first
      | inr e ↦
          let first : next_own id (step ∷ lines) ≡ suc (next_own id lines) = cond-false (step.stream == id) _ _ e ∙ omega arith in
          let other : counted id step ≡ 0 = cond-false (step.stream == id && is_ask step.what) 1 0 (and_left _ _ e) in
          ap (λ (n : ℕ). requests_of id (take n (step ∷ lines))) first
          ∙ sum_by-cons (counted id) step (take (next_own id lines) lines) ∙ omega (arith, other, ih)
    ]

-- between two lines of a stream it has no request
pub above_kept : (id : ℕ) (lines : List Step) (from : ℕ) → requests_of id (take (line_from id lines from) lines) ≡ requests_of id (take from lines)
above_kept id lines from =
    ap (requests_of id) (take-add from (next_own id (drop from lines)) lines)
    ∙ sum_by-append (counted id) (take from lines) (take (next_own id (drop from lines)) (drop from lines))
    ∙ omega (arith, none_own id (drop from lines))

pub above_end : (id : ℕ) (lines : List Step) (from : ℕ) → line_from id lines from ≡ length lines → requests_of id (take from lines) ≡ requests_of id lines
above_end id lines from e =
    sym (above_kept id lines from) ∙ ap (λ (n : ℕ). requests_of id (take n lines)) e ∙ ap (requests_of id) (take_all (length lines) lines (omega arith))

module _ (lines : List Step) (id at : ℕ) (what : What) (stands : StandsAt lines id at what) where
  step_here : Step
  step_here = record { stream = id; what = what }

  here : get_or lines at (record { stream = id; what = what }) ≡ record { stream = id; what = what }
  here = stands.is (record { stream = id; what = what })

  above_more : requests_of id (take (at + 1) lines) ≡ requests_of id (take at lines) + counted id (record { stream = id; what = what })
  above_more = sum_by_more (counted id) lines at (record { stream = id; what = what }) stands.inside
      ∙ ap (λ (step : Step). requests_of id (take at lines) + counted id step) here

  pub line_here : line_from id lines at ≡ at
  line_here = next_here id lines at (record { stream = id; what = what }) stands.inside (ap (λ (step : Step). step.stream) here)

  -- a line that is no request
  pub above_other : is_ask what ≡ false → requests_of id (take (at + 1) lines) ≡ requests_of id (take at lines)
  above_other e =
      let none : counted id (record { stream = id; what = what }) ≡ 0 = cond-false (id == id && is_ask what) 1 0 (and_right (id == id) (is_ask what) e) in
      omega (arith, above_more, none)

module _ (lines : List Step) (id at : ℕ) (request : Request) (stands : StandsAt lines id at (Ask request)) where
  pub above_ask : requests_of id (take (at + 1) lines) ≡ requests_of id (take at lines) + 1
  above_ask =
      let one : counted id (record { stream = id; what = Ask request }) ≡ 1 = cond-true (id == id && true) 1 0 (and_from (id == id) true (eq-eqb id id refl) refl) in
      omega (arith, above_more lines id at (Ask request) stands, one)

  pub above_less : requests_of id (take at lines) < requests_of id lines
  above_less = omega (arith, above_ask, sum_by-take-le (counted id) lines (at + 1))

  pub named_here : request_named (asked lines) id (requests_of id (take at lines)) ≡ Some request
  named_here = request_named-asked lines (asked (take at lines)) (record { stream = id; index = requests_of id (take at lines); request = request })
      (asked_rest lines at (record { stream = id; what = Ask request }) stands.inside (sym (stands.is (record { stream = id; what = Ask request }))))
      (asked-split lines at (record { stream = id; what = Ask request }) stands.inside (sym (stands.is (record { stream = id; what = Ask request }))))

short_at : (lines : List Step) (at : ℕ) (other : Step) → at < length lines → AreShort lines → IsShort (get_or lines at other).what
short_at [] at other inside short = absurd (omega arith)
short_at (step ∷ lines) zero other inside short = short.0
short_at (step ∷ lines) (suc at) other inside short = short_at lines at other (omega arith) short.1

pub short_here : (lines : List Step) (id at : ℕ) (request : Request) → StandsAt lines id at (Ask request) → AreShort lines → length_of request ≤ 65536
short_here lines id at request stands short =
    subst IsShort (ap (λ (step : Step). step.what) (stands.is (record { stream = id; what = Ask request })))
    (short_at lines at (record { stream = id; what = Ask request }) stands.inside short)

-- ---- the line that was found

own_there : (id : ℕ) (lines : List Step) (other : Step) → next_own id lines < length lines → (get_or lines (next_own id lines) other).stream ≡ id
own_there id [] other inside = absurd (omega arith)
own_there id (step ∷ lines) other inside =
    elim (cases_Bool (step.stream == id)) [
      | inl e ↦
          let first : next_own id (step ∷ lines) ≡ 0 = cond-true (step.stream == id) _ _ e in
          ap (λ (n : ℕ). (get_or (step ∷ lines) n other).stream) first ∙ eqb-true step.stream id e
      | inr e ↦
          let first : next_own id (step ∷ lines) ≡ suc (next_own id lines) = cond-false (step.stream == id) _ _ e ∙ omega arith in
          ap (λ (n : ℕ). (get_or (step ∷ lines) n other).stream) first ∙ own_there id lines other (omega (arith, first, inside))
    ]

-- the line that is its own next one is the stream's
pub own_at : (id : ℕ) (lines : List Step) (at : ℕ) (other : Step) → line_from id lines at ≡ at → at < length lines → (get_or lines at other).stream ≡ id
own_at id lines at other own inside =
    let none : next_own id (drop at lines) ≡ 0 = omega (arith, own) in
    let there : (get_or (drop at lines) (next_own id (drop at lines)) other).stream ≡ id =
    own_there id (drop at lines) other (omega (arith, none, length-drop at lines, inside)) in
    ap (λ (s : Step). s.stream) (sym (ap (λ (n : ℕ). get_or (drop at lines) n other) none ∙ get_or-drop at lines 0 other ∙ ap (λ (n : ℕ). get_or lines n other) (let z : at + 0 ≡ at = omega arith in z))) ∙ there

-- where the next line of the stream stands, this is read there
pub stands_there : (id : ℕ) (lines : List Step) (from : ℕ) (step : Step) (what : What) → line_from id lines from < length lines
    → step ≡ get_or lines (line_from id lines from) step → step.what ≡ what → StandsAt lines id (line_from id lines from) what
stands_there id lines from step what inside read is =
    let below : next_own id (drop from lines) < length (drop from lines) = omega (arith, length-drop from lines, inside) in
    let own : step.stream ≡ id =
    ap (λ (s : Step). s.stream) (read ∙ sym (get_or-drop from lines (next_own id (drop from lines)) step))
    ∙ own_there id (drop from lines) step below in
    record {
      inside = inside;
      is = λ other.
          get_or_default lines (line_from id lines from) other step inside
          ∙ sym read
          ∙ ap (λ (n : ℕ). record { stream = n; what = step.what }) own
          ∙ ap (λ (w : What). record { stream = id; what = w }) is;
    }

pub line_again : (id : ℕ) (lines : List Step) (from : ℕ) → from ≤ length lines → line_from id lines (line_from id lines from) ≡ line_from id lines from
line_again id lines from inside = elim (cases_lt (line_from id lines from) (length lines)) [
  | inl below ↦
      let there : next_own id (drop from lines) < length (drop from lines) = omega (arith, length-drop from lines, below) in
      let d : Step = record { stream = id; what = Delay 0 } in
      next_here id lines (line_from id lines from) d below
      (ap (λ (s : Step). s.stream) (sym (get_or-drop from lines (next_own id (drop from lines)) d)) ∙ own_there id (drop from lines) d there)
  | inr past ↦ next_end id lines (line_from id lines from) past
]
