-- The next request of a stream, and what is known once it was served.
use Rattle.std.proofs.Common.{◌≡◌, ℕ, ◌+◌, ◌<◌, ◌==◌, ◌&&◌, false, cond, List, length, get_or, slice_index, Some, None, inl, inr, sym, ◌∙◌, ap, subst, arith}
use Rattle.std.specs.List.{slice_get}
use Rattle.std.proofs.lemmas.Bool.{true≢false, cases_Bool, eqb-true, cond-true, cond-false}
use Rattle.std.proofs.lemmas.List.{take_all}
use Rattle.std.proofs.lemmas.Option.{slice_get-get_or}
use Rattle.aio_model.specs.declared.serving.requests.Request.{Request}
use Rattle.aio_model.specs.declared.serving.replies.Placed.{Placed}
use Rattle.aio_model.specs.declared.scripts.image_scripts.Step.{Step}
use Rattle.aio_model.specs.declared.scripts.image_scripts.What.TheVariants.{Ask}
use Rattle.aio_model.specs.Serving.Asked.{asked, is_ask, request_named, requests_of}
use Rattle.served_check.specs.declared.cursors.Cursor.{Cursor}
use Rattle.served_check.specs.declared.cursors.Cursors.{Cursors}
use Rattle.served_check.specs.Cursors.{cursor_at, done_at, one_more_of, is_of, IsNextAt, CursorStands, AreAt, AreLinked, IsAsked}
use Rattle.served_check.proofs.Named.{ask, absent_past, named_at, one_above}

module _ (lines : List Step) (cursors : Cursors) (are_at : AreAt lines cursors) (placed : Placed) (cursor : Cursor)
    (found : cursor ≡ cursor_at cursors placed.stream) (due : placed.index ≡ cursor.done) where
  at_cursor : CursorStands lines placed.stream cursor
  at_cursor = subst (CursorStands lines placed.stream) (sym found) (are_at.at placed.stream)

  pub is_due : placed.index ≡ done_at cursors placed.stream
  is_due = due ∙ ap (λ (c : Cursor). c.done) found

  -- no request of the stream is left
  pub none_left : cursor.line ≡ length lines → IsAsked (asked lines) (done_at cursors) placed → ⊥
  none_left end is_asked =
      let all : requests_of placed.stream lines ≡ cursor.done =
      ap (requests_of placed.stream) (sym (take_all cursor.line lines (omega (arith, end)))) ∙ at_cursor.above in
      let absent : request_named (asked lines) placed.stream placed.index ≡ None = absent_past lines placed.stream placed.index (omega (arith, all, due)) in
      cc (absent, is_asked.named)

  module _ (before : cursor.line ≡ length lines → ⊥) where
    pub inside : cursor.line < length lines
    inside = omega (arith, at_cursor.inside, before)

    module _ (step : Step) (here : step ≡ get_or lines cursor.line step) where
      stands : slice_get lines cursor.line ≡ Some step
      stands = slice_get-get_or lines cursor.line step inside ∙ ap Some (sym here)

      -- the line asks a request of the stream
      pub never : (step.stream == placed.stream && is_ask step.what) ≡ false → IsAsked (asked lines) (done_at cursors) placed → ⊥
      never silent is_asked = true≢false (sym (at_cursor.asks inside) ∙ ap (is_of placed.stream) stands ∙ silent)

      module _ (request : Request) (own : step.stream ≡ placed.stream) (asks : step.what ≡ Ask request) where
        asked_here : slice_get lines cursor.line ≡ Some (ask placed.stream request)
        asked_here = stands ∙ (λ i. Some (record { stream = own i; what = asks i }))

        pub named_next : request_named (asked lines) placed.stream placed.index ≡ Some request
        named_next = subst (λ n. request_named (asked lines) placed.stream n ≡ Some request) (at_cursor.above ∙ sym due)
            (named_at lines placed.stream cursor.line request inside asked_here)

        pub at_behind : CursorStands lines placed.stream (record { line = slice_index cursors.next.items cursor.line; done = cursor.done + 1 })
        at_behind =
            let next : IsNextAt lines placed.stream (cursor.line + 1) (slice_index cursors.next.items cursor.line) =
            are_at.linked.each placed.stream cursor.line (omega arith) inside (at_cursor.asks inside) in
            record {
              inside = next.inside;
              above = next.between ∙ one_above lines placed.stream cursor.line request inside asked_here ∙ ap (λ n. n + 1) at_cursor.above;
              asks = next.asks;
            }

-- the cursors behind a request that was served
pub AreAt-set : (lines : List Step) (old new : Cursors) (stream : ℕ) (cursor : Cursor) → new.next ≡ old.next
    → ((other : ℕ) → cursor_at new other ≡ cond (stream == other) cursor (cursor_at old other))
    → CursorStands lines stream cursor → AreAt lines old → AreAt lines new
AreAt-set lines old new stream cursor same is_set behind at = record {
  linked = subst (λ next. AreLinked lines 0 next.items) (sym same) at.linked;
  at = λ other. elim (cases_Bool (stream == other)) [
    | inl h ↦ subst (CursorStands lines other) (sym (is_set other ∙ cond-true (stream == other) cursor (cursor_at old other) h))
        (subst (λ s. CursorStands lines s cursor) (eqb-true stream other h) behind)
    | inr h ↦ subst (CursorStands lines other) (sym (is_set other ∙ cond-false (stream == other) cursor (cursor_at old other) h)) (at.at other)
  ];
}

-- one more of a stream was served
pub counts_set : (old new : Cursors) (stream index : ℕ) (cursor : Cursor) → index ≡ done_at old stream → cursor.done ≡ index + 1
    → ((other : ℕ) → cursor_at new other ≡ cond (stream == other) cursor (cursor_at old other))
    → (other : ℕ) → done_at new other ≡ one_more_of stream (done_at old) other
counts_set old new stream index cursor due done is_set other = elim (cases_Bool (stream == other)) [
  | inl h ↦
      let here : done_at new other ≡ cursor.done = ap (λ (c : Cursor). c.done) (is_set other ∙ cond-true (stream == other) cursor (cursor_at old other) h) in
      let before : index ≡ done_at old other = due ∙ ap (done_at old) (eqb-true stream other h) in
      here ∙ done ∙ ap (λ n. n + 1) before ∙ sym (cond-true (stream == other) (done_at old other + 1) (done_at old other) h)
  | inr h ↦
      ap (λ (c : Cursor). c.done) (is_set other ∙ cond-false (stream == other) cursor (cursor_at old other) h)
      ∙ sym (cond-false (stream == other) (done_at old other + 1) (done_at old other) h)
]
