-- The cursors at a script's beginning: its lines are noted from the last to the first.
use Rattle.std.proofs.Common.{◌≡◌, ℕ, ◌+◌, ◌<◌, ◌≤◌, ◌==◌, ◌&&◌, true, false, cond, List, length, take, get_or, slice_index, Option, Some, inl, inr, refl, sym, ◌∙◌, ap, subst, arith, get_or-set_same, get_or-set_other}
use Rattle.std.specs.List.{slice_get}
use Rattle.std.proofs.lemmas.Bool.{true≢false, cases_Bool, cases_eq, eqb-true, and_from, and_left, and_right, and_parts, cond-true, cond-false}
use Rattle.std.proofs.lemmas.List.{length-set}
use Rattle.std.proofs.lemmas.Option.{slice_get-get_or}
use Rattle.aio_model.specs.declared.scripts.image_scripts.Step.{Step}
use Rattle.aio_model.specs.Serving.Asked.{is_ask, requests_of}
use Rattle.served_check.specs.declared.cursors.Cursor.{Cursor}
use Rattle.served_check.specs.declared.cursors.Cursors.{Cursors}
use Rattle.served_check.specs.Cursors.{cursor_at, done_at, is_of, IsNextAt, AreLinked, AreAt, Notes}
use Rattle.served_check.proofs.Named.{requests_of-more}

module _ (lines : List Step) where
  -- what holds once all lines from this one on were noted
  pub record Linking (start : ℕ) (cursors : Cursors) : Type 0 where
    pub linked : AreLinked lines start cursors.next.items
    pub at : (stream : ℕ) → IsNextAt lines stream start (cursor_at cursors stream).line
    pub none : (stream : ℕ) → done_at cursors stream ≡ 0

  pub Linking-start : (cursors : Cursors) (end : ℕ) → end ≡ length lines → length cursors.next.items ≡ end
      → ((stream : ℕ) → cursor_at cursors stream ≡ record { line = end; done = 0 }) → Linking end cursors
  Linking-start cursors end whole long begins = record {
    linked = record { long = long ∙ whole; each = λ stream line past inside asks. absurd (omega (arith, whole, past, inside)) };
    at = λ stream. subst (λ (c : Cursor). IsNextAt lines stream end c.line) (sym (begins stream))
        (record { inside = omega (arith, whole); between = refl; asks = λ inside. absurd (omega (arith, whole, inside)) });
    none = λ stream. ap (λ (c : Cursor). c.done) (begins stream);
  }

  pub Linking-all : (cursors : Cursors) → Linking 0 cursors → AreAt lines cursors
  Linking-all cursors linking = record {
    linked = linking.linked;
    at = λ stream. record {
      inside = (linking.at stream).inside;
      above = (linking.at stream).between ∙ sym (linking.none stream);
      asks = (linking.at stream).asks;
    };
  }

  module _ (line : ℕ) (step : Step) (inside : line < length lines) (here : get_or lines line step ≡ step) where
    stands : slice_get lines line ≡ Some step
    stands = slice_get-get_or lines line step inside ∙ ap Some here

    -- a line that doesn't ask for the stream adds nothing
    lower : (stream next : ℕ) → (step.stream == stream && is_ask step.what) ≡ false → IsNextAt lines stream (line + 1) next → IsNextAt lines stream line next
    lower stream next silent at = record {
      inside = at.inside;
      between =
          let more : requests_of stream (take (line + 1) lines) ≡ requests_of stream (take line lines) + cond (step.stream == stream && is_ask step.what) 1 0 =
          requests_of-more stream lines line step inside here in
          omega (arith, at.between, more, cond-false {A = ℕ} (step.stream == stream && is_ask step.what) 1 0 silent);
      asks = at.asks;
    }

    module _ (old new : Cursors) (linking : Linking (line + 1) old) (notes : Notes line step old new) where
      -- ---- a line that asks nothing

      silent_each : is_ask step.what ≡ false → (stream k : ℕ) → line ≤ k → k < length lines → is_of stream (slice_get lines k) ≡ true
          → IsNextAt lines stream (k + 1) (slice_index old.next.items k)
      silent_each silent stream k past below asks = elim (cases_eq k line) [
        | inl e ↦
            let there : is_of stream (Some step) ≡ true = subst (λ (o : Option Step). is_of stream o ≡ true) (ap (slice_get lines) e ∙ stands) asks in
            absurd (true≢false (sym there ∙ and_right (step.stream == stream) (is_ask step.what) silent))
        | inr ne ↦ linking.linked.each stream k (omega (arith, past, ne)) below asks
      ]

      silent_next : is_ask step.what ≡ false → Linking line old
      silent_next silent = record {
        linked = record { long = linking.linked.long; each = silent_each silent };
        at = λ stream. lower stream (cursor_at old stream).line (and_right (step.stream == stream) (is_ask step.what) silent) (linking.at stream);
        none = linking.none;
      }

      -- ---- a line that asks a request

      module _ (asking : is_ask step.what ≡ true) where
        asking_each : (stream k : ℕ) → line ≤ k → k < length lines → is_of stream (slice_get lines k) ≡ true
            → IsNextAt lines stream (k + 1) (slice_index new.next.items k)
        asking_each stream k past below asks = elim (cases_eq k line) [
          | inl e ↦
              let there : is_of stream (Some step) ≡ true = subst (λ (o : Option Step). is_of stream o ≡ true) (ap (slice_get lines) e ∙ stands) asks in
              let own : step.stream ≡ stream = eqb-true step.stream stream (and_parts (step.stream == stream) (is_ask step.what) there).0 in
              let room : line < length old.next.items = omega (arith, linking.linked.long, inside) in
              let put : slice_index new.next.items line ≡ (cursor_at old step.stream).line =
              ap (λ (l : List ℕ). slice_index l line) (notes.next asking) ∙ get_or-set_same old.next.items line (cursor_at old step.stream).line 0 room in
              let found : IsNextAt lines stream (line + 1) (slice_index new.next.items line) =
              subst (λ n. IsNextAt lines stream (line + 1) n) (sym put)
              (subst (λ s. IsNextAt lines s (line + 1) (cursor_at old step.stream).line) own (linking.at step.stream)) in
              subst (λ n. IsNextAt lines stream (n + 1) (slice_index new.next.items n)) (sym e) found
          | inr ne ↦
              let kept : slice_index new.next.items k ≡ slice_index old.next.items k =
              ap (λ (l : List ℕ). slice_index l k) (notes.next asking) ∙ get_or-set_other old.next.items line k (cursor_at old step.stream).line 0 ne in
              subst (λ n. IsNextAt lines stream (k + 1) n) (sym kept) (linking.linked.each stream k (omega (arith, past, ne)) below asks)
        ]

        asking_at : (stream : ℕ) → IsNextAt lines stream line (cursor_at new stream).line
        asking_at stream = elim (cases_Bool (step.stream == stream)) [
          | inl h ↦
              let is : cursor_at new stream ≡ record { line = line; done = 0 } = notes.cursors asking stream ∙ cond-true _ _ _ h in
              subst (λ (c : Cursor). IsNextAt lines stream line c.line) (sym is) (record {
                inside = omega (arith, inside);
                between = refl;
                asks = λ below. ap (is_of stream) stands ∙ and_from (step.stream == stream) (is_ask step.what) h asking;
              })
          | inr h ↦
              let is : cursor_at new stream ≡ cursor_at old stream = notes.cursors asking stream ∙ cond-false _ _ _ h in
              subst (λ (c : Cursor). IsNextAt lines stream line c.line) (sym is)
              (lower stream (cursor_at old stream).line (and_left (step.stream == stream) (is_ask step.what) h) (linking.at stream))
        ]

        asking_none : (stream : ℕ) → done_at new stream ≡ 0
        asking_none stream = elim (cases_Bool (step.stream == stream)) [
          | inl h ↦ ap (λ (c : Cursor). c.done) (notes.cursors asking stream ∙ cond-true _ _ _ h)
          | inr h ↦ ap (λ (c : Cursor). c.done) (notes.cursors asking stream ∙ cond-false _ _ _ h) ∙ linking.none stream
        ]

        asking_next : Linking line new
        asking_next = record {
          linked = record {
            long = ap length (notes.next asking) ∙ length-set old.next.items line (cursor_at old step.stream).line ∙ linking.linked.long;
            each = asking_each;
          };
          at = asking_at;
          none = asking_none;
        }

      pub Linking-next : Linking line new
      Linking-next = elim (cases_Bool (is_ask step.what)) [
        | inl h ↦ asking_next h
        | inr h ↦ subst (Linking line) (sym (notes.silent h)) (silent_next h)
      ]
