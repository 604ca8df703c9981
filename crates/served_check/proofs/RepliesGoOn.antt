-- A serial history goes on by one reply.
use Rattle.std.proofs.Common.{◌≡◌, ℕ, ◌+◌, ◌==◌, true, false, List, ◌∷◌, map, Some, inl, inr, refl, sym, ◌∙◌, ap, subst}
use Rattle.std.proofs.lemmas.Bool.{cases_Bool, eqb-true, eq-eqb, cond-true, cond-false}
use Rattle.std.proofs.lemmas.Option.{same_Some}
use Rattle.aio_model.specs.declared.serving.replies.Placed.{Placed}
use Rattle.aio_model.specs.Serving.Asked.{Asked}
use Rattle.aio_model.specs.Serving.{bytes_after}
use Rattle.aio_model.specs.Serving.SerialHistory.{CountsFrom, FitAlong, indices_of}
use Rattle.served_check.specs.Cursors.{one_more_of}
use Rattle.served_check.specs.Judging.{RepliesGoOn, IsNext, Advances}

module _ (stream : ℕ) (placed : Placed) (served : List Placed) where
  own_first : (placed.stream == stream) ≡ true → indices_of stream (placed ∷ served) ≡ placed.index ∷ indices_of stream served
  own_first h = ap (map (λ (p : Placed). p.index)) (cond-true _ _ _ h)

  other_first : (placed.stream == stream) ≡ false → indices_of stream (placed ∷ served) ≡ indices_of stream served
  other_first h = ap (map (λ (p : Placed). p.index)) (cond-false _ _ _ h)

  -- the indices behind the first reply
  pub counts_on : (done : ℕ → ℕ) → CountsFrom (done stream) (indices_of stream (placed ∷ served))
      → CountsFrom (one_more_of placed.stream done stream) (indices_of stream served)
  counts_on done counts = elim (cases_Bool (placed.stream == stream)) [
    | inl h ↦ subst (λ n. CountsFrom n (indices_of stream served)) (sym (cond-true _ _ _ h)) (subst (CountsFrom (done stream)) (own_first h) counts).1
    | inr h ↦ subst (λ n. CountsFrom n (indices_of stream served)) (sym (cond-false _ _ _ h)) (subst (CountsFrom (done stream)) (other_first h) counts)
  ]

  -- and with it
  pub counts_back : (done : ℕ → ℕ) → placed.index ≡ done placed.stream
      → CountsFrom (one_more_of placed.stream done stream) (indices_of stream served)
      → CountsFrom (done stream) (indices_of stream (placed ∷ served))
  counts_back done due counts = elim (cases_Bool (placed.stream == stream)) [
    | inl h ↦
        let here : placed.index ≡ done stream = due ∙ ap done (eqb-true placed.stream stream h) in
        let rest : CountsFrom (done stream + 1) (indices_of stream served) =
        subst (λ n. CountsFrom n (indices_of stream served)) (cond-true _ _ _ h) counts in
        let both : CountsFrom (done stream) (placed.index ∷ indices_of stream served) = (here, rest) in
        subst (CountsFrom (done stream)) (sym (own_first h)) both
    | inr h ↦ subst (CountsFrom (done stream)) (sym (other_first h)) (subst (λ n. CountsFrom n (indices_of stream served)) (cond-false _ _ _ h) counts)
  ]

-- the first reply's index
pub counts_first : (placed : Placed) (served : List Placed) (n : ℕ) → CountsFrom n (indices_of placed.stream (placed ∷ served)) → placed.index ≡ n
counts_first placed served n counts =
    (subst (CountsFrom n) (own_first placed.stream placed served (eq-eqb placed.stream placed.stream refl)) counts).0

module _ (size : ℕ) (asked : List Asked) (done : ℕ → ℕ) (bytes : List ℕ) (placed : Placed) (served : List Placed) where
  pub RepliesGoOn-next : RepliesGoOn size asked done bytes (placed ∷ served) → IsNext size asked done bytes placed
  RepliesGoOn-next goes = record {
    due = counts_first placed served (done placed.stream) (goes.in_order placed.stream);
    request = goes.fits.0;
    named = goes.fits.1;
    fits = goes.fits.2;
  }

  module _ (done' : ℕ → ℕ) (bytes' : List ℕ) (advances : Advances size asked placed done done' bytes bytes') where
    pub RepliesGoOn-on : RepliesGoOn size asked done bytes (placed ∷ served) → RepliesGoOn size asked done' bytes' served
    RepliesGoOn-on goes =
        let same : goes.fits.0 ≡ advances.next.request =
        same_Some goes.fits.0 advances.next.request (sym goes.fits.1 ∙ advances.next.named) in
        let left : bytes_after goes.fits.0 placed.reply bytes ≡ bytes' =
        ap (λ request. bytes_after request placed.reply bytes) same ∙ sym advances.after in
        record {
          fits = subst (λ left. FitAlong size asked (Some left) served) left goes.fits.3;
          in_order = λ stream. subst (λ n. CountsFrom n (indices_of stream served)) (sym (advances.counts stream))
              (counts_on stream placed served done (goes.in_order stream));
        }

    pub RepliesGoOn-back : RepliesGoOn size asked done' bytes' served → RepliesGoOn size asked done bytes (placed ∷ served)
    RepliesGoOn-back goes = record {
      fits = (
        advances.next.request,
        advances.next.named,
        advances.next.fits,
        subst (λ left. FitAlong size asked (Some left) served) advances.after goes.fits,
      );
      in_order = λ stream. counts_back stream placed served done advances.next.due
          (subst (λ n. CountsFrom n (indices_of stream served)) (advances.counts stream) (goes.in_order stream));
    }
