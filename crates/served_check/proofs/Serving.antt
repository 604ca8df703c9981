-- The loop that serves all, as far as it has come.
use Rattle.std.proofs.Common.{◌≡◌, ◌↔◌, ℕ, ◌+◌, ◌<◌, false, IsTrue, List, [], ◌∷◌, ◌++◌, length, take, drop, get_or, refl, sym, ◌∙◌, ap, subst}
use Rattle.std.proofs.lemmas.Bool.{false≢true}
use Rattle.std.proofs.lemmas.List.{take_more, drop_more}
use Rattle.aio_model.specs.declared.serving.replies.Placed.{Placed}
use Rattle.aio_model.specs.declared.scripts.image_scripts.Step.{Step}
use Rattle.aio_model.specs.Serving.Asked.{asked}
use Rattle.aio_model.specs.Serving.{bytes_after}
use Rattle.aio_model.specs.Serving.SerialHistory.{bytes_left, CountsFrom, indices_of}
use Rattle.aio_model.proofs.Along.{bytes_left-push}
use Rattle.served_check.specs.declared.cursors.Cursors.{Cursors}
use Rattle.served_check.specs.Cursors.{done_at, none_done, AreAt}
use Rattle.served_check.specs.Judging.{RepliesGoOn, IsNext, Advances}
use Rattle.served_check.proofs.RepliesGoOn.{RepliesGoOn-next, RepliesGoOn-on, RepliesGoOn-back}

module _ (size : ℕ) (lines : List Step) (served : List Placed) (first : List ℕ) where
  pub record SoFar (k : ℕ) (cursors : Cursors) (bytes : List ℕ) : Type 0 where
    pub at : AreAt lines cursors
    pub on : RepliesGoOn size (asked lines) none_done first served → RepliesGoOn size (asked lines) (done_at cursors) bytes (drop k served)
    pub back : RepliesGoOn size (asked lines) (done_at cursors) bytes (drop k served) → RepliesGoOn size (asked lines) none_done first served
    pub left : bytes ≡ bytes_left (asked lines) (take k served) first

  goes_same : (bytes : List ℕ) (done done' : ℕ → ℕ) → ((s : ℕ) → done s ≡ done' s) → RepliesGoOn size (asked lines) done bytes served → RepliesGoOn size (asked lines) done' bytes served
  goes_same bytes done done' same goes = record {
    fits = goes.fits;
    in_order = λ s. subst (λ n. CountsFrom n (indices_of s served)) (same s) (goes.in_order s);
  }

  pub SoFar-start : (cursors : Cursors) → AreAt lines cursors → ((s : ℕ) → done_at cursors s ≡ 0) → SoFar 0 cursors first
  SoFar-start cursors at none = record {
    at = at;
    on = goes_same first none_done (done_at cursors) (λ s. sym (none s));
    back = goes_same first (done_at cursors) none_done none;
    left = refl;
  }

  module _ (k : ℕ) (placed : Placed) (cursors : Cursors) (bytes : List ℕ) (inside : k < length served) (here : placed ≡ get_or served k placed)
      (so_far : SoFar k cursors bytes) where
    split : drop k served ≡ placed ∷ drop (k + 1) served
    split = drop_more served k placed inside ∙ ap (λ (p : Placed). p ∷ drop (k + 1) served) (sym here)

    longer : take (k + 1) served ≡ take k served ++ placed ∷ []
    longer = take_more served k placed inside ∙ ap (λ (p : Placed). take k served ++ p ∷ []) (sym here)

    pub SoFar-next : (cursors' : Cursors) (bytes' : List ℕ) → AreAt lines cursors'
        → Advances size (asked lines) placed (done_at cursors) (done_at cursors') bytes bytes' → SoFar (k + 1) cursors' bytes'
    SoFar-next cursors' bytes' at advances = record {
      at = at;
      on = λ goes. RepliesGoOn-on size (asked lines) (done_at cursors) bytes placed (drop (k + 1) served) (done_at cursors') bytes' advances
          (subst (RepliesGoOn size (asked lines) (done_at cursors) bytes) split (so_far.on goes));
      back = λ goes. so_far.back (subst (RepliesGoOn size (asked lines) (done_at cursors) bytes) (sym split)
          (RepliesGoOn-back size (asked lines) (done_at cursors) bytes placed (drop (k + 1) served) (done_at cursors') bytes' advances goes));
      left = advances.after
          ∙ ap (bytes_after advances.next.request placed.reply) so_far.left
          ∙ sym (bytes_left-push (asked lines) (take k served) placed advances.next.request first advances.next.named)
          ∙ ap (λ (l : List Placed). bytes_left (asked lines) l first) (sym longer);
    }

    -- the reply isn't one that may come next
    pub stops : (IsNext size (asked lines) (done_at cursors) bytes placed → ⊥) → IsTrue false ↔ RepliesGoOn size (asked lines) none_done first served
    stops other = (
      λ wrong. absurd (false≢true wrong),
      λ goes. absurd (other (RepliesGoOn-next size (asked lines) (done_at cursors) bytes placed (drop (k + 1) served)
          (subst (RepliesGoOn size (asked lines) (done_at cursors) bytes) split (so_far.on goes)))),
    )
