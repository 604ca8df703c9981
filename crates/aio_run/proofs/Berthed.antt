-- The places of the streams that have ended.
use Rattle.std.proofs.Common.{◌≡◌, ◌≢◌, ℕ, zero, suc, ◌<◌, Option, None, Some, List, length, replicate, slice_index_or, slice_set, sym, ap, ◌∙◌, subst, arith, length-set}
use Rattle.std.proofs.lemmas.Bool.{cases_eq}
use Rattle.std.proofs.lemmas.List.{get_or-set_same, get_or-set_other, length-replicate}
use mathlib.Core.Logic.{⊎_elim}
use Rattle.aio_model.specs.declared.scripts.image_scripts.Script.{Script}
use Rattle.co_mutex.specs.declared.lock.CoMutex.{CoMutex}
use Rattle.img_shared.specs.Images.{ImageState}
use Rattle.img_shared.specs.Notes.{Note}
use Rattle.img_streams.specs.declared.stream.Stream.{Stream}
use Rattle.img_streams.specs.Streams.{IsStreamAt, source}
use Rattle.stream_ends.specs.Stops.{HasStopped}
use Rattle.aio_run.specs.Berths.{BerthsAreOf, AreBerthed}

none_is_none : {A : Type 0} (o : Option A) (x : A) → o ≡ None → o ≡ Some x → ⊥
none_is_none o x none some_x = let no : None ≡ Some x = sym none ∙ some_x in cc

some_same : {A : Type 0} (x y : A) → Some x ≡ Some y → x ≡ y
some_same x y e = cc

none_at : {A : Type 0} (n k : ℕ) (x : A) → slice_index_or (replicate n None) k None ≡ Some x → ⊥
none_at zero k x e = cc
none_at (suc n) zero x e = cc
none_at (suc n) (suc k) x e = none_at n k x e

module _ {A : Type 0} (F : ℕ → A → Type 0) where
  -- a fact of each that is there
  abbrev pub EachThere : List (Option A) → Type 0
  EachThere xs = (k : ℕ) (x : A) → slice_index_or xs k None ≡ Some x → F k x

  pub there_set : (xs : List (Option A)) (at : ℕ) (x : A) → at < length xs → EachThere xs → F at x → EachThere (slice_set xs at (Some x))
  there_set xs at x below each has k y is =
      ⊎_elim
      (λ (e : k ≡ at). subst (λ n. F n y) (sym e) (subst (F at) (some_same x y (sym (get_or-set_same xs at (Some x) None below) ∙ sym (ap (λ n. slice_index_or (slice_set xs at (Some x)) n None) e) ∙ is)) has))
      (λ (ne : k ≢ at). each k y (sym (get_or-set_other xs at k (Some x) None ne) ∙ is))
      (cases_eq k at)

  pub there_unset : (xs : List (Option A)) (at : ℕ) → at < length xs → EachThere xs → EachThere (slice_set xs at None)
  there_unset xs at below each k y is =
      ⊎_elim
      (λ (e : k ≡ at). absurd (none_is_none (slice_index_or (slice_set xs at None) k None) y (ap (λ n. slice_index_or (slice_set xs at None) n None) e ∙ get_or-set_same xs at None None below) is))
      (λ (ne : k ≢ at). each k y (sym (get_or-set_other xs at k None None ne) ∙ is))
      (cases_eq k at)

module _ {P D : Type 0} (bytes : D → Option (List ℕ)) (script : Script) (lock : CoMutex P (ImageState D) (Note D)) where
  -- nobody has come yet
  pub berthed_none : (berths : List (Option (Stream P (ImageState D) (Note D)))) → berths ≡ replicate (length script.streams) None → AreBerthed bytes script lock berths
  berthed_none berths is =
      subst (AreBerthed bytes script lock) (sym is)
      (record { many = length-replicate (length script.streams) None; each = λ k co there. absurd (none_at (length script.streams) k co there) })

  pub berthed_set : (berths : List (Option (Stream P (ImageState D) (Note D)))) (at : ℕ) (co : Stream P (ImageState D) (Note D)) → at < length script.streams → AreBerthed bytes script lock berths → HasStopped bytes script lock at co → AreBerthed bytes script lock (slice_set berths at (Some co))
  berthed_set berths at co below are has =
      record { many = length-set berths at (Some co) ∙ are.many; each = there_set (HasStopped bytes script lock) berths at co (omega (arith, below, are.many)) are.each has }

  pub berthed_unset : (berths : List (Option (Stream P (ImageState D) (Note D)))) (at : ℕ) → at < length berths → AreBerthed bytes script lock berths → AreBerthed bytes script lock (slice_set berths at None)
  berthed_unset berths at below are =
      record { many = length-set berths at None ∙ are.many; each = there_unset (HasStopped bytes script lock) berths at below are.each }

  pub of_unset : (cos : List (Option (Stream P (ImageState D) (Note D)))) (at : ℕ) → at < length cos → BerthsAreOf bytes script lock cos → BerthsAreOf bytes script lock (slice_set cos at None)
  of_unset cos at below are =
      there_unset (λ k co. IsStreamAt bytes k co (source lock script)) cos at below are
