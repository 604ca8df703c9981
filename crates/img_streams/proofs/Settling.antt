-- The image behind a lock that is closed has each stream's note as its pass left it.
use Rattle.std.proofs.Common.{◌≡◌, ℕ, ◌<◌, false, Option, List, [], ◌∷◌, length, map, slice_index, refl, sym, ap, ◌∙◌, subst, arith}
use Rattle.aio_model.specs.declared.scripts.image_scripts.Step.{Step}
use Rattle.aio_model.specs.Serving.Asked.{Asked, asked, requests_of}
use Rattle.aio_model.specs.Lock.History.{LockEntry, value_of, made_by, maker_of, AreBelow}
use Rattle.co_mutex.specs.declared.lock.CoMutex.{CoMutex}
use Rattle.co_mutex.specs.declared.lock.Pass.{Pass}
use Rattle.co_mutex.specs.Closing.{In, AreAll, Gathers}
use Rattle.co_mutex.specs.Passes.{built_of, passes_of, known}
use Rattle.co_mutex.proofs.Histories.{note_kept, made_more}
use Rattle.img_shared.specs.Images.{ImageState}
use Rattle.img_shared.specs.Journals.{noted_count}
use Rattle.img_shared.specs.Notes.{Note, Placement, note}
use Rattle.img_join.specs.Accounts.{Account, AllAnswered}
use Rattle.img_join.specs.Ended.{HasRetired}
use Rattle.img_join.specs.Placing.{row_at}
use Rattle.img_join.proofs.Accounts.{length_from}
use Rattle.img_streams.specs.Own.{own_note}
use Rattle.img_streams.specs.Retired.{IsRetired, ArePartsOf, AreUnused, HaveRetired, ShowsRetired}
use Rattle.img_shared.specs.declared.phases.Phase.TheVariants.{Retired}
use Rattle.aio_model.specs.declared.scripts.image_scripts.Script.{Script}
use Rattle.img_streams.specs.declared.progress.At.{At}
use Rattle.img_streams.specs.declared.progress.At.TheVariants as at
use Rattle.img_streams.specs.declared.stream.Stream.{Stream}
use Rattle.img_streams.specs.Streams.{HasGone, IsStreamOf, StandsSo}
use Rattle.img_streams.specs.Turns.{pass_place_of}

answered_long : {D : Type 0} → (bytes : D → Option (List ℕ)) (all : List Asked) (id size : ℕ) (entries : List (Placement D)) (buffers : List (List ℕ))
    → AllAnswered bytes all id size entries buffers → length entries ≡ length buffers
answered_long bytes all id size [] [] answered = refl
answered_long bytes all id size [] (b ∷ bs) answered = absurd answered
answered_long bytes all id size (e ∷ es) [] answered = absurd answered
answered_long bytes all id size (e ∷ es) (b ∷ bs) answered = omega (arith, answered_long bytes all id size es bs answered.1)

module _ {P D : Type 0} (bytes : D → Option (List ℕ)) (lock : CoMutex P (ImageState D) (Note D)) (passes : List (Pass P (ImageState D) (Note D)))
    (history : List (LockEntry (ImageState D))) (gathers : Gathers (note bytes) lock passes history)
    (image : ImageState D) (is : image ≡ value_of (built_of lock) history) where
  closed_note : (pass : Pass P (ImageState D) (Note D)) (k : ℕ) → In pass passes → (known pass).number ≡ k → note bytes image k ≡ own_note bytes lock pass
  closed_note pass k here number =
      ap (λ (v : ImageState D). note bytes v k) is
      ∙ ap (λ (m : ℕ). note bytes (value_of (built_of lock) history) m) (sym number)
      ∙ note_kept (note bytes) (built_of lock) (known pass).number history gathers.noted
      ∙ ap (λ (l : List (LockEntry (ImageState D))). note bytes (value_of (built_of lock) l) (known pass).number) (gathers.mine pass here)

  module _ (lines : List Step) (size : ℕ) (ids : List ℕ) (rows : List (List (List ℕ))) (retired : HaveRetired bytes lock lines size ids rows passes) where
    module _ (k : ℕ) (below : k < length ids) where
      one : (pass : Pass P (ImageState D) (Note D)) × In pass passes × IsRetired bytes lock lines size (slice_index ids k) k (row_at rows k) pass
      one = retired.each k below

      same : note bytes image k ≡ own_note bytes lock (retired.each k below).0
      same = let o = retired.each k below in closed_note o.0 k o.1 o.2.number

      size_shown : image.size ≡ size
      size_shown = let o = retired.each k below in ap (λ (n : Note D). n.size) same ∙ o.2.account.sized

      one_shown : HasRetired bytes lines ids image k (row_at rows k)
      one_shown =
          let o = retired.each k below in
          record {
            retired = ap (λ (n : Note D). n.phase) same ∙ o.2.retired;
            buffer = o.2.buffer;
            account = subst (λ (n : ℕ). Account bytes (asked lines) (slice_index ids k) k n (requests_of (slice_index ids k) lines) (note bytes image k) (row_at rows k) o.2.buffer) (sym size_shown)
                (subst (λ (n : Note D). Account bytes (asked lines) (slice_index ids k) k size (requests_of (slice_index ids k) lines) n (row_at rows k) o.2.buffer) (sym same) o.2.account);
          }

      one_buffered : noted_count k image.journal ≡ length (row_at rows k)
      one_buffered =
          let o = retired.each k below in
          sym (length_from 0 k image.journal) ∙ ap (λ (n : Note D). length n.entries) same
          ∙ answered_long bytes (asked lines) (slice_index ids k) size (own_note bytes lock o.0).entries (row_at rows k) o.2.account.answered

    pub shows_retired : ShowsRetired bytes lines size ids rows (built_of lock) image
    shows_retired = record {
      opening = λ some. let o = retired.each 0 some in ap (λ (n : Note D). n.opening) (same 0 some) ∙ o.2.opened;
      sized = λ some. size_shown 0 some;
      streams = λ some. let o = retired.each 0 some in ap (λ (n : Note D). n.streams) (same 0 some) ∙ o.2.streams ∙ retired.all;
      each = one_shown;
      buffered = one_buffered;
    }

module _ {P D : Type 0} (bytes : D → Option (List ℕ)) (co : Stream P (ImageState D) (Note D)) (of : CoMutex P (ImageState D) (Note D) × Script) (is : IsStreamOf bytes co of) where
  retired_by : (where_it_is : At) → HasGone where_it_is → StandsSo of.1.lines co.id co.co.co co.line co.queued (own_note bytes of.0 co.pass) where_it_is
      → ((own_note bytes of.0 co.pass).phase ≡ Retired) × (co.queued ≡ false)
  retired_by at.Gone gone stands = stands
  retired_by at.Between gone stands = absurd gone
  retired_by (at.Entering passed) gone stands = absurd gone
  retired_by at.Waiting gone stands = absurd gone
  retired_by at.Serving gone stands = absurd gone
  retired_by at.Ended gone stands = absurd gone
  retired_by at.Retiring gone stands = absurd gone

  pub parts_of_retired : HasGone co.at → ArePartsOf bytes of.0 of.1.lines of.1.image co.id co.co.co (map (λ buffer. buffer.items) co.filled.items) co.pass
  parts_of_retired gone =
      let both = retired_by co.at gone is.stands in
      record {
        of = is.pass.of;
        rests = is.pass.place ∙ ap pass_place_of both.1;
        is = record {
          number = is.pass.number;
          opened = is.pass.opened;
          streams = is.pass.streams;
          retired = both.0;
          buffer = co.buffer.items;
          account = is.account;
        };
      }

-- ---- a lock that was never taken

no_entry : {A : Type 0} → (x : A) (xs : List A) → x ∷ xs ≡ [] → ⊥
no_entry x xs same = cc same

module _ {T : Type 0} where
  -- a history that none of its passes made an entry of is empty
  none_made : (n : ℕ) (history : List (LockEntry T)) → AreBelow n history → ((k : ℕ) → k < n → made_by k history ≡ []) → history ≡ []
  none_made n [] below none = refl
  none_made n (entry ∷ older) below none =
      let own : made_by (maker_of entry) (entry ∷ older) ≡ entry ∷ made_by (maker_of entry) older = made_more (maker_of entry) entry older refl in
      absurd (no_entry entry (made_by (maker_of entry) older) (sym own ∙ none (maker_of entry) below.0))

module _ {P T N : Type 0} (note_of : T → ℕ → N) (lock : CoMutex P T N) (passes : List (Pass P T N)) (history : List (LockEntry T)) where
  -- its value is the built one
  pub unused_value : AreAll lock passes → Gathers note_of lock passes history → AreUnused passes → value_of (built_of lock) history ≡ built_of lock
  unused_value all gathers unused =
      let none : history ≡ [] = none_made (passes_of lock) history gathers.below (λ k below.
      let one = all.all k below in
      ap (λ (n : ℕ). made_by n history) (sym one.2) ∙ gathers.mine one.0 one.1 ∙ unused one.0 one.1) in
      ap (value_of (built_of lock)) none
