-- All streams have retired: what they served is a serial history of the script.
use Rattle.std.proofs.Common.{◌≡◌, ℕ, zero, suc, ◌+◌, ◌<◌, ◌≤◌, ◌==◌, inl, inr, cond, List, [], ◌∷◌, ◌++◌, length, map, slice_index, get_or, count_by, Option, option_map, refl, sym, ap, subst, ◌∙◌, arith, length-append, append_assoc}
use Rattle.std.specs.List.{AllByRecursion}
use Rattle.std.proofs.lemmas.Bool.{cases_Bool, cases_lt, cond-true, cond-false}
use Rattle.std.proofs.lemmas.List.{get_or_at, length-map}
use Rattle.std.proofs.lemmas.List.Sums.{sum_by-cons}
use Rattle.aio_model.specs.declared.serving.replies.Reply.{Reply}
use Rattle.aio_model.specs.declared.serving.replies.Reply.TheVariants.{Einval}
use Rattle.aio_model.specs.declared.serving.replies.Placed.{Placed}
use Rattle.aio_model.specs.declared.scripts.image_scripts.Step.{Step}
use Rattle.aio_model.specs.Serving.Asked.{Asked, asked, requests_of}
use Rattle.aio_model.specs.Serving.SerialHistory.{CountsFrom, bytes_left, IsSerialHistory, eios_of}
use Rattle.aio_words.specs.declared.called.DeviceCall.{DeviceCall}
use Rattle.aio_words.specs.Faults.{HasRisenBy}
use Rattle.img_requests.specs.Journal.{reply_of}
use Rattle.img_requests.specs.Progress.{Replied}
use Rattle.img_shared.specs.Calls.{IsWholeRun}
use Rattle.img_shared.specs.Journals.{noted_count, noted_entry, Noted, of_stream, eios_in}
use Rattle.img_join.specs.Answers.{IsAnswered, placed_of}
use Rattle.img_join.specs.Ended.{HaveOwnIds, AreOurs, HasRetired, IsChargedFor, IsServedWhole, replies_to}
use Rattle.img_join.specs.Placing.{row_at, placed_from, HaveAll}
use Rattle.img_join.proofs.Accounts.{length_from}
use Rattle.img_join.proofs.ByEntry.{placed_same, eios_placed}
use Rattle.img_join.proofs.Joined as joining
use Rattle.img_shared.specs.declared.journal.Entry.{Entry}
use Rattle.img_shared.specs.declared.phases.Phase.{Phase}
use Rattle.img_shared.specs.declared.phases.Phase.TheVariants.{Idle, Retired}
use Rattle.img_shared.specs.Soundness.{IsDue}
use Rattle.img_shared.specs.Images.{ImageState}
use Rattle.img_shared.specs.Notes.{Placement, entries_from}
use Rattle.img_shared.specs.Phases.{phase_at, Writing, has_failed}
use Rattle.img_join.specs.Accounts.{IsAnsweredBy, AllAnswered}

module _ {D : Type 0} (bytes : D → Option (List ℕ)) where
  abbrev noted_at : Placement D → Noted
  noted_at placed = noted_entry bytes placed.entry

  stream_from : (place k : ℕ) (journal : List (Entry D)) → of_stream k (map (noted_entry bytes) journal) ≡ map noted_at (entries_from place k journal)
  stream_from place k [] = refl
  stream_from place k (one ∷ journal) =
      let ih : of_stream k (map (noted_entry bytes) journal) ≡ map noted_at (entries_from (place + 1) k journal) = stream_from (place + 1) k journal in
      elim (cases_Bool (one.stream == k)) [
        | inl h ↦ cond-true _ _ _ h ∙ ap (λ (l : List Noted). noted_entry bytes one ∷ l) ih ∙ sym (ap (λ (l : List (Placement D)). map noted_at l) (cond-true (one.stream == k) (record { place = place; entry = one } ∷ entries_from (place + 1) k journal) (entries_from (place + 1) k journal) h))
        | inr h ↦ cond-false _ _ _ h ∙ ih ∙ sym (ap (λ (l : List (Placement D)). map noted_at l) (cond-false (one.stream == k) (record { place = place; entry = one } ∷ entries_from (place + 1) k journal) (entries_from (place + 1) k journal) h))
      ]

  answered_each : (all : List Asked) (id size : ℕ) (n : ℕ) (front : List Reply) (entries : List (Placement D)) (buffers : List (List ℕ))
      → length front ≡ n
      → CountsFrom n (map (λ (entry : Noted). entry.index) (map noted_at entries))
      → AllAnswered bytes all id size entries buffers
      → AllByRecursion (IsAnswered all id (λ j. get_or (front ++ replies_to entries buffers) j Einval) size) (map noted_at entries)
  answered_each all id size n front [] buffers long counts answered = tt
  answered_each all id size n front (e ∷ es) [] long counts answered = absurd answered
  answered_each all id size n front (e ∷ es) (b ∷ bs) long counts answered =
      let one = reply_of e.entry.mark b in
      let rest = replies_to es bs in
      let here : get_or (front ++ one ∷ rest) e.entry.index Einval ≡ one = get_or_at front one rest Einval e.entry.index (omega (arith, long, counts.0)) in
      let joined_up : (front ++ one ∷ []) ++ rest ≡ front ++ one ∷ rest = append_assoc front (one ∷ []) rest in
      let first : IsAnsweredBy bytes all id size e.entry b = answered.0 in (
        (first.0, first.1, subst (λ (r : Reply). Replied size first.0 (bytes e.entry.before.value.value) (bytes e.entry.after.value.value) r) (sym here) first.2),
        subst (λ (l : List Reply). AllByRecursion (IsAnswered all id (λ j. get_or l j Einval) size) (map noted_at es)) joined_up
            (answered_each all id size (n + 1) (front ++ one ∷ []) es bs (omega (arith, length-append front (one ∷ []), long)) counts.1 answered.1),
      )

past_end : (phases : List Phase) (k : ℕ) → length phases ≤ k → phase_at phases k ≡ Idle
past_end [] k h = refl
past_end (p ∷ phases) zero h = absurd (omega arith)
past_end (p ∷ phases) (suc k) h = past_end phases k (omega arith)

idle_silent : (phase : Phase) → phase ≡ Idle → Writing phase → ⊥
idle_silent phase e writes = subst Writing e writes

retired_silent : (phase : Phase) → phase ≡ Retired → Writing phase → ⊥
retired_silent phase e writes = subst Writing e writes

known_noted : {D : Type 0} → (bytes : D → Option (List ℕ)) (id : ℕ → ℕ) (reply : ℕ → ℕ → Reply) (n m : ℕ) (journal : List (Entry D)) → m ≡ n
    → AllByRecursion (λ (entry : Entry D). entry.stream < m) journal → joining.AreKnown id reply n (map (noted_entry bytes) journal)
known_noted bytes id reply n m [] same known = tt
known_noted bytes id reply n m (one ∷ journal) same known = (omega (arith, known.0, same), known_noted bytes id reply n m journal same known.1)

module _ {D : Type 0} (bytes : D → Option (List ℕ)) (extent faults size_faults : D → ℕ) (calls : D → List DeviceCall) (lines : List Step) (ids : List ℕ) (image : ImageState D)
    (rows : List (List (List ℕ))) where
  -- a stream's replies, by their indices
  abbrev pub reply : ℕ → ℕ → Reply
  reply k j = get_or (replies_to (entries_from 0 k image.journal) (row_at rows k)) j Einval

  abbrev pub served : List Placed
  served = map (placed_of (slice_index ids) reply) (map (noted_entry bytes) image.journal)

  module _ (many : length image.requests ≡ length ids) (whole : IsWholeRun bytes extent faults size_faults calls image) where
    all_in : (k : ℕ) → HasRetired bytes lines ids image k (row_at rows k) → length (entries_from 0 k image.journal) ≡ requests_of (slice_index ids k) lines
    all_in k retired =
        let due : noted_count k image.journal ≡ slice_index image.requests k =
        subst (λ (p : Phase). IsDue p (noted_count k image.journal) (slice_index image.requests k)) retired.retired (whole.due k) in
        length_from 0 k image.journal ∙ due ∙ retired.account.many

    pub finished : HaveOwnIds ids → AreOurs ids lines
        → ((k : ℕ) → k < length ids → HasRetired bytes lines ids image k (row_at rows k))
        → IsSerialHistory image.size (asked lines) (bytes image.opening) served
        × (bytes image.device ≡ option_map (bytes_left (asked lines) served) (bytes image.opening))
    finished apart ours retired =
        let clean : bytes image.device ≡ bytes image.left = whole.clean (λ k. elim (cases_lt k (length ids)) [
          | inl h ↦ retired_silent (phase_at image.phases k) (retired k h).retired
          | inr h ↦ idle_silent (phase_at image.phases k) (past_end image.phases k (omega (arith, h, many, whole.streams)))
        ]) in
        let ended : joining.HasEnded (slice_index ids) reply (length ids) lines image.size (bytes image.opening) (bytes image.left) (map (noted_entry bytes) image.journal) = record {
          apart = apart;
          ours = ours;
          known = known_noted bytes (slice_index ids) reply (length ids) (length image.requests) image.journal many whole.known;
          chain = whole.chain;
          counts = λ k below. whole.ordered k;
          many = λ k below. ap (λ (l : List Noted). length l) (stream_from bytes 0 k image.journal)
              ∙ length-map (entries_from 0 k image.journal) (noted_at bytes) ∙ all_in k (retired k below);
          answered = λ k below. subst (AllByRecursion (IsAnswered (asked lines) (slice_index ids k) (reply k) image.size)) (sym (stream_from bytes 0 k image.journal))
              (answered_each bytes (asked lines) (slice_index ids k) image.size 0 [] (entries_from 0 k image.journal) (row_at rows k) refl
              (subst (λ (l : List Noted). CountsFrom 0 (map (λ (entry : Noted). entry.index) l)) (stream_from bytes 0 k image.journal) (whole.ordered k))
              (retired k below).account.answered);
        } in
        let both = joining.joined (slice_index ids) reply (length ids) lines image.size (bytes image.opening) (bytes image.left) (map (noted_entry bytes) image.journal) ended in
        (both.0, clean ∙ both.1)

less_risen : (n m before now : ℕ) → HasRisenBy (n + m) before now → HasRisenBy n before now
less_risen n m before now risen = omega (arith, risen)

-- the replies that were put together are those
pub served_whole : {D : Type 0} → (bytes : D → Option (List ℕ)) (extent faults size_faults : D → ℕ) (calls : D → List DeviceCall) (ids : List ℕ) (image : ImageState D)
    (rows : List (List (List ℕ))) (placed : List Placed)
    → length image.requests ≡ length ids → IsWholeRun bytes extent faults size_faults calls image
    → HaveAll ids image.journal rows → placed ≡ placed_from ids image.journal rows
    → (lines : List Step) → HaveOwnIds ids → AreOurs ids lines
    → ((k : ℕ) → k < length ids → HasRetired bytes lines ids image k (row_at rows k))
    → IsServedWhole bytes faults lines image placed
served_whole bytes extent faults size_faults calls ids image rows placed many whole have put lines apart ours retired =
    let said = reply bytes extent faults size_faults calls lines ids image rows in
    let same : placed ≡ served bytes extent faults size_faults calls lines ids image rows =
    put ∙ placed_same bytes ids said (λ k. 0) 0 image.journal rows have (λ k j. ap (said k) (let z : 0 + j ≡ j = omega arith in z)) (λ k. whole.ordered k) in
    let both = finished bytes extent faults size_faults calls lines ids image rows many whole apart ours retired in
    let eios : eios_of placed ≡ eios_in image.journal = ap eios_of put ∙ eios_placed ids image.journal rows in
    record {
      history = subst (IsSerialHistory image.size (asked lines) (bytes image.opening)) (sym same) both.0;
      left = both.1 ∙ ap (λ (l : List Placed). option_map (bytes_left (asked lines) l) (bytes image.opening)) (sym same);
      counted = subst (λ (n : ℕ). HasRisenBy n (faults image.opening) (faults image.device)) (sym eios)
          (less_risen (eios_in image.journal) (count_by has_failed image.phases) (faults image.opening) (faults image.device) whole.counted);
    }

none_failed : (phases : List Phase) → ((k : ℕ) → k < length phases → phase_at phases k ≡ Retired) → count_by has_failed phases ≡ 0
none_failed [] retired = refl
none_failed (p ∷ phases) retired =
    let here : cond {A = ℕ} (has_failed p) 1 0 ≡ 0 = ap (λ (q : Phase). cond {A = ℕ} (has_failed q) 1 0) (retired 0 (omega arith)) in
    omega (arith, sum_by-cons (λ (q : Phase). cond {A = ℕ} (has_failed q) 1 0) p phases, here, none_failed phases (λ k below. retired (suc k) (omega arith)))

-- what the run came to at the device
pub charged_for : {D : Type 0} → (bytes : D → Option (List ℕ)) (extent faults size_faults : D → ℕ) (calls : D → List DeviceCall) (ids : List ℕ) (image : ImageState D)
    (rows : List (List (List ℕ))) (placed : List Placed)
    → length image.requests ≡ length ids → IsWholeRun bytes extent faults size_faults calls image
    → placed ≡ placed_from ids image.journal rows
    → ((k : ℕ) → k < length ids → phase_at image.phases k ≡ Retired)
    → IsChargedFor extent faults size_faults calls image.size image.opening image.device placed
charged_for bytes extent faults size_faults calls ids image rows placed many whole put retired =
    let eios : eios_of placed ≡ eios_in image.journal = ap eios_of put ∙ eios_placed ids image.journal rows in
    let well : count_by has_failed image.phases ≡ 0 = none_failed image.phases (λ k below. retired k (omega (arith, below, many, whole.streams))) in
    record {
      fits = whole.fits;
      long = whole.long;
      sizes = whole.sizes;
      later = whole.later;
      counted = subst (λ (n : ℕ). HasRisenBy n (faults image.opening) (faults image.device)) (sym eios)
          (less_risen (eios_in image.journal) (count_by has_failed image.phases) (faults image.opening) (faults image.device) whole.counted);
      asked = whole.asked;
      failures = omega (arith, whole.failures, eios, well);
    }

pub known_ids : {D : Type 0} → (n m : ℕ) (journal : List (Entry D)) → m ≡ n → AllByRecursion (λ (entry : Entry D). entry.stream < m) journal
    → AllByRecursion (λ (entry : Entry D). entry.stream < n) journal
known_ids n m [] same known = tt
known_ids n m (one ∷ journal) same known = (omega (arith, known.0, same), known_ids n m journal same known.1)
