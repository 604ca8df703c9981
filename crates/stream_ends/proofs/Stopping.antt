-- Coroutines that have retired: their passes are all passes of the lock, and the image behind it is that of the script.
use Rattle.std.proofs.Common.{◌≡◌, ℕ, ◌+◌, ◌<◌, ◌≤◌, max, inl, inr, sum, Option, Some, None, option_map, IfSome, List, [], ◌∷◌, ◌++◌, length, map, drop, slice_index, set, refl, sym, ap, ◌∙◌, subst, arith}
use Rattle.std.proofs.lemmas.Bool.{cases_lt}
use Rattle.std.proofs.lemmas.List.{length-map}
use lib.ListN.{get_elem?}
use mathlib.Core.Option.{some}
use Rattle.aio_model.specs.declared.serving.replies.Placed.{Placed}
use Rattle.aio_model.specs.declared.scripts.image_scripts.Script.{Script}
use Rattle.aio_model.specs.declared.scripts.image_scripts.Step.{Step}
use Rattle.aio_model.specs.Serving.Asked.{asked, requests_of}
use Rattle.aio_model.specs.Serving.SerialHistory.{IsSerialHistory, bytes_left}
use Rattle.aio_model.proofs.Along.{bytes_left-keeps}
use Rattle.aio_script.specs.Image.Bounds.{IsBounded}
use Rattle.aio_words.specs.declared.called.DeviceCall.{DeviceCall}
use Rattle.co_mutex.specs.declared.lock.CoMutex.{CoMutex}
use Rattle.co_mutex.specs.declared.lock.Pass.{Pass}
use Rattle.co_mutex.specs.Closing.{AreAll, In}
use Rattle.co_mutex.specs.Known.{Known}
use Rattle.co_mutex.specs.Passes.{IsNew, IsPassOf, built_of, known, passes_of}
use Rattle.co_mutex.specs.Places.{AtRest}
use Rattle.img_join.specs.Ended.{HaveOwnIds, AreOurs, HasRetired, IsChargedFor, IsServedWhole}
use Rattle.img_join.specs.Placing.{placed_from, row_at, rest_of}
use Rattle.img_shared.specs.declared.journal.Entry.{Entry}
use Rattle.img_shared.specs.declared.phases.Phase.TheVariants.{Retired}
use Rattle.img_shared.specs.Images.{ImageState}
use Rattle.img_shared.specs.Journals.{noted_count}
use Rattle.img_shared.specs.Notes.{Note}
use Rattle.img_shared.specs.Phases.{phase_at}
use Rattle.img_streams.specs.declared.stream.Stream.{Stream}
use Rattle.img_streams.specs.Retired.{ArePartsOf, AreUnused, HaveRetired, IsRetired, ShowsRetired}
use Rattle.img_streams.specs.Streams.{source}
use Rattle.img_streams.proofs.Settling.{parts_of_retired}
use Rattle.stream_ends.specs.Images.{IsLockFor, counts_for, device_behind, ids_of_lines}
use Rattle.stream_ends.specs.Starts.{AllAt}
use Rattle.stream_ends.specs.Stops.{HaveStopped, IsScriptServed, bytes_filled}
use Rattle.stream_ends.proofs.Places.{at_below, at_mapped, below_at, from_mapped, in_either, in_left, in_right, index_mapped, read_mapped, same_sum}
use Rattle.stream_ends.proofs.Scripts.{are_apart, are_ours}
use Rattle.stream_ends.proofs.Starting.{length_counts, length_ids}

-- what the image shows, once the lock is closed
pub record IsClosed {P D : Type 0} (bytes : D → Option (List ℕ)) (script : Script) (lock : CoMutex P (ImageState D) (Note D)) (rows : List (List (List ℕ))) (image : ImageState D) : Type 0 where
  pub opening : image.opening ≡ device_behind lock
  pub sized : image.size ≡ script.image
  pub streams : length image.requests ≡ length (ids_of_lines script.streams)
  pub each : (k : ℕ) → k < length (ids_of_lines script.streams) → HasRetired bytes script.lines (ids_of_lines script.streams) image k (row_at rows k)
  pub buffered : (k : ℕ) → k < length (ids_of_lines script.streams) → noted_count k image.journal ≡ length (row_at rows k)
  pub together : sum image.requests ≡ sum (counts_for script.lines (ids_of_lines script.streams))

module _ {P D : Type 0} (bytes : D → Option (List ℕ)) (script : Script) (lock : CoMutex P (ImageState D) (Note D)) (is : IsLockFor script lock)
    (cos : List (Stream P (ImageState D) (Note D))) (stopped : HaveStopped bytes script lock cos)
    (spare : List (Pass P (ImageState D) (Note D))) (few : length spare + length script.streams ≡ max 1 (length script.streams)) (new : AllAt (IsNew lock) spare) where
  abbrev ids : List ℕ
  ids = ids_of_lines script.streams

  abbrev pass_of : Stream P (ImageState D) (Note D) → Pass P (ImageState D) (Note D)
  pass_of co = co.pass

  abbrev passes : List (Pass P (ImageState D) (Note D))
  passes = spare ++ map pass_of cos

  abbrev rows : List (List (List ℕ))
  rows = map bytes_filled cos

  part : (k : ℕ) (co : Stream P (ImageState D) (Note D)) → get_elem? cos k ≡ some co
      → ArePartsOf bytes lock script.lines script.image (slice_index ids k) k (bytes_filled co) co.pass
  part k co at =
      let one = stopped.each k co at in
      let id : co.id ≡ slice_index ids k = sym one.going.of.named ∙ ap (slice_index ids) one.going.number_is in
      subst (λ (n : ℕ). ArePartsOf bytes lock script.lines script.image n k (bytes_filled co) co.pass) id
      (subst (λ (n : ℕ). ArePartsOf bytes lock script.lines script.image co.id n (bytes_filled co) co.pass) one.going.number_is
      (parts_of_retired bytes co (source lock script) one.going.of one.gone))

  own_in : (k : ℕ) (co : Stream P (ImageState D) (Note D)) → get_elem? cos k ≡ some co → In co.pass passes
  own_in k co at = in_right spare (map pass_of cos) co.pass (k, at_mapped pass_of cos k co at)

  at_rest : (p : Pass P (ImageState D) (Note D)) → In p passes → IsPassOf lock p × ((known p).place ≡ AtRest)
  at_rest p here = elim (in_either spare (map pass_of cos) p here) [
    | inl (k, at) ↦ let one = new k p at in (one.is, ap (λ (v : Known (ImageState D)). v.place) one.known_is)
    | inr (k, at) ↦
        let own = from_mapped pass_of cos k p at in
        let parts = part k own.0 own.1 in
        subst (λ (q : Pass P (ImageState D) (Note D)). IsPassOf lock q × ((known q).place ≡ AtRest)) (sym own.2) (parts.of, parts.rests)
  ]

  each_number : (k : ℕ) → k < passes_of lock → (p : Pass P (ImageState D) (Note D)) × In p passes × ((known p).number ≡ k)
  each_number k below = elim (cases_lt k (length cos)) [
    | inl h ↦ let own = at_below cos k h in (own.0.pass, own_in k own.0 own.1, (part k own.0 own.1).is.number)
    | inr h ↦
        let first = at_below spare 0 (omega (arith, below, h, few, is.passes, stopped.many)) in
        let none : 0 ≡ k = omega (arith, below, h, few, is.passes, stopped.many) in (
          first.0,
          (0, in_left spare (map pass_of cos) 0 first.0 first.1),
          ap (λ (v : Known (ImageState D)). v.number) (new 0 first.0 first.1).known_is ∙ none,
        )
  ]

  pub all_are : AreAll lock passes
  all_are = record { each = at_rest; all = each_number }

  retired_at : (k : ℕ) → k < length ids
      → (p : Pass P (ImageState D) (Note D)) × In p passes × IsRetired bytes lock script.lines script.image (slice_index ids k) k (row_at rows k) p
  retired_at k below =
      let own = at_below cos k (omega (arith, below, length_ids script.streams, stopped.many)) in
      let parts = part k own.0 own.1 in (
        own.0.pass,
        own_in k own.0 own.1,
        subst (λ (l : List (List ℕ)). IsRetired bytes lock script.lines script.image (slice_index ids k) k l own.0.pass) (sym (read_mapped bytes_filled cos k own.0 [] own.1)) parts.is,
      )

  pub have_retired : HaveRetired bytes lock script.lines script.image ids rows passes
  have_retired = record {
    all = ap (λ (i : ImageState D). length i.requests) is.built ∙ length_counts script ∙ sym (length_ids script.streams);
    each = retired_at;
  }

  unused : length script.streams ≡ 0 → AreUnused passes
  unused none p here = elim (in_either spare (map pass_of cos) p here) [
    | inl (k, at) ↦ ap (λ (v : Known (ImageState D)). v.mine) (new k p at).known_is
    | inr (k, at) ↦ let own = from_mapped pass_of cos k p at in absurd (omega (arith, below_at cos k own.0 own.1, stopped.many, none))
  ]

  pub long_rows : length rows ≡ length ids
  long_rows = length-map cos bytes_filled ∙ stopped.many ∙ sym (length_ids script.streams)

  module _ (image : ImageState D) (shows : ShowsRetired bytes script.lines script.image ids rows (built_of lock) image) (untouched : AreUnused passes → image ≡ built_of lock) where
    as_built : length ids ≤ 0 → image ≡ built_of lock
    as_built none = untouched (unused (omega (arith, none, length_ids script.streams)))

    built_opening : (built_of lock).opening ≡ device_behind lock
    built_opening = ap (λ (i : ImageState D). i.opening) is.built

    same_opening : image.opening ≡ device_behind lock
    same_opening = elim (cases_lt 0 (length ids)) [
      | inl h ↦ shows.opening h ∙ built_opening
      | inr h ↦ ap (λ (i : ImageState D). i.opening) (as_built h) ∙ built_opening
    ]

    same_size : image.size ≡ script.image
    same_size = elim (cases_lt 0 (length ids)) [
      | inl h ↦ shows.sized h
      | inr h ↦ ap (λ (i : ImageState D). i.size) (as_built h ∙ is.built)
    ]

    same_streams : length image.requests ≡ length ids
    same_streams = elim (cases_lt 0 (length ids)) [
      | inl h ↦ shows.streams h
      | inr h ↦ ap (λ (i : ImageState D). length i.requests) (as_built h ∙ is.built) ∙ length_counts script ∙ sym (length_ids script.streams)
    ]

    own_requests : (k : ℕ) → k < length (counts_for script.lines ids) → slice_index image.requests k ≡ slice_index (counts_for script.lines ids) k
    own_requests k below =
        let under : k < length ids = omega (arith, below, length_counts script, length_ids script.streams) in
        (shows.each k under).account.many ∙ sym (index_mapped (λ id. requests_of id script.lines) ids k under)

    pub closed : IsClosed bytes script lock rows image
    closed = record {
      opening = same_opening;
      sized = same_size;
      streams = same_streams;
      each = shows.each;
      buffered = shows.buffered;
      together = same_sum image.requests (counts_for script.lines ids)
          (same_streams ∙ length_ids script.streams ∙ sym (length_counts script)) own_requests;
    }

  -- the same, of the passes that were handed in
  pub closed_by : (handed : List (Pass P (ImageState D) (Note D))) → handed ≡ passes → (image : ImageState D)
      → ((lines : List Step) (size : ℕ) (all : List ℕ) (buffers : List (List (List ℕ))) → HaveRetired bytes lock lines size all buffers handed → ShowsRetired bytes lines size all buffers (built_of lock) image)
      → (AreUnused handed → image ≡ built_of lock)
      → IsClosed bytes script lock rows image
  closed_by handed are image shows untouched =
      closed image
      (shows script.lines script.image ids rows (subst (HaveRetired bytes lock script.lines script.image ids rows) (sym are) have_retired))
      (λ none. untouched (subst (λ (l : List (Pass P (ImageState D) (Note D))). AreUnused l) (sym are) none))

-- ---- the replies

pub length_placed : {D : Type 0} → (ids : List ℕ) (entries : List (Entry D)) (rows : List (List (List ℕ))) → length (placed_from ids entries rows) ≡ length entries
length_placed ids [] rows = refl
length_placed ids (entry ∷ entries) rows = omega (arith, length_placed ids entries (set rows entry.stream (rest_of (row_at rows entry.stream))))

inside_told : (size extent : ℕ) (told : Option (List ℕ)) → size ≤ extent → IfSome told (λ bytes. length bytes ≡ extent) → IfSome told (λ bytes. size ≤ length bytes)
inside_told size extent None within many = tt
inside_told size extent (Some bytes) within many = subst (λ n. size ≤ n) (sym many) within

past_kept : (script : Script) (before : Option (List ℕ)) (served : List Placed) → IfSome before (λ told. script.image ≤ length told)
    → IsSerialHistory script.image (asked script.lines) before served
    → option_map (drop script.image) (option_map (bytes_left (asked script.lines) served) before) ≡ option_map (drop script.image) before
past_kept script None served inside history = refl
past_kept script (Some told) served inside history =
    ap Some (bytes_left-keeps (asked script.lines) script.image served told inside history.fits).1

-- what the end tells, once ids and rows are known to be the script's and the streams'
module _ {P D : Type 0} (bytes : D → Option (List ℕ)) (script : Script) (lock : CoMutex P (ImageState D) (Note D)) (rows : List (List (List ℕ))) (image : ImageState D) (bounded : IsBounded script)
    (closed : IsClosed bytes script lock rows image) (ids_now : List ℕ) (ids_are : ids_now ≡ ids_of_lines script.streams) (rows_now : List (List (List ℕ))) (rows_are : rows_now ≡ rows) where
  pub whole_so : (faults : D → ℕ) (served : List Placed)
      → ((lines : List Step) → HaveOwnIds ids_now → AreOurs ids_now lines → ((k : ℕ) → k < length ids_now → HasRetired bytes lines ids_now image k (row_at rows_now k)) → IsServedWhole bytes faults lines image served)
      → IsServedWhole bytes faults script.lines image served
  whole_so faults served whole =
      whole script.lines
      (subst HaveOwnIds (sym ids_are) (are_apart (ids_of_lines script.streams) bounded.apart))
      (subst (λ (l : List ℕ). AreOurs l script.lines) (sym ids_are) (are_ours script.loops script.streams script.lines bounded.each))
      (subst (λ (l : List ℕ). (k : ℕ) → k < length l → HasRetired bytes script.lines l image k (row_at rows_now k)) (sym ids_are)
      (subst (λ (r : List (List (List ℕ))). (k : ℕ) → k < length (ids_of_lines script.streams) → HasRetired bytes script.lines (ids_of_lines script.streams) image k (row_at r k)) (sym rows_are) closed.each))

  pub all_retired : (k : ℕ) → k < length ids_now → phase_at image.phases k ≡ Retired
  all_retired k below = (closed.each k (subst (λ (l : List ℕ). k < length l) ids_are below)).retired

pub charged_so : {P D : Type 0} → (bytes : D → Option (List ℕ)) (extent faults size_faults : D → ℕ) (calls : D → List DeviceCall) (script : Script) (lock : CoMutex P (ImageState D) (Note D))
    (buffers : List (List (List ℕ))) (image : ImageState D) (served : List Placed) (device : D)
    → IsClosed bytes script lock buffers image → device ≡ image.device
    → IsChargedFor extent faults size_faults calls image.size image.opening image.device served
    → IsChargedFor extent faults size_faults calls script.image (device_behind lock) device served
charged_so {P} {D} bytes extent faults size_faults calls script lock buffers image served device closed is charged =
    subst (λ (d : D). IsChargedFor extent faults size_faults calls script.image (device_behind lock) d served) (sym is)
    (subst (λ (d : D). IsChargedFor extent faults size_faults calls script.image d image.device served) closed.opening
    (subst (λ (n : ℕ). IsChargedFor extent faults size_faults calls n image.opening image.device served) closed.sized charged))

-- the image lies inside the device at first
pub fits_first : {D : Type 0} → (extent faults size_faults : D → ℕ) (calls : D → List DeviceCall) (size : ℕ) (opening device : D) (served : List Placed)
    → IsChargedFor extent faults size_faults calls size opening device served → size ≤ extent opening
fits_first extent faults size_faults calls size opening device served charged = omega (arith, charged.fits, charged.long)

-- all of it, from the image's own history
pub served_so : {P D : Type 0} → (bytes : D → Option (List ℕ)) (faults extent : D → ℕ) (script : Script) (lock : CoMutex P (ImageState D) (Note D)) (buffers : List (List (List ℕ)))
    (image : ImageState D) (served : List Placed) (now : Option (List ℕ))
    → IsClosed bytes script lock buffers image
    → script.image ≤ extent (device_behind lock)
    → IfSome (bytes (device_behind lock)) (λ told. length told ≡ extent (device_behind lock))
    → IsServedWhole bytes faults script.lines image served
    → now ≡ bytes image.device
    → IsScriptServed script (bytes (device_behind lock)) now served
served_so {P} {D} bytes faults extent script lock buffers image served now closed fits many whole is =
    let first : IsSerialHistory script.image (asked script.lines) (bytes (device_behind lock)) served =
    subst (λ (n : ℕ). IsSerialHistory n (asked script.lines) (bytes (device_behind lock)) served) closed.sized
    (subst (λ (d : D). IsSerialHistory image.size (asked script.lines) (bytes d) served) closed.opening whole.history) in
    let leaves : now ≡ option_map (bytes_left (asked script.lines) served) (bytes (device_behind lock)) =
    is ∙ whole.left ∙ ap (λ (d : D). option_map (bytes_left (asked script.lines) served) (bytes d)) closed.opening in
    record {
      history = first;
      leaves = leaves;
      past = ap (option_map (drop script.image)) leaves
          ∙ past_kept script (bytes (device_behind lock)) served (inside_told script.image (extent (device_behind lock)) (bytes (device_behind lock)) fits many) first;
    }
