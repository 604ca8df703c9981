-- The device's count of faults covers the entries and the present requests at which it failed.
use Rattle.std.proofs.Common.{◌≡◌, ℕ, ◌+◌, ◌<◌, ◌≤◌, ◌==◌, Bool, Result, Ok, Err, OnErr, is_ok, is_err, true, false, cond, set, List, [], ◌∷◌, ◌++◌, length, count_by, refl, sym, ap, subst, ◌∙◌, arith}
use Rattle.std.proofs.lemmas.List.Sums.{sum_by-set, sum_by_push}
use Rattle.std.specs.declared.snapshot.Snapshot.{Snapshot}
use Rattle.aio_model.specs.Holds.WhoHolds.{ReadersWriter}
use Rattle.aio_words.specs.declared.called.DeviceCall.{DeviceCall}
use Rattle.aio_words.specs.Called.{sizes_asked, failures_in}
use Rattle.aio_words.specs.Faults.{HasRisenBy, HasRisen}
use Rattle.img_requests.specs.declared.answers.Piece.{Piece}
use Rattle.img_requests.specs.declared.answers.Piece.TheVariants as piece
use Rattle.img_requests.specs.declared.journal.Mark.{Mark}
use Rattle.img_requests.specs.declared.present.Present.{Present}
use Rattle.img_requests.specs.declared.present.RequestKind.{RequestKind}
use Rattle.img_requests.specs.declared.present.RequestKind.TheVariants.{Read, Write, Zero, Flush}
use Rattle.img_requests.specs.declared.present.Stage.{Stage}
use Rattle.img_requests.specs.declared.present.Stage.TheVariants.{Begun, Whole, Failed}
use Rattle.img_requests.specs.ImageState.{IsEnded}
use Rattle.img_requests.specs.Journal.{mark_ended_at}
use Rattle.img_requests.specs.Pieces.{OnFailed, answer_to, stage_after}
use Rattle.img_shared.specs.declared.journal.Entry.{Entry}
use Rattle.img_shared.specs.declared.phases.Phase.{Phase}
use Rattle.img_shared.specs.declared.phases.Phase.TheVariants.{Idle, Active}
use Rattle.img_shared.specs.Images.{ImageState}
use Rattle.img_shared.specs.Journals.{entry_next, is_eio_mark, eios_in}
use Rattle.img_shared.specs.Phases.{phase_at, is_failed_stage, has_failed}
use Rattle.img_shared.specs.Soundness.{IsCharged}

abbrev one_if : Bool → ℕ
one_if b = cond b 1 0

-- the phases that have failed, as one of them is set
failed_set : (phases : List Phase) (k : ℕ) (x : Phase) → k < length phases
    → count_by has_failed (set phases k x) + one_if (has_failed (phase_at phases k)) ≡ count_by has_failed phases + one_if (has_failed x)
failed_set phases k x below = sum_by-set (λ (p : Phase). cond (has_failed p) 1 0) phases k x Idle below

-- the entries that have failed, with one more
eios_push : {D : Type 0} → (journal : List (Entry D)) (s : ℕ) (mark : Mark) (b a : Snapshot (Snapshot D))
    → eios_in (journal ++ entry_next s journal mark b a ∷ []) ≡ eios_in journal + one_if (is_eio_mark mark)
eios_push {D} journal s mark b a = sum_by_push (λ (entry : Entry D). cond (is_eio_mark entry.mark) 1 0) journal (entry_next s journal mark b a)

good_mark_no_eio : (kind : RequestKind) (length done : ℕ) → is_eio_mark (mark_ended_at Whole kind length done) ≡ false
good_mark_no_eio Read length done = refl
good_mark_no_eio Write length done = refl
good_mark_no_eio Zero length done = refl
good_mark_no_eio Flush length done = refl

marked_at : (ended : Stage) (kind : RequestKind) (length done : ℕ) → IsEnded ended → is_eio_mark (mark_ended_at ended kind length done) ≡ is_failed_stage ended
marked_at Begun kind length done over = absurd over
marked_at Whole kind length done over = good_mark_no_eio kind length done
marked_at Failed kind length done over = refl

-- a piece fails where the device's call failed
pub cause_of : {E : Type 0} → (result : Result (Unit {0}) E) (served : Bool) (done length : ℕ) (P : Type 0) (answer : Piece)
    → served ≡ is_ok result → answer ≡ answer_to served done length → OnErr result P → OnFailed answer P
cause_of (Err e) served done length P answer is what cause =
    subst (λ (a : Piece). OnFailed a P) (sym (what ∙ ap (λ (b : Bool). answer_to b done length) is)) cause
cause_of (Ok u) served done length P answer is what cause =
    subst (λ (a : Piece). OnFailed a P) (sym (what ∙ ap (λ (b : Bool). answer_to b done length) is)) (whole_or_more (done == length)) where
      whole_or_more : (b : Bool) → OnFailed (cond b piece.Whole piece.More) P
      whole_or_more true = tt
      whole_or_more false = tt

-- its call failed where the piece did
pub failed_as : {E : Type 0} → (result : Result (Unit {0}) E) (served : Bool) (done length : ℕ) (answer : Piece)
    → served ≡ is_ok result → answer ≡ answer_to served done length → one_if (is_err result) ≡ one_if (is_failed_stage (stage_after answer))
failed_as (Err e) served done length answer is what =
    sym (ap (λ (a : Piece). one_if (is_failed_stage (stage_after a))) (what ∙ ap (λ (b : Bool). answer_to b done length) is))
failed_as (Ok u) served done length answer is what =
    sym (ap (λ (a : Piece). one_if (is_failed_stage (stage_after a))) (what ∙ ap (λ (b : Bool). answer_to b done length) is) ∙ whole_or_more (done == length)) where
      whole_or_more : (b : Bool) → one_if (is_failed_stage (stage_after (cond b piece.Whole piece.More))) ≡ 0
      whole_or_more true = refl
      whole_or_more false = refl

risen_piece : (answer : Piece) (n first before now : ℕ) → HasRisenBy n first before → before ≤ now → OnFailed answer (HasRisen before now)
    → HasRisenBy (n + one_if (is_failed_stage (stage_after answer))) first now
risen_piece piece.More n first before now so_far later risen = omega (arith, so_far, later)
risen_piece piece.Whole n first before now so_far later risen = omega (arith, so_far, later)
risen_piece piece.Failed n first before now so_far later risen = omega (arith, so_far, later, risen)

module _ {D : Type 0} (extent faults size_faults : D → ℕ) (calls : D → List DeviceCall) (old : ImageState D) (charged : IsCharged extent faults size_faults calls old)
    (s : ℕ) (below : s < length old.phases) where
  -- a phase changes that hasn't failed, nor does the next
  pub charged_phase : (x : Phase) (access : ReadersWriter) → has_failed (phase_at old.phases s) ≡ false → has_failed x ≡ false
      → IsCharged extent faults size_faults calls (record old { phases = set old.phases s x; access = access })
  charged_phase x access was is = record {
    fits = charged.fits;
    long = charged.long;
    sizes = charged.sizes;
    counted =
        let step = failed_set old.phases s x below in
        let before : one_if (has_failed (phase_at old.phases s)) ≡ 0 = ap one_if was in
        let after : one_if (has_failed x) ≡ 0 = ap one_if is in
        subst (λ (n : ℕ). HasRisenBy (eios_in old.journal + n) (faults old.opening) (faults old.device)) (omega (arith, step, before, after)) charged.counted;
    later = charged.later;
    asked = charged.asked;
    failures =
        let step = failed_set old.phases s x below in
        let before : one_if (has_failed (phase_at old.phases s)) ≡ 0 = ap one_if was in
        let after : one_if (has_failed x) ≡ 0 = ap one_if is in
        omega (arith, charged.failures, step, before, after);
  }

  -- a request is refused
  pub charged_refused : (mark : Mark) (b a : Snapshot (Snapshot D)) → is_eio_mark mark ≡ false
      → IsCharged extent faults size_faults calls (record old { journal = old.journal ++ entry_next s old.journal mark b a ∷ [] })
  charged_refused mark b a good = record {
    fits = charged.fits;
    long = charged.long;
    sizes = charged.sizes;
    counted =
        let push = eios_push old.journal s mark b a in
        let none : one_if (is_eio_mark mark) ≡ 0 = ap one_if good in
        subst (λ (n : ℕ). HasRisenBy (n + count_by has_failed old.phases) (faults old.opening) (faults old.device)) (omega (arith, push, none)) charged.counted;
    later = charged.later;
    asked = charged.asked;
    failures =
        let push = eios_push old.journal s mark b a in
        let none : one_if (is_eio_mark mark) ≡ 0 = ap one_if good in
        omega (arith, charged.failures, push, none);
  }

  -- a piece is served
  pub charged_piece : (present next : Present) (answer : Piece) (device : D) → phase_at old.phases s ≡ Active present → present.stage ≡ Begun
      → next.stage ≡ stage_after answer
      → extent device ≡ extent old.device → size_faults device ≡ size_faults old.device
      → faults old.device ≤ faults device → OnFailed answer (HasRisen (faults old.device) (faults device))
      → sizes_asked (calls device) ≡ sizes_asked (calls old.device)
      → failures_in (calls device) ≡ failures_in (calls old.device) + one_if (is_failed_stage (stage_after answer))
      → IsCharged extent faults size_faults calls (record old { device = device; phases = set old.phases s (Active next) })
  charged_piece present next answer device active begun stage long sizes later risen asked failed = record {
    fits = omega (arith, charged.fits, long);
    long = long ∙ charged.long;
    sizes = sizes ∙ charged.sizes;
    counted =
        let step = failed_set old.phases s (Active next) below in
        let before : one_if (has_failed (phase_at old.phases s)) ≡ 0 = ap (λ (p : Phase). one_if (has_failed p)) active ∙ ap (λ (g : Stage). one_if (is_failed_stage g)) begun in
        let after : one_if (has_failed (Active next)) ≡ one_if (is_failed_stage (stage_after answer)) = ap (λ (g : Stage). one_if (is_failed_stage g)) stage in
        subst (λ (n : ℕ). HasRisenBy n (faults old.opening) (faults device)) (omega (arith, step, before, after))
        (risen_piece answer (eios_in old.journal + count_by has_failed old.phases) (faults old.opening) (faults old.device) (faults device) charged.counted later risen);
    later = omega (arith, charged.later, later);
    asked = asked ∙ charged.asked;
    failures =
        let step = failed_set old.phases s (Active next) below in
        let before : one_if (has_failed (phase_at old.phases s)) ≡ 0 = ap (λ (p : Phase). one_if (has_failed p)) active ∙ ap (λ (g : Stage). one_if (is_failed_stage g)) begun in
        let after : one_if (has_failed (Active next)) ≡ one_if (is_failed_stage (stage_after answer)) = ap (λ (g : Stage). one_if (is_failed_stage g)) stage in
        omega (arith, charged.failures, failed, step, before, after);
  }

  -- a request leaves
  pub charged_left : (present : Present) (b a : Snapshot (Snapshot D)) (left : D) (access : ReadersWriter) → phase_at old.phases s ≡ Active present → IsEnded present.stage
      → IsCharged extent faults size_faults calls (record old {
        left = left;
        journal = old.journal ++ entry_next s old.journal (mark_ended_at present.stage present.kind present.length present.done) b a ∷ [];
        phases = set old.phases s Idle;
        access = access;
      })
  charged_left present b a left access active ended = record {
    fits = charged.fits;
    long = charged.long;
    sizes = charged.sizes;
    counted =
        let mark = mark_ended_at present.stage present.kind present.length present.done in
        let push = eios_push old.journal s mark b a in
        let step = failed_set old.phases s Idle below in
        let before : one_if (has_failed (phase_at old.phases s)) ≡ one_if (is_failed_stage present.stage) = ap (λ (p : Phase). one_if (has_failed p)) active in
        let marked : one_if (is_eio_mark mark) ≡ one_if (is_failed_stage present.stage) = ap one_if (marked_at present.stage present.kind present.length present.done ended) in
        subst (λ (n : ℕ). HasRisenBy n (faults old.opening) (faults old.device)) (omega (arith, push, step, before, marked)) charged.counted;
    later = charged.later;
    asked = charged.asked;
    failures =
        let mark = mark_ended_at present.stage present.kind present.length present.done in
        let push = eios_push old.journal s mark b a in
        let step = failed_set old.phases s Idle below in
        let before : one_if (has_failed (phase_at old.phases s)) ≡ one_if (is_failed_stage present.stage) = ap (λ (p : Phase). one_if (has_failed p)) active in
        let marked : one_if (is_eio_mark mark) ≡ one_if (is_failed_stage present.stage) = ap one_if (marked_at present.stage present.kind present.length present.done ended) in
        omega (arith, charged.failures, push, step, before, marked);
  }
