-- The notes of all other streams are kept by an image's calls.
use Rattle.std.proofs.Common.{◌≡◌, ◌≢◌, ℕ, ◌+◌, ◌==◌, inl, inr, cond, set, List, [], ◌∷◌, ◌++◌, length, slice_index, Option, Some, None, option_map, refl, sym, ap, subst, ◌∙◌}
use Rattle.std.proofs.lemmas.Bool.{cases_eq, ne_eqb, cond-false}
use Rattle.std.proofs.lemmas.List.{length-set}
use Rattle.std.specs.declared.snapshot.Snapshot.{Snapshot}
use Rattle.img_requests.specs.declared.journal.Mark.{Mark}
use Rattle.img_requests.specs.declared.present.Present.{Present}
use Rattle.aio_model.specs.declared.holds.Hold.TheVariants.{Reads, Writes}
use Rattle.img_shared.specs.declared.journal.Entry.{Entry}
use Rattle.img_shared.specs.declared.phases.Phase.{Phase}
use Rattle.img_shared.specs.declared.phases.Phase.TheVariants.{Idle, Waiting, Active, Retired}
use Rattle.aio_model.specs.Holds.{Has}
use Rattle.aio_model.specs.Holds.WhoHolds.{ReadersWriter, hold_of}
use Rattle.aio_model.proofs.Granted.{writer_alone}
use Rattle.img_shared.specs.Phases.{Linked, Writing, phase_at, held_by}
use Rattle.img_shared.specs.Images.{ImageState}
use Rattle.img_shared.specs.Journals.{entry_next}
use Rattle.img_shared.specs.Soundness.{IsSound}
use Rattle.img_shared.specs.Notes.{Placement, entries_from, told_in, note, SameNotes}
use Rattle.img_shared.proofs.Granting.{has_held, writes_held, reads_or_writes, reads_not_writes}
use Rattle.img_shared.proofs.Sounds.{phase_else}

pub entries_else : {D : Type 0} → (place k : ℕ) (journal : List (Entry D)) (entry : Entry D) → entry.stream ≢ k
    → entries_from place k (journal ++ entry ∷ []) ≡ entries_from place k journal
entries_else place k [] entry ne = cond-false (entry.stream == k) _ _ (ne_eqb entry.stream k ne)
entries_else {D} place k (one ∷ journal) entry ne =
    let ih : entries_from (place + 1) k (journal ++ entry ∷ []) ≡ entries_from (place + 1) k journal = entries_else (place + 1) k journal entry ne in
    ap (λ (l : List (Placement D)). cond (one.stream == k) (record { place = place; entry = one } ∷ l) l) ih

-- a request that reads leaves the bytes
pub kept_some : (told : Option (List ℕ)) → option_map (λ (bytes : List ℕ). bytes) told ≡ told
kept_some None = refl
kept_some (Some bytes) = refl

-- bytes are told of a phase that has its hold alone
told_same : (phase : Phase) (left now left' now' : Option (List ℕ))
    → ((present : Present) → phase ≡ Active present → (left' ≡ left) × (now' ≡ now))
    → told_in phase left' now' ≡ told_in phase left now
told_same Idle left now left' now' same = refl
told_same (Waiting p) left now left' now' same = refl
told_same Retired left now left' now' same = refl
told_same (Active p) left now left' now' same =
    let l : left' ≡ left = (same p refl).0 in
    let n : now' ≡ now = (same p refl).1 in
    λ i. Some (record { left = l i; now = n i })

module _ {D : Type 0} (bytes : D → Option (List ℕ)) where
  note_same : (old new : ImageState D) (k : ℕ) → new.opening ≡ old.opening → new.size ≡ old.size → new.requests ≡ old.requests → length new.phases ≡ length old.phases
      → entries_from 0 k new.journal ≡ entries_from 0 k old.journal
      → phase_at new.phases k ≡ phase_at old.phases k
      → told_in (phase_at old.phases k) (bytes new.left) (bytes new.device) ≡ told_in (phase_at old.phases k) (bytes old.left) (bytes old.device)
      → note bytes new k ≡ note bytes old k
  note_same old new k opening size requests rows entries phase told =
      let told' : told_in (phase_at new.phases k) (bytes new.left) (bytes new.device) ≡ told_in (phase_at old.phases k) (bytes old.left) (bytes old.device) =
      ap (λ (p : Phase). told_in p (bytes new.left) (bytes new.device)) phase ∙ told in
      λ i. record {
        opening = opening i;
        size = size i;
        streams = length (requests i);
        rows = rows i;
        requests = slice_index (requests i) k;
        entries = entries i;
        phase = phase i;
        told = told' i;
      }

  module _ (old : ImageState D) (sound : IsSound bytes old) (s : ℕ) where
    -- a request is refused
    pub others_refused : (mark : Mark) (b a : Snapshot (Snapshot D)) → SameNotes bytes s old (record old { journal = old.journal ++ entry_next s old.journal mark b a ∷ [] })
    others_refused mark b a k ne =
        note_same old (record old { journal = old.journal ++ entry_next s old.journal mark b a ∷ [] }) k refl refl refl refl
        (entries_else 0 k old.journal (entry_next s old.journal mark b a) (λ e. ne (sym e))) refl refl

    -- who gets its hold finds nobody that writes
    pub clean_got : (access : ReadersWriter) → (Writing (phase_at old.phases s) → ⊥) → Has (hold_of access s) → ((j : ℕ) → j ≢ s → hold_of access j ≡ hold_of old.access j) → bytes old.device ≡ bytes old.left
    clean_got access silent has same = sound.clean (λ k writes.
        let w : hold_of old.access k ≡ Writes = writes_held (phase_at old.phases k) (hold_of old.access k) (sound.linked k) writes in
        elim (cases_eq k s) [
          | inl e ↦ silent (subst (λ (m : ℕ). Writing (phase_at old.phases m)) e writes)
          | inr ne ↦ ne (writer_alone access k s (same k ne ∙ w) has)
        ])

    module _ (present : Present) (active : phase_at old.phases s ≡ Active present) where
      holds : hold_of old.access s ≡ held_by present.kind
      holds = subst (λ (p : Phase). Linked p (hold_of old.access s)) active (sound.linked s)

      -- who has its hold beside a writer is the writer
      alone : (j : ℕ) (other : Present) → phase_at old.phases j ≡ Active other → held_by present.kind ≡ Writes → s ≡ j
      alone j other here writes =
          let held : hold_of old.access j ≡ held_by other.kind = subst (λ (p : Phase). Linked p (hold_of old.access j)) here (sound.linked j) in
          writer_alone old.access s j (holds ∙ writes) (subst Has (sym held) (has_held other.kind))

      -- where it reads nobody writes
      pub clean_reading : held_by present.kind ≡ Reads → bytes old.device ≡ bytes old.left
      clean_reading reads = sound.clean (λ k writes.
          let w : hold_of old.access k ≡ Writes = writes_held (phase_at old.phases k) (hold_of old.access k) (sound.linked k) writes in
          let e : k ≡ s = writer_alone old.access k s w (subst Has (sym (holds ∙ reads)) tt) in
          reads_not_writes (hold_of old.access s) (holds ∙ reads) (subst (λ (m : ℕ). hold_of old.access m ≡ Writes) e w))

      -- a piece is served
      pub others_piece : (device : D) (x : Phase) → (held_by present.kind ≡ Reads → bytes device ≡ bytes old.device)
          → SameNotes bytes s old (record old { device = device; phases = set old.phases s x })
      others_piece device x kept k ne =
          note_same old (record old { device = device; phases = set old.phases s x }) k refl refl refl (length-set old.phases s x) refl (phase_else old.phases s x k ne)
          (told_same (phase_at old.phases k) (bytes old.left) (bytes old.device) (bytes old.left) (bytes device) (λ other here. (
            refl,
            elim (reads_or_writes present.kind) [
              | inl reads ↦ kept reads
              | inr writes ↦ absurd (ne (sym (alone k other here writes)))
            ],
          )))

      -- a request leaves
      pub others_left : (mark : Mark) (b a : Snapshot (Snapshot D)) (access : ReadersWriter)
          → SameNotes bytes s old (record old { left = old.device; journal = old.journal ++ entry_next s old.journal mark b a ∷ []; phases = set old.phases s Idle; access = access })
      others_left mark b a access k ne =
          note_same old (record old { left = old.device; journal = old.journal ++ entry_next s old.journal mark b a ∷ []; phases = set old.phases s Idle; access = access }) k refl refl refl (length-set old.phases s Idle)
          (entries_else 0 k old.journal (entry_next s old.journal mark b a) (λ e. ne (sym e)))
          (phase_else old.phases s Idle k ne)
          (told_same (phase_at old.phases k) (bytes old.left) (bytes old.device) (bytes old.device) (bytes old.device) (λ other here. (
            elim (reads_or_writes present.kind) [
              | inl reads ↦ clean_reading reads
              | inr writes ↦ absurd (ne (sym (alone k other here writes)))
            ],
            refl,
          )))
