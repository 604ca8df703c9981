-- What always holds of an image's bytes, holds and requests is kept by its calls.
use Rattle.std.proofs.Common.{◌≡◌, ◌≢◌, ℕ, ◌<◌, inl, inr, set, List, [], ◌∷◌, ◌++◌, length, map, slice_index, Option, refl, sym, ap, subst, ◌∙◌, arith, get_or-set_same, get_or-set_other}
use Rattle.std.proofs.lemmas.Bool.{cases_eq}
use Rattle.std.proofs.lemmas.List.{length-set, map-append}
use Rattle.std.specs.declared.snapshot.Snapshot.{Snapshot}
use Rattle.aio_model.specs.declared.holds.Hold.TheVariants.{Free, Reads}
use Rattle.aio_model.specs.Holds.{Has, OnlyGranted}
use Rattle.aio_model.specs.Holds.WhoHolds.{ReadersWriter, hold_of}
use Rattle.img_requests.specs.declared.journal.Mark.{Mark}
use Rattle.img_requests.specs.declared.present.Present.{Present}
use Rattle.img_shared.specs.declared.phases.Phase.{Phase}
use Rattle.img_shared.specs.declared.phases.Phase.TheVariants.{Idle, Waiting, Active, Retired}
use Rattle.img_shared.specs.Images.{ImageState}
use Rattle.img_shared.specs.Journals.{noted_count, entry_next, noted_entry, Noted, Chain}
use Rattle.img_shared.specs.Phases.{Linked, Writing, phase_at, held_by}
use Rattle.img_shared.specs.Soundness.{IsSound, IsInside, LiesInside, IsDue}
use Rattle.img_shared.proofs.Counting.{noted_count-other}
use Rattle.img_shared.proofs.Granting.{linked_kept, linked_taken, same_granted, reads_or_writes, reads_not_writes}
use Rattle.img_shared.proofs.JournalPush.{chain_push, known_push, ordered_push}

module _ (phases : List Phase) (s : ℕ) (x : Phase) where
  pub phase_set : s < length phases → phase_at (set phases s x) s ≡ x
  phase_set below = get_or-set_same phases s x Idle below

  pub phase_else : (j : ℕ) → j ≢ s → phase_at (set phases s x) j ≡ phase_at phases j
  phase_else j ne = get_or-set_other phases s j x Idle ne

  pub each_phase : (P : ℕ → Phase → Type 0) → s < length phases → P s x → ((j : ℕ) → j ≢ s → P j (phase_at phases j)) → (j : ℕ) → P j (phase_at (set phases s x) j)
  each_phase P below here others j = elim (cases_eq j s) [
    | inl e ↦ subst (λ (k : ℕ). P k (phase_at (set phases s x) k)) (sym e) (subst (P s) (sym (phase_set below)) here)
    | inr ne ↦ subst (P j) (sym (phase_else j ne)) (others j ne)
  ]

module _ {D : Type 0} (bytes : D → Option (List ℕ)) where
  module _ (old : ImageState D) (sound : IsSound bytes old) (s : ℕ) (known : s < length old.requests) where
    below : s < length old.phases
    below = omega (arith, sound.streams, known)

    -- one phase, the device and the holds change
    pub sound_phase : (x : Phase) (device : D) (access : ReadersWriter)
        → access.room ≡ old.access.room
        → Linked x (hold_of access s)
        → ((j : ℕ) → j ≢ s → OnlyGranted (hold_of old.access j) (hold_of access j))
        → IsInside old.size s x
        → IsDue x (noted_count s old.journal) (slice_index old.requests s)
        → (((k : ℕ) → Writing (phase_at (set old.phases s x) k) → ⊥) → bytes device ≡ bytes old.left)
        → IsSound bytes (record old { device = device; phases = set old.phases s x; access = access })
    sound_phase x device access room linked only inside due clean = record {
      few = sound.few;
      streams = length-set old.phases s x ∙ sound.streams;
      homes = sound.homes;
      room = room ∙ sound.room;
      linked = each_phase old.phases s x (λ k phase. Linked phase (hold_of access k)) below linked
          (λ j ne. linked_kept (phase_at old.phases j) (hold_of old.access j) (hold_of access j) (sound.linked j) (only j ne));
      inside = each_phase old.phases s x (λ k phase. IsInside old.size k phase) below inside (λ j ne. sound.inside j);
      due = each_phase old.phases s x (λ k phase. IsDue phase (noted_count k old.journal) (slice_index old.requests k)) below due (λ j ne. sound.due j);
      known = sound.known;
      chain = sound.chain;
      ordered = sound.ordered;
      clean = clean;
    }

    -- who didn't write leaves it clean
    pub clean_phase : (x : Phase) → (Writing (phase_at old.phases s) → ⊥) → ((k : ℕ) → Writing (phase_at (set old.phases s x) k) → ⊥) → bytes old.device ≡ bytes old.left
    clean_phase x silent none = sound.clean (λ k writes. elim (cases_eq k s) [
      | inl e ↦ silent (subst (λ (m : ℕ). Writing (phase_at old.phases m)) e writes)
      | inr ne ↦ none k (subst Writing (sym (phase_else old.phases s x k ne)) writes)
    ])

    chain_next : (mark : Mark) (b a : Snapshot (Snapshot D)) (left : D) → b.value.value ≡ old.left → a.value.value ≡ left
        → Chain (bytes old.opening) (map (noted_entry bytes) (old.journal ++ entry_next s old.journal mark b a ∷ [])) (bytes left)
    chain_next mark b a left before after =
        subst (λ (l : List Noted). Chain (bytes old.opening) l (bytes left)) (sym (map-append (noted_entry bytes) old.journal (entry_next s old.journal mark b a ∷ [])))
        (subst (Chain (bytes old.opening) (map (noted_entry bytes) old.journal ++ noted_entry bytes (entry_next s old.journal mark b a) ∷ [])) (ap bytes after)
        (chain_push (bytes old.opening) (bytes old.left) (map (noted_entry bytes) old.journal) (noted_entry bytes (entry_next s old.journal mark b a)) sound.chain (ap bytes before)))

    -- an entry of a request that is refused
    pub sound_refused : (mark : Mark) (b a : Snapshot (Snapshot D)) → phase_at old.phases s ≡ Idle
        → b.value.value ≡ old.left → a.value.value ≡ old.left
        → IsSound bytes (record old { journal = old.journal ++ entry_next s old.journal mark b a ∷ [] })
    sound_refused mark b a idle before after = record {
      few = sound.few;
      streams = sound.streams;
      homes = sound.homes;
      room = sound.room;
      linked = sound.linked;
      inside = sound.inside;
      due = λ k. elim (cases_eq s k) [
        | inl e ↦ subst (λ (m : ℕ). IsDue (phase_at old.phases m) (noted_count m (old.journal ++ entry_next s old.journal mark b a ∷ [])) (slice_index old.requests m)) e
            (subst (λ (p : Phase). IsDue p (noted_count s (old.journal ++ entry_next s old.journal mark b a ∷ [])) (slice_index old.requests s)) (sym idle) tt)
        | inr ne ↦ subst (λ (n : ℕ). IsDue (phase_at old.phases k) n (slice_index old.requests k)) (sym (noted_count-other old.journal s k mark b a ne)) (sound.due k)
      ];
      known = known_push old.journal (entry_next s old.journal mark b a) (length old.requests) sound.known known;
      chain = chain_next mark b a old.left before after;
      ordered = ordered_push bytes old.journal s mark b a sound.ordered;
      clean = sound.clean;
    }

    -- an entry of a request that leaves
    sound_left_so : (mark : Mark) (b a : Snapshot (Snapshot D)) (access : ReadersWriter)
        → access.room ≡ old.access.room
        → b.value.value ≡ old.left → a.value.value ≡ old.device
        → hold_of access s ≡ Free
        → ((j : ℕ) → j ≢ s → OnlyGranted (hold_of old.access j) (hold_of access j))
        → IsSound bytes (record old { left = old.device; journal = old.journal ++ entry_next s old.journal mark b a ∷ []; phases = set old.phases s Idle; access = access })
    sound_left_so mark b a access room before after free only = record {
      few = sound.few;
      streams = length-set old.phases s Idle ∙ sound.streams;
      homes = sound.homes;
      room = room ∙ sound.room;
      linked = each_phase old.phases s Idle (λ k phase. Linked phase (hold_of access k)) below free
          (λ j ne. linked_kept (phase_at old.phases j) (hold_of old.access j) (hold_of access j) (sound.linked j) (only j ne));
      inside = each_phase old.phases s Idle (λ k phase. IsInside old.size k phase) below tt (λ j ne. sound.inside j);
      due = each_phase old.phases s Idle (λ k phase. IsDue phase (noted_count k (old.journal ++ entry_next s old.journal mark b a ∷ [])) (slice_index old.requests k)) below tt
          (λ j ne. subst (λ (n : ℕ). IsDue (phase_at old.phases j) n (slice_index old.requests j)) (sym (noted_count-other old.journal s j mark b a (λ e. ne (sym e)))) (sound.due j));
      known = known_push old.journal (entry_next s old.journal mark b a) (length old.requests) sound.known known;
      chain = chain_next mark b a old.device before after;
      ordered = ordered_push bytes old.journal s mark b a sound.ordered;
      clean = λ none. refl;
    }

    pub sound_left : (mark : Mark) (b a : Snapshot (Snapshot D)) (left : D) (access : ReadersWriter)
        → access.room ≡ old.access.room
        → b.value.value ≡ old.left → left ≡ old.device → a.value.value ≡ left
        → hold_of access s ≡ Free
        → ((j : ℕ) → j ≢ s → OnlyGranted (hold_of old.access j) (hold_of access j))
        → IsSound bytes (record old { left = left; journal = old.journal ++ entry_next s old.journal mark b a ∷ []; phases = set old.phases s Idle; access = access })
    sound_left mark b a left access room before device after free only =
        subst (λ (d : D). IsSound bytes (record old { left = d; journal = old.journal ++ entry_next s old.journal mark b a ∷ []; phases = set old.phases s Idle; access = access })) (sym device)
        (sound_left_so mark b a access room before (after ∙ device) free only)

    -- a request is begun or queued
    pub sound_entered : (x : Phase) (access : ReadersWriter) → phase_at old.phases s ≡ Idle
        → access.room ≡ old.access.room
        → Linked x (hold_of access s)
        → ((j : ℕ) → j ≢ s → hold_of access j ≡ hold_of old.access j)
        → IsInside old.size s x
        → IsDue x (noted_count s old.journal) (slice_index old.requests s)
        → IsSound bytes (record old { phases = set old.phases s x; access = access })
    sound_entered x access idle room linked same inside due =
        sound_phase x old.device access room linked (λ j ne. same_granted (hold_of old.access j) (hold_of access j) (same j ne))
        inside due
        (clean_phase x (λ writes. subst Writing idle writes))

    -- a grant is taken up
    pub sound_granted : (present : Present) (access : ReadersWriter) → phase_at old.phases s ≡ Waiting present → Has (hold_of old.access s)
        → access.room ≡ old.access.room
        → ((j : ℕ) → OnlyGranted (hold_of old.access j) (hold_of access j))
        → IsSound bytes (record old { phases = set old.phases s (Active present); access = access })
    sound_granted present access waits has room only =
        sound_phase (Active present) old.device access room
        (linked_taken present (hold_of old.access s) (hold_of access s) (subst (λ (p : Phase). Linked p (hold_of old.access s)) waits (sound.linked s)) has (only s))
        (λ j ne. only j)
        (subst (IsInside old.size s) waits (sound.inside s)).0
        (subst (λ (p : Phase). IsDue p (noted_count s old.journal) (slice_index old.requests s)) waits (sound.due s))
        (clean_phase (Active present) (λ writes. subst Writing waits writes))

    -- a piece is served
    pub sound_piece : (present next : Present) (device : D) → phase_at old.phases s ≡ Active present
        → next.kind ≡ present.kind
        → LiesInside old.size s next
        → (held_by present.kind ≡ Reads → bytes device ≡ bytes old.device)
        → IsSound bytes (record old { device = device; phases = set old.phases s (Active next) })
    sound_piece present next device active kind within reads =
        sound_phase (Active next) device old.access refl
        (subst (λ (p : Phase). Linked p (hold_of old.access s)) active (sound.linked s) ∙ ap held_by (sym kind))
        (λ j ne. same_granted (hold_of old.access j) (hold_of old.access j) refl)
        within
        (subst (λ (p : Phase). IsDue p (noted_count s old.journal) (slice_index old.requests s)) active (sound.due s))
        (λ none. elim (reads_or_writes present.kind) [
          | inl r ↦ reads r ∙ clean_phase (Active next) (λ writes. reads_not_writes (held_by present.kind) r (subst Writing active writes)) none
          | inr w ↦ absurd (none s (subst Writing (sym (phase_set old.phases s (Active next) below)) (ap held_by kind ∙ w)))
        ])

    -- a stream retires
    pub sound_retired : phase_at old.phases s ≡ Idle → noted_count s old.journal ≡ slice_index old.requests s
        → IsSound bytes (record old { phases = set old.phases s Retired })
    sound_retired idle all =
        sound_phase Retired old.device old.access refl
        (subst (λ (p : Phase). Linked p (hold_of old.access s)) idle (sound.linked s))
        (λ j ne. same_granted (hold_of old.access j) (hold_of old.access j) refl)
        tt all
        (clean_phase Retired (λ writes. subst Writing idle writes))
