-- The journal: an entry for each request that has its reply, with the bytes before and after it.
use Rattle.std.specs.Prelude.{◌≡◌, ℕ, ◌≤◌, ◌==◌, Bool, true, false, sum, count_by, List, [], ◌∷◌, length, map, filter, slice_index, EachIndex, Option}
use Rattle.std.specs.declared.snapshot.Snapshot.{Snapshot}
use Rattle.img_requests.specs.declared.journal.Mark.{Mark}
use Rattle.img_requests.specs.declared.journal.Mark.TheVariants.{Put, Got, Zeroed, Flushed, Eio, Einval}
use Rattle.img_shared.specs.declared.journal.Entry.{Entry}

module _ {D : Type 0} where
  -- how many entries are of the stream
  abbrev pub noted_count : ℕ → List (Entry D) → ℕ
  noted_count stream journal = count_by (λ (entry : Entry D). entry.stream == stream) journal

  -- the stream's next entry
  abbrev pub entry_next : ℕ → List (Entry D) → Mark → Snapshot (Snapshot D) → Snapshot (Snapshot D) → Entry D
  entry_next stream journal mark before after =
      record { stream = stream; index = noted_count stream journal; mark = mark; before = before; after = after }

  -- The journal is counted: by `replied`, how many requests of each stream have their entries.
  pub record IsCounted (requests replied : List ℕ) (capacity : ℕ) (entries : List (Entry D)) : Type 0 where
    pub few : sum requests ≤ 4096
    pub room : sum requests ≤ capacity
    pub streams : length replied ≡ length requests
    pub counts : EachIndex replied (λ stream. slice_index replied stream ≡ noted_count stream entries)
    -- no stream has more entries than requests
    pub within : EachIndex replied (λ stream. slice_index replied stream ≤ slice_index requests stream)
    -- each entry is of one of the streams
    pub whole : length entries ≡ sum replied

-- the journal, and how many requests each stream has
pub record LedgerState (D : Type 0) : Type 0 where
  pub requests : List ℕ
  pub entries : List (Entry D)

-- an entry as its bytes tell it
pub record Noted : Type 0 where
  pub stream : ℕ
  pub index : ℕ
  pub mark : Mark
  -- the bytes that the entries before leave, and those that this one leaves
  pub before : Option (List ℕ)
  pub after : Option (List ℕ)

abbrev pub noted_entry : {D : Type 0} → (D → Option (List ℕ)) → Entry D → Noted
noted_entry bytes entry =
    record {
      stream = entry.stream;
      index = entry.index;
      mark = entry.mark;
      before = bytes entry.before.value.value;
      after = bytes entry.after.value.value;
    }

-- the entries lead from the first bytes to the last
abbrev pub Chain : Option (List ℕ) → List Noted → Option (List ℕ) → Type 0
Chain first [] last = last ≡ first
Chain first (entry ∷ entries) last = (entry.before ≡ first) × Chain entry.after entries last

abbrev pub of_stream : ℕ → List Noted → List Noted
of_stream stream journal = filter (λ entry. entry.stream == stream) journal

-- the indices of a stream's entries, in the order of their places
abbrev pub indices_noted : ℕ → List Noted → List ℕ
indices_noted stream journal = map (λ (entry : Noted). entry.index) (of_stream stream journal)

-- the device failed
abbrev pub is_eio_mark : Mark → Bool
is_eio_mark (Eio k) = true
is_eio_mark (Put n) = false
is_eio_mark (Got n) = false
is_eio_mark (Zeroed n) = false
is_eio_mark Flushed = false
is_eio_mark Einval = false

-- how many entries are of requests at which the device failed
abbrev pub eios_in : {D : Type 0} → List (Entry D) → ℕ
eios_in {D} journal = count_by (λ (entry : Entry D). is_eio_mark entry.mark) journal
