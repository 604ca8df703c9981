-- What an image's value says of each stream.
use Rattle.std.specs.Prelude.{◌≡◌, ◌≢◌, ℕ, ◌+◌, ◌==◌, if◌then◌else◌, List, [], ◌∷◌, length, slice_index, Option, Some, None}
use Rattle.img_shared.specs.declared.journal.Entry.{Entry}
use Rattle.img_shared.specs.declared.phases.Phase.{Phase}
use Rattle.img_shared.specs.declared.phases.Phase.TheVariants.{Idle, Waiting, Active, Retired}
use Rattle.img_shared.specs.Images.{ImageState}
use Rattle.img_shared.specs.Phases.{phase_at}

-- an entry and its place
pub record Placement (D : Type 0) : Type 0 where
  pub place : ℕ
  pub entry : Entry D

-- the bytes that the journal leaves, and those that the device has
pub record Bytes : Type 0 where
  pub left : Option (List ℕ)
  pub now : Option (List ℕ)

pub record Note (D : Type 0) : Type 0 where
  -- the same for all streams, and never changed: the opening device, the size, how many streams, and their phases
  pub opening : D
  pub size : ℕ
  pub streams : ℕ
  pub rows : ℕ
  -- the stream's own
  pub requests : ℕ
  pub entries : List (Placement D)
  pub phase : Phase
  -- while its request has its hold
  pub told : Option Bytes

-- the stream's entries among these, of which the first has this place
abbrev pub entries_from : {D : Type 0} → ℕ → ℕ → List (Entry D) → List (Placement D)
entries_from place stream [] = []
entries_from place stream (entry ∷ journal) =
    if entry.stream == stream then record { place = place; entry = entry } ∷ entries_from (place + 1) stream journal
    else entries_from (place + 1) stream journal

abbrev pub told_in : Phase → Option (List ℕ) → Option (List ℕ) → Option Bytes
told_in Idle left now = None
told_in (Waiting present) left now = None
told_in (Active present) left now = Some (record { left = left; now = now })
told_in Retired left now = None

abbrev pub note : {D : Type 0} → (D → Option (List ℕ)) → ImageState D → ℕ → Note D
note bytes image stream =
    record {
      opening = image.opening;
      size = image.size;
      streams = length image.requests;
      rows = length image.phases;
      requests = slice_index image.requests stream;
      entries = entries_from 0 stream image.journal;
      phase = phase_at image.phases stream;
      told = told_in (phase_at image.phases stream) (bytes image.left) (bytes image.device);
    }

-- the notes of all other streams are as they were
abbrev pub SameNotes : {D : Type 0} → (D → Option (List ℕ)) → ℕ → ImageState D → ImageState D → Type 0
SameNotes bytes stream old new = (k : ℕ) → k ≢ stream → note bytes new k ≡ note bytes old k
