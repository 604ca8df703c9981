-- What always holds of an image's parts.
use Rattle.std.specs.Prelude.{◌≡◌, ℕ, ◌+◌, ◌%◌, ◌<◌, ◌≤◌, sum, List, length, slice_index, EachIndex, Option, Some, None}
use Rattle.img_requests.specs.declared.journal.Entry.{Entry}
use Rattle.img_requests.specs.declared.present.Present.{Present}
use Rattle.img_requests.specs.declared.present.Stage.{Stage}
use Rattle.img_requests.specs.declared.present.Stage.TheVariants.{Begun, Whole, Failed}
use Rattle.img_requests.specs.Journal.{entry_count}

-- the journal, and how many requests each stream has
pub record LedgerState : Type 0 where
  pub requests : List ℕ
  pub entries : List Entry

-- The journal is counted: by `replied`, how many requests of each stream have their entries.
pub record IsCounted (requests replied : List ℕ) (capacity : ℕ) (entries : List Entry) : Type 0 where
  pub few : sum requests ≤ 4096
  pub room : sum requests ≤ capacity
  pub streams : length replied ≡ length requests
  pub counts : EachIndex replied (λ stream. slice_index replied stream ≡ entry_count stream entries)
  -- no stream has more entries than requests
  pub within : EachIndex replied (λ stream. slice_index replied stream ≤ slice_index requests stream)
  -- each entry is of one of the streams
  pub whole : length entries ≡ sum replied

-- as long as pieces come, whole ones are done
abbrev pub IsInStep : Stage → ℕ → Type 0
IsInStep Begun done = done % 4096 ≡ 0
IsInStep Whole done = Unit {0}
IsInStep Failed done = Unit {0}

-- the present request lies inside the image, and the journal has no entry of it yet
pub record IsInside (size : ℕ) (ledger : LedgerState) (present : Present) : Type 0 where
  pub known : present.stream < length ledger.requests
  pub due : entry_count present.stream ledger.entries < slice_index ledger.requests present.stream
  pub within : present.at + present.length ≤ size
  pub done : present.done ≤ present.length
  pub in_step : IsInStep present.stage present.done

abbrev pub IsKept : ℕ → LedgerState → Option Present → Type 0
IsKept size ledger None = Unit {0}
IsKept size ledger (Some present) = IsInside size ledger present

pub record IsSound (extent size : ℕ) (ledger : LedgerState) (present : Option Present) : Type 0 where
  pub inside : size ≤ extent
  pub kept : IsKept size ledger present
