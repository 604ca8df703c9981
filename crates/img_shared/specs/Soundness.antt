-- What always holds of an image.
use Rattle.std.specs.Prelude.{◌≡◌, ℕ, ◌+◌, ◌<◌, ◌≤◌, count_by, List, length, map, slice_index, Option}
use Rattle.std.specs.List.{AllByRecursion}
use Rattle.aio_model.specs.Holds.WhoHolds.{hold_of}
use Rattle.aio_model.specs.Serving.SerialHistory.{CountsFrom}
use Rattle.aio_words.specs.declared.called.DeviceCall.{DeviceCall}
use Rattle.aio_words.specs.Called.{sizes_asked, failures_in}
use Rattle.aio_words.specs.Faults.{HasRisenBy}
use Rattle.img_requests.specs.declared.present.Present.{Present}
use Rattle.img_requests.specs.declared.present.Stage.TheVariants as stage
use Rattle.img_requests.specs.Soundness.{IsInStep}
use Rattle.img_shared.specs.declared.journal.Entry.{Entry}
use Rattle.img_shared.specs.declared.phases.Phase.{Phase}
use Rattle.img_shared.specs.declared.phases.Phase.TheVariants.{Idle, Waiting, Active, Retired}
use Rattle.img_shared.specs.Images.{ImageState}
use Rattle.img_shared.specs.Journals.{noted_count, noted_entry, Chain, indices_noted, eios_in}
use Rattle.img_shared.specs.Phases.{phase_at, Linked, Writing, has_failed}

-- a present request of this stream lies inside the image
pub record LiesInside (size stream : ℕ) (present : Present) : Type 0 where
  pub own : present.stream ≡ stream
  pub within : present.at + present.length ≤ size
  pub done : present.done ≤ present.length
  pub in_step : IsInStep present.stage present.done

abbrev pub IsInside : ℕ → ℕ → Phase → Type 0
IsInside size stream Idle = Unit {0}
IsInside size stream (Waiting present) = LiesInside size stream present × (present.stage ≡ stage.Begun)
IsInside size stream (Active present) = LiesInside size stream present
IsInside size stream Retired = Unit {0}

-- The journal has no entry of a present request yet, and all entries of a stream that has retired.
abbrev pub IsDue : Phase → ℕ → ℕ → Type 0
IsDue Idle entries requests = Unit {0}
IsDue (Waiting present) entries requests = entries < requests
IsDue (Active present) entries requests = entries < requests
IsDue Retired entries requests = entries ≡ requests

-- of bytes, holds and requests
pub record IsSound {D : Type 0} (bytes : D → Option (List ℕ)) (image : ImageState D) : Type 0 where
  pub few : length image.requests ≤ 64
  pub streams : length image.phases ≡ length image.requests
  pub homes : length image.homes ≡ length image.requests
  pub room : image.access.room ≡ length image.requests
  -- each phase has its hold
  pub linked : (k : ℕ) → Linked (phase_at image.phases k) (hold_of image.access k)
  pub inside : (k : ℕ) → IsInside image.size k (phase_at image.phases k)
  pub due : (k : ℕ) → IsDue (phase_at image.phases k) (noted_count k image.journal) (slice_index image.requests k)
  -- the journal leads from the opening bytes to those that it leaves, each stream in its order
  pub known : AllByRecursion (λ (entry : Entry D). entry.stream < length image.requests) image.journal
  pub chain : Chain (bytes image.opening) (map (noted_entry bytes) image.journal) (bytes image.left)
  pub ordered : (k : ℕ) → CountsFrom 0 (indices_noted k (map (noted_entry bytes) image.journal))
  -- where nobody writes, the device has the bytes that the journal leaves
  pub clean : ((k : ℕ) → Writing (phase_at image.phases k) → ⊥) → bytes image.device ≡ bytes image.left

-- of the device's counts
pub record IsCharged {D : Type 0} (extent faults size_faults : D → ℕ) (calls : D → List DeviceCall) (image : ImageState D) : Type 0 where
  pub fits : image.size ≤ extent image.device
  pub long : extent image.device ≡ extent image.opening
  pub sizes : size_faults image.device ≡ size_faults image.opening
  -- a fault for each entry and each present request at which the device failed
  pub counted : HasRisenBy (eios_in image.journal + count_by has_failed image.phases) (faults image.opening) (faults image.device)
  pub later : faults image.opening ≤ faults image.device
  -- no call asked for the size, and one failed for each of these
  pub asked : sizes_asked (calls image.device) ≡ sizes_asked (calls image.opening)
  pub failures : failures_in (calls image.device) ≡ failures_in (calls image.opening) + (eios_in image.journal + count_by has_failed image.phases)

pub record IsKept {D : Type 0} (bytes : D → Option (List ℕ)) (extent faults size_faults : D → ℕ) (calls : D → List DeviceCall) (image : ImageState D) : Type 0 where
  pub sound : IsSound bytes image
  pub charged : IsCharged extent faults size_faults calls image
