-- All streams have retired.
use Rattle.std.specs.Prelude.{◌≡◌, ℕ, ◌+◌, ◌<◌, ◌≤◌, List, [], ◌∷◌, length, slice_index, Option, option_map}
use Rattle.std.specs.List.{AllByRecursion}
use Rattle.aio_model.specs.declared.serving.replies.Placed.{Placed}
use Rattle.aio_model.specs.declared.serving.replies.Reply.{Reply}
use Rattle.aio_model.specs.declared.scripts.image_scripts.Step.{Step}
use Rattle.aio_model.specs.Serving.Asked.{asked, requests_of}
use Rattle.aio_model.specs.Serving.SerialHistory.{IsSerialHistory, bytes_left, eios_of}
use Rattle.aio_words.specs.declared.called.DeviceCall.{DeviceCall}
use Rattle.aio_words.specs.Called.{sizes_asked, failures_in}
use Rattle.aio_words.specs.Faults.{HasRisenBy}
use Rattle.img_requests.specs.Journal.{reply_of}
use Rattle.img_shared.specs.declared.phases.Phase.TheVariants.{Retired}
use Rattle.img_shared.specs.Images.{ImageState}
use Rattle.img_shared.specs.Notes.{Placement, note}
use Rattle.img_shared.specs.Phases.{phase_at}
use Rattle.img_join.specs.Accounts.{Account}

-- the replies to a stream's entries
abbrev pub replies_to : {D : Type 0} → List (Placement D) → List (List ℕ) → List Reply
replies_to [] buffers = []
replies_to (placed ∷ entries) [] = []
replies_to (placed ∷ entries) (found ∷ buffers) = reply_of placed.entry.mark found ∷ replies_to entries buffers

-- no two streams have the same id
abbrev pub HaveOwnIds : List ℕ → Type 0
HaveOwnIds ids = (i j : ℕ) → i < length ids → j < length ids → slice_index ids i ≡ slice_index ids j → i ≡ j

-- each line is of one of the streams
abbrev pub AreOurs : List ℕ → List Step → Type 0
AreOurs ids lines = AllByRecursion (λ (step : Step). (k : ℕ) × (k < length ids) × (slice_index ids k ≡ step.stream)) lines

-- A stream has retired, and its note and buffers say that its requests got the replies that they fit.
pub record HasRetired {D : Type 0} (bytes : D → Option (List ℕ)) (lines : List Step) (ids : List ℕ) (image : ImageState D) (k : ℕ) (buffers : List (List ℕ)) : Type 0 where
  pub retired : phase_at image.phases k ≡ Retired
  pub buffer : List ℕ
  pub account : Account bytes (asked lines) (slice_index ids k) k image.size (requests_of (slice_index ids k) lines) (note bytes image k) buffers buffer

-- The replies are a serial history of the lines' requests on the opening bytes, the device has the bytes that they
-- leave, and its count of faults has risen for each reply at which it failed.
pub record IsServedWhole {D : Type 0} (bytes : D → Option (List ℕ)) (faults : D → ℕ) (lines : List Step) (image : ImageState D) (served : List Placed) : Type 0 where
  pub history : IsSerialHistory image.size (asked lines) (bytes image.opening) served
  pub left : bytes image.device ≡ option_map (bytes_left (asked lines) served) (bytes image.opening)
  pub counted : HasRisenBy (eios_of served) (faults image.opening) (faults image.device)

-- What a run came to at its device. It holds the image, and has as many bytes as at first. None of the calls asked for the size; one failed
-- for each reply at which the device failed, and its count of faults has risen for each of them.
pub record IsChargedFor {D : Type 0} (extent faults size_faults : D → ℕ) (calls : D → List DeviceCall) (size : ℕ) (opening device : D) (served : List Placed) : Type 0 where
  pub fits : size ≤ extent device
  pub long : extent device ≡ extent opening
  pub sizes : size_faults device ≡ size_faults opening
  pub later : faults opening ≤ faults device
  pub counted : HasRisenBy (eios_of served) (faults opening) (faults device)
  pub asked : sizes_asked (calls device) ≡ sizes_asked (calls opening)
  pub failures : failures_in (calls device) ≡ failures_in (calls opening) + eios_of served
