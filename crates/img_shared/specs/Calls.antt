-- What an image's calls do.
use Rattle.std.specs.Prelude.{◌≡◌, ℕ, ◌+◌, ◌<◌, ◌≤◌, set, sum, count_by, List, [], ◌∷◌, ◌++◌, length, map, slice_index, Option}
use Rattle.std.specs.List.{AllByRecursion}
use Rattle.aio_model.specs.declared.holds.RwAnswer.TheVariants as hold
use Rattle.aio_model.specs.declared.serving.requests.Request.{Request}
use Rattle.aio_model.specs.Holds.{Has, WriterIsAlone}
use Rattle.aio_model.specs.Holds.WhoHolds.{hold_of}
use Rattle.aio_model.specs.Holds.Table.{unlocked}
use Rattle.aio_model.specs.Serving.SerialHistory.{CountsFrom}
use Rattle.aio_model.specs.Serving.{length_of, end_of}
use Rattle.aio_words.specs.declared.called.DeviceCall.{DeviceCall}
use Rattle.aio_words.specs.Called.{sizes_asked, failures_in}
use Rattle.aio_words.specs.Faults.{HasRisenBy}
use Rattle.img_requests.specs.declared.answers.Enter.{Enter}
use Rattle.img_requests.specs.declared.answers.Enter.TheVariants.{Begun, Queued, Refused}
use Rattle.img_requests.specs.declared.answers.Piece.{Piece}
use Rattle.img_requests.specs.declared.journal.Mark.TheVariants.{Einval}
use Rattle.img_requests.specs.declared.present.Present.{Present}
use Rattle.img_requests.specs.declared.present.Stage.TheVariants as stage
use Rattle.img_requests.specs.Journal.{mark_ended_at}
use Rattle.img_requests.specs.Pieces.{Pieced, piece_length, done_after, stage_after}
use Rattle.img_requests.specs.Presents.{begun_of, present_of, kind_of}
use Rattle.img_shared.specs.declared.journal.Entry.{Entry}
use Rattle.img_shared.specs.declared.phases.Phase.{Phase}
use Rattle.img_shared.specs.declared.phases.Phase.TheVariants.{Idle, Waiting, Active}
use Rattle.img_shared.specs.Images.{ImageState}
use Rattle.img_shared.specs.Journals.{noted_count, entry_next, noted_entry, Chain, indices_noted, eios_in}
use Rattle.img_shared.specs.Phases.{hold_asked, phase_at, Linked, Writing, IsWaiting, has_failed}
use Rattle.img_shared.specs.Soundness.{IsDue}

-- What `enter` answers, and what it leaves. A request that reaches past the image's end is refused, and no other. One
-- is queued exactly where asking for its hold answers so.
abbrev pub Enters : {D : Type 0} → ImageState D → ℕ → Request → Enter → ImageState D → Type 0
Enters {D} old stream request Begun new =
    (end_of request ≤ old.size)
    × ((hold_asked (kind_of request) stream old.access).answer ≡ hold.Got)
    × (new ≡ record old { phases = set old.phases stream (Active (begun_of stream request)); access = (hold_asked (kind_of request) stream old.access).state })
Enters {D} old stream request Queued new =
    (end_of request ≤ old.size)
    × ((hold_asked (kind_of request) stream old.access).answer ≡ hold.Queued)
    × (new ≡ record old { phases = set old.phases stream (Waiting (begun_of stream request)); access = (hold_asked (kind_of request) stream old.access).state })
Enters {D} old stream request (Refused place) new =
    (old.size < end_of request)
    × (place ≡ length old.journal)
    × (entry : Entry D)
    × (entry ≡ entry_next stream old.journal Einval entry.before entry.after)
    × (entry.before.value.value ≡ old.left)
    × (entry.after.value.value ≡ old.left)
    × (new ≡ record old { journal = old.journal ++ entry ∷ [] })

-- the stream's request is this one, has its hold, and its next piece may be served
abbrev pub IsServing : Phase → ℕ → Request → ℕ → Type 0
IsServing phase stream request done = phase ≡ Active (present_of stream request done stage.Begun)

-- What `piece` does: the next piece to the device and the buffer, and to the image no more than how far the request
-- has come.
pub record Serves {D : Type 0} (bytes : D → Option (List ℕ)) (stream : ℕ) (request : Request) (done : ℕ) (answer : Piece)
    (old new : ImageState D) (before after : List ℕ)
    : Type 0 where
  pub pieced : Pieced request done (piece_length (length_of request) done) answer (bytes old.device) (bytes new.device) before after
  pub image : new
      ≡ record old {
        device = new.device;
        phases = set old.phases stream (Active (present_of stream request (done_after answer done (piece_length (length_of request) done)) (stage_after answer)));
      }

-- What `leave` does, where its answer has this place: the entry has the bytes that the journal left before, and those
-- that the device has.
pub record Leaves {D : Type 0} (stream : ℕ) (place : ℕ) (old new : ImageState D) : Type 0 where
  pub present : Present
  pub was : phase_at old.phases stream ≡ Active present
  pub entry : Entry D
  pub place_is : place ≡ length old.journal
  pub entry_is : entry ≡ entry_next stream old.journal (mark_ended_at present.stage present.kind present.length present.done) entry.before entry.after
  pub before : entry.before.value.value ≡ old.left
  pub after : entry.after.value.value ≡ old.device
  pub image : new
      ≡ record old {
        left = old.device;
        journal = old.journal ++ entry ∷ [];
        phases = set old.phases stream Idle;
        access = (unlocked stream old.access).state;
      }

-- a stream that was queued has its hold now, and may take it up
pub record IsGranted {D : Type 0} (image : ImageState D) (stream : ℕ) : Type 0 where
  pub known : stream < length image.requests
  pub waits : IsWaiting (phase_at image.phases stream)
  pub holds : Has (hold_of image.access stream)

-- What an image that is looked at shows of its whole run.
pub record IsWholeRun {D : Type 0} (bytes : D → Option (List ℕ)) (extent faults size_faults : D → ℕ) (calls : D → List DeviceCall) (image : ImageState D) : Type 0 where
  pub streams : length image.phases ≡ length image.requests
  -- at most 4,096 requests are for all streams, and the journal has no more entries
  pub few : sum image.requests ≤ 4096
  pub placed : length image.journal ≤ sum image.requests
  -- begun, whole and failed requests hold what they need, and who writes is alone
  pub linked : (k : ℕ) → Linked (phase_at image.phases k) (hold_of image.access k)
  pub apart : WriterIsAlone (hold_of image.access)
  -- all requests of a stream that has retired stand in the journal
  pub due : (k : ℕ) → IsDue (phase_at image.phases k) (noted_count k image.journal) (slice_index image.requests k)
  pub known : AllByRecursion (λ (entry : Entry D). entry.stream < length image.requests) image.journal
  -- the journal leads from the opening bytes to those that it leaves, each stream in its order
  pub chain : Chain (bytes image.opening) (map (noted_entry bytes) image.journal) (bytes image.left)
  pub ordered : (k : ℕ) → CountsFrom 0 (indices_noted k (map (noted_entry bytes) image.journal))
  -- where nobody writes, the device has the bytes that the journal leaves
  pub clean : ((k : ℕ) → Writing (phase_at image.phases k) → ⊥) → bytes image.device ≡ bytes image.left
  -- The device has as many bytes as at first, and its count of faults has risen for each request that failed. None of
  -- its calls asked for the size, and one failed for each of these.
  pub fits : image.size ≤ extent image.device
  pub long : extent image.device ≡ extent image.opening
  pub sizes : size_faults image.device ≡ size_faults image.opening
  pub counted : HasRisenBy (eios_in image.journal + count_by has_failed image.phases) (faults image.opening) (faults image.device)
  pub later : faults image.opening ≤ faults image.device
  pub asked : sizes_asked (calls image.device) ≡ sizes_asked (calls image.opening)
  pub failures : failures_in (calls image.device) ≡ failures_in (calls image.opening) + (eios_in image.journal + count_by has_failed image.phases)
