-- What a stream's own note and buffers say of its requests.
use Rattle.std.specs.Prelude.{◌≡◌, ℕ, List, [], ◌∷◌, length, Option, Some, None}
use Rattle.aio_model.specs.declared.serving.requests.Request.{Request}
use Rattle.aio_model.specs.Serving.Asked.{Asked, request_named}
use Rattle.img_requests.specs.declared.present.Stage.{Stage}
use Rattle.img_requests.specs.declared.present.Stage.TheVariants.{Begun, Whole, Failed}
use Rattle.img_requests.specs.Journal.{mark_ended_at, reply_of}
use Rattle.img_requests.specs.Pieces.{HasRoom}
use Rattle.img_requests.specs.Presents.{present_of, begun_of, kind_of}
use Rattle.img_requests.specs.Progress.{Progress, Replied}
use Rattle.aio_model.specs.Serving.{length_of}
use Rattle.img_shared.specs.declared.journal.Entry.{Entry}
use Rattle.img_shared.specs.declared.phases.Phase.{Phase}
use Rattle.img_shared.specs.declared.phases.Phase.TheVariants.{Idle, Waiting, Active, Retired}
use Rattle.img_shared.specs.Notes.{Placement, Note, Bytes}

-- an entry got the reply that its request fits, `found` being what stands in the stream's buffer for it
abbrev pub IsAnsweredBy : {D : Type 0} → (D → Option (List ℕ)) → List Asked → ℕ → ℕ → Entry D → List ℕ → Type 0
IsAnsweredBy bytes asked id size entry found =
    (request : Request)
    × (request_named asked id entry.index ≡ Some request)
    × Replied size request (bytes entry.before.value.value) (bytes entry.after.value.value) (reply_of entry.mark found)

-- a stream's entries and its buffers, one by one
abbrev pub AllAnswered : {D : Type 0} → (D → Option (List ℕ)) → List Asked → ℕ → ℕ → List (Placement D) → List (List ℕ) → Type 0
AllAnswered bytes asked id size [] [] = Unit {0}
AllAnswered bytes asked id size (placed ∷ entries) (found ∷ buffers) =
    IsAnsweredBy bytes asked id size placed.entry found × AllAnswered bytes asked id size entries buffers
AllAnswered bytes asked id size [] (found ∷ buffers) = ⊥
AllAnswered bytes asked id size (placed ∷ entries) [] = ⊥

-- how far a request is that has its hold
abbrev pub Going : ℕ → Stage → Request → ℕ → List ℕ → Option Bytes → Type 0
Going size stage request done buffer None = ⊥
Going size Begun request done buffer (Some bytes) = Progress size request bytes.left bytes.now buffer done
Going size Whole request done buffer (Some bytes) =
    Replied size request bytes.left bytes.now (reply_of (mark_ended_at Whole (kind_of request) (length_of request) done) buffer)
Going size Failed request done buffer (Some bytes) =
    Replied size request bytes.left bytes.now (reply_of (mark_ended_at Failed (kind_of request) (length_of request) done) buffer)

-- what a stream's phase says of its request in progress
abbrev pub Doing : ℕ → ℕ → Request → List ℕ → Phase → Option Bytes → Type 0
Doing stream size request buffer Idle told = Unit {0}
Doing stream size request buffer Retired told = Unit {0}
Doing stream size request buffer (Waiting present) told = (present ≡ begun_of stream request) × HasRoom request buffer
Doing stream size request buffer (Active present) told =
    (present ≡ present_of stream request present.done present.stage) × Going size present.stage request present.done buffer told

-- What holds of a stream between its calls: of its note, and of its buffers. `buffers` are those of the requests that
-- have their entries, and `buffer` is that of the one in progress, if there is one. `asked` are the script's requests,
-- `id` is the stream's id there, and `requests` is how many it has.
pub record Account {D : Type 0} (bytes : D → Option (List ℕ)) (asked : List Asked) (id stream size requests : ℕ)
    (note : Note D) (buffers : List (List ℕ)) (buffer : List ℕ)
    : Type 0 where
  pub sized : note.size ≡ size
  pub many : note.requests ≡ requests
  pub answered : AllAnswered bytes asked id size note.entries buffers
  pub doing : (request : Request) → request_named asked id (length note.entries) ≡ Some request → Doing stream size request buffer note.phase note.told
