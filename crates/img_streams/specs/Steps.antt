-- What each call of a stream makes of its account.
use Rattle.std.specs.Prelude.{◌≡◌, ◌≤◌, ℕ, List, [], ◌∷◌, ◌++◌, ◌+◌, length, Option, Some}
use Rattle.aio_model.specs.declared.serving.requests.Request.{Request}
use Rattle.aio_model.specs.Serving.Asked.{Asked, request_named}
use Rattle.aio_model.specs.Serving.{length_of, end_of}
use Rattle.img_requests.specs.declared.answers.Enter.{Enter}
use Rattle.img_requests.specs.declared.answers.Enter.TheVariants.{Begun, Queued, Refused}
use Rattle.img_requests.specs.declared.answers.Piece.{Piece}
use Rattle.img_requests.specs.Pieces.{HasRoom, piece_length, done_after, stage_after}
use Rattle.img_requests.specs.Presents.{present_of, begun_of}
use Rattle.img_shared.specs.declared.phases.Phase.TheVariants.{Idle, Waiting, Active, Retired}
use Rattle.img_shared.specs.Notes.{Note}
use Rattle.img_shared.specs.Phases.{done_in}
use Rattle.img_join.specs.Accounts.{Account}
use Rattle.img_streams.specs.declared.answers.Grant.{Grant}
use Rattle.img_streams.specs.declared.answers.Grant.TheVariants.{NotYet, Granted}

module _ {D : Type 0} (bytes : D → Option (List ℕ)) (stream : ℕ) where
  -- the account goes on while the stream's request is this one
  abbrev pub RequestGoesOn : Request → Note D → List ℕ → Note D → List ℕ → Type 0
  RequestGoesOn request old before new after =
      (asked : List Asked) (id size requests : ℕ) (buffers : List (List ℕ))
      → request_named asked id (length old.entries) ≡ Some request
      → Account bytes asked id stream size requests old buffers before
      → Account bytes asked id stream size requests new buffers after

  -- the account gets the request's reply, and the buffer of the next may be any
  abbrev pub NoteGetsReply : Request → Note D → Note D → Type 0
  NoteGetsReply request old new =
      (asked : List Asked) (id size requests : ℕ) (buffers : List (List ℕ)) (before next : List ℕ)
      → request_named asked id (length old.entries) ≡ Some request
      → Account bytes asked id stream size requests old buffers before
      → Account bytes asked id stream size requests new (buffers ++ before ∷ []) next

  -- the account goes on with this request, whatever its buffer had
  abbrev pub BeginsRequest : Request → Note D → Note D → Type 0
  BeginsRequest request old new =
      (asked : List Asked) (id size requests : ℕ) (buffers : List (List ℕ)) (buffer : List ℕ)
      → request_named asked id (length old.entries) ≡ Some request
      → HasRoom request buffer
      → Account bytes asked id stream size requests old buffers buffer
      → Account bytes asked id stream size requests new buffers buffer

  -- what `enter` leaves
  abbrev pub IsEntered : Request → Note D → Enter → Note D → Type 0
  IsEntered request old Begun new =
      (new.phase ≡ Active (begun_of stream request)) × (new.entries ≡ old.entries) × BeginsRequest request old new
  IsEntered request old Queued new =
      (new.phase ≡ Waiting (begun_of stream request))
      × (new.entries ≡ old.entries)
      × (end_of request ≤ old.size)
      × BeginsRequest request old new
  IsEntered request old (Refused place) new =
      (new.phase ≡ Idle) × (length new.entries ≡ length old.entries + 1) × NoteGetsReply request old new

  -- what taking up a hold leaves
  pub record IsHeld (request : Request) (old new : Note D) : Type 0 where
    pub phase : new.phase ≡ Active (begun_of stream request)
    pub entries : new.entries ≡ old.entries
    pub account : (buffer : List ℕ) → end_of request ≤ old.size → RequestGoesOn request old buffer new buffer

  -- what a piece leaves
  pub record IsPieceServed (request : Request) (answer : Piece) (old : Note D) (before : List ℕ) (new : Note D) (after : List ℕ) : Type 0 where
    pub phase : new.phase ≡ Active (present_of stream request (done_after answer (done_in old.phase) (piece_length (length_of request) (done_in old.phase))) (stage_after answer))
    pub entries : new.entries ≡ old.entries
    pub long : length after ≡ length before
    pub account : RequestGoesOn request old before new after

  -- What is left of a stream that waits for its hold. Where it has it, the stream takes it up, and is served a piece.
  abbrev pub IsTakenUp : Request → Note D → List ℕ → Grant → Note D → List ℕ → Type 0
  IsTakenUp request old before NotYet new after = (new ≡ old) × (after ≡ before)
  IsTakenUp request old before (Granted woken first) new after =
      (held : Note D) × IsHeld request old held × IsPieceServed request first held before new after

  -- what `leave` leaves
  pub record HasLeft (old new : Note D) : Type 0 where
    pub phase : new.phase ≡ Idle
    pub entries : length new.entries ≡ length old.entries + 1
    pub account : (request : Request) → NoteGetsReply request old new

  -- what `retire` leaves
  pub record NoteHasRetired (old new : Note D) : Type 0 where
    pub phase : new.phase ≡ Retired
    pub entries : new.entries ≡ old.entries
    pub account : (asked : List Asked) (id size requests : ℕ) (buffers : List (List ℕ)) (buffer : List ℕ)
        → Account bytes asked id stream size requests old buffers buffer
        → Account bytes asked id stream size requests new buffers buffer
