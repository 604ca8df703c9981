-- The buffers of a stream's requests.
use Rattle.std.specs.Prelude.{◌≡◌, ℕ, ◌<◌, ◌≤◌, ◌^◌, ◌==◌, ◌&&◌, MatchBool, List, [], ◌∷◌, ◌++◌, length, map, replicate, slice_index, vec_capacity}
use Rattle.aio_model.specs.declared.scripts.image_scripts.Script.{Script}
use Rattle.aio_model.specs.declared.scripts.image_scripts.Step.{Step}
use Rattle.aio_model.specs.declared.scripts.image_scripts.What.{What}
use Rattle.aio_model.specs.declared.scripts.image_scripts.What.TheVariants.{Ask, Delay, Move}
use Rattle.aio_model.specs.Serving.Asked.{is_ask, requests_of, asked}
use Rattle.aio_model.specs.Holds.WhoHolds.{ReadersWriter}
use Rattle.co_state.specs.declared.cx.CoId.{CoId}
use Rattle.co_mutex.specs.declared.lock.CoMutex.{CoMutex}
use Rattle.co_mutex.specs.declared.lock.Pass.{Pass}
use Rattle.co_mutex.specs.Passes.{IsNew, built_of}
use Rattle.img_requests.specs.Pieces.{HasRoom}
use Rattle.img_shared.specs.declared.phases.Phase.TheVariants.{Idle}
use Rattle.img_shared.specs.Images.{ImageState}
use Rattle.img_shared.specs.Notes.{Note}
use Rattle.img_streams.specs.declared.room.Room.{Room}
use Rattle.img_streams.specs.Lines.{AreShort, HaveRoom, places_of}

-- a buffer has the room that the line needs
abbrev pub HasRoomFor : What → List ℕ → Type 0
HasRoomFor (Ask request) buffer = HasRoom request buffer
HasRoomFor (Delay ns) buffer = Unit {0}
HasRoomFor (Move loop) buffer = Unit {0}

-- a line of the stream that asks got its buffer
abbrev pub AddsFor : ℕ → Step → List (List ℕ) → List (List ℕ) → Type 0
AddsFor id step old new =
    MatchBool (step.stream == id && is_ask step.what) ((buffer : List ℕ) × (new ≡ old ++ buffer ∷ []) × HasRoomFor step.what buffer) (new ≡ old)

-- a buffer for each request of the stream among the first lines
pub record HaveBuffers (lines : List Step) (id first : ℕ) (buffers : List (List ℕ)) : Type 0 where
  pub room : HaveRoom (asked lines) id 0 buffers
  pub many : length buffers ≡ first

-- the places of the stream's lines, and a buffer for each request among them
pub record AreGathered (lines : List Step) (id : ℕ) (places : List ℕ) (buffers : List (List ℕ)) : Type 0 where
  pub places_are : places ≡ places_of id lines
  pub have : HaveBuffers lines id (requests_of id lines) buffers

-- the memory of a stream with these lines
pub record IsRoomFor (lines : List Step) (id : ℕ) (room : Room) : Type 0 where
  pub places : room.places.items ≡ places_of id lines
  pub filled : room.filled.items ≡ []
  pub capacity : requests_of id lines ≤ vec_capacity room.filled
  pub many : length room.later.items ≡ requests_of id lines
  pub have : HaveRoom (asked lines) id 0 (room.buffer.items ∷ map (λ buffer. buffer.items) room.later.items)

-- The image behind the lock is new, and the pass is that of the stream, which has made no call. The script's lines may be
-- served, and the memory is for them.
pub record CanStart {P D : Type 0} (lock : CoMutex P (ImageState D) (Note D)) (script : Script) (pass : Pass P (ImageState D) (Note D)) (co : CoId) (id : ℕ) (room : Room) : Type 0 where
  pub new : IsNew lock co.co pass
  pub device : D
  pub requests : List ℕ
  pub access : ReadersWriter
  pub homes : List ℕ
  pub built : built_of lock
      ≡ record {
        device = device;
        size = script.image;
        opening = device;
        left = device;
        requests = requests;
        journal = [];
        phases = replicate (length requests) Idle;
        access = access;
        homes = homes;
      }
  pub known : co.co < length requests
  pub named : slice_index (map (λ stream. stream.id) script.streams) co.co ≡ id
  pub count : slice_index requests co.co ≡ requests_of id script.lines
  pub short : AreShort script.lines
  pub few : requests_of id script.lines ≤ 4096
  pub many : length script.lines < 2 ^ 64
  pub room_is : IsRoomFor script.lines id room
