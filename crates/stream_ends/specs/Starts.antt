-- Coroutines of a script's streams, which have made no call yet.
use Rattle.std.specs.Prelude.{◌≡◌, ℕ, ◌+◌, ◌≤◌, max, List, [], length, slice_index, vec_capacity, Option}
use mathlib.Core.Option.{some}
use lib.ListN.{get_elem?}
use Rattle.aio_model.specs.declared.scripts.image_scripts.Script.{Script}
use Rattle.co_mutex.specs.declared.lock.CoMutex.{CoMutex}
use Rattle.co_mutex.specs.declared.lock.Pass.{Pass}
use Rattle.co_mutex.specs.Passes.{IsNew, passes_of}
use Rattle.img_shared.specs.Images.{ImageState}
use Rattle.img_shared.specs.Notes.{Note}
use Rattle.img_streams.specs.declared.progress.At.TheVariants as at
use Rattle.img_streams.specs.declared.room.Room.{Room}
use Rattle.img_streams.specs.declared.stream.Stream.{Stream}
use Rattle.img_streams.specs.Rooms.{IsRoomFor}
use Rattle.img_streams.specs.Streams.{IsStreamOf, source}
use Rattle.stream_ends.specs.declared.beginning.Begun.{Begun}
use Rattle.stream_ends.specs.declared.room.EndRoom.{EndRoom}
use Rattle.stream_ends.specs.declared.room.Rooms.{Rooms}
use Rattle.stream_ends.specs.Images.{IsLockFor, counts_for, device_behind, ids_of_lines, homes_of}

-- each item has what its place asks for
abbrev pub AllAt : {A : Type 0} → (ℕ → A → Type 0) → List A → Type 0
AllAt {A} F xs = (k : ℕ) (x : A) → get_elem? xs k ≡ some x → F k x

-- The memory for the end of serving: the ids of the script's streams, and room for a pass and a row of buffers of each
-- stream and for all replies. Where the script has no stream, the lock's one pass is kept here.
pub record IsEndRoom {P T N : Type 0} (script : Script) (lock : CoMutex P T N) (room : EndRoom P T N) : Type 0 where
  pub ids : room.ids.items ≡ ids_of_lines script.streams
  pub spare : length room.passes.items + length script.streams ≡ max 1 (length script.streams)
  pub new : AllAt (IsNew lock) room.passes.items
  pub passes : max 1 (length script.streams) ≤ vec_capacity room.passes
  pub no_rows : room.rows.items ≡ []
  pub rows : length script.streams ≤ vec_capacity room.rows
  pub none_served : room.served.items ≡ []
  pub served : length script.lines ≤ vec_capacity room.served

-- the same memory before the lock is built
pub record IsEmptyRoom {P T N : Type 0} (script : Script) (room : EndRoom P T N) : Type 0 where
  pub ids : room.ids.items ≡ ids_of_lines script.streams
  pub no_passes : room.passes.items ≡ []
  pub passes : max 1 (length script.streams) ≤ vec_capacity room.passes
  pub no_rows : room.rows.items ≡ []
  pub rows : length script.streams ≤ vec_capacity room.rows
  pub none_served : room.served.items ≡ []
  pub served : length script.lines ≤ vec_capacity room.served

-- the memory of the streams of these ids
pub record HaveRooms (script : Script) (ids : List ℕ) (rooms : List Room) : Type 0 where
  pub many : length rooms ≡ length ids
  pub each : AllAt (λ k room. IsRoomFor script.lines (slice_index ids k) room) rooms

-- what is taken before the lock is built
pub record AreRoomsFor {P T N : Type 0} (script : Script) (rooms : Rooms P T N) : Type 0 where
  pub counts : rooms.counts.items ≡ counts_for script.lines (ids_of_lines script.streams)
  pub rooms_are : HaveRooms script (ids_of_lines script.streams) rooms.rooms.items
  pub none : rooms.streams.items ≡ []
  pub room : length script.streams ≤ vec_capacity rooms.streams
  pub ends : IsEmptyRoom script rooms.ends

-- all passes of a lock, in order, which have made no call
pub record AreNewPasses {P T N : Type 0} (lock : CoMutex P T N) (passes : List (Pass P T N)) : Type 0 where
  pub many : length passes ≡ passes_of lock
  pub each : AllAt (IsNew lock) passes

module _ {P D : Type 0} (bytes : D → Option (List ℕ)) (script : Script) where
  -- the coroutine of the script's stream line of this number, which has made no call
  pub record HasStarted (lock : CoMutex P (ImageState D) (Note D)) (number : ℕ) (co : Stream P (ImageState D) (Note D)) : Type 0 where
    pub of : IsStreamOf bytes co (source lock script)
    pub id : co.id ≡ slice_index (ids_of_lines script.streams) number
    pub co_is : co.co ≡ record { co = number; home = slice_index (homes_of script.streams) number }
    pub pass : IsNew lock number co.pass
    pub first : (co.at ≡ at.Between) × (co.line ≡ 0) × (co.index ≡ 0)

  -- a coroutine for each stream line, in their order
  pub record HaveStarted (lock : CoMutex P (ImageState D) (Note D)) (cos : List (Stream P (ImageState D) (Note D))) : Type 0 where
    pub many : length cos ≡ length script.streams
    pub each : AllAt (HasStarted lock) cos

  -- what serving takes on the image's side, with this device behind the lock
  pub record HasBegun (device : D) (begun : Begun P (ImageState D) (Note D)) : Type 0 where
    pub lock : IsLockFor script begun.lock
    pub behind : device_behind begun.lock ≡ device
    pub streams : HaveStarted begun.lock begun.streams.items
    pub room : IsEndRoom script begun.lock begun.ends
