-- The places of the streams that have ended.
use Rattle.std.specs.Prelude.{◌≡◌, ℕ, Option, None, Some, List, length, slice_index_or}
use Rattle.aio_model.specs.declared.scripts.image_scripts.Script.{Script}
use Rattle.co_mutex.specs.declared.lock.CoMutex.{CoMutex}
use Rattle.img_shared.specs.Images.{ImageState}
use Rattle.img_shared.specs.Notes.{Note}
use Rattle.img_streams.specs.declared.stream.Stream.{Stream}
use Rattle.img_streams.specs.Streams.{IsStreamAt, source}
use Rattle.stream_ends.specs.Stops.{HasStopped}

module _ {P D : Type 0} (bytes : D → Option (List ℕ)) (script : Script) (lock : CoMutex P (ImageState D) (Note D)) where
  -- each coroutine that is there is of the lock and the script, and has the number of its place
  abbrev pub BerthsAreOf : List (Option (Stream P (ImageState D) (Note D))) → Type 0
  BerthsAreOf cos =
      (k : ℕ) (co : Stream P (ImageState D) (Note D)) → slice_index_or cos k None ≡ Some co → IsStreamAt bytes k co (source lock script)

  -- each that has come to its place is that of the stream line of this number, and has retired
  pub record AreBerthed (berths : List (Option (Stream P (ImageState D) (Note D)))) : Type 0 where
    pub many : length berths ≡ length script.streams
    pub each : (k : ℕ) (co : Stream P (ImageState D) (Note D)) → slice_index_or berths k None ≡ Some co → HasStopped bytes script lock k co
