-- Coroutines that have retired, and the replies of the whole script.
use Rattle.std.specs.Prelude.{◌≡◌, ℕ, List, length, map, drop, Option, option_map}
use Rattle.aio_model.specs.declared.serving.replies.Placed.{Placed}
use Rattle.aio_model.specs.declared.scripts.image_scripts.Script.{Script}
use Rattle.aio_model.specs.Serving.Asked.{asked}
use Rattle.aio_model.specs.Serving.SerialHistory.{IsSerialHistory, bytes_left}
use Rattle.co_mutex.specs.declared.lock.CoMutex.{CoMutex}
use Rattle.img_shared.specs.Images.{ImageState}
use Rattle.img_shared.specs.Notes.{Note}
use Rattle.img_streams.specs.declared.stream.Stream.{Stream}
use Rattle.img_streams.specs.Streams.{HasGone, IsStreamOf, source}
use Rattle.stream_ends.specs.Starts.{AllAt}

-- the bytes in a coroutine's filled buffers
abbrev pub bytes_filled : {P T N : Type 0} → Stream P T N → List (List ℕ)
bytes_filled co = map (λ buffer. buffer.items) co.filled.items

module _ {P D : Type 0} (bytes : D → Option (List ℕ)) (script : Script) (lock : CoMutex P (ImageState D) (Note D)) where
  -- the coroutine of the script's stream line of this number
  pub record IsGoing (number : ℕ) (co : Stream P (ImageState D) (Note D)) : Type 0 where
    pub of : IsStreamOf bytes co (source lock script)
    pub number_is : co.co.co ≡ number

  -- and it has retired
  pub record HasStopped (number : ℕ) (co : Stream P (ImageState D) (Note D)) : Type 0 where
    pub going : IsGoing number co
    pub gone : HasGone co.at

  -- the coroutines of the script's streams, in the order of the stream lines
  pub record AreGoing (cos : List (Stream P (ImageState D) (Note D))) : Type 0 where
    pub many : length cos ≡ length script.streams
    pub each : AllAt IsGoing cos

  -- and all of them have retired
  pub record HaveStopped (cos : List (Stream P (ImageState D) (Note D))) : Type 0 where
    pub many : length cos ≡ length script.streams
    pub each : AllAt HasStopped cos

-- A script was served: the replies are a serial history of its requests on the opening bytes, the device has the bytes
-- that they leave, and those past the image are as they were.
pub record IsScriptServed (script : Script) (before now : Option (List ℕ)) (served : List Placed) : Type 0 where
  pub history : IsSerialHistory script.image (asked script.lines) before served
  pub leaves : now ≡ option_map (bytes_left (asked script.lines) served) before
  pub past : option_map (drop script.image) now ≡ option_map (drop script.image) before
