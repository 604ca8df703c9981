-- How pieces join up to a request that is served.
use Rattle.std.specs.Prelude.{◌≡◌, ℕ, ◌≤◌, List, length, take, drop, replicate, Option, option_map, IfSome}
use Rattle.aio_model.specs.declared.serving.requests.Request.{Request}
use Rattle.aio_model.specs.declared.serving.requests.Request.TheVariants.{Read, Write, Zero, Flush}
use Rattle.aio_model.specs.declared.serving.replies.Reply.{Reply}
use Rattle.aio_model.specs.declared.serving.replies.Reply.TheVariants.{Put, Got, Zeroed, Flushed}
use Rattle.aio_model.specs.Serving.{put_at, length_of, end_of, Fits, bytes_after}
use Rattle.img_requests.specs.ImageState.{ImageState, CanLeave}
use Rattle.img_requests.specs.Journal.{mark_of_present, reply_of}
use Rattle.img_requests.specs.Pieces.{HasRoom}
use Rattle.img_requests.specs.Presents.{IsBegun, done_of}

-- the bytes after so many bytes of the request
abbrev pub bytes_so_far : Request → ℕ → List ℕ → List ℕ
bytes_so_far (Read at len) done bytes = bytes
bytes_so_far (Write at written) done bytes = put_at at (take done written) bytes
bytes_so_far (Zero at len) done bytes = put_at at (replicate done 0) bytes
bytes_so_far Flush done bytes = bytes

-- the first bytes of the buffer are those that a read finds
abbrev pub FoundSoFar : Request → ℕ → List ℕ → List ℕ → Type 0
FoundSoFar (Read at len) done bytes buffer = take done buffer ≡ take done (drop at bytes)
FoundSoFar (Write at written) done bytes buffer = Unit {0}
FoundSoFar (Zero at len) done bytes buffer = Unit {0}
FoundSoFar Flush done bytes buffer = Unit {0}

-- What holds after so many bytes of a request inside an image of this size: `told` were the device's bytes before the
-- first of its pieces, and `now` they are these.
pub record Progress (size : ℕ) (request : Request) (told now : Option (List ℕ)) (buffer : List ℕ) (done : ℕ)
    : Type 0 where
  pub within : end_of request ≤ size
  pub inside : IfSome told (λ bytes. end_of request ≤ length bytes)
  pub room : HasRoom request buffer
  pub reached : done ≤ length_of request
  pub puts : now ≡ option_map (bytes_so_far request done) told
  pub finds : IfSome told (λ bytes. FoundSoFar request done bytes buffer)

-- the reply of a request that was served whole, where a read found these bytes
abbrev pub good_reply : Request → List ℕ → Reply
good_reply (Read at len) found = Got found
good_reply (Write at written) found = Put (length written)
good_reply (Zero at len) found = Zeroed len
good_reply Flush found = Flushed

-- a request got a reply that fits on the bytes told before, and now the bytes are those after it
pub record Replied (size : ℕ) (request : Request) (told now : Option (List ℕ)) (reply : Reply) : Type 0 where
  pub fits : Fits size told request reply
  pub leaves : now ≡ option_map (bytes_after request reply) told

-- The pieces of the stream's request so far brought the image from `old`, where it was begun, to `now`, and more may
-- come.
pub record UnderWay {D : Type 0} (bytes : D → Option (List ℕ)) (stream : ℕ) (request : Request)
    (old now : ImageState D) (buffer : List ℕ)
    : Type 0 where
  pub begun : IsBegun stream request now.present
  pub kept : now ≡ record old { device = now.device; present = now.present }
  pub progress : Progress old.size request (bytes old.device) (bytes now.device) buffer (done_of now.present)

-- All pieces of the stream's request brought the image from `old`, where it was begun, to `now`: it may leave, and the
-- reply whose mark it then gets fits.
pub record IsServedThrough {D : Type 0} (bytes : D → Option (List ℕ)) (stream : ℕ) (request : Request)
    (old now : ImageState D) (buffer : List ℕ)
    : Type 0 where
  pub ended : CanLeave stream now.present
  pub kept : now ≡ record old { device = now.device; present = now.present }
  pub replied : Replied old.size request (bytes old.device) (bytes now.device) (reply_of (mark_of_present now.present) buffer)
