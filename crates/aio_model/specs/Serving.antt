-- Serving one request: which replies it may get on an image of a size, and which bytes stand there afterwards.
-- Places and lengths are whole numbers, so that nothing wraps. The bytes are those of the whole device: an image is
-- its first bytes, `size` of them.

pub mod Asked
pub mod SerialHistory
use Rattle.std.specs.Prelude.{◌≡◌, ℕ, ◌+◌, ◌%◌, ◌<◌, ◌≤◌, List, ◌++◌, length, take, drop, replicate, Option, IfSome}
use Rattle.aio_model.specs.declared.serving.requests.Request.{Request}
use Rattle.aio_model.specs.declared.serving.requests.Request.TheVariants.{Read, Write, Zero, Flush}
use Rattle.aio_model.specs.declared.serving.replies.Reply.{Reply}
use Rattle.aio_model.specs.declared.serving.replies.Reply.TheVariants.{Put, Got, Zeroed, Flushed, Eio, Einval}

-- the bytes with this piece at this place
abbrev pub put_at : ℕ → List ℕ → List ℕ → List ℕ
put_at at piece bytes = take at bytes ++ (piece ++ drop (at + length piece) bytes)

-- where the bytes of a request begin
abbrev pub place_of : Request → ℕ
place_of (Read at len) = at
place_of (Write at bytes) = at
place_of (Zero at len) = at
place_of Flush = 0

-- how many bytes a request is about
abbrev pub length_of : Request → ℕ
length_of (Read at len) = len
length_of (Write at bytes) = length bytes
length_of (Zero at len) = len
length_of Flush = 0

-- where they end
abbrev pub end_of : Request → ℕ
end_of request = place_of request + length_of request

-- the reply of a request that was served whole, but for the bytes that a read finds
abbrev pub IsGood : Request → Reply → Type 0
IsGood (Read at len) (Got found) = length found ≡ len
IsGood (Write at bytes) (Put n) = n ≡ length bytes
IsGood (Zero at len) (Zeroed n) = n ≡ len
IsGood Flush Flushed = Unit {0}
IsGood request reply = ⊥

-- the device failed after k good bytes, which are whole pieces of 4,096
abbrev pub IsCutShort : Request → ℕ → Type 0
IsCutShort Flush k = k ≡ 0
IsCutShort request k = (k % 4096 ≡ 0) × (k < length_of request)

-- The reply is one that the request may get on an image of this size, but for the bytes that a read finds. Einval
-- stands exactly where the request reaches past the image's end.
abbrev pub MayAnswer : ℕ → Request → Reply → Type 0
MayAnswer size request Einval = size < end_of request
MayAnswer size request (Eio k) = (end_of request ≤ size) × IsCutShort request k
MayAnswer size request reply = (end_of request ≤ size) × IsGood request reply

-- a read finds the bytes that are there
abbrev pub FindsBytes : List ℕ → Request → Reply → Type 0
FindsBytes bytes (Read at len) (Got found) = found ≡ take len (drop at bytes)
FindsBytes bytes request reply = Unit {0}

-- The reply fits the request on these bytes. Where they aren't told, what a read finds is left open.
pub record Fits (size : ℕ) (bytes : Option (List ℕ)) (request : Request) (reply : Reply) : Type 0 where
  pub answers : MayAnswer size request reply
  pub finds : IfSome bytes (λ told. FindsBytes told request reply)

-- The bytes after a request that got this reply: what it was to put is there, or the good bytes of it alone.
abbrev pub bytes_after : Request → Reply → List ℕ → List ℕ
bytes_after (Write at piece) (Put n) bytes = put_at at piece bytes
bytes_after (Write at piece) (Eio k) bytes = put_at at (take k piece) bytes
bytes_after (Zero at len) (Zeroed n) bytes = put_at at (replicate len 0) bytes
bytes_after (Zero at len) (Eio k) bytes = put_at at (replicate k 0) bytes
bytes_after request reply bytes = bytes
