-- A serial history, from any of its places on.
use Rattle.std.specs.Prelude.{◌≡◌, ℕ, List, Some}
use Rattle.aio_model.specs.declared.serving.requests.Request.{Request}
use Rattle.aio_model.specs.declared.serving.replies.Placed.{Placed}
use Rattle.aio_model.specs.Serving.Asked.{Asked, request_named}
use Rattle.aio_model.specs.Serving.{Fits, bytes_after}
use Rattle.aio_model.specs.Serving.SerialHistory.{CountsFrom, FitAlong, indices_of}
use Rattle.served_check.specs.Cursors.{one_more_of}

-- The replies go on from here: each stream's indices count from the number of its requests that were served, and each
-- reply fits on what the ones before it leave.
pub record RepliesGoOn (size : ℕ) (asked : List Asked) (done : ℕ → ℕ) (bytes : List ℕ) (served : List Placed) : Type 0 where
  pub fits : FitAlong size asked (Some bytes) served
  pub in_order : (stream : ℕ) → CountsFrom (done stream) (indices_of stream served)

-- a reply may come next
pub record IsNext (size : ℕ) (asked : List Asked) (done : ℕ → ℕ) (bytes : List ℕ) (placed : Placed) : Type 0 where
  pub due : placed.index ≡ done placed.stream
  pub request : Request
  pub named : request_named asked placed.stream placed.index ≡ Some request
  pub fits : Fits size (Some bytes) request placed.reply

-- a reply came next, and these are the numbers and the bytes behind it
pub record Advances (size : ℕ) (asked : List Asked) (placed : Placed) (done done' : ℕ → ℕ) (bytes bytes' : List ℕ) : Type 0 where
  pub next : IsNext size asked done bytes placed
  pub counts : (stream : ℕ) → done' stream ≡ one_more_of placed.stream done stream
  pub after : bytes' ≡ bytes_after next.request placed.reply bytes
