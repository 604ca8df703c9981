-- What it means that replies are those of a script's requests, done one after the other.
use Rattle.std.specs.Prelude.{◌≡◌, ℕ, ◌+◌, ◌==◌, Bool, true, false, List, [], ◌∷◌, map, filter, count_by, Option, Some, None, option_map, IsPermutation}
use Rattle.aio_model.specs.declared.serving.requests.Request.{Request}
use Rattle.aio_model.specs.declared.serving.replies.Reply.{Reply}
use Rattle.aio_model.specs.declared.serving.replies.Reply.TheVariants.{Eio, Einval}
use Rattle.aio_model.specs.declared.serving.replies.Placed.{Placed}
use Rattle.aio_model.specs.Serving.Asked.{Asked, request_named}
use Rattle.aio_model.specs.Serving.{Fits, bytes_after}

-- a name, as a pair of stream and index
abbrev pub asked_name : Asked → ℕ × ℕ
asked_name a = (a.stream, a.index)

abbrev pub placed_name : Placed → ℕ × ℕ
placed_name placed = (placed.stream, placed.index)

-- the numbers n, n + 1, n + 2 and on
abbrev pub CountsFrom : ℕ → List ℕ → Type 0
CountsFrom n [] = Unit {0}
CountsFrom n (i ∷ rest) = (i ≡ n) × CountsFrom (n + 1) rest

-- the places of a stream's requests in the order in which they were served
abbrev pub indices_of : ℕ → List Placed → List ℕ
indices_of stream served = map (λ placed. placed.index) (filter (λ placed. placed.stream == stream) served)

-- the bytes after a reply to a request, if there is one
abbrev pub bytes_behind : Option Request → Reply → List ℕ → List ℕ
bytes_behind None reply bytes = bytes
bytes_behind (Some request) reply bytes = bytes_after request reply bytes

-- the bytes that served requests leave
abbrev pub bytes_left : List Asked → List Placed → List ℕ → List ℕ
bytes_left asked [] bytes = bytes
bytes_left asked (placed ∷ served) bytes =
    bytes_left asked served (bytes_behind (request_named asked placed.stream placed.index) placed.reply bytes)

-- each reply fits its request on the bytes that the ones before it leave
abbrev pub FitAlong : ℕ → List Asked → Option (List ℕ) → List Placed → Type 0
FitAlong size asked bytes [] = Unit {0}
FitAlong size asked bytes (placed ∷ served) =
    (request : Request)
    × (request_named asked placed.stream placed.index ≡ Some request)
    × Fits size bytes request placed.reply
    × FitAlong size asked (option_map (bytes_after request placed.reply) bytes) served

-- The served replies are a serial history of the asked requests, on an image of this size and these opening bytes.
-- Where the bytes aren't told, what reads find is left open, and all else holds.
pub record IsSerialHistory (size : ℕ) (asked : List Asked) (bytes : Option (List ℕ)) (served : List Placed) : Type 0 where
  -- each request stands in it once, and nothing else does
  pub each_once : IsPermutation (map asked_name asked) (map placed_name served)
  -- each stream's requests stand in their order
  pub in_order : (stream : ℕ) → CountsFrom 0 (indices_of stream served)
  pub fits : FitAlong size asked bytes served

-- a reply that is an error
abbrev pub is_error : Reply → Bool
is_error (Eio k) = true
is_error Einval = true
is_error reply = false

abbrev pub is_eio : Reply → Bool
is_eio (Eio k) = true
is_eio reply = false

-- how many of the replies are errors, and how many of them the device's
abbrev pub errors_of : List Placed → ℕ
errors_of served = count_by (λ placed. is_error placed.reply) served

abbrev pub eios_of : List Placed → ℕ
eios_of served = count_by (λ placed. is_eio placed.reply) served
