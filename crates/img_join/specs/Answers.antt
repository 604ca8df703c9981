-- Replies to the requests of a journal's entries.
use Rattle.std.specs.Prelude.{◌≡◌, ℕ, List, Some}
use Rattle.aio_model.specs.declared.serving.requests.Request.{Request}
use Rattle.aio_model.specs.declared.serving.replies.Reply.{Reply}
use Rattle.aio_model.specs.declared.serving.replies.Placed.{Placed}
use Rattle.aio_model.specs.Serving.Asked.{Asked, request_named}
use Rattle.img_requests.specs.Progress.{Replied}
use Rattle.img_shared.specs.Journals.{Noted}

-- a stream's entry got the reply that its request fits, on the bytes before it
abbrev pub IsAnswered : List Asked → ℕ → (ℕ → Reply) → ℕ → Noted → Type 0
IsAnswered asked id reply size entry =
    (request : Request)
    × (request_named asked id entry.index ≡ Some request)
    × Replied size request entry.before entry.after (reply entry.index)

-- an entry under its stream's id, with its reply
abbrev pub placed_of : (ℕ → ℕ) → (ℕ → ℕ → Reply) → Noted → Placed
placed_of id reply entry = record { stream = id entry.stream; index = entry.index; reply = reply entry.stream entry.index }
