-- The text of replies: a line for each request in the script's order, and then the end line. The place in a line is
-- the reply's place among the served ones, so that the lines tell in which order the requests were done.
use Rattle.std.specs.Prelude.{ℕ, ◌+◌, ◌/◌, ◌%◌, ◌==◌, ◌&&◌, List, [], ◌∷◌, ◌++◌, length, codes, decimal, slice_index, Option, Some, None, if◌then◌else◌}
use Rattle.std.specs.List.{flat_map}
use Rattle.aio_model.specs.declared.serving.requests.Request.{Request}
use Rattle.aio_model.specs.declared.serving.requests.Request.TheVariants.{Read, Write, Zero, Flush}
use Rattle.aio_model.specs.declared.serving.replies.Reply.{Reply}
use Rattle.aio_model.specs.declared.serving.replies.Reply.TheVariants.{Put, Got, Zeroed, Flushed, Eio, Einval}
use Rattle.aio_model.specs.declared.serving.replies.Placed.{Placed}
use Rattle.aio_model.specs.Serving.Asked.{Asked}
use Rattle.aio_model.specs.Serving.SerialHistory.{errors_of}

-- each byte as two hexadecimal digits
abbrev pub hex_of : List ℕ → List ℕ
hex_of [] = []
hex_of (byte ∷ bytes) =
    slice_index (codes "0123456789abcdef") (byte / 16) ∷ slice_index (codes "0123456789abcdef") (byte % 16) ∷ hex_of bytes

-- data as they are printed: a dash for none
abbrev pub data_text : List ℕ → List ℕ
data_text [] = codes "-"
data_text (byte ∷ bytes) = hex_of (byte ∷ bytes)

abbrev pub verb_of : Request → List ℕ
verb_of (Read at len) = codes "read"
verb_of (Write at bytes) = codes "write"
verb_of (Zero at len) = codes "zero"
verb_of Flush = codes "flush"

abbrev pub outcome_of : Reply → List ℕ
outcome_of (Put n) = codes "ok " ++ decimal n
outcome_of (Got bytes) = codes "ok " ++ data_text bytes
outcome_of (Zeroed n) = codes "ok " ++ decimal n
outcome_of Flushed = codes "ok"
outcome_of (Eio k) = codes "eio " ++ decimal k
outcome_of Einval = codes "einval"

-- the line of a reply that stands at this place
abbrev pub line_of : ℕ → ℕ → Request → Reply → List ℕ
line_of place stream request reply =
    decimal place ++ (codes " " ++ (decimal stream ++ (codes " " ++ (verb_of request ++ (codes " " ++ (outcome_of reply ++ codes "\n"))))))

-- a reply, and its place among all
pub record Standing : Type 0 where
  pub place : ℕ
  pub reply : Reply

-- the reply of this name, where the first of the served ones stands at this place
abbrev pub standing_from : ℕ → List Placed → ℕ → ℕ → Option Standing
standing_from place [] stream index = None
standing_from place (placed ∷ served) stream index =
    if placed.stream == stream && placed.index == index
    then Some (record { place = place; reply = placed.reply })
    else standing_from (place + 1) served stream index

abbrev pub line_standing : ℕ → Request → Option Standing → List ℕ
line_standing stream request None = []
line_standing stream request (Some standing) = line_of standing.place stream request standing.reply

-- the line of an asked request
abbrev pub line_for : List Placed → Asked → List ℕ
line_for served a = line_standing a.stream a.request (standing_from 0 served a.stream a.index)

abbrev pub end_line : ℕ → ℕ → List ℕ
end_line requests errors = codes "end " ++ (decimal requests ++ (codes " " ++ (decimal errors ++ codes "\n")))

-- the whole text
abbrev pub printed_text : List Asked → List Placed → List ℕ
printed_text asked served = flat_map (line_for served) asked ++ end_line (length asked) (errors_of served)
