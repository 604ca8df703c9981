-- The generated script. It has four loops and eight streams. Its requests go to the streams in turn, and their places
-- are made of numbers that each follow from the one before.
use Rattle.std.specs.Prelude.{ℕ, ◌+◌, ◌*◌, ◌/◌, ◌%◌, ◌==◌, zero, suc, nat_lt, List, [], ◌∷◌, ◌++◌, if◌then◌else◌}
use Rattle.aio_model.specs.declared.serving.requests.Request.{Request}
use Rattle.aio_model.specs.declared.serving.requests.Request.TheVariants.{Read, Write, Zero, Flush}
use Rattle.aio_model.specs.declared.scripts.image_scripts.Stream.{Stream}
use Rattle.aio_model.specs.declared.scripts.image_scripts.Step.{Step}
use Rattle.aio_model.specs.declared.scripts.image_scripts.What.TheVariants.{Ask, Move}
use Rattle.aio_model.specs.declared.scripts.image_scripts.Script.{Script}

-- the number that follows this one
abbrev pub drawn_after : ℕ → ℕ
drawn_after x = (25173 * x + 13849) % 65536

-- the number after so many draws, where `from` is the first
abbrev pub drawn : ℕ → ℕ → ℕ
drawn from zero = from
drawn from (suc k) = drawn_after (drawn from k)

-- the first `count` bytes that the k-th request writes
unfoldable pub bytes_to : ℕ → ℕ → List ℕ
bytes_to k zero = []
bytes_to k (suc j) = bytes_to k j ++ (k + j) % 256 ∷ []

-- what the k-th request asks, at this place: of eight that follow each other three write, three read, one makes zeros
-- and one flushes
abbrev pub request_at : ℕ → ℕ → Request
request_at k at =
    if nat_lt (k % 8) 3 then Write at (bytes_to k 64)
    else if nat_lt (k % 8) 6 then Read at 64
    else if k % 8 == 6 then Zero at 8192
    else Flush

-- the line of the k-th request, whose place is made of the number x
abbrev pub ask_line : ℕ → ℕ → Step
ask_line k x = record { stream = k % 8; what = Ask (request_at k (16 * x)) }

-- the line behind it, if it has one: the last stream moves to the next loop
abbrev pub move_lines : ℕ → List Step
move_lines k = if k % 16 == 15 then record { stream = 7; what = Move ((k / 16) % 4) } ∷ [] else []

-- the lines of the first requests, so many
abbrev pub lines_to : ℕ → ℕ → List Step
lines_to from zero = []
lines_to from (suc k) = (lines_to from k ++ ask_line k (drawn from (suc k)) ∷ []) ++ move_lines k

-- the first streams, so many
abbrev pub streams_to : ℕ → List Stream
streams_to zero = []
streams_to (suc s) = streams_to s ++ record { id = s; home = s % 4 } ∷ []

-- the script of n requests
abbrev pub generated : ℕ → ℕ → Script
generated n from = record { image = 1048576; loops = 4; streams = streams_to 8; lines = lines_to from n }
