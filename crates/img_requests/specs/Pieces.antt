-- What one piece of a request does to the device's bytes and to the buffer of a read.
use Rattle.std.specs.Prelude.{◌≡◌, ◌==◌, if◌then◌else◌, Bool, ℕ, ◌+◌, ◌-◌, ◌<◌, min, List, length, take, drop, replicate, Option, option_map, IfSome}
use Rattle.aio_model.specs.declared.serving.requests.Request.{Request}
use Rattle.aio_model.specs.declared.serving.requests.Request.TheVariants.{Read, Write, Zero, Flush}
use Rattle.aio_model.specs.Serving.{put_at, length_of, IsCutShort}
use Rattle.img_requests.specs.declared.answers.Piece.{Piece}
use Rattle.img_requests.specs.declared.answers.Piece.TheVariants.{More, Whole, Failed}
use Rattle.img_requests.specs.declared.present.Stage.{Stage}
use Rattle.img_requests.specs.declared.present.Stage.TheVariants as stage

-- how many bytes the next piece has
abbrev pub piece_length : ℕ → ℕ → ℕ
piece_length length done = min 4096 (length - done)

-- so many bytes from this place on
abbrev pub piece_at : ℕ → ℕ → List ℕ → List ℕ
piece_at from n bytes = take n (drop from bytes)

-- the device's bytes, with n more of those that the request puts
abbrev pub bytes_with : Request → ℕ → ℕ → List ℕ → List ℕ
bytes_with (Read at len) done n bytes = bytes
bytes_with (Write at written) done n bytes = put_at (at + done) (piece_at done n written) bytes
bytes_with (Zero at len) done n bytes = put_at (at + done) (replicate n 0) bytes
bytes_with Flush done n bytes = bytes

-- the buffer, with n more of the bytes that a read finds
abbrev pub buffer_with : Request → ℕ → ℕ → List ℕ → List ℕ → List ℕ
buffer_with (Read at len) done n bytes buffer = put_at done (piece_at (at + done) n bytes) buffer
buffer_with (Write at written) done n bytes buffer = buffer
buffer_with (Zero at len) done n bytes buffer = buffer
buffer_with Flush done n bytes buffer = buffer

-- the buffer has room for just what a read finds
abbrev pub HasRoom : Request → List ℕ → Type 0
HasRoom (Read at len) buffer = length buffer ≡ len
HasRoom (Write at written) buffer = Unit {0}
HasRoom (Zero at len) buffer = Unit {0}
HasRoom Flush buffer = Unit {0}

-- A read touches the n bytes of the buffer from this place on and no other; the other kinds touch none.
abbrev pub TouchesOnly : Request → ℕ → ℕ → List ℕ → List ℕ → Type 0
TouchesOnly (Read at len) done n before after =
    (take done after ≡ take done before) × (drop (done + n) after ≡ drop (done + n) before)
TouchesOnly (Write at written) done n before after = after ≡ before
TouchesOnly (Zero at len) done n before after = after ≡ before
TouchesOnly Flush done n before after = after ≡ before

-- a piece of n bytes takes a call of the device
abbrev pub NeedsCall : Request → ℕ → Type 0
NeedsCall (Read at len) n = 0 < n
NeedsCall (Write at written) n = 0 < n
NeedsCall (Zero at len) n = 0 < n
NeedsCall Flush n = Unit {0}

-- a piece of n bytes takes none
abbrev pub IsSilent : Request → ℕ → Type 0
IsSilent (Read at len) n = n ≡ 0
IsSilent (Write at written) n = n ≡ 0
IsSilent (Zero at len) n = n ≡ 0
IsSilent Flush n = ⊥

-- a fact for a piece that was served
abbrev pub OnServed : Piece → Type 0 → Type 0
OnServed More P = P
OnServed Whole P = P
OnServed Failed P = Unit {0}

-- a fact for a piece at which the device failed
abbrev pub OnFailed : Piece → Type 0 → Type 0
OnFailed More P = Unit {0}
OnFailed Whole P = Unit {0}
OnFailed Failed P = P

-- the answer to n bytes behind those that were done
abbrev pub AnsweredPiece : Piece → Request → ℕ → ℕ → Type 0
AnsweredPiece More request done n = done + n < length_of request
AnsweredPiece Whole request done n = done + n ≡ length_of request
AnsweredPiece Failed request done n = IsCutShort request done

-- the answer where the device served the piece or failed, and where so many of the request's bytes are done with it
abbrev pub answer_to : Bool → ℕ → ℕ → Piece
answer_to served done length = if served then (if done == length then Whole else More) else Failed

abbrev pub stage_after : Piece → Stage
stage_after More = stage.Begun
stage_after Whole = stage.Whole
stage_after Failed = stage.Failed

-- how many bytes are done after a piece of n bytes
abbrev pub done_after : Piece → ℕ → ℕ → ℕ
done_after More done n = done + n
done_after Whole done n = done + n
done_after Failed done n = done

-- What a piece of n bytes did, behind `done` bytes of the request: to the bytes that the device tells, and to the
-- buffer. Where the device doesn't tell its bytes, what a read finds is left open.
pub record Pieced (request : Request) (done n : ℕ) (answer : Piece) (told now : Option (List ℕ)) (before after : List ℕ)
    : Type 0 where
  pub answered : AnsweredPiece answer request done n
  pub puts : OnServed answer (now ≡ option_map (bytes_with request done n) told)
  pub keeps : OnFailed answer (now ≡ told)
  pub finds : OnServed answer (IfSome told (λ bytes. after ≡ buffer_with request done n bytes before))
  pub touches : TouchesOnly request done n before after
  pub long : length after ≡ length before
