-- What a coroutine of a stream does on the image in one resume, and whom it asks to wake.
use Rattle.std.specs.Prelude.{ℕ, Bool, Option, Some, None, List, [], ◌∷◌, length}
use Rattle.aio_model.specs.declared.serving.requests.Request.{Request}
use Rattle.co_state.specs.Wants.{Wants}
use Rattle.co_state.specs.declared.cx.CoId.{CoId}
use Rattle.img_requests.specs.declared.answers.Enter.{Enter}
use Rattle.img_requests.specs.declared.answers.Enter.TheVariants as enter
use Rattle.img_requests.specs.declared.answers.Piece.{Piece}
use Rattle.img_requests.specs.declared.answers.Piece.TheVariants as piece
use Rattle.img_shared.specs.Calls.{Enters, Serves}
use Rattle.img_shared.specs.Images.{ImageState}
use Rattle.img_shared.specs.Phases.{phase_at, done_in}
use Rattle.img_streams.specs.declared.answers.Grant.{Grant}
use Rattle.img_streams.specs.declared.answers.Grant.TheVariants.{NotYet, Granted}
use Rattle.img_streams.specs.declared.progress.At.{At}
use Rattle.img_streams.specs.declared.progress.At.TheVariants as at
use Rattle.img_streams.specs.ImageCalls.{come_to, TakesUp, LeavesSo}

-- What a resume does on the image, with its answer. Each is one call, and where a hold is taken up a piece is served too.
pub data Deed : Type 0 where
  Entered : Enter → Deed
  TookUp : Grant → Deed
  Served : Piece → Deed
  Left : Option CoId → Deed

-- whom the image named
abbrev pub woken_by : Deed → Option CoId
woken_by (Entered answer) = None
woken_by (TookUp NotYet) = None
woken_by (TookUp (Granted woken first)) = woken
woken_by (Served answer) = None
woken_by (Left woken) = woken

-- where the stream is after a piece
abbrev pub at_after_piece : Piece → At
at_after_piece piece.More = at.Serving
at_after_piece piece.Whole = at.Ended
at_after_piece piece.Failed = at.Ended

-- where the stream is after it
abbrev pub at_after : Deed → At
at_after (Entered enter.Begun) = at.Serving
at_after (Entered enter.Queued) = at.Waiting
at_after (Entered (enter.Refused place)) = at.Between
at_after (TookUp NotYet) = at.Waiting
at_after (TookUp (Granted woken first)) = at_after_piece first
at_after (Served answer) = at_after_piece answer
at_after (Left woken) = at.Between

-- how many lines it has behind it then: the request's own, where that got its reply
abbrev pub lines_past : Deed → ℕ
lines_past (Entered enter.Begun) = 0
lines_past (Entered enter.Queued) = 0
lines_past (Entered (enter.Refused place)) = 1
lines_past (TookUp answer) = 0
lines_past (Served answer) = 0
lines_past (Left woken) = 1

-- the coroutine itself, where the stream doesn't wait for its hold
abbrev pub itself : CoId → At → Option CoId
itself co at.Waiting = None
itself co _ = Some co

-- the deed is that of a stream which is here
abbrev pub IsDeedAt : At → Deed → Type 0
IsDeedAt at.Between (Entered answer) = Unit {0}
IsDeedAt (at.Entering passed) (Entered answer) = Unit {0}
IsDeedAt at.Waiting (TookUp answer) = Unit {0}
IsDeedAt at.Serving (Served answer) = Unit {0}
IsDeedAt at.Ended (Left woken) = Unit {0}
IsDeedAt _ _ = ⊥

-- what it does on the image and in the buffer
abbrev pub DoesDeed : {D : Type 0} → (D → Option (List ℕ)) → CoId → Request → List ℕ → List ℕ → Deed → ImageState D → ImageState D → Type 0
DoesDeed bytes co request before after (Entered answer) found left =
    Enters (come_to co found) co.co request answer left
DoesDeed bytes co request before after (TookUp answer) found left = TakesUp bytes co request before after answer found left
DoesDeed bytes co request before after (Served answer) found left =
    Serves bytes co.co request (done_in (phase_at found.phases co.co)) answer (come_to co found) left before after
DoesDeed bytes co request before after (Left woken) found left = LeavesSo co woken found left

abbrev pub listed : Option CoId → List CoId
listed None = []
listed (Some co) = co ∷ []

-- it asks to wake these, in order, and perhaps that the home quits
abbrev pub wants_wakes : List CoId → Bool → Wants
wants_wakes wakes quits = record { wakes = wakes; made = length wakes; quits = quits }
