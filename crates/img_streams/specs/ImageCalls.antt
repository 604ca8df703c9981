-- What one turn at the lock does on the image: it notes where the stream is, and makes one call. A stream that takes up
-- its hold is served the first piece of its request too.
use Rattle.std.specs.Prelude.{◌≡◌, ℕ, set, slice_index, List, Option, option_map}
use Rattle.aio_model.specs.declared.serving.requests.Request.{Request}
use Rattle.aio_model.specs.Holds.{Has}
use Rattle.aio_model.specs.Holds.WhoHolds.{hold_of}
use Rattle.aio_model.specs.Holds.Table.{wake_one, unlocked}
use Rattle.co_state.specs.declared.cx.CoId.{CoId}
use Rattle.img_requests.specs.declared.answers.Piece.{Piece}
use Rattle.img_requests.specs.Presents.{begun_of}
use Rattle.img_shared.specs.declared.phases.Phase.{Phase}
use Rattle.img_shared.specs.declared.phases.Phase.TheVariants.{Waiting, Retired}
use Rattle.img_shared.specs.Calls.{Serves, Leaves}
use Rattle.img_shared.specs.Images.{ImageState}
use Rattle.img_shared.specs.Phases.{phase_at, taken_up, still_going}
use Rattle.img_streams.specs.declared.answers.Grant.{Grant}
use Rattle.img_streams.specs.declared.answers.Grant.TheVariants.{NotYet, Granted}

-- what holds where a hold was granted
abbrev pub OnGranted : Grant → Type 0 → Type 0
OnGranted NotYet P = Unit {0}
OnGranted (Granted woken first) P = P

-- the stream's request is this one, and it was queued
abbrev pub IsWaitingFor : Phase → ℕ → Request → Type 0
IsWaitingFor phase stream request = phase ≡ Waiting (begun_of stream request)

module _ {D : Type 0} where
  -- the stream's loop is noted
  abbrev pub come_to : CoId → ImageState D → ImageState D
  come_to co image = record image { homes = set image.homes co.co co.home }

  -- the coroutine of a stream, by the loop that it came to last
  abbrev pub coroutine_of_stream : ImageState D → ℕ → CoId
  coroutine_of_stream image stream = record { co = stream; home = slice_index image.homes stream }

  -- the stream's loop is noted, and it takes up its hold
  abbrev pub with_hold : CoId → ImageState D → ImageState D
  with_hold co image =
      record (come_to co image) { phases = set image.phases co.co (taken_up (phase_at image.phases co.co)); access = (wake_one image.access).state }

  -- The stream has its hold and takes it up. Then it is served the first piece of its request. Who is woken is named.
  pub record GetsHold (bytes : D → Option (List ℕ)) (co : CoId) (request : Request) (woken : Option CoId) (first : Piece) (old new : ImageState D) (before after : List ℕ) : Type 0 where
    pub holds : Has (hold_of old.access co.co)
    pub woken_is : woken ≡ option_map (coroutine_of_stream new) (wake_one old.access).woken
    pub serves : Serves bytes co.co request 0 first (with_hold co old) new before after

  -- the stream takes up its hold, or waits on
  abbrev pub TakesUp : (D → Option (List ℕ)) → CoId → Request → List ℕ → List ℕ → Grant → ImageState D → ImageState D → Type 0
  TakesUp bytes co request before after NotYet old new =
      ¬ (Has (hold_of old.access co.co)) × (new ≡ come_to co old) × (after ≡ before)
  TakesUp bytes co request before after (Granted woken first) old new = GetsHold bytes co request woken first old new before after

  -- the stream's request gets its place, and who is woken is named
  pub record LeavesSo (co : CoId) (woken : Option CoId) (old new : ImageState D) : Type 0 where
    pub place : ℕ
    pub leaves : Leaves co.co place (come_to co old) new
    pub woken_is : woken ≡ option_map (coroutine_of_stream new) (unlocked co.co old.access).woken

  -- the stream retires, and so many haven't
  abbrev pub Retires : CoId → ℕ → ImageState D → ImageState D → Type 0
  Retires co going old new =
      (going ≡ still_going new.phases) × (new ≡ record (come_to co old) { phases = set old.phases co.co Retired })
