-- A player and the image agree on what its stream does next.
use Rattle.std.specs.Prelude.{◌≡◌, ℕ, ◌+◌, ◌<◌, length, slice_index}
use Rattle.aio_model.specs.declared.serving.requests.Request.{Request}
use Rattle.img_requests.specs.Presents.{begun_of}
use Rattle.img_shared.specs.declared.phases.Phase.{Phase}
use Rattle.img_shared.specs.declared.phases.Phase.TheVariants.{Idle, Waiting}
use Rattle.img_shared.specs.Calls.{IsServing}
use Rattle.img_shared.specs.Images.{ImageState}
use Rattle.img_shared.specs.Journals.{noted_count}
use Rattle.img_shared.specs.Phases.{phase_at, done_in, CanLeave}
use Rattle.shared_tests.specs.declared.turn.Turn.{Turn}
use Rattle.shared_tests.specs.declared.turn.Turn.TheVariants.{Rest, Wait, Serve, Leave, Gone}

abbrev pub TurnedTo : Turn → ℕ → Request → ℕ → Phase → Type 0
TurnedTo Rest stream request left phase = phase ≡ Idle
TurnedTo Wait stream request left phase = (phase ≡ Waiting (begun_of stream request)) × (0 < left)
TurnedTo Serve stream request left phase = IsServing phase stream request (done_in phase) × (0 < left)
TurnedTo Leave stream request left phase = CanLeave phase × (0 < left)
TurnedTo Gone stream request left phase = Unit {0}

pub record Sits {D : Type 0} (stream left : ℕ) (turn : Turn) (request : Request) (image : ImageState D) : Type 0 where
  pub known : stream < length image.requests
  pub rows : stream < length image.phases
  pub due : noted_count stream image.journal + left ≡ slice_index image.requests stream
  pub turned : TurnedTo turn stream request left (phase_at image.phases stream)
