-- What each answer of a settling says.
use Rattle.std.specs.Prelude.{ℕ}
use Rattle.aio_core.specs.declared.job.Job.{Ghosts}
use Rattle.aio_notify.specs.declared.loop_end.LoopEnd.{LoopEnd}
use Rattle.aio_notify.specs.declared.loop_end.Unsettled.{Unsettled}
use Rattle.aio_notify.specs.declared.loop_end.Settled.{Settled}
use Rattle.aio_notify.specs.declared.loop_end.Settled.TheVariants.{Quiet, Pending, Event}

abbrev pub MatchSettled : {J : Type 0} {job : Ghosts J} → Settled J job → (LoopEnd J → Type 0) → (ℕ → Unsettled J job → Type 0) → (ℕ → Unsettled J job → Type 0) → Type 0
MatchSettled (Quiet end) quiet pending event = quiet end
MatchSettled (Pending i unsettled) quiet pending event = pending i unsettled
MatchSettled (Event e unsettled) quiet pending event = event e unsettled
