-- A set of an event, as a run of the steps of the table.
use Rattle.std.specs.Prelude.{ℕ}
use Rattle.aio_core.specs.Known.{Known}
use Rattle.aio_core.specs.SleepSteps.{SetsEvent}
use Rattle.aio_notify.specs.Notifying.{Notifies}

-- the event was set, and then home was notified
pub record SetsAndNotifies (e : ℕ) (before after : Known) : Type 0 where
  pub found : ℕ
  pub set : Known
  pub sets : SetsEvent e found before set
  pub notifies : Notifies set after
