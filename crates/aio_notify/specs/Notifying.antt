-- A notify from any thread, as a run of the steps of the table.
use Rattle.std.specs.Prelude.{◌≡◌, ℕ, ◌==◌, MatchBool}
use Rattle.aio_model.specs.Loop.InFlight.{flight_of}
use Rattle.aio_core.specs.Known.{Known}
use Rattle.aio_core.specs.Standing.{StoresNotified, LoadsNotifyMe, SetsNotifier}

-- `notified` was stored, then `notify_me` was loaded, and the notifier was set exactly where that wasn't 0
pub record Notifies (before after : Known) : Type 0 where
  pub stored : Known
  pub stores : StoresNotified (flight_of before.phase) before stored
  pub loaded : Known
  pub armed : ℕ
  pub loads : LoadsNotifyMe (flight_of before.phase) armed stored loaded
  pub sets : MatchBool (armed == 0) (after ≡ loaded) ((was : ℕ) × SetsNotifier was loaded after)
