-- The part of a turn in which home may sleep.
use Rattle.std.specs.Prelude.{◌≡◌, ℕ, ◌<◌, ◌≤◌, Bool, true, false, Option, MatchOption, is_some, List}
use Rattle.aio_model.specs.declared.loops.commits.Commit.{Commit}
use Rattle.aio_model.specs.declared.loops.commits.Commit.TheVariants.{Sleep, Awake}
use Rattle.aio_model.specs.declared.timers.calls.TimerCall.{TimerCall}
use Rattle.aio_model.specs.Handlers.Calls.{has_event, on_event}
use Rattle.aio_model.specs.Timers.Calls.{is_armed, IsNone, IsEarliest}
use Rattle.aio_handlers.specs.StandsFor.{HandlerList}
use Rattle.aio_timers.specs.StandsFor.{TimerList, StandsFor}
use Rattle.aio_core.specs.Known.{Known}
use Rattle.aio_core.specs.SleepSteps.{Disarms}
use Rattle.aio_notify.specs.Commits.{Commits}
use Rattle.aio_notify.specs.Waiting.{Waits}
use Rattle.aio_loop.specs.declared.side.Side.{Side}

abbrev pub is_sleep : Commit → Bool
is_sleep (Sleep left) = true
is_sleep (Awake why) = false

-- these are the bits of the events that have a live handler
abbrev pub WatchesLive : HandlerList → ℕ → Type 0
WatchesLive handlers watch =
    (event : ℕ) → event < 64 → has_event watch event ≡ is_some (on_event event handlers.live)

-- this is the earliest expiry, or none is armed
abbrev pub ExpiresFirst : TimerList → Option ℕ → Type 0
ExpiresFirst timers first =
    (calls : List TimerCall) → StandsFor timers calls → MatchOption first (IsNone is_armed calls) (IsEarliest calls)

-- home waited, and disarmed
pub record WaitsAndDisarms (left : Option ℕ) (start end : ℕ) (before after : Known) : Type 0 where
  pub waited : Known
  pub waits : Waits left start end before waited
  pub found : ℕ
  pub disarms : Disarms found waited after

-- what follows a commit at this time
abbrev pub FollowsCommit : Commit → ℕ → ℕ → Known → Known → Type 0
FollowsCommit (Sleep left) now end before after =
    WaitsAndDisarms left now end before after
FollowsCommit (Awake why) now end before after = (after ≡ before) × (end ≡ now)

-- Home committed with what the handlers watch, the first expiry and one reading of the clock, and waited and disarmed where that answered
-- Sleep.
pub record MaySleep (events : ℕ) (side : Side) (slept : Bool) (time time_after : ℕ) (before after : Known) : Type 0 where
  pub watch : ℕ
  pub watches : WatchesLive side.handlers watch
  pub first : Option ℕ
  pub expires : ExpiresFirst side.timers first
  pub now : ℕ
  pub later : time ≤ now
  pub answer : Commit
  pub committed : Known
  pub commits : Commits watch events first now answer before committed
  pub told : slept ≡ is_sleep answer
  pub follows : FollowsCommit answer now time_after committed after
