-- A commit of a home, as a run of the steps of the table.
use Rattle.std.specs.Prelude.{◌≡◌, ℕ, ◌-◌, ◌==◌, min, nat_le, Bool, true, false, if◌then◌else◌, Option, None, Some, option_map, MatchOption, MatchBool}
use Rattle.aio_model.specs.declared.loops.commits.Commit.{Commit}
use Rattle.aio_model.specs.declared.loops.commits.Commit.TheVariants.{Sleep, Awake}
use Rattle.aio_model.specs.declared.loops.commits.Why.TheVariants.{Urgent, Deadline, Event, Notified}
use Rattle.aio_core.specs.Known.{Known, Committed, is_running}
use Rattle.aio_core.specs.SleepSteps.{Arms, Tests, Disarms, ClearsNotifier, Accepts, scan_in, watched_in}
use Rattle.aio_core.specs.Scans.{Scans}
use Rattle.aio_notify.specs.Watching.{watched_below, LooksBelow, FindsSet}

-- the deadline is at most now
abbrev pub is_past : Option ℕ → ℕ → Bool
is_past None now = false
is_past (Some deadline) now = nat_le deadline now

-- how long a home with a due idle bottom half sleeps at most, in nanoseconds
abbrev pub idle_sleep : ℕ
idle_sleep = 10000000

-- the smaller of the bounds that are there
abbrev pub least_of : Option ℕ → Option ℕ → Option ℕ
least_of None other = other
least_of (Some bound) None = Some bound
least_of (Some bound) (Some other) = Some (min bound other)

-- how long a home sleeps at most
abbrev pub sleep_bound : Option ℕ → ℕ → Bool → Option ℕ
sleep_bound deadline now idle =
    least_of (option_map (λ d. d - now) deadline) (if idle then Some idle_sleep else None)

-- home armed and tested. It is committed where `notified` was 0, and disarmed where it was 1.
pub record ArmsAndTests (notified : Bool) (before after : Known) : Type 0 where
  pub was : ℕ
  pub found : ℕ
  pub armed : Known
  pub tested : Known
  pub arms : Arms (scan_in before.sleep).watched was before armed
  pub tests : Tests (watched_in armed.sleep) found armed tested
  pub told : notified ≡ (found == 1)
  pub ends : MatchBool notified ((two : ℕ) × Disarms two tested after) (after ≡ tested)

-- neither the scan nor the deadline nor an event kept home awake
pub record PastEvents (bound : Option ℕ) (answer : Commit) (looked after : Known) : Type 0 where
  pub notified : Bool
  pub tests : ArmsAndTests notified looked after
  pub is : MatchBool notified (answer ≡ Awake Notified) (answer ≡ Sleep bound)

-- neither the scan nor the deadline kept home awake
pub record PastDeadline (watch events : ℕ) (bound : Option ℕ) (answer : Commit) (scanned after : Known) : Type 0 where
  pub set : Option ℕ
  pub is : MatchOption set ((looked : Known) × LooksBelow watch events scanned looked × PastEvents bound answer looked after) (λ e. (answer ≡ Awake (Event e)) × FindsSet watch events e scanned after)

-- The scan, and what came of it.
pub record Commits (watch events : ℕ) (deadline : Option ℕ) (now : ℕ) (answer : Commit) (before after : Known) : Type 0 where
  pub urgent : Option ℕ
  pub idle : Bool
  pub scanned : Known
  pub scans : Scans urgent idle before scanned
  pub is : MatchOption urgent (MatchBool (is_past deadline now) ((answer ≡ Awake Deadline) × (after ≡ scanned)) (PastDeadline watch events (sleep_bound deadline now idle) answer scanned after)) (λ i. (answer ≡ Awake (Urgent i)) × (after ≡ scanned))

-- Where home is after an answer: committed with just the watched events, or running.
abbrev pub IsAwakeBy : ℕ → ℕ → Commit → Known → Type 0
IsAwakeBy watch events (Sleep bound) after = after.sleep ≡ Committed (watched_below watch events)
IsAwakeBy watch events (Awake why) after = is_running after.sleep ≡ true

-- the index for which home stays awake
abbrev pub urgent_in : Commit → Option ℕ
urgent_in (Awake (Urgent i)) = Some i
urgent_in _ = None

-- home cleared the notifier, and then `notified`
pub record AcceptsAll (before after : Known) : Type 0 where
  pub found : ℕ
  pub cleared : Known
  pub clears : ClearsNotifier found before cleared
  pub accepts : Accepts cleared after
