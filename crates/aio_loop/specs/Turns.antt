-- A turn of a loop.
use Rattle.std.specs.Prelude.{◌≡◌, ℕ, Bool, false, ◌||◌, MatchBool}
use Rattle.lot_pool.specs.Pools.{PoolState, PassState}
use Rattle.aio_core.specs.Known.{Known}
use Rattle.aio_notify.specs.Commits.{AcceptsAll}
use Rattle.aio_bh.specs.declared.polled.Polled.{Polled}
use Rattle.aio_bh.specs.Polling.{Polls}
use Rattle.aio_bh.specs.OneShots.{ReturnsLots}
use Rattle.aio_loop.specs.declared.side.Side.{Side}
use Rattle.aio_loop.specs.declared.turned.Turned.{Turned}
use Rattle.aio_loop.specs.Blocking.{MaySleep}
use Rattle.aio_loop.specs.Entering.{LoopEntered, with_side, does_bottom}
use Rattle.aio_loop.specs.Expiring.{RunsExpired}
use Rattle.aio_loop.specs.Walks.{LoopFar, Walks}

-- one that is to block may sleep, and another doesn't touch the clock
abbrev pub Awakes : Bool → ℕ → Side → Bool → ℕ → ℕ → Known → Known → Type 0
Awakes block events side slept time time_after before after =
    MatchBool block (MaySleep events side slept time time_after before after) ((slept ≡ false) × (time_after ≡ time) × (after ≡ before))

-- Home awoke and accepted, and a poll followed, whose entries are the runner's for bottom halves.
pub record AwakesAndPolls {R : Type 0} (does : R → LoopEntered → R → Type 0) (pool : PoolState) (block : Bool) (events : ℕ) (slept : Bool) (polled : Polled) (time time_after : ℕ) (pass pass_after : PassState) (before after : LoopFar R) : Type 0 where
  pub awake : Known
  pub awakes : Awakes block events before.side slept time time_after before.known awake
  pub accepted : Known
  pub accepts : AcceptsAll awake accepted
  pub polls : Polls (does_bottom does) polled (with_side before.runner before.side) accepted (with_side after.runner after.side) after.known
  pub returns : ReturnsLots pool accepted after.known pass pass_after

-- The parts of a turn, in this order.
pub record Turns {R : Type 0} (does : R → LoopEntered → R → Type 0) (pool : PoolState) (block : Bool) (events : ℕ) (turned : Turned) (time time_after : ℕ) (pass pass_after : PassState) (before after : LoopFar R) : Type 0 where
  pub polled : Polled
  pub time_awake : ℕ
  pub behind_poll : LoopFar R
  pub polls : AwakesAndPolls does pool block events turned.slept polled time time_awake pass pass_after before behind_poll
  pub ready : Bool
  pub behind_walk : LoopFar R
  pub walks : Walks does events ready behind_poll behind_walk
  pub expired : Bool
  pub expires : RunsExpired does expired time_awake time_after behind_walk after
  pub progress : turned.progress ≡ (polled.progress || ready || expired)
