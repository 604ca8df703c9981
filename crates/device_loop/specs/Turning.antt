-- Turns of a loop, one after another.
use Rattle.std.specs.Prelude.{◌≡◌, ℕ, zero, suc, Bool}
use Rattle.lot_pool.specs.Pools.{PoolState, PassState}
use Rattle.aio_loop.specs.declared.turned.Turned.{Turned}
use Rattle.aio_loop.specs.Entering.{LoopEntered}
use Rattle.aio_loop.specs.Walks.{LoopFar}
use Rattle.aio_loop.specs.Turns.{Turns}

-- one turn that was made
pub record OneTurn {R : Type 0} (does : R → LoopEntered → R → Type 0) (pool : PoolState) (events : ℕ) (before after : LoopFar R) : Type 0 where
  pub block : Bool
  pub turned : Turned
  pub time : ℕ
  pub time_after : ℕ
  pub pass : PassState
  pub pass_after : PassState
  pub turns : Turns does pool block events turned time time_after pass pass_after before after

-- so many, one after another
abbrev pub TurnsInARow : {R : Type 0} → (R → LoopEntered → R → Type 0) → PoolState → ℕ → ℕ → LoopFar R → LoopFar R → Type 0
TurnsInARow does pool events zero before after = after ≡ before
TurnsInARow {R} does pool events (suc more) before after =
    (mid : LoopFar R) × TurnsInARow does pool events more before mid × OneTurn does pool events mid after

-- The loop has turned some times, one after another.
pub record TurnsSome {R : Type 0} (does : R → LoopEntered → R → Type 0) (pool : PoolState) (events : ℕ) (before after : LoopFar R) : Type 0 where
  pub count : ℕ
  pub turns : TurnsInARow does pool events count before after
