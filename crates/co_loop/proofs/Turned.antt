-- A turn, with what is left to do behind it.
use Rattle.std.proofs.Common.{◌≡◌, ℕ, Bool, subst}
use Rattle.lot_pool.specs.Pools.{PoolState, PassState}
use Rattle.aio_loop.specs.declared.turned.Turned.{Turned}
use Rattle.aio_loop.specs.Entering.{LoopEntered}
use Rattle.aio_loop.specs.Walks.{LoopFar}
use Rattle.aio_loop.specs.Turns.{Turns}
use Rattle.co_loop.specs.Crews.{Far}
use Rattle.co_loop.specs.Turning.{EndsTurn, TurnsAndEnds}

pub turns_and_ends : {R C O : Type 0} (does : R → LoopEntered → R → Type 0) (here : R → Far C O) (same : R → R → Type 0) (pool : PoolState) (block block' : Bool) (events n n' : ℕ) (turned : Turned) (time time_turned time_after : ℕ) (pass pass_after : PassState) (before turned_to after : LoopFar R) → block ≡ block' → n' ≡ n → Turns does pool block events turned time time_turned pass pass_after before turned_to → EndsTurn time_turned time_after n' (here turned_to.runner) turned_to.side.timers (here after.runner) after.side.timers → after.side.handlers ≡ turned_to.side.handlers → after.known ≡ turned_to.known → same turned_to.runner after.runner → TurnsAndEnds does here same pool block' events n turned time time_after pass pass_after before after
turns_and_ends does here same pool block block' events n n' turned time time_turned time_after pass pass_after before turned_to after same_block same_n turns ends handlers known keeps =
    record {
      turned_to = turned_to;
      time_turned = time_turned;
      turns = subst (λ b. Turns does pool b events turned time time_turned pass pass_after before turned_to) same_block turns;
      ends = subst (λ k. EndsTurn time_turned time_after k (here turned_to.runner) turned_to.side.timers (here after.runner) after.side.timers) same_n ends;
      handlers = handlers;
      known = known;
      keeps = keeps;
    }
