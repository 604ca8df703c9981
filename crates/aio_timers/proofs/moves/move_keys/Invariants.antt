use Rattle.aio_timers.proofs.Moved.{Moving, keys_in}
use Rattle.aio_timers.proofs.moves.move_keys.Given as goal

abbrev pub invariant-loop-place : goal.invariant-loop-place
invariant-loop-place l = Moving l.fn.from l.fn.to l.last l.from l.to

abbrev pub decreases-loop-place : goal.decreases-loop-place
decreases-loop-place l = keys_in l.from
