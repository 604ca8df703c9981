use Rattle.std.proofs.Common.{◌≡◌, ◌%◌, ℕ, ◌<◌, get_or}
use Rattle.aio_timers.specs.Keys.{joint, stamps}
use Rattle.aio_timers.specs.Restamping.{rank_in}
use Rattle.aio_timers.proofs.stamps.count_ranks.Given as goal

abbrev pub invariant-loop-place : goal.invariant-loop-place
invariant-loop-place l =
    (place : ℕ) → place < l.place → get_or l.ranks place 0 ≡ rank_in l.due l.waiting (joint l.due l.waiting place % stamps)
