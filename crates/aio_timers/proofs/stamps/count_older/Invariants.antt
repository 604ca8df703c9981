use Rattle.std.proofs.Common.{◌≡◌, count_by, take}
use Rattle.aio_timers.specs.Restamping.{is_older}
use Rattle.aio_timers.proofs.stamps.count_older.Given as goal

abbrev pub invariant-loop-key : goal.invariant-loop-key
invariant-loop-key l = l.count ≡ count_by (is_older l.stamp) (take l.key-index l.keys)
