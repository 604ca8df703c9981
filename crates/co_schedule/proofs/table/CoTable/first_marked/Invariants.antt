use Rattle.std.proofs.Common.{◌≡◌, ◌-◌}
use Rattle.co_schedule.proofs.Ending.{IsLooking}
use Rattle.co_schedule.proofs.table.CoTable.first_marked.Given as goal

abbrev pub decreases-loop-co : goal.decreases-loop-co
decreases-loop-co g l = l.fn.self.coroutines - l.co

abbrev pub invariant-loop-co : goal.invariant-loop-co
invariant-loop-co g l =
    (l.inner.table_id ≡ l.fn.inner.table_id) × (l.inner.id ≡ l.fn.inner.id) × (l.inner.me.0.origin ≡ l.fn.inner.me.0.origin) × (l.inner.me.1 ≡ l.fn.inner.me.1) × IsLooking l.fn.inner.me.0.known l.inner.me.0.known l.co
