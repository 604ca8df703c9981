use Rattle.loop_rows.specs.Rows.{IsRow, HasNumbers}
use Rattle.loop_rows.specs.Stepping.{CoroutinesStay}
use Rattle.aio_run.specs.Posting.{HaveSet}
use Rattle.aio_run.proofs.posting.end_each.Given as goal

abbrev pub invariant-loop-to : goal.invariant-loop-to
invariant-loop-to g l =
    IsRow l.shared l.row × HasNumbers 0 64 l.row × CoroutinesStay l.fn.row.seats.items l.row.seats.items × HaveSet l.to l.row.seats.items
