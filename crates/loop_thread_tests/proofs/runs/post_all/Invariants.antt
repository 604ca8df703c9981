use Rattle.loop_rows.specs.Rows.{IsRow, HasNumbers}
use Rattle.loop_thread_tests.proofs.runs.post_all.Given as goal

abbrev pub invariant-loop-to : goal.invariant-loop-to
invariant-loop-to g l = IsRow l.shared l.row × HasNumbers l.fn.row.first l.fn.row.count l.row
