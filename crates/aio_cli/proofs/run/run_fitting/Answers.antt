use Rattle.aio_cli.proofs.Served.{OnWritten-both, OnCut-both}
use Rattle.aio_cli.proofs.run.run_fitting.Goals as goal

pub returns-in-Ok-clause-written : goal.returns-in-Ok-clause-written
returns-in-Ok-clause-written g c =
    OnWritten-both c.print_answer-answer.result _ _ c.in-Ok.ensures.serves
    (rw (c.as_slice.ensures.value, c.as_slice-in-Ok.ensures.value) at c.print_answer-answer.ensures.written)

pub returns-in-Ok-clause-cut : goal.returns-in-Ok-clause-cut
returns-in-Ok-clause-cut g c =
    OnCut-both c.print_answer-answer.result _ _ c.in-Ok.ensures.serves
    (rw (c.as_slice.ensures.value, c.as_slice-in-Ok.ensures.value) at c.print_answer-answer.ensures.cut)
