use Rattle.aio_script.proofs.Gathered.{PutsOnPage-more, PutsOnPage-same}
use Rattle.bell_script.proofs.Scripted.{line_of}
use Rattle.bell_script.proofs.printing.print_last.Goals as goal

pub returns : goal.returns
returns g c =
    let e = c.print_poll.ensures in
    let called = c.called-more.ensures in
    λ text first before faults gathered.
    PutsOnPage-more c.print_poll.result c.in_ok-written.was gathered
    (PutsOnPage-same (line_of c.called-more.result.0.now _ c.called-more.result.1 _ c.args.polled.now.progress c.args.polled.now.cut_nests called.0 called.1)
    (record { ok = e.ok; err = e.err; counted = e.counted; cause = e.cause }))
