use Rattle.aio_script.proofs.Gathered.{PutsOnPage-more}
use Rattle.bell_script.proofs.printing.print_next.Goals as goal

pub returns : goal.returns
returns g c =
    let e = c.print_reply.ensures in
    λ text first before faults gathered.
    PutsOnPage-more c.print_reply.result c.in_ok-written.was gathered (record { ok = e.ok; err = e.err; counted = e.counted; cause = e.cause })
