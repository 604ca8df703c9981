use Rattle.std.proofs.Common.{subst}
use Rattle.bell_loop.specs.Running.{Finds}
use Rattle.bell_loop.proofs.Scanning.{scan_others, scan_legal, scan_runs, scan_finds}
use Rattle.bell_loop.proofs.Committing.{Idles-slept}
use Rattle.bell_loop.proofs.steps.look.Goals as goal

pub returns-clause-idles : goal.returns-clause-idles
returns-clause-idles c =
    let scans = c.scan.ensures.scans in
    Idles-slept _ _ _ c.requires.idles c.scan.ensures.seat scans.rest (scan_runs _ _ _ _ scans c.requires.idles.first c.requires.idles.count) (scan_legal _ _ _ _ scans c.requires.idles.first c.requires.idles.count)

pub returns-clause-others : goal.returns-clause-others
returns-clause-others c =
    scan_others _ _ _ _ c.scan.ensures.scans c.requires.idles.first c.requires.idles.count

pub returns-clause-finds : goal.returns-clause-finds
returns-clause-finds c alone calm =
    subst (λ z. Finds z c.scan.result.urgent c.scan.result.idle c.scan.new.home.seat.known.seen) c.requires.idles.of.sizes
    (scan_finds _ _ _ _ c.scan.ensures.scans c.requires.idles.first c.requires.idles.count alone calm)
