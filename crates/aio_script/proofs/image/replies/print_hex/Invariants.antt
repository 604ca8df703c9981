-- The bytes so far were put on the page.
use Rattle.std.proofs.Common.{◌≤◌, ◌-◌, length, take, Ok}
use Rattle.aio_model.specs.Scripts.PrintedText.{hex_of}
use Rattle.aio_script.specs.Printing.{PutsOnPage}
use Rattle.aio_script.proofs.image.replies.print_hex.Given as goal

abbrev pub invariant-loop-at : goal.invariant-loop-at
invariant-loop-at g l = record {
  within : l.at ≤ length l.bytes;
  printed : PutsOnPage (hex_of (take l.at l.bytes)) l.initial.page l.page (g.K.Sink.held l.initial.sink) (g.K.Sink.held l.sink)
      (g.K.Sink.faults l.initial.sink) (g.K.Sink.faults l.sink) (Ok tt);
}

abbrev pub decreases-loop-at : goal.decreases-loop-at
decreases-loop-at g l = length l.bytes - l.at
