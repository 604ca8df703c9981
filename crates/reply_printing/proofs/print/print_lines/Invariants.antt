use Rattle.std.proofs.Common.{◌≡◌, length, Ok}
use Rattle.aio_script.specs.Printing.{PutsOnPage}
use Rattle.reply_printing.proofs.NextLines.{AreNext, printed_before}
use Rattle.reply_printing.proofs.print.print_lines.Given as goal

abbrev pub invariant-loop-line : goal.invariant-loop-line
invariant-loop-line g l = record {
  printed : PutsOnPage (printed_before l.lines l.served l.line-index) l.initial.page l.page (g.K.Sink.held l.initial.sink) (g.K.Sink.held l.sink)
      (g.K.Sink.faults l.initial.sink) (g.K.Sink.faults l.sink) (Ok tt);
  sized : length l.links.next ≡ 64;
  room : length l.links.behind.items ≡ length l.initial.links.behind.items;
  next : AreNext l.lines l.served l.links.next l.links.behind.items l.line-index;
}
