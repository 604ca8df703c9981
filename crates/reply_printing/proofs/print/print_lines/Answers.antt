use Rattle.std.proofs.Common.{◌<◌, ◌∙◌, length, slice_index, ap, arith, Ok}
use Rattle.std.proofs.Math.ListN.{length-set}
use Rattle.std.specs.List.{flat_map}
use Rattle.aio_model.specs.Scripts.PrintedText.{line_for}
use Rattle.aio_model.proofs.InOrder.{asked_rest}
use Rattle.aio_script.proofs.Gathered.{PutsOnPage-then, PutsOnPage-stops, PutsOnPage-same}
use Rattle.reply_printing.specs.declared.links.Links.{Links}
use Rattle.reply_printing.proofs.NextLines.{AreNext-more, AreNext-silent, is_ask-other, next-inside, printed-more, printed-silent, printed-whole, stream-below}
use Rattle.reply_printing.proofs.print.print_lines.Goals as goal
use Rattle.reply_printing.proofs.print.print_lines.Goals.{in-Ask+in_ok-print_one, in_default}

pub take-place-requires-clause-place : goal.take-place-requires-clause-place
take-place-requires-clause-place g c =
    let lines = c.args.lines.now in
    let inside : c.loop-line.line-index < length lines = omega arith in
    omega (
      arith,
      next-inside lines c.args.served.now c.loop-line.line-index c.line-item.result inside c.line-item.is c.requires.order
          c.loop-line.links.next c.loop-line.links.behind.items c.loop-line.invariant.next c.in-Ask.request c.in-Ask.is,
    )

pub bounds-served-place : goal.bounds-served-place
bounds-served-place g c =
    let lines = c.args.lines.now in
    let inside : c.loop-line.line-index < length lines = omega arith in
    omega (
      arith,
      c.take-place.ensures.first,
      next-inside lines c.args.served.now c.loop-line.line-index c.line-item.result inside c.line-item.is c.requires.order
          c.loop-line.links.next c.loop-line.links.behind.items c.loop-line.invariant.next c.in-Ask.request c.in-Ask.is,
    )

pub returns-in_err-print_one-clause-gathers : goal.returns-in_err-print_one-clause-gathers
returns-in_err-print_one-clause-gathers g c =
    let lines = c.args.lines.now in
    let served = c.args.served.now in
    let k = c.loop-line.line-index in
    let step = c.line-item.result in
    let links = c.loop-line.links in
    let inside : k < length lines = omega arith in
    let known : step.stream < length links.next =
    omega (arith, stream-below lines served k step inside c.line-item.is 64 c.requires.streams) in
    let rest = flat_map (line_for served) (asked_rest lines k step inside c.line-item.is) in
    PutsOnPage-same
    (printed-whole lines served k step inside c.line-item.is c.requires.order links.next links.behind.items c.loop-line.invariant.next
    c.in-Ask.request c.in-Ask.is known c.take-place.result c.take-place.ensures.first c.index-served-place.result c.index-served-place.is)
    (PutsOnPage-then c.from_residual.result c.loop-line.invariant.printed
    (PutsOnPage-stops rest c.from_residual.result c.from_residual.ensures.0 c.in_err-print_one.ensures))

pub loop-line-preserved : goal.loop-line-preserved
loop-line-preserved g c =
    let lines = c.args.lines.now in
    let served = c.args.served.now in
    let k = c.loop-line.line-index in
    let step = c.line-item.result in
    let links = c.loop-line.links in
    let inside : k < length lines = omega arith in
    let known : step.stream < length links.next =
    omega (arith, stream-below lines served k step inside c.line-item.is 64 c.requires.streams) in
    elim c.match-line.branch [
      | in-Ask+in_ok-print_one w ↦ record {
        printed = rw (w.sink-is, w.page-is)
            (PutsOnPage-same
            (printed-more lines served k step inside c.line-item.is c.requires.order links.next links.behind.items c.loop-line.invariant.next
            w.in-Ask.request w.in-Ask.is known w.take-place.result w.take-place.ensures.first w.index-served-place.result w.index-served-place.is)
            (PutsOnPage-then (Ok tt) c.loop-line.invariant.printed w.in_ok-print_one.ensures));
        sized = ap length (ap (λ (l : Links). l.next) w.links-is ∙ w.take-place.ensures.next)
            ∙ length-set links.next step.stream (slice_index links.behind.items w.take-place.result) ∙ c.loop-line.invariant.sized;
        room = ap length (ap (λ (l : Links). l.behind.items) w.links-is ∙ w.take-place.ensures.behind) ∙ c.loop-line.invariant.room;
        next = rw (w.links-is, w.take-place.ensures.next, w.take-place.ensures.behind)
            (AreNext-more lines served k step inside c.line-item.is c.requires.order links.next links.behind.items c.loop-line.invariant.next
            w.in-Ask.request w.in-Ask.is known w.take-place.result w.take-place.ensures.first);
      }
      | in_default w ↦
          let silent = is_ask-other step.what w.in_default.not-Ask in record {
            printed = rw (w.sink-is, w.page-is) (PutsOnPage-same (printed-silent lines served k step inside c.line-item.is silent) c.loop-line.invariant.printed);
            sized = ap (λ (l : Links). length l.next) w.links-is ∙ c.loop-line.invariant.sized;
            room = ap (λ (l : Links). length l.behind.items) w.links-is ∙ c.loop-line.invariant.room;
            next = rw w.links-is (AreNext-silent lines served k step inside c.line-item.is links.next links.behind.items silent c.loop-line.invariant.next);
          }
    ]
