use Rattle.std.proofs.Common.{◌≡◌, ℕ, ◌+◌, ◌++◌, ◌∷◌, [], List, sym, ap, ◌∙◌, subst, arith, Err, rules}
use Rattle.aio_model.specs.declared.scripts.image_scripts.Stream.{Stream}
use Rattle.aio_model.specs.declared.scripts.image_scripts.Step.{Step}
use Rattle.aio_script.specs.declared.image.said.Counts.{Counts}
use Rattle.aio_script.specs.Image.Grammar.{counts_of, script_below, streams_in, steps_in}
use Rattle.aio_script.specs.Lines.{Numbered, significant_from}
use Rattle.aio_script.specs.Image.Progress.{AreLow, counts_with, HasRead}
use Rattle.aio_script.specs.Image.Reading.{GivesScript}
use Rattle.aio_script.proofs.Limits.{said_at-fits}
use Rattle.aio_script.proofs.LinesRead.{HasRead-line, GivesScript-stops, counts_of-line}
use Rattle.aio_script.proofs.image.reader.read_lines.Goals as goal

pub returns-in_err-said : goal.returns-in_err-said
returns-in_err-said c =
    let numbered : Numbered = record { number = c.in-Some.number; line = c.in-Some.line.now } in
    let stops : GivesScript (script_below c.args.image c.args.loops (significant_from c.args.first c.args.text.now)) (Err c.in_err-said.field-0.0) =
    GivesScript-stops c.args.loops (significant_from c.args.first c.args.text.now) (significant_from c.loop-number.next c.loop-number.left.now)
    (significant_from (c.in-Some.number + 1) c.in-Some.behind.now) numbered c.loop-number.streams.items c.loop-number.steps.items
    c.loop-number.invariant.read c.in-Some.ensures.lines c.as_slice.result.now c.loop-number.counts c.as_slice.ensures.value c.loop-number.invariant.counts
    c.args.image c.in_err-said.field-0.0 c.in_err-said.ensures in
    search (rules, stops)

pub with_said-counts-requires : goal.with_said-counts-requires
with_said-counts-requires c =
    let fits = said_at-fits c.args.loops c.as_slice.result.now c.loop-number.counts (record { number = c.in-Some.number; line = c.in-Some.line.now }) c.in_ok-said.said c.loop-number.invariant.low c.in_ok-said.ensures in
    fits.low

pub loop-number-preserved : goal.loop-number-preserved
loop-number-preserved c =
    let numbered : Numbered = record { number = c.in-Some.number; line = c.in-Some.line.now } in
    let whole = significant_from c.args.first c.args.text.now in
    let behind = significant_from (c.in-Some.number + 1) c.in-Some.behind.now in
    let streams = c.loop-number.streams.items in
    let steps = c.loop-number.steps.items in
    let said = c.in_ok-said.said in
    let fits = said_at-fits c.args.loops c.as_slice.result.now c.loop-number.counts numbered said c.loop-number.invariant.low c.in_ok-said.ensures in
    let line = HasRead-line c.args.loops whole (significant_from c.loop-number.next c.loop-number.left.now) behind numbered streams steps
    c.loop-number.invariant.read c.in-Some.ensures.lines c.as_slice.result.now c.loop-number.counts c.as_slice.ensures.value c.loop-number.invariant.counts said c.in_ok-said.ensures in
    let more_steps : c.keep.new.steps.items ≡ steps ++ steps_in (said ∷ []) = c.in_ok-keep.ensures.steps in
    let more_streams : c.keep.new.streams.items ≡ streams ++ streams_in (said ∷ []) = c.in_ok-keep.ensures.streams in
    let OfStreams : List Stream → Type 0 = λ ss. HasRead c.args.loops whole behind ss (steps ++ steps_in (said ∷ [])) in
    let OfSteps : List Step → Type 0 = λ ss. HasRead c.args.loops whole behind c.keep.new.streams.items ss in
    let OfNumber : ℕ → Type 0 = λ n. HasRead c.args.loops whole (significant_from (n + 1) c.in-Some.behind.now) c.keep.new.streams.items c.keep.new.steps.items in
    let one = subst OfStreams (sym more_streams) line in
    let two = subst OfSteps (sym more_steps) one in
    let kept : c.with_said-counts.result ≡ counts_with c.loop-number.counts said = c.with_said-counts.ensures in
    record {
      read = subst OfNumber (sym c.from-next.ensures) two;
      counts = kept ∙ ap (λ (n : Counts). counts_with n said) c.loop-number.invariant.counts ∙ sym (counts_of-line steps said) ∙ ap counts_of (sym more_steps);
      low = subst AreLow (sym kept) fits.low;
      few = omega (arith, c.from-next.ensures, c.in-Some.ensures.within);
    }
