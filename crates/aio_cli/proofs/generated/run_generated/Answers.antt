use Rattle.std.proofs.Common.{◌≡◌, ◌≤◌, ◌<◌, List, ℕ, subst}
use Rattle.aio_model.specs.declared.scripts.image_scripts.Script.{Script}
use Rattle.aio_words.specs.Content.{with_piece, AppendsFront}
use Rattle.aio_cli.specs.Answers.{OnRun, OnTooLarge}
use Rattle.aio_cli.proofs.Served.{runs_written, runs_cut}
use Rattle.aio_cli.proofs.generated.run_generated.Goals as goal

pub returns-in-Ok-clause-written : goal.returns-in-Ok-clause-written
returns-in-Ok-clause-written g c =
    let run = c.run_script.ensures in
    runs_written c.args.requests c.args.from c.in-Ok.script c.in-Ok.ensures.script _ _ c.run_script.result.served.items c.run_script.result.loops.items
    (λ (text : List ℕ). g.K.Sink.held c.run_script.new.sink ≡ with_piece text (g.K.Sink.held c.args.sink.now)) c.run_script.result.answer run.carried run.written

pub returns-in-Ok-clause-cut : goal.returns-in-Ok-clause-cut
returns-in-Ok-clause-cut g c =
    let run = c.run_script.ensures in
    runs_cut c.args.requests c.args.from c.in-Ok.script c.in-Ok.ensures.script _ _ c.run_script.result.served.items c.run_script.result.loops.items
    (AppendsFront (g.K.Sink.held c.args.sink.now) (g.K.Sink.held c.run_script.new.sink)) c.run_script.result.answer run.carried run.cut

pub returns-in-Ok-clause-fits : goal.returns-in-Ok-clause-fits
returns-in-Ok-clause-fits g c =
    subst (λ (s : Script). OnRun c.run_script.result.answer (s.image ≤ g.D.Device.extent c.args.device)) c.in-Ok.ensures.script c.run_script.ensures.fits

pub returns-in-Ok-clause-too_large : goal.returns-in-Ok-clause-too_large
returns-in-Ok-clause-too_large g c =
    subst (λ (s : Script). OnTooLarge c.run_script.result.answer (λ image size. (image ≡ s.image) × (size ≡ g.D.Device.extent c.args.device) × (size < image))) c.in-Ok.ensures.script c.run_script.ensures.too_large
