use Rattle.std.proofs.Common.{◌≡◌, ◌≤◌, length, map, string_bytes, rules, Some, None, Ok, Err, sym, subst}
use Rattle.aio_model.specs.declared.scripts.image_scripts.Script.{Script}
use Rattle.aio_model.specs.declared.scripts.loop_scripts.LoopScript.{LoopScript}
use Rattle.aio_words.specs.Content.{with_piece, AppendsFront}
use Rattle.aio_script.specs.declared.refusals.ScriptRefusal.{ScriptRefusal}
use Rattle.aio_script.specs.Image.Grammar.{script_said}
use Rattle.aio_script.specs.Loop.Grammar.{loop_script_said}
use Rattle.program_words.specs.declared.modes.Mode.TheVariants.{Image, Bells, Generated}
use Rattle.program_words.specs.Words.{mode_said}
use Rattle.aio_cli.specs.Answers.{LoopScriptIsDone, IsScriptRefusal, IsWholeAnswer}
use Rattle.aio_cli.specs.Calls.{Reads, is_read_fault}
use Rattle.aio_cli.specs.Modes.{EndsIn}
use Rattle.aio_cli.specs.Reading.{longest_script}
use Rattle.aio_cli.proofs.Reading.{no_read_yet, reads_so_far, takes_nothing}
use Rattle.aio_cli.proofs.Causes.{told-each, refused-only, whole-only, refused_loop-only, done_loop-only}
use Rattle.aio_cli.proofs.program.top.Goals as goal

-- where no mode is named

pub returns-in-None : goal.returns-in-None
returns-in-None g c =
    let calls = g.S.Source.calls c.args.source.now in
    let mode : mode_said (map string_bytes c.args.words.now) ≡ None = cc (c.mode_said.ensures.says, c.in-None.is) in
    record {
      usage = search rules;
      always = record {
        outside = search rules;
        taken = takes_nothing (g.S.Source.left c.args.source.now);
        reads = subst (λ answer. Reads (is_read_fault answer) calls calls) (sym c.unserved.ensures.answer) (reads_so_far calls calls (no_read_yet calls));
        read_fault = search rules;
        too_long = search rules;
        write_fault = search rules;
        size_once = search rules;
        size_failed = search rules;
        size_told = search rules;
        device_fault = search rules;
        unserved = search rules;
        no_loops = search rules;
        unasked = search rules;
        errors = search rules;
        eios = search rules;
      };
      in_mode = subst (EndsIn _ _ _ _ _ _) (sym mode) (record { unread = search rules; no_bells = search rules });
    }

-- image scripts

pub returns-in-Some-Image : goal.returns-in-Some-Image
returns-in-Some-Image g c =
    let answer = c.run_image.result.answer in
    let run = c.run_image.ensures in
    let served = c.run_image.result.served.items in
    let left = g.S.Source.left c.args.source.now in
    let extent = g.D.Device.extent c.args.device in
    let mode : mode_said (map string_bytes c.args.words.now) ≡ Some Image = cc (c.mode_said.ensures.says, c.in-Some-Image.is, c.in-Some-Image.field-0-is) in
    record {
      usage = search rules;
      always = search rules;
      in_mode = subst (EndsIn _ _ _ _ _ _) (sym mode) (record {
        written = run.written;
        cut = run.cut;
        carried = run.carried;
        no_bells = run.no_bells;
        fits = run.fits;
        failures = run.failures;
        bad_script = run.bad_script;
        device_fault = search rules;
        too_large = run.too_large;
        long = search rules;
        refused = λ still.
            told-each left
            (λ text. length text ≤ longest_script → (refusal : ScriptRefusal) → script_said text ≡ Err refusal → IsScriptRefusal refusal answer)
            (λ text told few refusal says.
            refused-only _ _ text told _ _ _ answer run.asked (λ fault. still (run.read_fault fault))
            run.bad_script run.too_long run.fits run.too_large run.device_fault few refusal says);
        complete = λ source_still sink_still device_still size_still.
            told-each left
            (λ text. length text ≤ longest_script → (script : Script) → script_said text ≡ Ok script → IsWholeAnswer script.image extent answer served)
            (λ text told few script says.
            whole-only _ _ text told _ _ _ served _ _ answer run.asked (λ fault. source_still (run.read_fault fault))
            (λ fault. sink_still (run.write_fault fault)) run.eios device_still size_still
            run.bad_script run.too_long run.fits run.too_large run.device_fault few script says);
      });
    }

-- loop scripts

pub returns-in-Some-Bells : goal.returns-in-Some-Bells
returns-in-Some-Bells g c =
    let answer = c.run_bells.result.answer in
    let run = c.run_bells.ensures in
    let left = g.S.Source.left c.args.source.now in
    let mode : mode_said (map string_bytes c.args.words.now) ≡ Some Bells = cc (c.mode_said.ensures.says, c.in-Some-Bells.is, c.in-Some-Bells.field-0-is) in
    record {
      usage = search rules;
      always = search rules;
      in_mode = subst (EndsIn _ _ _ _ _ _) (sym mode) (record {
        of_loop = run.of_loop;
        written = run.written;
        cut = run.cut;
        bells_are = run.bells;
        untouched = run.device;
        none_served = run.served;
        no_loops = run.loops;
        bad_script = run.bad_script;
        long = search rules;
        refused = λ still.
            told-each left
            (λ text. length text ≤ longest_script → (refusal : ScriptRefusal) → loop_script_said text ≡ Err refusal → IsScriptRefusal refusal answer)
            (λ text told few refusal says.
            refused_loop-only _ _ text told (λ text. g.K.Sink.held c.run_bells.new.sink ≡ with_piece text (g.K.Sink.held c.args.sink.now)) (AppendsFront (g.K.Sink.held c.args.sink.now) (g.K.Sink.held c.run_bells.new.sink))
            answer run.of_loop (λ fault. still (run.read_fault fault)) run.bad_script run.too_long run.written run.cut few refusal says);
        complete = λ source_still sink_still.
            told-each left
            (λ text. length text ≤ longest_script → (script : LoopScript) → loop_script_said text ≡ Ok script → LoopScriptIsDone answer)
            (λ text told few script says.
            done_loop-only _ _ text told answer run.of_loop (λ fault. source_still (run.read_fault fault)) (λ fault. sink_still (run.write_fault fault))
            run.bad_script run.too_long few script says);
      });
    }

-- the generated script

pub returns-in-Some-Generated : goal.returns-in-Some-Generated
returns-in-Some-Generated g c =
    let calls = g.S.Source.calls c.args.source.now in
    let run = c.run_generated.ensures in
    let mode : mode_said (map string_bytes c.args.words.now) ≡ Some (Generated c.in-Some-Generated.requests c.in-Some-Generated.from) = cc (c.mode_said.ensures.says, c.in-Some-Generated.is, c.in-Some-Generated.field-0-is) in
    record {
      usage = search rules;
      always = record {
        outside = record { reads = search rules; writes = run.sink_counted; faults = run.device_counted; sizes = run.sizes; extent = run.extent };
        taken = takes_nothing (g.S.Source.left c.args.source.now);
        reads = subst (λ failed. Reads failed calls calls) (sym run.no_read) (reads_so_far calls calls (no_read_yet calls));
        read_fault = search rules;
        too_long = search rules;
        write_fault = run.write_fault;
        size_once = run.size_once;
        size_failed = run.size_failed;
        size_told = run.size_told;
        device_fault = run.device_fault;
        unserved = run.unserved;
        no_loops = run.no_loops;
        unasked = search rules;
        errors = run.errors;
        eios = run.eios;
      };
      in_mode = subst (EndsIn _ _ _ _ _ _) (sym mode) (record {
        of_run = run.of_run;
        unread = search rules;
        written = run.written;
        cut = run.cut;
        no_bells = run.no_bells;
        fits = run.fits;
        failures = run.failures;
        too_large = run.too_large;
        complete = search rules;
      });
    }
