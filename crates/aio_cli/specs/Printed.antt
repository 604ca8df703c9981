-- What is printed of a run.
use Rattle.std.specs.Prelude.{List, ℕ}
use Rattle.aio_model.specs.declared.serving.replies.Placed.{Placed}
use Rattle.aio_model.specs.declared.scripts.image_scripts.Script.{Script}
use Rattle.aio_model.specs.Serving.Asked.{asked}
use Rattle.aio_model.specs.Scripts.PrintedText.{printed_text}
use Rattle.script_generator.specs.Sums.{sums_of, sums_text}
use Rattle.aio_run.specs.declared.running.RunEnd.{RunEnd}
use Rattle.aio_run.specs.Moves.{begun_in, count_of_moves, moved_in}
use Rattle.aio_cli.specs.declared.printing.Printed.{Printed}
use Rattle.aio_cli.specs.declared.printing.Printed.TheVariants.{Replies, Sums}

-- the four lines of sums of the generated script of n requests, whose places begin at this number
abbrev pub sums_printed : {C O : Type 0} → ℕ → ℕ → List Placed → List (RunEnd C O) → List ℕ
sums_printed n from served loops = sums_text (sums_of n from (begun_in loops) (count_of_moves (moved_in loops)) served)

-- the replies of a script, or its sums
abbrev pub text_printed : {C O : Type 0} → Printed → Script → List Placed → List (RunEnd C O) → List ℕ
text_printed Replies script served loops = printed_text (asked script.lines) served
text_printed (Sums n from) script served loops = sums_printed n from served loops
