-- What a run of the program does, from the text that it reads to the text that it writes.
use Rattle.std.specs.Prelude.{◌≡◌, ◌<◌, ℕ, List, length, slice_index_or, Option}
use Rattle.std.specs.List.{AllByRecursion}
use Rattle.aio_model.specs.declared.serving.replies.Placed.{Placed}
use Rattle.aio_model.specs.declared.scripts.image_scripts.Script.{Script}
use Rattle.aio_model.specs.Serving.Asked.{asked}
use Rattle.aio_model.specs.Scripts.PrintedText.{printed_text}
use Rattle.stream_ends.specs.Stops.{IsScriptServed}
use Rattle.aio_run.specs.declared.running.RunEnd.{RunEnd}
use Rattle.aio_run.specs.Ends.{IsOver}
use Rattle.aio_run.specs.Readiness.{coroutines_of}
use Rattle.aio_run.specs.Serving.{HasServed}
use Rattle.aio_run.specs.Turned.{HasTurned}
use Rattle.aio_cli.specs.Reading.{Says}

-- A whole run. The text was all that the source had left, the script is the one that it says, its requests were
-- served, and of their printed text this much was written.
pub record RunsScript (left_before left_now bytes_before bytes_now : Option (List ℕ)) (served : List Placed) (Writes : List ℕ → Type 0)
    : Type 0 where
  pub script : Script
  pub said : Says left_before left_now script
  pub serves : IsScriptServed script bytes_before bytes_now served
  pub writes : Writes (printed_text (asked script.lines) served)

-- These are a script's loops in their order, each carried to its end. Just the streams of its home began on each, once, and its own
-- history says that they were called, and that its run was ended.
pub record HaveCarried {C O : Type 0} (script : Script) (loops : List (RunEnd C O)) : Type 0 where
  pub many : length loops ≡ script.loops
  pub over : AllByRecursion (λ end. IsOver (coroutines_of script) end.calls.known end.coroutines) loops
  pub began : (k : ℕ) (end : RunEnd C O) → k < script.loops → HasServed script k (slice_index_or loops k end).coroutines.history
  pub turned : (k : ℕ) (end : RunEnd C O) → k < script.loops → HasTurned script k (slice_index_or loops k end).calls.known.seen

-- The same run at its loops: they carried the script that the text says, and its requests were served.
pub record RunsOnLoops {C O : Type 0} (left_before left_now bytes_before bytes_now : Option (List ℕ)) (served : List Placed) (loops : List (RunEnd C O))
    : Type 0 where
  pub script : Script
  pub said : Says left_before left_now script
  pub serves : IsScriptServed script bytes_before bytes_now served
  pub carried : HaveCarried script loops
