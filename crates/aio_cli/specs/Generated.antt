-- A run of the generated script.
use Rattle.std.specs.Prelude.{ℕ, List, Option}
use Rattle.aio_model.specs.declared.serving.replies.Placed.{Placed}
use Rattle.stream_ends.specs.Stops.{IsScriptServed}
use Rattle.script_generator.specs.Generated.{generated}
use Rattle.aio_run.specs.declared.running.RunEnd.{RunEnd}
use Rattle.aio_cli.specs.Printed.{sums_printed}
use Rattle.aio_cli.specs.Run.{HaveCarried}

-- The requests of the generated script of n requests, whose places begin at this number, were served, its loops carried it, and so much
-- of its sums was written.
pub record RunsGenerated {C O : Type 0} (n from : ℕ) (bytes_before bytes_now : Option (List ℕ)) (served : List Placed) (loops : List (RunEnd C O)) (Writes : List ℕ → Type 0)
    : Type 0 where
  pub serves : IsScriptServed (generated n from) bytes_before bytes_now served
  pub carried : HaveCarried (generated n from) loops
  pub writes : Writes (sums_printed n from served loops)
