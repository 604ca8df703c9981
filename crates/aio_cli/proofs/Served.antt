-- What was served, at the answers of a run.
use Rattle.std.proofs.Common.{◌≡◌, ℕ, List, Option, subst}
use Rattle.aio_model.specs.declared.serving.replies.Placed.{Placed}
use Rattle.aio_model.specs.declared.scripts.image_scripts.Script.{Script}
use Rattle.stream_ends.specs.Stops.{IsScriptServed}
use Rattle.script_generator.specs.Generated.{generated}
use Rattle.aio_run.specs.declared.running.RunEnd.{RunEnd}
use Rattle.aio_cli.specs.Generated.{RunsGenerated}
use Rattle.aio_cli.specs.Printed.{sums_printed}
use Rattle.aio_cli.specs.Run.{HaveCarried}
use Rattle.aio_cli.specs.declared.answer.Answer.{Answer}
use Rattle.aio_cli.specs.declared.answer.Answer.TheVariants.{Done, Errors, Usage, BadScript, TooLong, TooLarge, ReadFault, WriteFault, NoMemory, DeviceFault}
use Rattle.aio_cli.specs.Answers.{OnCut, OnRun, OnWritten}

pub OnWritten-both : (answer : Answer) (P Q : Type 0) → P → OnWritten answer Q → OnWritten answer (P × Q)
OnWritten-both Done P Q p q = (p, q)
OnWritten-both (Errors n) P Q p q = (p, q)
OnWritten-both Usage P Q p q = tt
OnWritten-both (BadScript refusal) P Q p q = tt
OnWritten-both TooLong P Q p q = tt
OnWritten-both (TooLarge i d) P Q p q = tt
OnWritten-both ReadFault P Q p q = tt
OnWritten-both WriteFault P Q p q = tt
OnWritten-both NoMemory P Q p q = tt
OnWritten-both DeviceFault P Q p q = tt

pub OnCut-both : (answer : Answer) (P Q : Type 0) → P → OnCut answer Q → OnCut answer (P × Q)
OnCut-both Done P Q p q = tt
OnCut-both (Errors n) P Q p q = tt
OnCut-both Usage P Q p q = tt
OnCut-both (BadScript refusal) P Q p q = tt
OnCut-both TooLong P Q p q = tt
OnCut-both (TooLarge i d) P Q p q = tt
OnCut-both ReadFault P Q p q = tt
OnCut-both WriteFault P Q p q = (p, q)
OnCut-both NoMemory P Q p q = tt
OnCut-both DeviceFault P Q p q = tt

-- The generated script was served.
module _ {C O : Type 0} (n from : ℕ) (script : Script) (is : script ≡ generated n from) (before now : Option (List ℕ)) (served : List Placed) (loops : List (RunEnd C O)) (Writes : List ℕ → Type 0) where
  runs : IsScriptServed script before now served → HaveCarried script loops → Writes (sums_printed n from served loops) → RunsGenerated n from before now served loops Writes
  runs serves carried writes =
      record { serves = subst (λ (s : Script). IsScriptServed s before now served) is serves; carried = subst (λ (s : Script). HaveCarried s loops) is carried; writes = writes }

  pub runs_written : (answer : Answer) → OnRun answer (IsScriptServed script before now served × HaveCarried script loops) → OnWritten answer (IsScriptServed script before now served × Writes (sums_printed n from served loops)) → OnWritten answer (RunsGenerated n from before now served loops Writes)
  runs_written Done ran wrote = runs ran.0 ran.1 wrote.1
  runs_written (Errors m) ran wrote = runs ran.0 ran.1 wrote.1
  runs_written Usage ran wrote = tt
  runs_written (BadScript refusal) ran wrote = tt
  runs_written TooLong ran wrote = tt
  runs_written (TooLarge i d) ran wrote = tt
  runs_written ReadFault ran wrote = tt
  runs_written WriteFault ran wrote = tt
  runs_written NoMemory ran wrote = tt
  runs_written DeviceFault ran wrote = tt

  pub runs_cut : (answer : Answer) → OnRun answer (IsScriptServed script before now served × HaveCarried script loops) → OnCut answer (IsScriptServed script before now served × Writes (sums_printed n from served loops)) → OnCut answer (RunsGenerated n from before now served loops Writes)
  runs_cut Done ran wrote = tt
  runs_cut (Errors m) ran wrote = tt
  runs_cut Usage ran wrote = tt
  runs_cut (BadScript refusal) ran wrote = tt
  runs_cut TooLong ran wrote = tt
  runs_cut (TooLarge i d) ran wrote = tt
  runs_cut ReadFault ran wrote = tt
  runs_cut WriteFault ran wrote = runs ran.0 ran.1 wrote.1
  runs_cut NoMemory ran wrote = tt
  runs_cut DeviceFault ran wrote = tt
