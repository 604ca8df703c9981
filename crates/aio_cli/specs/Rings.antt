-- What a loop script's run writes, and the end to which its loop comes.
use Rattle.std.specs.Prelude.{◌≡◌, ℕ, Option, None, MatchOption, List}
use Rattle.aio_model.specs.declared.scripts.loop_scripts.LoopScript.{LoopScript}
use Rattle.aio_model.specs.Loop.History.{History}
use Rattle.aio_model.specs.Scripts.LoopText.{IsLoopText}
use Rattle.bell_script.specs.Scripts.{TellsScript}
use Rattle.aio_cli.specs.Reading.{SaysLoop}
use Rattle.aio_cli.specs.declared.answer.Answer.{Answer}
use Rattle.aio_cli.specs.declared.answer.Answer.TheVariants.{Done, WriteFault, NoMemory}

-- so much of a text of the loop script was written
pub record LoopTextIsWritten (script : LoopScript) (Wrote : List ℕ → Type 0) : Type 0 where
  pub text : List ℕ
  pub is_text : IsLoopText script text
  pub wrote : Wrote text

-- A whole run. The text was all that the source had left, the loop script is the one that it says, and so much of a text
-- of it was written.
pub record RingsSaid (left_before left_now : Option (List ℕ)) (Wrote : List ℕ → Type 0) : Type 0 where
  pub script : LoopScript
  pub said : SaysLoop left_before left_now script
  pub rings : LoopTextIsWritten script Wrote

-- So much of a text was written. The history is one of the loop script that gives this text, then one poll whose callbacks do
-- nothing, and then the clearing of each event that is set, in rising order.
pub record EndsRings (script : LoopScript) (Wrote : List ℕ → Type 0) (history : History) : Type 0 where
  pub text : List ℕ
  pub tells : TellsScript script text history
  pub wrote : Wrote text

-- so it is for the loop script that the text says which was all that the source had left
pub record EndsSaid (left_before left_now : Option (List ℕ)) (Wrote : List ℕ → Type 0) (history : History) : Type 0 where
  pub script : LoopScript
  pub said : SaysLoop left_before left_now script
  pub ends : EndsRings script Wrote history

-- the end of a loop is there exactly at Done, and then this holds of it
abbrev pub AtDone : {E : Type 0} → Answer → Option E → (E → Type 0) → Type 0
AtDone Done bells P = MatchOption bells ⊥ P
AtDone answer bells P = bells ≡ None

-- an answer that can come once a loop script was read
abbrev pub IsOfBells : Answer → Type 0
IsOfBells Done = Unit {0}
IsOfBells WriteFault = Unit {0}
IsOfBells NoMemory = Unit {0}
IsOfBells answer = ⊥
