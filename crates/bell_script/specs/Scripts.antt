-- A whole loop script on the machine, and what is printed.
use Rattle.std.specs.Prelude.{◌≡◌, ℕ, Option, Result, List, ◌++◌}
use Rattle.std.specs.List.{flat_map}
use Rattle.aio_model.specs.declared.scripts.loop_scripts.Command.{Command}
use Rattle.aio_model.specs.declared.scripts.loop_scripts.LoopScript.{LoopScript}
use Rattle.aio_model.specs.declared.scripts.loop_replies.LoopReply.{LoopReply}
use Rattle.aio_model.specs.Loop.History.{History}
use Rattle.aio_model.specs.Scripts.LoopLines.{reply_text}
use Rattle.aio_model.specs.Loop.Log.{Log}
use Rattle.aio_model.specs.Scripts.LoopReplies.{DoesAll}
use Rattle.aio_model.specs.Scripts.LoopText.{IsTextOf}
use Rattle.aio_script.specs.declared.print.WriteFault as fault
use Rattle.aio_script.specs.Printing.{PutsOnPage, Prints}
use Rattle.bell_loop.specs.Entering.{acts_at}
use Rattle.bell_loop.specs.Running.{IsAlone, IsScriptOf}
use Rattle.bell_loop.specs.Machines.{MachineState, KeepsLog, Answers}
use Rattle.bell_loop.specs.Ending.{Ended}

-- from a log on the commands give these replies
pub record AnsweredAll (script : LoopScript) (commands : List Command) (replies : List LoopReply) (machine : MachineState) (log : Log) : Type 0 where
  pub after : Log
  pub does : DoesAll script commands log after replies
  pub stands : KeepsLog machine after

-- What was seen went on. Where home alone made it, the commands were answered so, for each script of these sizes and actions.
pub record AnswersAll (commands : List Command) (replies : List LoopReply) (before after : MachineState) : Type 0 where
  pub same : (after.sizes ≡ before.sizes) × (after.lists ≡ before.lists)
  pub between : History
  pub longer : after.seen ≡ between ++ before.seen
  pub at : IsAlone after.seen → (script : LoopScript) (log : Log) → IsScriptOf script before.sizes (acts_at before.lists) → KeepsLog before log → AnsweredAll script commands replies after log

-- The command was answered, and whatever was gathered before, the reply's line was gathered behind it, or wasn't, where the sink
-- failed.
pub record Rung (command : Command) (before after : MachineState) (page_before page_after : List ℕ) (held_before held_after : Option (List ℕ)) (faults_before faults_after : ℕ) (written result : Result Unit fault.WriteFault) : Type 0 where
  pub reply : LoopReply
  pub answers : Answers command reply before after
  pub prints : (text first : List ℕ) (held : Option (List ℕ)) (faults : ℕ) → PutsOnPage text first page_before held held_before faults faults_before written → PutsOnPage (text ++ reply_text reply) first page_after held held_after faults faults_after result

-- all of these commands were answered, and the lines of the replies gathered on a page, or a front of them printed
pub record Collects (commands : List Command) (before after : MachineState) (page_before page_after : List ℕ) (held_before held_after : Option (List ℕ)) (faults_before faults_after : ℕ) (result : Result Unit fault.WriteFault) : Type 0 where
  pub replies : List LoopReply
  pub answers : AnswersAll commands replies before after
  pub gathers : PutsOnPage (flat_map reply_text replies) page_before page_after held_before held_after faults_before faults_after result

-- all of these commands were answered, and the lines of the replies printed, whole or a front of them
pub record Writes (commands : List Command) (before after : MachineState) (held_before held_after : Option (List ℕ)) (faults_before faults_after : ℕ) (result : Result Unit fault.WriteFault) : Type 0 where
  pub replies : List LoopReply
  pub answers : AnswersAll commands replies before after
  pub prints : Prints (flat_map reply_text replies) held_before held_after faults_before faults_after result

-- The history is a loop history of the script that gives this text, then one poll whose callbacks do nothing, and then the clearing of
-- each event that is set, in rising order.
pub record TellsScript (script : LoopScript) (text : List ℕ) (history : History) : Type 0 where
  pub log : Log
  pub is_text : IsTextOf script log text
  pub ended : Ended script log history

-- a whole run: the text, so much of which was printed, is one of the script, and the history gives it
pub record RunTells (script : LoopScript) (history : History) (held_before held_after : Option (List ℕ)) (faults_before faults_after : ℕ) (result : Result Unit fault.WriteFault) : Type 0 where
  pub text : List ℕ
  pub tells : TellsScript script text history
  pub prints : Prints text held_before held_after faults_before faults_after result
