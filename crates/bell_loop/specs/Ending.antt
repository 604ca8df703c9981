-- The end of a loop script's run on the shared loop.
use Rattle.std.specs.Prelude.{◌≡◌, ℕ, zero, suc, true, if◌then◌else◌, [], ◌++◌}
use Rattle.aio_model.specs.declared.scripts.loop_scripts.Command.TheVariants.{Poll}
use Rattle.aio_model.specs.declared.scripts.loop_scripts.LoopScript.{LoopScript}
use Rattle.aio_model.specs.declared.scripts.loop_replies.LoopReply.{LoopReply}
use Rattle.aio_model.specs.Loop.History.{History}
use Rattle.aio_model.specs.Loop.Log.{Log, history_of, is_set_in, cleared_log}
use Rattle.aio_model.specs.Scripts.LoopReplies.{DoesCommand, sizes_of}
use Rattle.aio_model.specs.Loop.InFlight.{AtRest}
use Rattle.aio_core.specs.Calls.{TableState, SeatState, IsSeatOf}
use Rattle.aio_notify.specs.Settling.{is_committed}
use Rattle.bell_loop.specs.Running.{IsAlone}
use Rattle.bell_loop.specs.Machines.{MachineState, KeepsLog}

-- the script, with callbacks that do nothing
abbrev pub without_acts : LoopScript → LoopScript
without_acts script = record script { acts = [] }

-- the events below this number, in rising order: each one that is set is cleared
abbrev pub clearings : ℕ → Log → Log
clearings zero log = log
clearings (suc e) log =
    let lower = clearings e log in if is_set_in e lower then cleared_log e lower else lower

-- From the log on there is one poll whose callbacks do nothing, and then each event that is set is cleared, in rising order. That is
-- the history.
pub record Ended (script : LoopScript) (log : Log) (history : History) : Type 0 where
  pub reply : LoopReply
  pub polled : Log
  pub polls : DoesCommand (without_acts script) Poll log polled reply
  pub ends : history ≡ history_of (clearings script.events polled)

-- The history is what was seen and then what an end of the run makes. Home alone made it.
pub record EndsBy (before : MachineState) (history : History) : Type 0 where
  pub alone : IsAlone history
  pub between : History
  pub longer : history ≡ between ++ before.seen
  pub at : (script : LoopScript) (log : Log) → sizes_of script ≡ before.sizes → KeepsLog before log → Ended script log history

-- What was seen went on. Where home alone made it, each log of before leads to one of after.
pub record Leads (moves : Log → Log) (before after : MachineState) : Type 0 where
  pub sizes : after.sizes ≡ before.sizes
  pub lists : after.lists ≡ before.lists
  pub between : History
  pub longer : after.seen ≡ between ++ before.seen
  pub at : IsAlone after.seen → (log : Log) → KeepsLog before log → KeepsLog after (moves log)

-- one event is cleared where it is set
abbrev pub clearing : ℕ → Log → Log
clearing e log = if is_set_in e log then cleared_log e log else log

-- home is committed, and at rest
pub record IsCommitted (table : TableState) (seat : SeatState) : Type 0 where
  pub of : IsSeatOf table seat
  pub committed : is_committed seat.known.sleep ≡ true
  pub rest : seat.known.phase ≡ AtRest
  pub first : seat.known.first ≡ 64
  pub count : seat.known.count ≡ 1
