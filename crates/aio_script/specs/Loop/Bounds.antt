-- What holds of each loop script.
use Rattle.std.specs.Prelude.{ℕ, ◌<◌, ◌≤◌, length}
use Rattle.std.specs.List.{AllByRecursion}
use Rattle.aio_model.specs.declared.scripts.loop_scripts.Act.{Act}
use Rattle.aio_model.specs.declared.scripts.loop_scripts.ActKind.{ActKind}
use Rattle.aio_model.specs.declared.scripts.loop_scripts.ActKind.TheVariants as act
use Rattle.aio_model.specs.declared.scripts.loop_scripts.Command.{Command}
use Rattle.aio_model.specs.declared.scripts.loop_scripts.Command.TheVariants as command
use Rattle.aio_model.specs.declared.scripts.loop_scripts.LoopScript.{LoopScript}
use Rattle.aio_script.specs.Loop.Grammar.{act_count_of}

-- a call on one of the handles
abbrev pub CallsHandle : ℕ → ActKind → Type 0
CallsHandle handles (act.Schedule j) = j < handles
CallsHandle handles (act.Idle j) = j < handles
CallsHandle handles (act.Delete j) = j < handles
CallsHandle handles (act.Cancel j) = j < handles
CallsHandle handles act.Nest = Unit {0}

-- an action of one of the callbacks
pub record IsActWithin (handles : ℕ) (a : Act) : Type 0 where
  pub of : a.bh < handles
  pub calls : CallsHandle handles a.what

-- a command on one of the handles or events, or with a tag of at most 999
abbrev pub IsCommandWithin : ℕ → ℕ → Command → Type 0
IsCommandWithin handles events (command.Schedule i) = i < handles
IsCommandWithin handles events (command.Idle i) = i < handles
IsCommandWithin handles events (command.Delete i) = i < handles
IsCommandWithin handles events (command.Cancel i) = i < handles
IsCommandWithin handles events (command.Once tag) = tag ≤ 999
IsCommandWithin handles events command.Poll = Unit {0}
IsCommandWithin handles events command.Commit = Unit {0}
IsCommandWithin handles events (command.Set e) = e < events
IsCommandWithin handles events (command.Clear e) = e < events

pub record IsLoopBounded (script : LoopScript) : Type 0 where
  pub some_handle : 1 ≤ script.handles
  pub few_handles : script.handles ≤ 64
  pub few_lots : script.lots ≤ 64
  pub few_events : script.events ≤ 64
  pub each_act : AllByRecursion (IsActWithin script.handles) script.acts
  pub few_acts : (i : ℕ) → act_count_of i script.acts ≤ 8
  pub each_command : AllByRecursion (IsCommandWithin script.handles script.events) script.commands
  pub few_commands : length script.commands ≤ 4096
