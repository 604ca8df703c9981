-- A machine for loop scripts, and what its calls answer.
use Rattle.std.specs.Prelude.{◌≡◌, ℕ, Bool, false, List, [], ◌++◌, length, map, slice_index_or}
use Rattle.aio_model.specs.declared.loops.kinds.Kind as asking
use Rattle.aio_model.specs.declared.loops.kinds.Kind.TheVariants.{Sched, Idle as IdleKind, Del}
use Rattle.aio_model.specs.declared.scripts.loop_scripts.ActKind.{ActKind}
use Rattle.aio_model.specs.declared.scripts.loop_scripts.Command.{Command}
use Rattle.aio_model.specs.declared.scripts.loop_scripts.Command.TheVariants.{Schedule, Idle, Delete}
use Rattle.aio_model.specs.declared.scripts.loop_scripts.LoopScript.{LoopScript}
use Rattle.aio_model.specs.declared.scripts.loop_replies.LoopReply.{LoopReply}
use Rattle.aio_model.specs.declared.loops.ran_lists.Called.{Called}
use Rattle.aio_model.specs.Loop.History.{Sizes, History}
use Rattle.aio_model.specs.Loop.Log.{Log, history_of, is_rung}
use Rattle.aio_model.specs.Loop.Lists.{is_set}
use Rattle.aio_model.specs.Scripts.LoopActs.{Waiting}
use Rattle.aio_model.specs.Scripts.LoopReplies.{DoesCommand}
use Rattle.aio_core.specs.Calls.{TableState, SeatState, IsSeatOf, first_seat}
use Rattle.lot_pool.specs.Pools.{PoolState, PassState, IsPassOf}
use Rattle.aio_bh.specs.OneShots.{ServesHome}
use Rattle.bell_loop.specs.declared.machine.Machine.{Machine}
use Rattle.bell_loop.specs.Entering.{CanRun, acts_at}
use Rattle.bell_loop.specs.Running.{Calm, Idles, IsAlone, IsScriptOf, living_in}

pub record MachineState : Type 0 where
  pub sizes : Sizes
  pub lists : List (List ActKind)
  pub seen : History
  pub rang : Bool
  pub living : ℕ
  -- which events are set
  pub marks : List Bool

-- between two commands home idles, nothing was done by the seat of all other numbers, the pool and its passes are the loop's, and no callback waits
pub record IsBetweenCommands (table : TableState) (home others : SeatState) (pool : PoolState) (giving placing : PassState) (lists : List (List ActKind)) (waiting : Waiting) (marks : List Bool) : Type 0 where
  pub idles : Idles table home
  pub serves : ServesHome table.sizes pool giving
  pub places : IsPassOf pool placing
  pub can : CanRun table.sizes.handles lists waiting
  pub none : waiting ≡ []
  pub others_of : IsSeatOf table others
  pub others_are : others.known ≡ first_seat table.sizes
  pub marks_are : length marks ≡ table.sizes.events

-- the log has the history that was seen, and the machine keeps what it tells
pub record KeepsLog (machine : MachineState) (log : Log) : Type 0 where
  pub history : history_of log ≡ machine.seen
  pub rung : machine.rang ≡ is_rung log
  pub living : machine.living ≡ living_in machine.sizes machine.seen
  pub calm : Calm machine.seen
  pub events : (e : ℕ) → slice_index_or machine.marks e false ≡ is_set e machine.seen

-- from the log on the command does what the definition says
pub record Answered (script : LoopScript) (command : Command) (reply : LoopReply) (machine : MachineState) (log : Log) : Type 0 where
  pub after : Log
  pub does : DoesCommand script command log after reply
  pub stands : KeepsLog machine after

-- What was seen went on. Where home alone made it, the command was answered so, for each script of these sizes and actions.
pub record Answers (command : Command) (reply : LoopReply) (before after : MachineState) : Type 0 where
  pub same : (after.sizes ≡ before.sizes) × (after.lists ≡ before.lists)
  pub between : History
  pub longer : after.seen ≡ between ++ before.seen
  pub at : IsAlone after.seen → (script : LoopScript) (log : Log) → IsScriptOf script before.sizes (acts_at before.lists) → KeepsLog before log → Answered script command reply after log

-- nothing was done yet
pub record IsNew (sizes : Sizes) (lists : List (List ActKind)) (machine : MachineState) : Type 0 where
  pub sizes_are : machine.sizes ≡ sizes
  pub lists_are : machine.lists ≡ lists
  pub empty : KeepsLog machine []

abbrev pub enqueue_command : asking.Kind → ℕ → Command
enqueue_command Sched i = Schedule i
enqueue_command IdleKind i = Idle i
enqueue_command Del i = Delete i

-- what a machine stands for
abbrev pub machine_state_of : {R : Type 0} → Machine R → MachineState
machine_state_of machine =
    record { sizes = machine.table.sizes; lists = map (λ l. l.items) machine.callbacks.lists.now; seen = machine.home.seat.known.seen; rang = machine.callbacks.rang; living = machine.living; marks = machine.marks }

-- it may do a command
abbrev pub Ready : {R : Type 0} → Machine R → Type 0
Ready machine =
    IsBetweenCommands machine.table machine.home.seat machine.others machine.pool machine.giving machine.placing (map (λ l. l.items) machine.callbacks.lists.now) machine.callbacks.waiting machine.marks

-- who was called in the last poll, and how many besides
abbrev pub ran_in : {R : Type 0} → Machine R → List Called
ran_in machine = machine.callbacks.ran

abbrev pub more_in : {R : Type 0} → Machine R → ℕ
more_in machine = machine.callbacks.more
