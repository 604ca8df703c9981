-- What contracts see of a loop of one thread, and the logs that it stands for.
use Rattle.std.specs.Prelude.{◌≡◌, ℕ, Bool, true, false, List, slice_index_or}
use Rattle.aio_model.specs.declared.loops.flags.Flags.{Flags}
use Rattle.aio_model.specs.declared.loops.bottom_halves.BottomHalf.{BottomHalf}
use Rattle.aio_model.specs.Loop.History.{Sizes, History}
use Rattle.aio_model.specs.Loop.Flags.{lives, was_dequeued, flags_of}
use Rattle.aio_model.specs.Loop.Lists.{stack_of, out_of, is_set}
use Rattle.aio_model.specs.Loop.Legal.{IsLegal}
use Rattle.aio_model.specs.Loop.Log.{Log, history_of, is_rung}

-- the stack is newest first, and of what is out the next comes first
pub record LoopState : Type 0 where
  pub sizes : Sizes
  pub halves : List BottomHalf
  pub stack : List ℕ
  pub out : List ℕ
  pub events : List Bool
  pub rung : Bool

abbrev pub no_flags : Flags
no_flags = record { pending = false; scheduled = false; deleted = false; oneshot = false; idle = false }

abbrev pub blank : BottomHalf
blank = record { flags = no_flags; lives = false; dequeued = false }

abbrev pub half_at : ℕ → LoopState → BottomHalf
half_at i state = slice_index_or state.halves i blank

-- what a history tells of an index
abbrev pub half_of : ℕ → History → BottomHalf
half_of i history =
    record { flags = flags_of i history; lives = lives i history; dequeued = was_dequeued i history }

-- the fields tell what the history gives, which is legal
pub record StandsFor (state : LoopState) (log : Log) : Type 0 where
  pub legal : IsLegal state.sizes (history_of log)
  pub halves : (i : ℕ) → half_at i state ≡ half_of i (history_of log)
  pub stack : state.stack ≡ stack_of (history_of log)
  pub out : state.out ≡ out_of (history_of log)
  pub events : (e : ℕ) → slice_index_or state.events e false ≡ is_set e (history_of log)
  pub rung : state.rung ≡ is_rung log

-- for every log that the old state stands for, the answer is what the log gives, and the new state stands for the log with the call added
abbrev pub Follows : {A : Type 0} → LoopState → LoopState → A → (Log → A) → (Log → Log) → Type 0
Follows old new answer answer_of after =
    (log : Log) → StandsFor old log → (answer ≡ answer_of log) × StandsFor new (after log)

-- the same of a call that answers nothing
abbrev pub KeepsUp : LoopState → LoopState → (Log → Log) → Type 0
KeepsUp old new after = (log : Log) → StandsFor old log → StandsFor new (after log)

-- a lot whose life had its dequeue
pub record IsDone (state : LoopState) (lot : ℕ) : Type 0 where
  pub lives : (half_at lot state).lives ≡ true
  pub dequeued : (half_at lot state).dequeued ≡ true
  pub idle : (half_at lot state).flags.pending ≡ false
