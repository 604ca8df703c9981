-- Loops whose run is over.
use Rattle.std.specs.Prelude.{◌≡◌, ℕ, Bool, List}
use Rattle.std.specs.List.{list_any}
use Rattle.aio_model.specs.Coroutines.History.{IsLegal}
use Rattle.aio_core.specs.Known.{Known}
use Rattle.aio_notify.specs.Settling.{IsEnd}
use Rattle.co_loop.specs.declared.working.CoWork.{CoWork}
use Rattle.co_schedule.specs.Calls.{EndState, AreFree}
use Rattle.loop_rows.specs.Opening.{loop_sizes}
use Rattle.loop_threads.specs.declared.ending.LoopRun.{LoopRun}
use Rattle.aio_run.specs.declared.running.RunEnd.{RunEnd}

-- The loop's history is whole and legal, nothing is pending in it, and no event is set; that of its coroutines is legal, and none is
-- scheduled and not entered.
pub record IsOver (coroutines : ℕ) (known : Known) (end : EndState) : Type 0 where
  pub loop : IsEnd known
  pub sizes : known.sizes ≡ loop_sizes
  pub legal : IsLegal coroutines end.history
  pub none_left : AreFree coroutines end.history

-- a coroutine of some loop has asked that the loops end
abbrev pub has_asked : {C K O : Type 0} → List (LoopRun C (CoWork C K O) O) → Bool
has_asked runs = list_any (λ run. run.work.crew.quits) runs

-- the two histories of a run
abbrev pub end_of_run : {C W O : Type 0} → LoopRun C W O → RunEnd C O
end_of_run run = record { calls = run.calls; coroutines = run.coroutines }
