-- How often coroutines began and moved in a run, over all of its loops.
use Rattle.std.specs.Prelude.{◌≡◌, ℕ, ◌-◌, ◌^◌, ◌<◌, min, List, length, map, sum, slice_index_or}
use Rattle.aio_model.specs.declared.scripts.image_scripts.Script.{Script}
use Rattle.co_schedule.specs.States.{states_given}
use Rattle.aio_run.specs.declared.running.RunEnd.{RunEnd}
use Rattle.aio_run.specs.Serving.{begins_of, moves_of, HasServed}

module _ {C O : Type 0} where
  -- how often one began, by the histories of all loops
  abbrev pub begun_in : List (RunEnd C O) → ℕ
  begun_in ends = sum (map (λ end. length (begins_of end.coroutines.history)) ends)

  -- how often one came from another loop
  abbrev pub moved_in : List (RunEnd C O) → ℕ
  moved_in ends = sum (map (λ end. length (moves_of end.coroutines.history)) ends)

  -- how many states came with what was scheduled
  abbrev pub states_in : List (RunEnd C O) → ℕ
  states_in ends = sum (map (λ end. states_given end.coroutines.history) ends)

  -- these are all loops of the script, each of which has served it
  pub record HaveServed (script : Script) (ends : List (RunEnd C O)) : Type 0 where
    pub many : length ends ≡ script.loops
    pub each : (k : ℕ) (end : RunEnd C O) → k < script.loops → HasServed script k (slice_index_or ends k end).coroutines.history

-- a count that stays at the greatest u32
abbrev pub count_of_moves : ℕ → ℕ
count_of_moves n = min n (2 ^ 32 - 1)
