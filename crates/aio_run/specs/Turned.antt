-- What stands in the history of a loop that served a script: that its coroutines were called, and that its run was ended.
use Rattle.std.specs.Prelude.{◌≡◌, ℕ, ◌<◌, Bool, true, false, ◌&&◌, ◌==◌, length, slice_index}
use Rattle.aio_model.specs.declared.scripts.image_scripts.Script.{Script}
use Rattle.aio_model.specs.Loop.History.{Entry, Dequeue, History}
use Rattle.aio_model.specs.Loop.Laws.{some_entry}
use Rattle.stream_ends.specs.Images.{homes_of}
use Rattle.aio_run.specs.Setting.{clears, finds_set}

-- the entry dequeues the index, which is called
abbrev pub calls : ℕ → Entry → Bool
calls i (Dequeue j ran) = (i == j) && ran
calls i _ = false

-- Where a stream has this loop as its home, handle 0 was dequeued here and called. Event 0 was cleared here, for the handler that ends the
-- loop's run, and it was found set.
pub record HasTurned (script : Script) (loop : ℕ) (history : History) : Type 0 where
  pub called : (co : ℕ) → co < length script.streams → slice_index (homes_of script.streams) co ≡ loop → some_entry (calls 0) history ≡ true
  pub cleared : some_entry (clears 0) history ≡ true
  pub found : some_entry (finds_set 0) history ≡ true
