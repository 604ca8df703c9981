-- The history of a loop: the list of what was done to it, newest in front. Every fact about a loop looks back into it.
use Rattle.std.specs.Prelude.{ℕ, Bool, List}
use Rattle.aio_model.specs.declared.loops.flags.Flags.{Flags}

-- what an enqueue asks: a call, a call that need not wake the loop, an end of all calls, or the one call of a lot
pub data EnqueueAsks : Type 0 where
  ToCall : EnqueueAsks
  ToCallIdle : EnqueueAsks
  ToDelete : EnqueueAsks
  ToCallOnce : EnqueueAsks

-- an entry names the bottom half by its index, and the seat that made it by its number; the others are made by the home thread
pub data Entry : Type 0 where
  -- the seat begins a life of this lot, for a job of this number
  New : ℕ → ℕ → ℕ → Entry
  -- the seat asks this of the index, and found these flags
  Enqueue : ℕ → EnqueueAsks → ℕ → Flags → Entry
  -- the seat pushes the index
  Put : ℕ → ℕ → Entry
  -- the seat cancels the index, and found these flags
  Cancel : ℕ → ℕ → Flags → Entry
  -- all that was pushed is taken
  Take : Entry
  -- the index is dequeued, and called or not
  Dequeue : ℕ → Bool → Entry
  -- the life of this lot ends
  Free : ℕ → Entry
  -- the seat sets the event
  SetEvent : ℕ → ℕ → Entry
  -- the event is cleared, and was set or not
  ClearEvent : ℕ → Bool → Entry

abbrev pub History : Type 0
History = List Entry

-- indices below `handles` are handles, the next `lots` are lots for one-shots
pub record Sizes : Type 0 where
  pub handles : ℕ
  pub lots : ℕ
  pub events : ℕ
