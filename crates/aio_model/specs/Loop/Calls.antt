-- How often an index was called, and when it awaits a call.
use Rattle.std.specs.Prelude.{◌≡◌, ℕ, ◌+◌, Bool, true, false, ◌||◌, ◌==◌, if◌then◌else◌, List, [], ◌∷◌}
use Rattle.aio_model.specs.Loop.FlagsWord.{bit}
use Rattle.aio_model.specs.Loop.History.{Entry, Dequeue, History}
use Rattle.aio_model.specs.Loop.Flags.{is_scheduled, is_deleted, is_deleting, asks, cancels}
use Rattle.aio_model.specs.Loop.Lists.{was_put}
use Rattle.aio_model.specs.Loop.Frame.{Entered}

-- how many dequeues of the index there were
abbrev pub dequeue_times : ℕ → History → ℕ
dequeue_times i [] = 0
dequeue_times i (Dequeue j ran ∷ older) = bit (i == j) + dequeue_times i older
dequeue_times i (_ ∷ older) = dequeue_times i older

-- how many of them called
abbrev pub call_times : ℕ → History → ℕ
call_times i [] = 0
call_times i (Dequeue j ran ∷ older) = (if ran then bit (i == j) else 0) + call_times i older
call_times i (_ ∷ older) = call_times i older

-- one where this is a first entry for the index
abbrev pub entry_time : ℕ → Entered → ℕ
entry_time i entered = if entered.lent.first then bit (i == entered.lent.bh) else 0

-- how many first entries into the runner there were for the index
abbrev pub entry_times : ℕ → List Entered → ℕ
entry_times i [] = 0
entry_times i (entered ∷ older) = entry_time i entered + entry_times i older

-- the entry cancels or deletes the index
abbrev pub stops : ℕ → Entry → Bool
stops i entry = cancels i entry || asks is_deleting i entry

-- the index was pushed in its round, is scheduled and isn't deleted: the next poll is to call it
pub record AwaitsCall (i : ℕ) (history : History) : Type 0 where
  pub scheduled : is_scheduled i history ≡ true
  pub alive : is_deleted i history ≡ false
  pub put : was_put i history ≡ true
