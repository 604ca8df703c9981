-- What a poll does for each handle, and for what callbacks made.
use Rattle.std.specs.Prelude.{◌≡◌, ℕ, ◌<◌, ◌≤◌, suc, Bool, true, false, ◌||◌, List, [], ◌∷◌, ◌++◌, ◌⊎◌}
use Rattle.aio_model.specs.declared.loops.flags.Flags.{Flags}
use Rattle.aio_model.specs.Loop.History.{Sizes, ToCall, Enqueue, Take, History}
use Rattle.aio_model.specs.Loop.Lists.{was_put}
use Rattle.aio_model.specs.Loop.Laws.{some_entry}
use Rattle.aio_model.specs.Loop.Seats.{home, entries_of}
use Rattle.aio_model.specs.Loop.Frame.{Answer, Nests, Entered}
use Rattle.aio_model.specs.Loop.Calls.{entry_times, dequeue_times, stops, AwaitsCall}

-- it asked for a nested poll, and had one left
abbrev pub gets_nest : Answer → ℕ → Bool
gets_nest Nests (suc nests) = true
gets_nest _ _ = false

-- some entry into the runner got a nested poll
abbrev pub some_nests : List Entered → Bool
some_nests [] = false
some_nests (entered ∷ older) =
    gets_nest entered.answer entered.lent.nests_left || some_nests older

-- some entry into the runner made just these entries
abbrev pub WasMade : History → List Entered → Type 0
WasMade made [] = ⊥
WasMade made (entered ∷ older) = (entered.made ≡ made) ⊎ WasMade made older

-- they stand in the history, as all that home made of some part of it
pub record StandsWithin (made history : History) : Type 0 where
  pub newer : History
  pub between : History
  pub older : History
  pub is : history ≡ newer ++ (between ++ older)
  pub just_these : entries_of home between ≡ made

-- A poll in which no callback nests. The list was taken after some of others. Each handle was called once at most; once, where at the take it awaited its call and nobody
-- canceled or deleted it since; and not at all, where it wasn't pushed. What was enqueued since, where it wasn't pending, is not
-- dequeued before the next poll. What callbacks made stands behind the take.
pub record PollServes (sizes : Sizes) (before : History) (log : List Entered) (after : History) : Type 0 where
  pub others : History
  pub not_home : entries_of home others ≡ []
  pub later : History
  pub seen : after ≡ later ++ (Take ∷ (others ++ before))
  pub most : (i : ℕ) → i < sizes.handles → entry_times i log ≤ 1
  pub once : (i : ℕ) → i < sizes.handles → AwaitsCall i (others ++ before) → some_entry (stops i) later ≡ false → entry_times i log ≡ 1
  pub none : (i : ℕ) → i < sizes.handles → was_put i (others ++ before) ≡ false → entry_times i log ≡ 0
  pub kept : (i seat : ℕ) (was : Flags) (since older : History) → i < sizes.handles → later ≡ since ++ (Enqueue i ToCall seat was ∷ older) → was.pending ≡ false → dequeue_times i since ≡ 0
  pub made : (entries : History) → WasMade entries log → StandsWithin entries later
