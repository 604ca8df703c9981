-- The laws of legal histories.
use Rattle.std.specs.Prelude.{◌≡◌, ℕ, ◌+◌, Bool, true, false, ◌||◌, ◌==◌, List, [], ◌∷◌, ◌++◌}
use Rattle.aio_model.specs.declared.loops.flags.Flags.{Flags}
use Rattle.aio_model.specs.Loop.FlagsWord.{bit}
use Rattle.aio_model.specs.Loop.History.{Sizes, ToDelete, Entry, Enqueue, Dequeue, History}
use Rattle.aio_model.specs.Loop.Flags.{is_pending, was_scheduled, is_scheduling, enqueues, asks, ends_life}
use Rattle.aio_model.specs.Loop.Lists.{is_announced, stack_of, out_of}
use Rattle.aio_model.specs.Loop.Legal.{IsLegal}

-- how often the index stands in the list
abbrev pub times_of : ℕ → List ℕ → ℕ
times_of i [] = 0
times_of i (j ∷ rest) = bit (i == j) + times_of i rest

-- an index that isn't pending is neither announced nor in the stack nor in out; one that is stands once in one of the three
abbrev pub IsAnnouncedOnce : Type 0
IsAnnouncedOnce =
    (sizes : Sizes) (history : History) (i : ℕ) → IsLegal sizes history → bit (is_announced i history) + times_of i (stack_of history) + times_of i (out_of history) ≡ bit (is_pending i history)

-- some of these entries passes
abbrev pub some_entry : (Entry → Bool) → History → Bool
some_entry test [] = false
some_entry test (e ∷ older) = test e || some_entry test older

-- between two dequeues of an index stands an enqueue of it; where the second called, the round that it ended has one of a scheduling kind, which stands there too
abbrev pub IsEnqueuedBetween : Type 0
IsEnqueuedBetween =
    (sizes : Sizes) (newer between older : History) (i : ℕ) (second first : Bool) → IsLegal sizes (newer ++ (Dequeue i second ∷ (between ++ (Dequeue i first ∷ older)))) → (some_entry (enqueues i) between ≡ true) × (second ≡ true → (was_scheduled i (between ++ (Dequeue i first ∷ older)) ≡ true) × (some_entry (asks is_scheduling i) between ≡ true))

-- after a deletion no dequeue of the same life calls
abbrev pub IsNeverCalledDeleted : Type 0
IsNeverCalledDeleted =
    (sizes : Sizes) (newer between older : History) (i seat : ℕ) (was : Flags) (ran : Bool) → IsLegal sizes (newer ++ (Dequeue i ran ∷ (between ++ (Enqueue i ToDelete seat was ∷ older)))) → some_entry (ends_life i) between ≡ false → ran ≡ false

-- what is older than any entry of a legal history is legal
abbrev pub IsLegalCutAnywhere : Type 0
IsLegalCutAnywhere =
    (sizes : Sizes) (newer older : History) → IsLegal sizes (newer ++ older) → IsLegal sizes older
