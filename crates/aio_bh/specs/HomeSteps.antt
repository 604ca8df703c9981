-- The atomic steps that are the home's alone: how many it made, and how many its entries take.
use Rattle.std.specs.Prelude.{ℕ, ◌+◌, Bool, true, false, if◌then◌else◌, List, [], ◌∷◌}
use Rattle.aio_model.specs.Loop.History.{Take, Dequeue, Free, History}
use Rattle.aio_core.specs.Known.{Kind, TakeSwap, NextLoad, DequeueFetchAnd, LotFreeStore, Done}

abbrev pub is_of_home : Kind → Bool
is_of_home TakeSwap = true
is_of_home NextLoad = true
is_of_home DequeueFetchAnd = true
is_of_home LotFreeStore = true
is_of_home _ = false

-- how many of the steps are takes, loads of what follows an index, dequeues, or freeings of a lot
abbrev pub home_steps : List Done → ℕ
home_steps [] = 0
home_steps (step ∷ older) = if is_of_home step.kind then home_steps older + 1 else home_steps older

-- one for a take, two for a dequeue (the load of what follows it, and the clearing of its flags), and one for the freeing of a lot
abbrev pub steps_for : History → ℕ
steps_for [] = 0
steps_for (Take ∷ older) = steps_for older + 1
steps_for (Dequeue i ran ∷ older) = steps_for older + 2
steps_for (Free i ∷ older) = steps_for older + 1
steps_for (_ ∷ older) = steps_for older
