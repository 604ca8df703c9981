-- Which histories are legal: each entry agrees with the entries before it.
use Rattle.std.specs.Prelude.{◌≡◌, ℕ, ◌<◌, true, false, Some, [], ◌∷◌}
use Rattle.aio_model.specs.Loop.History.{EnqueueAsks, ToCallOnce, Entry, New, Enqueue, Put, Cancel, Take, Dequeue, Free, SetEvent, ClearEvent, History, Sizes}
use Rattle.aio_model.specs.Loop.Flags.{has_life, lives, is_lot, was_dequeued, flags_of, is_due}
use Rattle.aio_model.specs.Loop.Lists.{is_announced, announcer_of, claimer_of, out_of, head_of, is_set}

-- this seat may ask this of the index: a one-shot is asked of a lot by the seat that began its life, and once; all else of handles
abbrev pub MayAsk : Sizes → ℕ → EnqueueAsks → ℕ → History → Type 0
MayAsk sizes i ToCallOnce seat before = (is_lot sizes i ≡ true) × (claimer_of i before ≡ Some seat)
MayAsk sizes i _ seat before = i < sizes.handles

-- the entry may come next
abbrev pub MayFollow : Sizes → Entry → History → Type 0
MayFollow sizes (New i seat job) before = (is_lot sizes i ≡ true) × (lives i before ≡ false)
MayFollow sizes (Enqueue i asked seat was) before =
    (has_life sizes i before ≡ true) × (was ≡ flags_of i before) × MayAsk sizes i asked seat before
MayFollow sizes (Put i seat) before =
    (is_announced i before ≡ true) × (announcer_of i before ≡ Some seat)
MayFollow sizes (Cancel i seat was) before = (i < sizes.handles) × (was ≡ flags_of i before)
MayFollow sizes (Dequeue i ran) before =
    (head_of (out_of before) ≡ Some i) × (ran ≡ is_due i before)
MayFollow sizes (Free i) before =
    (is_lot sizes i ≡ true) × (lives i before ≡ true) × (was_dequeued i before ≡ true)
MayFollow sizes (ClearEvent e was) before = was ≡ is_set e before
MayFollow sizes Take before = Unit {0}
MayFollow sizes (SetEvent e seat) before = Unit {0}

abbrev pub IsLegal : Sizes → History → Type 0
IsLegal sizes [] = Unit {0}
IsLegal sizes (e ∷ before) = MayFollow sizes e before × IsLegal sizes before
