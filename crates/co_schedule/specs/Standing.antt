-- What one step makes of what a seat knows.
use Rattle.std.specs.Prelude.{◌≡◌, ◌≢◌, ℕ, ◌≤◌, ◌<◌, Bool, false, ◌==◌, ◌||◌, None, Some, List, [], ◌∷◌, ◌++◌, length}
use Rattle.table_seats.specs.Seats.{Makes as makes_part, own_entries}
use Rattle.aio_model.specs.declared.coroutines.causes.Cause.{Cause}
use Rattle.aio_model.specs.Coroutines.History.{Entry, Schedule, Push, Enter, History, seat_of, Pushed, co_place_of, queue_of, IsLegal}
use Rattle.co_schedule.specs.Words.{head_at, mark_at, mark_of, next_at}
use Rattle.co_schedule.specs.Known.{Kind, MarkCompare, HeadLoad, NextStore, HeadCompare, TakeSwap, NextLoad, MarkLoad, MarkClear, Done, AtRest, Marked, HeadLoaded, Linked, Known, part_of, numbers_of}

abbrev pub done : Kind → ℕ → ℕ → Done
done kind word found = record { kind = kind; word = word; found = found }

abbrev pub Makes : Entry → Known → Known → Type 0
Makes entry before after =
    makes_part seat_of (IsLegal before.coroutines) entry (part_of before) (part_of after)

-- the coroutine was scheduled
pub record Schedules (c : ℕ) (cause : Cause) (given : Bool) (before after : Known) : Type 0 where
  pub makes : Makes (Schedule c cause given before.first) before after
  pub rest : after ≡ record before { seen = after.seen; mine = after.mine; did = done MarkCompare (mark_at c) 0 ∷ before.did; phase = Marked c given }

-- a step that only looked
pub record Looks (kind : Kind) (word found : ℕ) (before after : Known) : Type 0 where
  pub rest : after ≡ record before { did = done kind word found ∷ before.did }

-- the coroutine was scheduled by one of these entries
abbrev pub was_scheduled_by : ℕ → List Entry → Bool
was_scheduled_by c [] = false
was_scheduled_by c (Schedule d cause given seat ∷ older) = (c == d) || was_scheduled_by c older
was_scheduled_by c (Push d seat ∷ older) = was_scheduled_by c older
was_scheduled_by c (Enter d ∷ older) = was_scheduled_by c older

-- The mark is the coroutine's in the history of that step, which is what was seen and then some of others: the seat's own entries in it
-- are just those that it made.
pub record IsMarkOf (c mark : ℕ) (before : Known) : Type 0 where
  pub others : History
  pub own : own_entries seat_of (numbers_of before) (others ++ before.seen) ≡ before.mine
  pub legal : IsLegal before.coroutines (others ++ before.seen)
  pub mark_is : mark ≡ mark_of (co_place_of c (others ++ before.seen))

pub record HeadIsLoaded (c : ℕ) (given : Bool) (found : ℕ) (before after : Known) : Type 0 where
  pub below : c < before.coroutines
  pub rest : after ≡ record before { did = done HeadLoad head_at found ∷ before.did; phase = HeadLoaded c given found }

pub record NextIsStored (c : ℕ) (given : Bool) (found : ℕ) (before after : Known) : Type 0 where
  pub rest : after ≡ record before { did = done NextStore (next_at c) found ∷ before.did; phase = Linked c given found }

pub record Pushes (c found : ℕ) (before after : Known) : Type 0 where
  pub makes : Makes (Push c before.first) before after
  pub rest : after ≡ record before { seen = after.seen; mine = after.mine; did = done HeadCompare head_at found ∷ before.did; phase = AtRest }

pub record Misses (c : ℕ) (given : Bool) (found : ℕ) (before after : Known) : Type 0 where
  pub rest : after ≡ record before { did = done HeadCompare head_at found ∷ before.did; phase = Marked c given }

-- All that was pushed and not entered was taken. Home has then seen all, and so it sees what that was.
pub record Takes (found : ℕ) (before after : Known) : Type 0 where
  pub others : History
  pub not_own : own_entries seat_of (numbers_of before) others ≡ []
  pub seen : after.seen ≡ others ++ before.seen
  pub legal : IsLegal before.coroutines after.seen
  pub taken : after.stage.taken ≡ queue_of after.seen
  pub few : length after.stage.taken ≤ before.coroutines
  pub below : found ≤ before.coroutines
  pub more : 0 < found → 0 < length after.stage.taken
  pub ends : found ≡ 0 → after.stage.taken ≡ []
  pub rest : after ≡ record before { seen = after.seen; did = done TakeSwap head_at found ∷ before.did; stage = record before.stage { taken = after.stage.taken; word = found; run = [] } }

-- the walk came to this one, and loaded what follows it
pub record WalksOn (c found : ℕ) (before after : Known) : Type 0 where
  pub below : found ≤ before.coroutines
  pub more : 0 < found → length after.stage.run < length after.stage.taken
  pub ends : found ≡ 0 → after.stage.taken ≡ after.stage.run
  pub rest : after ≡ record before { did = done NextLoad (next_at c) found ∷ before.did; stage = record before.stage { word = found; run = c ∷ before.stage.run } }

-- home has the state of its first one, if there is one
pub record Opens (c found : ℕ) (given : Bool) (before after : Known) : Type 0 where
  pub rest : after ≡ record before { did = done MarkLoad (mark_at c) found ∷ before.did; stage = record before.stage { hand = Some c; given = given } }

-- the first one is entered; with it came a state exactly where its schedule gave one
pub record IsFirstEntered (c : ℕ) (more : List ℕ) (before after : Known) : Type 0 where
  pub makes : Makes (Enter c) before after
  pub scheduler : ℕ
  pub was : co_place_of c (makes.others ++ before.seen) ≡ Pushed scheduler before.stage.given
  pub rest : after ≡ record before { seen = after.seen; mine = after.mine; did = done MarkClear (mark_at c) 0 ∷ before.did; stage = record before.stage { taken = more; run = more; hand = None } }

-- Calls.

-- the first coroutine was entered: its mark was loaded and then cleared
pub record BeginsFirst (c : ℕ) (given : Bool) (more : List ℕ) (before after : Known) : Type 0 where
  pub found : ℕ
  pub opened : Known
  pub opens : Opens c found given before opened
  pub enters : IsFirstEntered c more opened after

-- one try to push
abbrev pub tried : ℕ → ℕ → ℕ → List Done
tried c head found =
    done HeadCompare head_at found ∷ done NextStore (next_at c) head ∷ done HeadLoad head_at head ∷ []

pub record PushesOnce (c : ℕ) (before after : Known) : Type 0 where
  pub found : ℕ
  pub makes : Makes (Push c before.first) before after
  pub rest : after ≡ record before { seen = after.seen; mine = after.mine; did = tried c found found ++ before.did; phase = AtRest }

pub record MissesOnce (c : ℕ) (before after : Known) : Type 0 where
  pub head : ℕ
  pub found : ℕ
  pub other : found ≢ head
  pub rest : after ≡ record before { did = tried c head found ++ before.did }

-- tries that missed, newest first
abbrev pub Missed : ℕ → Known → Known → List (ℕ × ℕ) → Type 0
Missed c before after [] = after ≡ before
Missed c before after (t ∷ ts) = (mid : Known) × Missed c before mid ts × (after ≡ record mid { did = tried c t.0 t.1 ++ mid.did })

pub record PushesAtLast (c : ℕ) (before after : Known) : Type 0 where
  pub tries : List (ℕ × ℕ)
  pub last : Known
  pub missed : Missed c before last tries
  pub pushes : PushesOnce c last after

pub record SchedulesAtLast (c : ℕ) (cause : Cause) (given : Bool) (before after : Known) : Type 0 where
  pub marked : Known
  pub schedules : Schedules c cause given before marked
  pub pushes : PushesAtLast c marked after

-- the walk came to these, newest first
abbrev pub Walked : Known → Known → List ℕ → Type 0
Walked before after [] = after ≡ before
Walked before after (c ∷ cs) = (mid : Known) × (found : ℕ) × Walked before mid cs × WalksOn c found mid after

-- the list was taken by one swap, and walked over
pub record TakesAll (before after : Known) : Type 0 where
  pub found : ℕ
  pub swapped : Known
  pub takes : Takes found before swapped
  pub cos : List ℕ
  pub walked : Walked swapped after cos
  pub whole : after.stage.taken ≡ queue_of swapped.seen
  pub seen : after.seen ≡ swapped.seen
  pub run : after.stage.run ≡ after.stage.taken
  pub over : after.stage.word ≡ 0
