-- The frame of a poll: one take, and then turns until nothing is out, with the frames of nested polls in their bodies.
use Rattle.std.specs.Prelude.{◌≡◌, ℕ, zero, suc, ◌+◌, Bool, true, false, not, ◌&&◌, ◌||◌, if◌then◌else◌, Option, None, List, [], ◌∷◌, ◌++◌, ◌⊎◌, MatchBool}
use Rattle.aio_model.specs.Loop.History.{Sizes, Entry, Take, Dequeue, Free, ClearEvent, History}
use Rattle.aio_model.specs.Loop.Flags.{is_lot, is_idle}
use Rattle.aio_model.specs.Loop.Lists.{out_of, job_of}
use Rattle.aio_model.specs.Loop.Seats.{home, entries_of}

-- what a callback is lent at an entry; the job is there at the first entry for a lot
pub record Lent : Type 0 where
  pub bh : ℕ
  pub job : Option ℕ
  pub first : Bool
  pub nests_left : ℕ

pub data Answer : Type 0 where
  Ended : Answer
  Nests : Answer

-- an entry into the runner: what was lent and answered, and what the seat that was lent made, newest first
pub record Entered : Type 0 where
  pub lent : Lent
  pub answer : Answer
  pub made : History

-- how far a poll has come: what was seen, the entries into the runner, newest first, and whether there was progress
pub record PollPlace : Type 0 where
  pub seen : History
  pub log : List Entered
  pub progress : Bool

-- home made the entry, after some of others
pub record Makes (e : Entry) (before after : PollPlace) : Type 0 where
  pub others : History
  pub not_home : entries_of home others ≡ []
  pub seen : after.seen ≡ e ∷ (others ++ before.seen)
  pub log : after.log ≡ before.log
  pub progress : after.progress ≡ before.progress

-- home dequeued the index; there is progress where that is called and not idle
pub record Dequeues (i : ℕ) (ran : Bool) (before after : PollPlace) : Type 0 where
  pub others : History
  pub not_home : entries_of home others ≡ []
  pub seen : after.seen ≡ Dequeue i ran ∷ (others ++ before.seen)
  pub log : after.log ≡ before.log
  pub progress : after.progress ≡ (before.progress || (ran && not (is_idle i (others ++ before.seen))))

-- what a callback may do through the seat that it is lent
abbrev pub is_of_callback : Entry → Bool
is_of_callback Take = false
is_of_callback (Dequeue i ran) = false
is_of_callback (Free i) = false
is_of_callback (ClearEvent e was) = false
is_of_callback _ = true

abbrev pub are_of_callback : History → Bool
are_of_callback [] = true
are_of_callback (e ∷ older) = is_of_callback e && are_of_callback older

-- the home's seat was lent for one entry into the runner, and came back
pub record EntersRunner (lent : Lent) (answer : Answer) (before after : PollPlace) : Type 0 where
  pub between : History
  pub made : History
  pub just_these : entries_of home between ≡ made
  pub of_callback : are_of_callback made ≡ true
  pub seen : after.seen ≡ between ++ before.seen
  pub log : after.log ≡ record { lent = lent; answer = answer; made = made } ∷ before.log
  pub progress : after.progress ≡ before.progress

abbrev pub lent_of : ℕ → Option ℕ → Bool → ℕ → Lent
lent_of bh job first nests =
    record { bh = bh; job = job; first = first; nests_left = nests }

-- Each definition below takes the frames of the next depth as a relation.

-- the entries of one callback, with at most so many frames between them: where it nests and may, a frame follows and then one further entry; else it has ended
abbrev pub Body : (PollPlace → PollPlace → Type 0) → ℕ → Option ℕ → Bool → ℕ → PollPlace → PollPlace → Type 0
Body frame bh job first zero before after =
    (answer : Answer) × EntersRunner (lent_of bh job first zero) answer before after
Body frame bh job first (suc nests) before after =
    EntersRunner (lent_of bh job first (suc nests)) Ended before after ⊎ ((asked : PollPlace) × (back : PollPlace) × EntersRunner (lent_of bh job first (suc nests)) Nests before asked × frame asked back × Body frame bh None false nests back after)

-- the first of out is dequeued, called or not, and freed if it is a lot
pub record Turn (sizes : Sizes) (frame : PollPlace → PollPlace → Type 0) (nests : ℕ) (before after : PollPlace) : Type 0 where
  pub index : ℕ
  pub ran : Bool
  pub dequeued : PollPlace
  pub ended : PollPlace
  pub dequeue : Dequeues index ran before dequeued
  pub body : MatchBool ran (Body frame index (if is_lot sizes index then job_of index dequeued.seen else None) true nests dequeued ended) (ended ≡ dequeued)
  pub free : MatchBool (is_lot sizes index) (Makes (Free index) ended after) (after ≡ ended)

-- so many turns, one after another
abbrev pub Turns : Sizes → (PollPlace → PollPlace → Type 0) → ℕ → ℕ → PollPlace → PollPlace → Type 0
Turns sizes frame nests zero before after = after ≡ before
Turns sizes frame nests (suc more) before after =
    (mid : PollPlace) × Turn sizes frame nests before mid × Turns sizes frame nests more mid after

-- one take, and then turns until nothing is out
pub record TakesAndTurns (sizes : Sizes) (frame : PollPlace → PollPlace → Type 0) (nests : ℕ) (before after : PollPlace) : Type 0 where
  pub taken : PollPlace
  pub count : ℕ
  pub take : Makes Take before taken
  pub turns : Turns sizes frame nests count taken after
  pub none_out : out_of after.seen ≡ []

-- a callback may nest four times, and not at all where no depth is left
abbrev pub nests_above : ℕ → ℕ
nests_above zero = 0
nests_above (suc deeper) = 4

-- the frame of a poll with so many depths left, its own among them
unfoldable pub Frame : Sizes → ℕ → PollPlace → PollPlace → Type 0
Frame sizes zero before after = ⊥
Frame sizes (suc deeper) before after =
    TakesAndTurns sizes (Frame sizes deeper) (nests_above deeper) before after

-- where a poll begins
abbrev pub start_of : History → PollPlace
start_of seen = record { seen = seen; log = []; progress = false }

-- the runner does these entries, newest first, and no others
abbrev pub DoesEntries : {R : Type 0} → (R → Entered → R → Type 0) → R → List Entered → R → Type 0
DoesEntries does before [] after = after ≡ before
DoesEntries {R} does before (entered ∷ older) after =
    (mid : R) × DoesEntries does before older mid × does mid entered after

-- how many callbacks were called, nested ones included
abbrev pub ran_of : List Entered → ℕ
ran_of [] = 0
ran_of (entered ∷ older) = (if entered.lent.first then 1 else 0) + ran_of older

abbrev pub is_cut : Answer → ℕ → Bool
is_cut Nests zero = true
is_cut _ _ = false

-- how often a callback would nest and might not
abbrev pub cut_nests_of : List Entered → ℕ
cut_nests_of [] = 0
cut_nests_of (entered ∷ older) =
    (if is_cut entered.answer entered.lent.nests_left then 1 else 0) + cut_nests_of older

-- what was called, in order of the first entries
abbrev pub called_of : List Entered → List Lent
called_of [] = []
called_of (entered ∷ older) =
    if entered.lent.first then called_of older ++ entered.lent ∷ [] else called_of older
