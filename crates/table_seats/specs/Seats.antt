-- Seats over one history of entries of any kind: the numbers of each, what it has seen, and which entries are its own.
use Rattle.std.specs.Prelude.{◌≡◌, ◌≢◌, ℕ, ◌+◌, ◌<◌, ◌≤◌, Bool, true, false, not, ◌&&◌, ◌==◌, nat_lt, if◌then◌else◌, Option, None, Some, List, [], ◌∷◌, ◌++◌, length}
use mathlib.Core.Option.{some}
use lib.ListN.{get_elem?}

-- the numbers that a seat owns; the first is its own
pub record Numbers : Type 0 where
  pub first : ℕ
  pub count : ℕ

abbrev pub owns : Numbers → ℕ → Bool
owns numbers n = not (nat_lt n numbers.first) && nat_lt n (numbers.first + numbers.count)

-- the home's number
abbrev pub home : ℕ
home = 64

-- all numbers: those of seats, and the home's
abbrev pub everyone : Numbers
everyone = record { first = 0; count = 65 }

-- What was seen when two seats were last joined, and what each had made under its numbers: the one that stayed, and the other.
pub record Told (E : Type 0) : Type 0 where
  pub staying : List E
  pub joining : List E
  pub stays : Numbers
  pub joins : Numbers
  pub made_by_staying : List E
  pub made_by_joining : List E

-- the part of a view that is about numbers and the history, whatever else it knows
pub record Part (E : Type 0) : Type 0 where
  pub first : ℕ
  pub count : ℕ
  pub seen : List E
  pub mine : List E
  pub told : Option (Told E)

abbrev pub numbers_in : {E : Type 0} → Part E → Numbers
numbers_in part = record { first = part.first; count = part.count }

-- a fact of every view
abbrev pub EachView : {V : Type 0} → (V → Type 0) → List V → Type 0
EachView {V} P views = (id : ℕ) (known : V) → get_elem? views id ≡ some known → P known

-- the first list is an older part of the second
abbrev pub IsPart : {E : Type 0} → List E → List E → Type 0
IsPart {E} older history = (rest : List E) × (history ≡ rest ++ older)

abbrev pub longer_of : {E : Type 0} → List E → List E → List E
longer_of history other = if nat_lt (length history) (length other) then other else history

module _ {E : Type 0} (seat_of : E → ℕ) where
  -- the entries made under a number that passes
  abbrev pub entries_by : (ℕ → Bool) → List E → List E
  entries_by test [] = []
  entries_by test (e ∷ older) =
      if test (seat_of e) then e ∷ entries_by test older else entries_by test older

  abbrev pub entries_of : ℕ → List E → List E
  entries_of number = entries_by (λ n. n == number)

  abbrev pub own_entries : Numbers → List E → List E
  own_entries numbers = entries_by (owns numbers)

  -- the history was seen up to some entry, and in that all entries made under the numbers that pass, which are those that are listed
  pub record IsSeenBy (test : ℕ → Bool) (history seen mine : List E) : Type 0 where
    pub rest : List E
    pub longer : history ≡ rest ++ seen
    pub none_missed : entries_by test rest ≡ []
    pub mine_is : mine ≡ entries_by test seen

  -- the same of a seat, by the numbers that it owns
  abbrev pub IsSeenOf : List E → Numbers → List E → List E → Type 0
  IsSeenOf history numbers seen mine = IsSeenBy (owns numbers) history seen mine

  -- in the longer of what two joined seats had seen, the entries of each one's numbers are just those that it made
  pub record NoneMissed (told : Told E) : Type 0 where
    pub by_staying : own_entries told.stays (longer_of told.staying told.joining) ≡ told.made_by_staying
    pub by_joining : own_entries told.joins (longer_of told.staying told.joining) ≡ told.made_by_joining

  -- what two joined seats had seen are parts of the one history
  abbrev pub AreParts : List E → Option (Told E) → Type 0
  AreParts history None = Unit {0}
  AreParts history (Some told) =
      IsPart told.staying history × IsPart told.joining history × NoneMissed told

  -- what a seat knows is of the history
  pub record IsSeat (history : List E) (part : Part E) : Type 0 where
    pub seen_of : IsSeenOf history (numbers_in part) part.seen part.mine
    pub below : part.first + part.count ≤ 65
    pub told_of : AreParts history part.told

  module _ {V : Type 0} (part_of : V → Part E) where
    -- two views own no number together
    abbrev pub OwnApart : List V → Type 0
    OwnApart views =
        (id other : ℕ) (known beside : V) → get_elem? views id ≡ some known → get_elem? views other ≡ some beside → id ≢ other → (n : ℕ) → owns (numbers_in (part_of known)) n ≡ true → owns (numbers_in (part_of beside)) n ≡ false

    pub record SeatsStand (history : List E) (views : List V) : Type 0 where
      pub each : EachView (λ known. IsSeat history (part_of known)) views
      pub apart : OwnApart views
      pub all_owned : own_entries everyone history ≡ history

  -- The entry was made, behind some of others: it stands in the one history, which is legal, and what was seen goes on with it.
  pub record Makes (IsLegal : List E → Type 0) (entry : E) (before after : Part E) : Type 0 where
    pub numbered : 0 < before.count
    pub others : List E
    pub not_own : own_entries (numbers_in before) others ≡ []
    pub seen : after.seen ≡ entry ∷ (others ++ before.seen)
    pub mine : after.mine ≡ entry ∷ before.mine
    pub legal : IsLegal after.seen
