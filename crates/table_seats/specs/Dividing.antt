-- How the part of a view that is about numbers is cut in two, and put together.
use Rattle.std.specs.Prelude.{ℕ, ◌+◌, ◌-◌, ◌/◌, [], None, Some}
use Rattle.table_seats.specs.Seats.{Numbers, Told, Part, numbers_in, longer_of, own_entries}

-- the first numbers, so many, and the others
abbrev pub front_numbers : Numbers → ℕ → Numbers
front_numbers numbers cut = record { first = numbers.first; count = cut }

abbrev pub back_numbers : Numbers → ℕ → Numbers
back_numbers numbers cut = record { first = numbers.first + cut; count = numbers.count - cut }

-- the numbers of both, the other's behind the first's
abbrev pub both_numbers : Numbers → Numbers → Numbers
both_numbers numbers other = record { first = numbers.first; count = numbers.count + other.count }

-- what a join of two remembers
abbrev pub told_of : {E : Type 0} → Part E → Part E → Told E
told_of part other =
    record { staying = part.seen; joining = other.seen; stays = numbers_in part; joins = numbers_in other; made_by_staying = part.mine; made_by_joining = other.mine }

module _ {E : Type 0} (seat_of : E → ℕ) where
  -- the seat that stays has the first numbers
  abbrev pub front_part : ℕ → Part E → Part E
  front_part cut part =
      record part { count = cut; mine = own_entries seat_of (front_numbers (numbers_in part) cut) part.seen }

  -- the new one has the others
  abbrev pub back_part : ℕ → Part E → Part E
  back_part cut part =
      record { first = part.first + cut; count = part.count - cut; seen = part.seen; mine = own_entries seat_of (back_numbers (numbers_in part) cut) part.seen; told = None }

  -- the seat that stays has seen the longer of the two, and has all numbers
  abbrev pub joined_part : Part E → Part E → Part E
  joined_part part other =
      let seen = longer_of part.seen other.seen in
      record {
        first = part.first;
        count = part.count + other.count;
        seen = seen;
        mine = own_entries seat_of (both_numbers (numbers_in part) (numbers_in other)) seen;
        told = Some (told_of part other);
      }

-- what is left of the other: it owns no number, and has seen nothing
abbrev pub spent_part : {E : Type 0} → Part E
spent_part = record { first = 0; count = 0; seen = []; mine = []; told = None }

-- how many numbers go to the new seat
abbrev pub half_as_many : ℕ → ℕ
half_as_many count = count / 2
