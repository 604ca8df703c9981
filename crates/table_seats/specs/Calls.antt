-- When a call stands in the history, and what a join of two seats tells.
use Rattle.std.specs.Prelude.{◌≡◌, ℕ, Option, None, Some, List, [], ◌∷◌, ◌++◌}
use Rattle.table_seats.specs.Seats.{Told, IsPart, entries_of, own_entries}

abbrev pub newest_of : {E : Type 0} → List E → Option E
newest_of [] = None
newest_of (e ∷ older) = Some e

-- what was seen ends with the last entry of the call, if it made one
abbrev pub EndsWith : {E : Type 0} → List E → List E → Type 0
EndsWith [] seen = Unit {0}
EndsWith (e ∷ older) seen = newest_of seen ≡ Some e

module _ {E : Type 0} (seat_of : E → ℕ) (IsLegal : List E → Type 0) where
  -- a call under this number made just these entries: what was seen goes on, is legal, and has no other of this number
  pub record StandsInHistory (number : ℕ) (entries seen mine seen_after mine_after : List E) : Type 0 where
    pub rest : List E
    pub longer : seen_after ≡ rest ++ seen
    pub legal : IsLegal seen_after
    pub just_these : entries_of seat_of number rest ≡ entries
    pub mine_grows : mine_after ≡ entries ++ mine

  -- and what was seen ends with the last of them
  pub record StandsAtTheEnd (number : ℕ) (entries seen mine seen_after mine_after : List E) : Type 0 where
    pub stands : StandsInHistory number entries seen mine seen_after mine_after
    pub ends : EndsWith entries seen_after

  -- each of the two lists is a part of the longer one, which is legal, and in which each of the two has just the entries that it made
  pub record IsJoined (told : Told E) (seen : List E) : Type 0 where
    pub stayed : IsPart told.staying seen
    pub joined : IsPart told.joining seen
    pub legal : IsLegal seen
    pub made_by_staying : own_entries seat_of told.stays seen ≡ told.made_by_staying
    pub made_by_joining : own_entries seat_of told.joins seen ≡ told.made_by_joining
