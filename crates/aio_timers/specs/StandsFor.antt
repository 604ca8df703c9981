-- What a contract sees of a set of timers, and the lists of calls for which it stands.
use Rattle.std.specs.Prelude.{◌≡◌, ℕ, IsTrue, List, [], ◌∷◌, slice_index}
use Rattle.aio_chain.specs.LinkList.{contains}
use Rattle.aio_model.specs.declared.timers.calls.TimerCall.{TimerCall}
use Rattle.aio_model.specs.Timers.Calls.{made, is_armed, expiry, is_marked, StandsBefore}

-- how many timers there may be and are, the armed ones in order, those of them that the run is to give, and the
-- expiry of each
pub record TimerList : Type 0 where
  pub room : ℕ
  pub made : ℕ
  pub order : List ℕ
  pub due : List ℕ
  pub expiries : List ℕ

-- each timer of the list stands before all behind it
abbrev pub InOrder : List TimerCall → List ℕ → Type 0
InOrder calls [] = Unit {0}
InOrder calls (timer ∷ rest) =
    ((other : ℕ) → IsTrue (contains other rest) → StandsBefore calls timer other) × InOrder calls rest

-- the timers are as these calls left them, newest first
pub record StandsFor (timers : TimerList) (calls : List TimerCall) : Type 0 where
  pub all_made : timers.made ≡ made calls
  pub armed : (timer : ℕ) → contains timer timers.order ≡ is_armed timer calls
  pub expiries : (timer : ℕ) → IsTrue (is_armed timer calls) → slice_index timers.expiries timer ≡ expiry timer calls
  pub marked : (timer : ℕ) → contains timer timers.due ≡ is_marked timer calls
  pub in_order : InOrder calls timers.order
  pub due_in_order : InOrder calls timers.due
