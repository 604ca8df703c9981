-- What is known of one timer.
use Rattle.std.specs.Prelude.{◌≡◌, ℕ, List}
use Rattle.aio_model.specs.declared.timers.calls.TimerCall.{TimerCall}
use Rattle.aio_model.specs.declared.timers.states.TimerState.{TimerState}
use Rattle.aio_model.specs.Timers.Calls.{is_armed, is_marked, expiry, place}

-- these calls leave this of a timer
pub record Tells (state : TimerState) (timer : ℕ) (calls : List TimerCall) : Type 0 where
  pub armed : state.is_armed ≡ is_armed timer calls
  pub marked : state.is_marked ≡ is_marked timer calls
  pub expires : state.expiry ≡ expiry timer calls
  pub placed : state.place ≡ place timer calls
