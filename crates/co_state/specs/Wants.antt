-- What a coroutine asks for in one resume.
use Rattle.std.specs.Prelude.{ℕ, Bool, false, List, []}
use Rattle.co_state.specs.declared.cx.CoId.{CoId}

-- whom to wake, in order, without those that were taken; how many wakes were made; whether the home is to quit
pub record Wants : Type 0 where
  pub wakes : List CoId
  pub made : ℕ
  pub quits : Bool

abbrev pub nothing_asked : Wants
nothing_asked = record { wakes = []; made = 0; quits = false }
