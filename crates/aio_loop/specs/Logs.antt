-- The entries of a turn as one list, newest first.
use Rattle.std.specs.Prelude.{◌≡◌, Bool, true, false, List, [], ◌∷◌, ◌++◌}
use Rattle.aio_loop.specs.Entering.{LoopLent, LoopEntered, ForBottom, ForReady, ForExpired, EachPasses}

-- the runner did these entries, one after another
abbrev pub RunsLog : {R : Type 0} → (R → LoopEntered → R → Type 0) → R → List LoopEntered → R → Type 0
RunsLog does before [] after = after ≡ before
RunsLog {R} does before (entered ∷ log) after =
    (mid : R) × RunsLog does before log mid × does mid entered after

abbrev pub is_bottom : LoopLent → Bool
is_bottom (ForBottom lent answer) = true
is_bottom (ForReady ready) = false
is_bottom (ForExpired id) = false

abbrev pub is_ready : LoopLent → Bool
is_ready (ForBottom lent answer) = false
is_ready (ForReady ready) = true
is_ready (ForExpired id) = false

abbrev pub is_expired : LoopLent → Bool
is_expired (ForBottom lent answer) = false
is_expired (ForReady ready) = false
is_expired (ForExpired id) = true

-- The runner did the entries of a turn, and no others: those for bottom halves, then those for handlers, then those for timers.
pub record RunsTurn {R : Type 0} (does : R → LoopEntered → R → Type 0) (before after : R) : Type 0 where
  pub bottoms : List LoopEntered
  pub for_bottoms : EachPasses (λ e. is_bottom e.what) bottoms
  pub handlers : List LoopEntered
  pub for_handlers : EachPasses (λ e. is_ready e.what) handlers
  pub timers : List LoopEntered
  pub for_timers : EachPasses (λ e. is_expired e.what) timers
  pub runs : RunsLog does before (timers ++ (handlers ++ bottoms)) after
