-- An object over a stream of the process, as contracts see it.
use Rattle.std.specs.Prelude.{ℕ, List}

pub record Over (S C : Type 0) : Type 0 where
  pub stream : S
  -- how many calls failed
  pub faults : ℕ
  -- the calls, the newest first
  pub called : List C
