-- A tally behind a lock: how often each pass held it.
use Rattle.std.specs.Prelude.{ℕ, slice_index}
use Rattle.lock_tests.specs.declared.tally.Tally.{Tally}

-- how often a pass held
abbrev pub own_of : Tally → ℕ → ℕ
own_of tally p = slice_index tally.own p
