-- Players of a lock, the one with the highest number first.
use Rattle.std.specs.Prelude.{◌≡◌, ℕ, ◌+◌, Option, Some, List}
use mathlib.Core.Option.{some}
use lib.ListN.{get_elem?}
use Rattle.co_mutex.specs.declared.lock.CoMutex.{CoMutex}
use Rattle.co_mutex.specs.Passes.{IsPassOf, known}
use Rattle.lock_tests.specs.declared.number.Number.{Number}
use Rattle.lock_tests.specs.declared.player.Player.{Player}

-- so many stand at this one or before it, if its number is so
abbrev pub IsPlayerOf : CoMutex Number ℕ ℕ → ℕ → ℕ → Player → Type 0
IsPlayerOf m count k player =
    IsPassOf m player.pass × ((known player.pass).number + k + 1 ≡ count)

abbrev pub ArePlayersOf : CoMutex Number ℕ ℕ → ℕ → List (Option Player) → Type 0
ArePlayersOf m count players =
    (k : ℕ) (player : Player) → get_elem? players k ≡ some (Some player) → IsPlayerOf m count k player
