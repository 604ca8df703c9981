-- What a home does that waits for the notifier.
use Rattle.std.specs.Prelude.{◌≡◌, ℕ, zero, suc, ◌≤◌, ◌<◌, ◌+◌, ◌⊎◌, Option, None, Some}
use Rattle.aio_core.specs.Words.{notifier_at}
use Rattle.aio_core.specs.Known.{NotifierLoad, Known}
use Rattle.aio_core.specs.Standing.{Looks}

-- the notifier was loaded so often, and was not set
abbrev pub LooksInVain : ℕ → Known → Known → Type 0
LooksInVain zero before after = after ≡ before
LooksInVain (suc n) before after =
    (mid : Known) × LooksInVain n before mid × Looks NotifierLoad notifier_at 0 mid after

-- the load that was made last found the notifier set, and none before it did
pub record FindsNotifier (before after : Known) : Type 0 where
  pub looks : ℕ
  pub last : Known
  pub vain : LooksInVain looks before last
  pub set : Looks NotifierLoad notifier_at 1 last after

-- no load found the notifier set, and so much time has passed
pub record PassesTime (left start end : ℕ) (before after : Known) : Type 0 where
  pub looks : ℕ
  pub some : 0 < looks
  pub vain : LooksInVain looks before after
  pub passed : start + left ≤ end

abbrev pub WaitsUntil : ℕ → ℕ → ℕ → Known → Known → Type 0
WaitsUntil left start end before after =
    FindsNotifier before after ⊎ PassesTime left start end before after

-- without a bound only the notifier ends it
abbrev pub Waits : Option ℕ → ℕ → ℕ → Known → Known → Type 0
Waits None start end before after = FindsNotifier before after
Waits (Some left) start end before after = WaitsUntil left start end before after
