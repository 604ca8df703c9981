-- The search for a coroutine that is left.
use Rattle.std.proofs.Common.{◌≡◌, ℕ}
use Rattle.co_schedule.specs.Known.{Known}
use Rattle.co_schedule.specs.Calls.{AreFree}

-- all below this one were looked at, and none has a mark
pub record IsLooking (start now : Known) (c : ℕ) : Type 0 where
  pub same : now ≡ record start { did = now.did }
  pub free : AreFree c start.seen
