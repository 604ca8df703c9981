use Rattle.std.proofs.Common.{◌≡◌, ℕ, ◌<◌, ◌≤◌, length, get_or}
use Rattle.aio_timers.specs.Keys.{key_at}
use Rattle.aio_timers.specs.Restamping.{restamped}
use Rattle.aio_timers.proofs.stamps.restamp.Given as goal

abbrev pub invariant-loop-place : goal.invariant-loop-place
invariant-loop-place l = record {
  sized : length l.keys ≡ length l.fn.keys;
  given : (place : ℕ) → place < l.place → key_at l.keys place ≡ restamped (key_at l.fn.keys place) (get_or l.stamps place 0);
  kept : (place : ℕ) → l.place ≤ place → key_at l.keys place ≡ key_at l.fn.keys place;
}
