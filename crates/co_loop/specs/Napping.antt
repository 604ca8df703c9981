-- Those that sleep, and their timers.
use Rattle.std.specs.Prelude.{◌≡◌, ℕ, ℤ, pos, zero, suc, min, ◌+◌, ◌-◌, ◌^◌, Bool, true, false, List, ◌∷◌, slice_index_or, slice_set}
use Rattle.aio_model.specs.declared.timers.calls.TimerCall.{TimerCall}
use Rattle.aio_model.specs.declared.timers.calls.TimerCall.TheVariants.{Arm}
use Rattle.aio_timers.specs.StandsFor.{TimerList, StandsFor}
use Rattle.co_loop.specs.declared.naps.Nap.{Nap}
use Rattle.co_loop.specs.declared.naps.Nap.TheVariants.{Awake, Asked, Armed}

-- so many nanoseconds from now, up to the greatest time
abbrev pub expiry_after : ℕ → ℕ → ℤ
expiry_after now ns = pos (min (min (now + ns) (2 ^ 64 - 1)) (2 ^ 63 - 1))

abbrev pub is_armed_nap : Nap → Bool
is_armed_nap Armed = true
is_armed_nap _ = false

-- the coroutine sleeps until its timer expires
abbrev pub is_napping : List Nap → ℕ → Bool
is_napping naps co = is_armed_nap (slice_index_or naps co Awake)

-- who sleeps, and the timers
pub record Bed : Type 0 where
  pub naps : List Nap
  pub timers : TimerList

abbrev pub bed : List Nap → TimerList → Bed
bed naps timers = record { naps = naps; timers = timers }

-- one that asked to sleep sleeps until its timer, which was armed
abbrev pub ArmsAs : Nap → ℕ → ℕ → Bed → Bed → Type 0
ArmsAs (Asked ns) now co before after =
    (after.naps ≡ slice_set before.naps co Armed)
    × ((calls : List TimerCall) → StandsFor before.timers calls → StandsFor after.timers (Arm co (expiry_after now ns) ∷ calls))
ArmsAs Awake now co before after = after ≡ before
ArmsAs Armed now co before after = after ≡ before

abbrev pub ArmsOne : ℕ → ℕ → Bed → Bed → Type 0
ArmsOne now co before after =
    ArmsAs (slice_index_or before.naps co Awake) now co before after

-- so many, in rising order
abbrev pub ArmsEach : ℕ → ℕ → Bed → Bed → Type 0
ArmsEach now zero before after = after ≡ before
ArmsEach now (suc co) before after =
    (mid : Bed) × ArmsEach now co before mid × ArmsOne now co mid after
