-- What one answer to a doorbell does to the devices.
use Rattle.std.specs.Prelude.{◌≡◌, ℕ, ◌<◌, ◌≤◌, ◌+◌, ◌-◌, ◌^◌, Bool, true, false, not, ◌&&◌, ◌==◌, if◌then◌else◌, List, [], length, get_or}
use Rattle.aio_model.specs.declared.loops.flags.Flags.{Flags}
use Rattle.aio_model.specs.Loop.History.{ToCall, History}
use Rattle.aio_model.specs.Loop.Frame.{Entered}
use Rattle.aio_bh.specs.Enqueuing.{enqueue_entries}
use Rattle.aio_model.specs.Counts.{one_more}

-- the ring is a new one: its doorbell was neither pending nor deleted
abbrev pub is_new : Flags → Bool
is_new flags = not flags.pending && not flags.deleted

-- how often the doorbell was answered
abbrev pub count_of : List ℕ → ℕ → ℕ
count_of answered bell = get_or answered bell 0

-- the entry answers this doorbell
abbrev pub answers : ℕ → Entered → Bool
answers bell entered = entered.lent.first && (bell == entered.lent.bh)

-- where this is the doorbell whose device rings another, that one was rung, and a new ring is counted; else nothing was made
abbrev pub PassesOn : Bool → ℕ → History → ℕ → ℕ → Type 0
PassesOn false to made passed passed_after = (made ≡ []) × (passed_after ≡ passed)
PassesOn true to made passed passed_after =
    (found : Flags) × (made ≡ enqueue_entries to ToCall 64 found) × (passed_after ≡ (if is_new found then one_more passed else passed))

-- the doorbell that is answered is counted, and no other
pub record CountsOne (entered : Entered) (before after : List ℕ) : Type 0 where
  pub long : length after ≡ length before
  pub each : (bell : ℕ) → bell < length before → count_of after bell ≡ (if answers bell entered then one_more (count_of before bell) else count_of before bell)

-- the devices have a count for each handle, and the doorbell that is rung by one of them is a handle
pub record AreFit (handles : ℕ) (answered : List ℕ) (to : ℕ) : Type 0 where
  pub counts : handles ≤ length answered
  pub to_handle : to < handles
