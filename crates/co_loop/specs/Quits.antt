-- The quit mark, carried out.
use Rattle.std.specs.Prelude.{◌≡◌, ℕ, ◌<◌, ◌≤◌, List, length, slice_index_or}
use Rattle.aio_model.specs.Loop.History.{SetEvent}
use Rattle.aio_core.specs.Standing.{Makes}
use Rattle.aio_notify.specs.Setting.{SetsAndNotifies}
use Rattle.loop_rows.specs.declared.seats.Seats.{Seats}

module _ {C O : Type 0} where
  -- event 0 of the loop was set, and its home notified
  pub record SetsEnd (before after : Seats C O) : Type 0 where
    pub steps : SetsAndNotifies 0 before.bottoms.known after.bottoms.known
    pub makes : Makes (SetEvent 0 before.bottoms.known.first) before.bottoms.known after.bottoms.known
    pub rest : after.bottoms.known ≡ record before.bottoms.known { seen = after.bottoms.known.seen; mine = after.bottoms.known.mine; did = after.bottoms.known.did }
    pub same : after.coroutines ≡ before.coroutines

  -- that of each loop before this one, and none of the others
  pub record SetsEnds (upto : ℕ) (before after : List (Seats C O)) : Type 0 where
    pub long : length after ≡ length before
    pub set : (k : ℕ) (s : Seats C O) → k < upto → SetsEnd (slice_index_or before k s) (slice_index_or after k s)
    pub rest : (k : ℕ) (s : Seats C O) → upto ≤ k → slice_index_or after k s ≡ slice_index_or before k s
