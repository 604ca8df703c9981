-- A row: the seats that a loop has of all loops.
use Rattle.std.specs.Prelude.{◌≡◌, ℕ, ◌<◌, List, length, slice_index_or, slice_set}
use Rattle.loop_rows.specs.declared.shared.LoopShared.{LoopShared}
use Rattle.loop_rows.specs.declared.seats.Seats.{Seats}
use Rattle.loop_rows.specs.Posts.{IsSeated}

module _ {C O : Type 0} where
  -- the loop has a handle and an event, and so many coroutines
  pub record IsLoopOf (n : ℕ) (shared : LoopShared C O) : Type 0 where
    pub handles : 0 < shared.bottoms.sizes.handles
    pub events : 0 < shared.bottoms.sizes.events
    pub coroutines : shared.coroutines.coroutines ≡ n

  -- seats of each loop
  pub record AreSeatsOfLoops (n : ℕ) (shared : List (LoopShared C O)) (seats : List (Seats C O)) : Type 0 where
    pub long : length seats ≡ length shared
    pub loops : (k : ℕ) (t : LoopShared C O) → k < length shared → IsLoopOf n (slice_index_or shared k t)
    pub each : (k : ℕ) (t : LoopShared C O) (s : Seats C O) → k < length shared → IsSeated (slice_index_or shared k t) (slice_index_or seats k s)

  -- each loop's coroutines are of this origin
  abbrev pub AreOfOrigin : O → List (LoopShared C O) → Type 0
  AreOfOrigin origin shared =
      (k : ℕ) (t : LoopShared C O) → k < length shared → (slice_index_or shared k t).coroutines.origin ≡ origin

  -- this was done to the seats of one loop, and all others are as before
  pub record ChangesOne (to : ℕ) (does : Seats C O → Seats C O → Type 0) (before after : List (Seats C O)) : Type 0 where
    pub was : Seats C O
    pub at : (s : Seats C O) → slice_index_or before to s ≡ was
    pub is : Seats C O
    pub did : does was is
    pub rest : after ≡ slice_set before to is
