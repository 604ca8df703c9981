-- A wake through the seats of a loop.
use Rattle.std.specs.Prelude.{◌⊎◌, ℕ, false}
use Rattle.aio_model.specs.declared.coroutines.causes.Cause.TheVariants.{Wake}
use Rattle.loop_rows.specs.declared.seats.Seats.{Seats}
use Rattle.loop_rows.specs.Posts.{Posts, FindsMarked}

-- the coroutine was scheduled for a wake, or had a mark
abbrev pub WakesAt : {C O : Type 0} → ℕ → Seats C O → Seats C O → Type 0
WakesAt co before after =
    Posts co Wake false before after ⊎ ((mark : ℕ) × FindsMarked co mark before after)
