-- Wakes that a resume asked for.
use Rattle.std.specs.Prelude.{◌≡◌, ℕ, Bool, ◌&&◌, ◌==◌, nat_lt, MatchBool, if◌then◌else◌, List, [], ◌∷◌, ◌++◌}
use Rattle.aio_chain.specs.LinkList.{contains}
use Rattle.co_state.specs.declared.cx.CoId.{CoId}
use Rattle.loop_rows.specs.declared.seats.Seats.{Seats}
use Rattle.co_loop.specs.Rows.{ChangesOne}
use Rattle.co_loop.specs.Posts.{WakesAt}

-- the queue, in which the coroutine stands once
abbrev pub queued : ℕ → List ℕ → List ℕ
queued co woken = if contains co woken then woken else woken ++ co ∷ []

-- there is such a coroutine, and such a loop
abbrev pub is_somebody : ℕ → ℕ → CoId → Bool
is_somebody n loops id = nat_lt id.co n && nat_lt id.home loops

-- what a wake changes: the queue of this loop, and the seats of the others
pub record Reach (C O : Type 0) : Type 0 where
  pub woken : List ℕ
  pub seats : List (Seats C O)

module _ {C O : Type 0} where
  abbrev pub reach : List ℕ → List (Seats C O) → Reach C O
  reach woken seats = record { woken = woken; seats = seats }

  -- one of this loop is queued, one of another is posted there, and nobody is passed over
  abbrev pub WakesOne : ℕ → ℕ → ℕ → CoId → Reach C O → Reach C O → Type 0
  WakesOne own n loops id before after =
      MatchBool (is_somebody n loops id)
      (MatchBool (id.home == own) ((after.woken ≡ queued id.co before.woken) × (after.seats ≡ before.seats)) ((after.woken ≡ before.woken) × ChangesOne id.home (WakesAt id.co) before.seats after.seats))
      (after ≡ before)

  -- these, in order
  abbrev pub WakesEach : ℕ → ℕ → ℕ → List CoId → Reach C O → Reach C O → Type 0
  WakesEach own n loops [] before after = after ≡ before
  WakesEach own n loops (id ∷ ids) before after =
      (mid : Reach C O) × WakesOne own n loops id before mid × WakesEach own n loops ids mid after
