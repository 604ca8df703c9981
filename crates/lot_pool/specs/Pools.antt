-- What contracts see of a pool and of a pass.
use Rattle.std.specs.Prelude.{◌≡◌, ℕ, zero, suc, ◌+◌, ◌-◌, ◌<◌, ◌≤◌, max, false, Bool, List, [], ◌∷◌, ◌++◌, replicate, length, get_or, set, not, if◌then◌else◌, MatchBool, count_by}
use Rattle.atomic_table.specs.Seated.{TableId}
use Rattle.crossbeam_queue.specs.Fifo.{Held}
use Rattle.lot_pool.specs.declared.view.PoolView.{PoolView}
use Rattle.lot_pool.specs.declared.view.PoolStep.TheVariants.{Pushed, FoundEmpty, FoundFull}
use Rattle.lot_pool.specs.PoolRule.{StandsBeside, stepped, filled_with}

-- which queue it is, and the handles and lots of its loop
pub record PoolState : Type 0 where
  pub queue : TableId
  pub handles : ℕ
  pub lots : ℕ

-- the queue of a pass, the numbers that it owns, what it knows, and which lots it keeps
pub record PassState : Type 0 where
  pub queue : TableId
  pub first : ℕ
  pub count : ℕ
  pub known : PoolView
  pub keeps : List Bool

-- so many indices, from one on, in rising order
abbrev pub indices_from : ℕ → ℕ → List ℕ
indices_from first zero = []
indices_from first (suc count) = indices_from first count ++ (first + count) ∷ []

-- the lots of a loop
abbrev pub lots_of : PoolState → List ℕ
lots_of pool = indices_from pool.handles pool.lots

abbrev pub IsLot : PoolState → ℕ → Type 0
IsLot pool lot = (pool.handles ≤ lot) × (lot < pool.handles + pool.lots)

-- how many items the queue has room for
abbrev pub room_of : ℕ → ℕ
room_of lots = max lots 1

-- the pass is of the pool, whose queue was filled with the lots
pub record IsPassOf (pool : PoolState) (pass : PassState) : Type 0 where
  pub queues : pass.queue ≡ pool.queue
  pub filled : pass.known.opening ≡ false
  pub lots : pass.known.lots ≡ lots_of pool

-- it is the pool's home pass, which has room to keep each lot
pub record IsHomeOf (pool : PoolState) (pass : PassState) : Type 0 where
  pub of : IsPassOf pool pass
  pub number : (pass.first ≡ 64) × (pass.count ≡ 1)
  pub room : length pass.keeps ≡ pool.lots

-- the same pass, which knows this now
abbrev pub knows : PoolView → PassState → PassState
knows known pass = record pass { known = known }

-- a new pool: the queue holds each lot once, in rising order, and no pass has done anything
pub record IsNew (handles lots : ℕ) (pool : PoolState) (home pass : PassState) : Type 0 where
  pub sizes : (pool.handles ≡ handles) × (pool.lots ≡ lots)
  pub new_home : home ≡ record { queue = pool.queue; first = 64; count = 1; known = filled_with (lots_of pool); keeps = replicate lots false }
  pub new_pass : pass ≡ record { queue = pool.queue; first = 0; count = 64; known = filled_with (lots_of pool); keeps = [] }

-- the queue was found empty
pub record FindsEmpty (before after : PassState) : Type 0 where
  pub noted : after ≡ knows (stepped FoundEmpty before.known) before
  pub empty : Held 0 (StandsBeside before.known)

-- the queue was found full
pub record FindsFull (room : ℕ) (before after : PassState) : Type 0 where
  pub noted : after ≡ knows (stepped FoundFull before.known) before
  pub full : Held room (StandsBeside before.known)

-- One lot was given back: it was pushed, or the queue was found full. The pass keeps it exactly in that case.
pub record GivesBack (pool : PoolState) (lot : ℕ) (before after : PassState) : Type 0 where
  pub pushed : Bool
  pub tried : PassState
  pub push : MatchBool pushed (tried ≡ knows (stepped (Pushed lot) before.known) before) (FindsFull (room_of pool.lots) before tried)
  pub kept : after ≡ record tried { keeps = set tried.keeps (lot - pool.handles) (not pushed) }

-- each of these lots was given back once, newest first, and nothing else was done with the queue
abbrev pub GivesAll : PoolState → List ℕ → PassState → PassState → Type 0
GivesAll pool [] before after = after ≡ before
GivesAll pool (lot ∷ older) before after =
    (mid : PassState) × GivesAll pool older before mid × GivesBack pool lot mid after

-- how many lots the pass keeps
abbrev pub kept_count : List Bool → ℕ
kept_count keeps = count_by (λ mark. mark) keeps

-- which of so many first lots these marks keep, the last one first
abbrev pub kept_among : ℕ → ℕ → List Bool → List ℕ
kept_among handles zero keeps = []
kept_among handles (suc count) keeps =
    if get_or keeps count false then (handles + count) ∷ kept_among handles count keeps else kept_among handles count keeps

-- the lots that the pass keeps, the last one first
abbrev pub kept_lots : PoolState → PassState → List ℕ
kept_lots pool pass = kept_among pool.handles pool.lots pass.keeps
