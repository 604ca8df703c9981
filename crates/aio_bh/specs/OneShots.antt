-- One-shots over a pool: what comes of one, and how their lots return.
use Rattle.std.specs.Prelude.{◌≡◌, ℕ, List, [], ◌∷◌, ◌++◌}
use Rattle.aio_model.specs.declared.loops.flags.Flags.{Flags}
use Rattle.aio_model.specs.Loop.History.{Sizes, ToCallOnce, New, Enqueue, Put, Free, History}
use Rattle.aio_core.specs.Known.{Known}
use Rattle.aio_core.specs.Standing.{PlacesJob}
use Rattle.aio_core.specs.Calls.{IsTaken}
use Rattle.lot_pool.specs.declared.view.PoolStep.TheVariants.{Popped}
use Rattle.lot_pool.specs.PoolRule.{stepped}
use Rattle.lot_pool.specs.Pools.{PoolState, PassState, FindsEmpty, GivesAll, IsHomeOf, kept_lots, knows}
use Rattle.aio_bh.specs.HomeSteps.{home_steps}
use Rattle.aio_bh.specs.Enqueuing.{PushesInTheEnd, AddsOnly}

-- the pool was built for a loop of these sizes
pub record IsPoolFor (sizes : Sizes) (pool : PoolState) : Type 0 where
  pub handles : pool.handles ≡ sizes.handles
  pub lots : pool.lots ≡ sizes.lots

-- the pool is one for a loop of these sizes, and the pass is its home's: what a poll needs
pub record ServesHome (sizes : Sizes) (pool : PoolState) (home : PassState) : Type 0 where
  pub built_for : IsPoolFor sizes pool
  pub of_home : IsHomeOf pool home

-- a lot was popped
abbrev pub PopsLot : ℕ → PassState → PassState → Type 0
PopsLot lot pass pass_after =
    pass_after ≡ knows (stepped (Popped lot) pass.known) pass

-- each of these lots was popped, and then found taken by its claim, newest first
abbrev pub FindsEachTaken : List ℕ → PassState → Known → PassState → Known → Type 0
FindsEachTaken [] pass before pass_after after =
    (pass_after ≡ pass) × (after ≡ before)
FindsEachTaken (lot ∷ older) pass before pass_after after =
    (pass_mid : PassState) × (mid : Known) × FindsEachTaken older pass before pass_mid mid × PopsLot lot pass_mid pass_after × IsTaken lot mid after

-- Each lot that was popped was found taken, and then the queue was found empty. Of the seat nothing changed but that it looked.
pub record FindsNoRoom (pass : PassState) (before : Known) (pass_after : PassState) (after : Known) : Type 0 where
  pub lots : List ℕ
  pub last : PassState
  pub tries : FindsEachTaken lots pass before last after
  pub empty : FindsEmpty last pass_after
  pub same : after ≡ record before { did = after.did }
  pub steps : home_steps after.did ≡ home_steps before.did

-- some were found taken, and then this lot was popped, found free, and given the job of this number
pub record PlacesIn (lot job : ℕ) (pass : PassState) (before : Known) (pass_after : PassState) (after : Known) : Type 0 where
  pub lots : List ℕ
  pub last : PassState
  pub tried : Known
  pub tries : FindsEachTaken lots pass before last tried
  pub pops : PopsLot lot last pass_after
  pub places : PlacesJob lot job tried after

-- the entries of a one-shot, newest first
abbrev pub one_shot_entries : ℕ → ℕ → ℕ → Flags → History
one_shot_entries lot job seat flags =
    Put lot seat ∷ Enqueue lot ToCallOnce seat flags ∷ New lot seat job ∷ []

-- a lot was given the job and pushed, home was notified, and all that stands in the history
pub record PlacesOnce (job : ℕ) (pass : PassState) (before : Known) (pass_after : PassState) (after : Known) : Type 0 where
  pub lot : ℕ
  pub placed : Known
  pub places : PlacesIn lot job pass before pass_after placed
  pub pushes : PushesInTheEnd lot placed after
  pub stands : AddsOnly (one_shot_entries lot job before.first places.places.flags) before after

-- the lots that were freed, newest first
abbrev pub frees_of : History → List ℕ
frees_of [] = []
frees_of (Free lot ∷ older) = lot ∷ frees_of older
frees_of (_ ∷ older) = frees_of older

-- home made no Free
pub record FreesNone (before after : Known) : Type 0 where
  pub made : History
  pub mine : after.mine ≡ made ++ before.mine
  pub none : frees_of made ≡ []

-- of what home made since, each Free was followed by giving its lot back to the pool, and nothing else was done with the pass
pub record GivesFreed (pool : PoolState) (before after : Known) (pass pass_after : PassState) : Type 0 where
  pub made : History
  pub mine : after.mine ≡ made ++ before.mine
  pub gives : GivesAll pool (frees_of made) pass pass_after

-- The lots that the pass kept were given back, and then each lot that home freed since, once each and in their order. Nothing else was
-- done with the pass.
pub record ReturnsLots (pool : PoolState) (before after : Known) (pass pass_after : PassState) : Type 0 where
  pub made : History
  pub mine : after.mine ≡ made ++ before.mine
  pub gives : GivesAll pool (frees_of made ++ kept_lots pool pass) pass pass_after
