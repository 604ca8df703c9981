-- What no entry of a runner changes is the same behind a turn.
use Rattle.std.proofs.Common.{◌≡◌, ℕ, zero, suc, Bool, List, [], ◌∷◌, ap, ◌∙◌}
use Rattle.lot_pool.specs.Pools.{PoolState, PassState}
use Rattle.aio_model.specs.Loop.Frame.{Entered, DoesEntries}
use Rattle.aio_loop.specs.declared.turned.Turned.{Turned}
use Rattle.aio_loop.specs.Entering.{LoopEntered, WithSide, does_bottom}
use Rattle.aio_loop.specs.Expiring.{EntersEachExpired}
use Rattle.aio_loop.specs.Walks.{LoopFar, EntersEachReady}
use Rattle.aio_loop.specs.Turns.{Turns}

module _ {R X : Type 0} (does : R → LoopEntered → R → Type 0) (f : R → X) (keeps : (a : R) (e : LoopEntered) (b : R) → does a e b → f b ≡ f a) where
  same_by_runs : (before : WithSide R) (log : List Entered) (after : WithSide R) → DoesEntries (does_bottom does) before log after → f after.runner ≡ f before.runner
  same_by_runs before [] after same = ap (λ (w : WithSide R). f w.runner) same
  same_by_runs before (e ∷ older) after runs =
      keeps runs.0.runner _ after.runner runs.2.did ∙ same_by_runs before older runs.0 runs.1

  same_by_ready : (events count : ℕ) (before after : LoopFar R) → EntersEachReady does events count before after → f after.runner ≡ f before.runner
  same_by_ready events zero before after same = ap (λ (l : LoopFar R). f l.runner) same
  same_by_ready events (suc more) before after enters =
      keeps enters.0.runner _ after.runner enters.3.runs.enters.did ∙ same_by_ready events more before enters.0 enters.1

  same_by_expired : (count : ℕ) (before after : LoopFar R) → EntersEachExpired does count before after → f after.runner ≡ f before.runner
  same_by_expired zero before after same = ap (λ (l : LoopFar R). f l.runner) same
  same_by_expired (suc more) before after enters =
      keeps enters.0.runner _ after.runner enters.3.runs.enters.did ∙ same_by_expired more before enters.0 enters.1

  pub same_by_turn : (pool : PoolState) (block : Bool) (events : ℕ) (turned : Turned) (time time_after : ℕ) (pass pass_after : PassState) (before after : LoopFar R) → Turns does pool block events turned time time_after pass pass_after before after → f after.runner ≡ f before.runner
  same_by_turn pool block events turned time time_after pass pass_after before after turns =
      same_by_expired turns.expires.enters.count _ after turns.expires.enters.enters
      ∙ same_by_ready events turns.walks.enters.count _ _ turns.walks.enters.enters
      ∙ same_by_runs _ turns.polls.polls.end.log _ turns.polls.polls.runs
