-- What a turn does to its runner, as one list of entries.
use Rattle.std.proofs.Common.{ℕ, zero, suc, Bool, List, [], ◌∷◌, ◌++◌, refl, sym, ap, subst}
use Rattle.aio_model.specs.Loop.Frame.{Entered, DoesEntries}
use Rattle.lot_pool.specs.Pools.{PoolState, PassState}
use Rattle.aio_loop.specs.declared.turned.Turned.{Turned}
use Rattle.aio_loop.specs.Entering.{LoopEntered, ForBottom, ForReady, ForExpired, WithSide, does_bottom, EachPasses}
use Rattle.aio_loop.specs.Walks.{LoopFar, EntersEachReady}
use Rattle.aio_loop.specs.Expiring.{EntersEachExpired}
use Rattle.aio_loop.specs.Turns.{Turns}
use Rattle.aio_loop.specs.Logs.{RunsLog, is_bottom, is_ready, is_expired, RunsTurn}

-- one list of entries behind another
pub runs_more : {R : Type 0} (does : R → LoopEntered → R → Type 0) (log more : List LoopEntered) (x y z : R) → RunsLog does x log y → RunsLog does y more z → RunsLog does x (more ++ log) z
runs_more does log [] x y z before behind =
    subst (λ k. RunsLog does x log k) (sym behind) before
runs_more does log (entered ∷ more) x y z before behind =
    (behind.0, runs_more does log more x y behind.0 before behind.1, behind.2)

-- what each entry keeps, they all keep
pub kept_by_log : {R : Type 0} (does : R → LoopEntered → R → Type 0) (Keeps : R → Type 0) → ((x y : R) (e : LoopEntered) → does x e y → Keeps x → Keeps y) → (log : List LoopEntered) (x y : R) → RunsLog does x log y → Keeps x → Keeps y
kept_by_log does Keeps step [] x y runs kept = subst Keeps (sym runs) kept
kept_by_log does Keeps step (entered ∷ log) x y runs kept =
    step runs.0 y entered runs.2 (kept_by_log does Keeps step log x runs.0 runs.1 kept)

log_of_poll : {R : Type 0} (does : R → LoopEntered → R → Type 0) (entries : List Entered) (x y : WithSide R) → DoesEntries (does_bottom does) x entries y → (log : List LoopEntered) × EachPasses (λ (e : LoopEntered). is_bottom e.what) log × RunsLog does x.runner log y.runner
log_of_poll does [] x y runs = ([], refl, ap (λ b. b.runner) runs)
log_of_poll does (e ∷ entries) x y runs =
    let before = log_of_poll does entries x runs.0 runs.1 in
    let entry = runs.2 in (
      record { what = ForBottom e.lent e.answer; made = e.made; on_handlers = entry.on_handlers; on_timers = entry.on_timers } ∷ before.0,
      (refl, before.1),
      (runs.0.runner, before.2, entry.did),
    )

log_of_walk : {R : Type 0} (does : R → LoopEntered → R → Type 0) (events count : ℕ) (x y : LoopFar R) → EntersEachReady does events count x y → (log : List LoopEntered) × EachPasses (λ (e : LoopEntered). is_ready e.what) log × RunsLog does x.runner log y.runner
log_of_walk does events zero x y enters =
    ([], refl, ap (λ far. far.runner) enters)
log_of_walk does events (suc count) x y enters =
    let before = log_of_walk does events count x enters.0 enters.1 in
    let run = enters.3.runs in
    let entry = run.enters in (
      record { what = ForReady enters.2; made = run.made; on_handlers = entry.on_handlers; on_timers = entry.on_timers } ∷ before.0,
      (refl, before.1),
      (enters.0.runner, before.2, entry.did),
    )

log_of_run : {R : Type 0} (does : R → LoopEntered → R → Type 0) (count : ℕ) (x y : LoopFar R) → EntersEachExpired does count x y → (log : List LoopEntered) × EachPasses (λ (e : LoopEntered). is_expired e.what) log × RunsLog does x.runner log y.runner
log_of_run does zero x y enters = ([], refl, ap (λ far. far.runner) enters)
log_of_run does (suc count) x y enters =
    let before = log_of_run does count x enters.0 enters.1 in
    let run = enters.3.runs in
    let entry = run.enters in (
      record { what = ForExpired enters.2; made = run.made; on_handlers = entry.on_handlers; on_timers = entry.on_timers } ∷ before.0,
      (refl, before.1),
      (enters.0.runner, before.2, entry.did),
    )

pub log_of_turn : {R : Type 0} (does : R → LoopEntered → R → Type 0) (pool : PoolState) (block : Bool) (events : ℕ) (turned : Turned) (time time_after : ℕ) (pass pass_after : PassState) (before after : LoopFar R) → Turns does pool block events turned time time_after pass pass_after before after → RunsTurn does before.runner after.runner
log_of_turn does pool block events turned time time_after pass pass_after before after turns =
    let polls = turns.polls.polls in
    let bottoms = log_of_poll does polls.end.log _ _ polls.runs in
    let walk = turns.walks.enters in
    let handlers = log_of_walk does events walk.count _ _ walk.enters in
    let run = turns.expires.enters in
    let timers = log_of_run does run.count _ _ run.enters in
    record {
      bottoms = bottoms.0;
      for_bottoms = bottoms.1;
      handlers = handlers.0;
      for_handlers = handlers.1;
      timers = timers.0;
      for_timers = timers.1;
      runs = runs_more does (handlers.0 ++ bottoms.0) timers.0 _ _ _ (runs_more does bottoms.0 handlers.0 _ _ _ bottoms.2 handlers.2) timers.2;
    }

-- what each entry keeps, a turn keeps
pub kept_by_turn : {R : Type 0} (does : R → LoopEntered → R → Type 0) (Keeps : R → Type 0) → ((x y : R) (e : LoopEntered) → does x e y → Keeps x → Keeps y) → (pool : PoolState) (block : Bool) (events : ℕ) (turned : Turned) (time time_after : ℕ) (pass pass_after : PassState) (before after : LoopFar R) → Turns does pool block events turned time time_after pass pass_after before after → Keeps before.runner → Keeps after.runner
kept_by_turn does Keeps step pool block events turned time time_after pass pass_after before after turns =
    let log = log_of_turn does pool block events turned time time_after pass pass_after before after turns in
    kept_by_log does Keeps step (log.timers ++ (log.handlers ++ log.bottoms)) before.runner after.runner log.runs
