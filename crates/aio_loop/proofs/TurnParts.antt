-- How far the calls of handlers, and of timers, have come.
use Rattle.std.proofs.Common.{◌≡◌, ℕ, suc, Bool, true, false, ltb, None, List, refl, sym, subst, arith}
use Rattle.std.proofs.lemmas.Bool.{lt-ltb}
use Rattle.aio_model.specs.declared.timers.calls.TimerCall.{TimerCall}
use Rattle.aio_model.specs.Timers.Calls.{is_marked, IsNone}
use Rattle.aio_handlers.specs.declared.answers.Ready.{Ready}
use Rattle.aio_handlers.specs.Answers.{first_ready}
use Rattle.aio_timers.specs.declared.timers.TimerId.{TimerId}
use Rattle.aio_timers.specs.StandsFor.{StandsFor}
use Rattle.aio_loop.specs.Entering.{LoopEntered}
use Rattle.aio_loop.specs.Walks.{LoopFar, EntersReady, EntersEachReady, EntersAllReady}
use Rattle.aio_loop.specs.Expiring.{EntersExpired, EntersEachExpired, EntersAllExpired}

pub record ReadySoFar {R : Type 0} (does : R → LoopEntered → R → Type 0) (events : ℕ) (called : Bool) (start now : LoopFar R) : Type 0 where
  pub count : ℕ
  pub some : called ≡ ltb 0 count
  pub enters : EntersEachReady does events count start now

pub no_ready_yet : {R : Type 0} (does : R → LoopEntered → R → Type 0) (events : ℕ) (start : LoopFar R) → ReadySoFar does events false start start
no_ready_yet does events start =
    record { count = 0; some = refl; enters = refl }

pub one_more_ready : {R : Type 0} (does : R → LoopEntered → R → Type 0) (events : ℕ) (called : Bool) (start now next : LoopFar R) → ReadySoFar does events called start now → (ready : Ready) × EntersReady does events ready now next → ReadySoFar does events true start next
one_more_ready does events called start now next so_far one =
    record { count = suc so_far.count; some = sym (lt-ltb 0 (suc so_far.count) (omega arith)); enters = (now, so_far.enters, one.0, one.1) }

pub no_more_ready : {R : Type 0} (does : R → LoopEntered → R → Type 0) (events : ℕ) (called : Bool) (start now end : LoopFar R) → ReadySoFar does events called start now → (first_ready now.side.handlers.waiting ≡ None) × (end ≡ now) → EntersAllReady does events called start end
no_more_ready does events called start now end so_far over =
    subst (λ k. EntersAllReady does events called start k) (sym over.1) (record { count = so_far.count; some = so_far.some; enters = so_far.enters; none_left = over.0 })

pub record ExpiredSoFar {R : Type 0} (does : R → LoopEntered → R → Type 0) (called : Bool) (start now : LoopFar R) : Type 0 where
  pub count : ℕ
  pub some : called ≡ ltb 0 count
  pub enters : EntersEachExpired does count start now

pub none_expired_yet : {R : Type 0} (does : R → LoopEntered → R → Type 0) (start : LoopFar R) → ExpiredSoFar does false start start
none_expired_yet does start = record { count = 0; some = refl; enters = refl }

pub one_more_expired : {R : Type 0} (does : R → LoopEntered → R → Type 0) (called : Bool) (start now next : LoopFar R) → ExpiredSoFar does called start now → (id : TimerId) × EntersExpired does id now next → ExpiredSoFar does true start next
one_more_expired does called start now next so_far one =
    record { count = suc so_far.count; some = sym (lt-ltb 0 (suc so_far.count) (omega arith)); enters = (now, so_far.enters, one.0, one.1) }

pub no_more_expired : {R : Type 0} (does : R → LoopEntered → R → Type 0) (called : Bool) (start now end : LoopFar R) → ExpiredSoFar does called start now → ((calls : List TimerCall) → StandsFor now.side.timers calls → IsNone is_marked calls) × (end ≡ now) → EntersAllExpired does called start end
no_more_expired does called start now end so_far over =
    subst (λ k. EntersAllExpired does called start k) (sym over.1) (record { count = so_far.count; some = so_far.some; enters = so_far.enters; none_left = over.0 })
