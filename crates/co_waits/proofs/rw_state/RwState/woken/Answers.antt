use Rattle.std.proofs.Common.{◌≡◌, ◌∙◌, sym, ap, subst}
use Rattle.aio_model.specs.Holds.WhoHolds.{ReadersWriter, hold_of}
use Rattle.aio_model.specs.Holds.{after_wake, IsSettled}
use Rattle.aio_model.specs.Holds.Table.{wake_one}
use Rattle.aio_model.proofs.Granted.{wakes}
use Rattle.aio_model.proofs.Orderly.{wake_settles}
use Rattle.co_waits.proofs.rw_state.RwState.woken.Goals as goal

pub invariant_of-self : goal.invariant_of-self
invariant_of-self c =
    subst IsSettled (sym c.wake_one.ensures.left) (wake_settles c.self.inside.register c.self.invariant.orderly)

pub returns-clause-all : goal.returns-clause-all
returns-clause-all c other =
    let state = c.self.inside.register in
    ap (λ (s : ReadersWriter). hold_of s other) c.wake_one.ensures.left
    ∙ wakes state c.self.invariant.orderly.apart other
    ∙ ap (λ w. after_wake w other (hold_of state other)) (sym c.wake_one.ensures.woken)
    ∙ ap (λ (s : ReadersWriter). after_wake c.wake_one.result other (hold_of s other)) c.self.view_is
