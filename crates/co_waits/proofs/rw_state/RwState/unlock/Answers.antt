use Rattle.std.proofs.Common.{◌≡◌, ◌∙◌, sym, ap, subst}
use Rattle.aio_model.specs.Holds.WhoHolds.{ReadersWriter, hold_of}
use Rattle.aio_model.specs.Holds.{after_wake, IsSettled}
use Rattle.aio_model.specs.Holds.Table.{unlocked, wake_one}
use Rattle.aio_model.proofs.Holding.{unlocked_settles, unlocked-own, unlocked-others}
use Rattle.co_waits.proofs.rw_state.RwState.unlock.Goals as goal

pub invariant_of-self : goal.invariant_of-self
invariant_of-self c =
    let state = c.self.inside.register in
    let left : c.wake_one.new.self ≡ (unlocked c.args.who state).state = c.wake_one.ensures.left ∙ ap (λ (s : ReadersWriter). (wake_one s).state) c.release.ensures.released in
    subst IsSettled (sym left) (unlocked_settles state c.self.invariant.orderly c.args.who)

pub returns-clause-own : goal.returns-clause-own
returns-clause-own c =
    let state = c.self.inside.register in
    let left : c.wake_one.new.self ≡ (unlocked c.args.who state).state = c.wake_one.ensures.left ∙ ap (λ (s : ReadersWriter). (wake_one s).state) c.release.ensures.released in
    ap (λ (s : ReadersWriter). hold_of s c.args.who) left ∙ unlocked-own state c.self.invariant.orderly c.args.who (rw (← c.self.view_is) at c.requires.held)

pub returns-clause-others : goal.returns-clause-others
returns-clause-others c other ne =
    let state = c.self.inside.register in
    let left : c.wake_one.new.self ≡ (unlocked c.args.who state).state = c.wake_one.ensures.left ∙ ap (λ (s : ReadersWriter). (wake_one s).state) c.release.ensures.released in
    let woken : c.wake_one.result ≡ (unlocked c.args.who state).woken = c.wake_one.ensures.woken ∙ ap (λ (s : ReadersWriter). (wake_one s).woken) c.release.ensures.released in
    ap (λ (s : ReadersWriter). hold_of s other) left
    ∙ unlocked-others state c.self.invariant.orderly c.args.who (rw (← c.self.view_is) at c.requires.held) other ne
    ∙ ap (λ w. after_wake w other (hold_of state other)) (sym woken)
    ∙ ap (λ (s : ReadersWriter). after_wake c.wake_one.result other (hold_of s other)) c.self.view_is
