use Rattle.std.proofs.Common.{◌≡◌, ◌∙◌, ◌++◌, ◌∷◌, [], sym, ap, subst}
use Rattle.aio_model.specs.declared.holds.Hold.TheVariants.{Writes}
use Rattle.aio_model.specs.Holds.WhoHolds.{Readers, ReadersWriter, hold_of}
use Rattle.aio_model.specs.Holds.{after_wake, IsSettled}
use Rattle.aio_model.specs.Holds.Table.{released, without_holder, with_reader, downgraded, wake_one}
use Rattle.aio_model.proofs.Holding.{the_writer, downgraded_settles, downgraded-others}
use Rattle.co_waits.specs.Registers.{readers_in}
use Rattle.co_waits.proofs.rw_state.RwState.downgrade.Goals as goal

pub invariant_of-self : goal.invariant_of-self
invariant_of-self c =
    let state = c.self.inside.register in
    let writes : hold_of state c.args.who ≡ Writes = rw (← c.self.view_is) at c.requires.writes in
    let one : c.read.new.self ≡ with_reader c.args.who state = c.read.ensures.read ∙ ap (λ (s : ReadersWriter). record s { holders = Readers (readers_in s.holders ++ c.args.who ∷ []) }) c.release.ensures.released ∙ ap (λ h. record state { holders = Readers (readers_in (without_holder c.args.who h) ++ c.args.who ∷ []) }) (the_writer state c.self.invariant.orderly c.args.who writes) in
    let left : c.wake_one.new.self ≡ (downgraded c.args.who state).state = c.wake_one.ensures.left ∙ ap (λ (s : ReadersWriter). (wake_one s).state) one in
    subst IsSettled (sym left) (downgraded_settles state c.self.invariant.orderly c.args.who writes)

pub returns-clause-left : goal.returns-clause-left
returns-clause-left c =
    let state = c.self.inside.register in
    let writes : hold_of state c.args.who ≡ Writes = rw (← c.self.view_is) at c.requires.writes in
    let one : c.read.new.self ≡ with_reader c.args.who state = c.read.ensures.read ∙ ap (λ (s : ReadersWriter). record s { holders = Readers (readers_in s.holders ++ c.args.who ∷ []) }) c.release.ensures.released ∙ ap (λ h. record state { holders = Readers (readers_in (without_holder c.args.who h) ++ c.args.who ∷ []) }) (the_writer state c.self.invariant.orderly c.args.who writes) in
    let left : c.wake_one.new.self ≡ (downgraded c.args.who state).state = c.wake_one.ensures.left ∙ ap (λ (s : ReadersWriter). (wake_one s).state) one in
    left ∙ ap (λ (s : ReadersWriter). (downgraded c.args.who s).state) c.self.view_is

pub returns-clause-others : goal.returns-clause-others
returns-clause-others c other ne =
    let state = c.self.inside.register in
    let writes : hold_of state c.args.who ≡ Writes = rw (← c.self.view_is) at c.requires.writes in
    let one : c.read.new.self ≡ with_reader c.args.who state = c.read.ensures.read ∙ ap (λ (s : ReadersWriter). record s { holders = Readers (readers_in s.holders ++ c.args.who ∷ []) }) c.release.ensures.released ∙ ap (λ h. record state { holders = Readers (readers_in (without_holder c.args.who h) ++ c.args.who ∷ []) }) (the_writer state c.self.invariant.orderly c.args.who writes) in
    let left : c.wake_one.new.self ≡ (downgraded c.args.who state).state = c.wake_one.ensures.left ∙ ap (λ (s : ReadersWriter). (wake_one s).state) one in
    let woken : c.wake_one.result ≡ (downgraded c.args.who state).woken = c.wake_one.ensures.woken ∙ ap (λ (s : ReadersWriter). (wake_one s).woken) one in
    ap (λ (s : ReadersWriter). hold_of s other) left
    ∙ downgraded-others state c.self.invariant.orderly c.args.who writes other ne
    ∙ ap (λ w. after_wake w other (hold_of state other)) (sym woken)
    ∙ ap (λ (s : ReadersWriter). after_wake c.wake_one.result other (hold_of s other)) c.self.view_is
