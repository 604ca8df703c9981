use Rattle.std.proofs.Common.{◌≡◌, ◌∙◌, ℕ, Option, IfSome, sym, ap, subst}
use Rattle.aio_model.specs.declared.holds.Hold.TheVariants.{Reads, Writes, WaitsWrite}
use Rattle.aio_model.specs.Holds.WhoHolds.{ReadersWriter, hold_of}
use Rattle.aio_model.specs.Holds.{Has, HasTicket, answered, after_wake, IsSettled}
use Rattle.aio_model.specs.Holds.Table.{Exchanged, stepped_back, queued_again, upgraded, wake_one}
use Rattle.aio_model.proofs.Holding.{exchanges}
use Rattle.co_waits.proofs.Tables.{steps_back}
use Rattle.co_waits.proofs.rw_state.RwState.upgrade.Goals as goal

pub invariant_of-self-else-is_single : goal.invariant_of-self-else-is_single
invariant_of-self-else-is_single c =
    let state = c.self.inside.register in
    let reads : hold_of state c.args.who ≡ Reads = rw (← c.self.view_is) at c.requires.reads in
    let all = exchanges state c.args.who c.self.invariant.orderly reads in
    let stepped : upgraded c.args.who state ≡ queued_again (wake_one (stepped_back c.args.who state)) = steps_back c.args.who state (sym c.is_single.ensures.single ∙ c.if-is_single.false) in
    let queued : c.step_back.new.self ≡ stepped_back c.args.who state = c.step_back.ensures.stepped in
    let left : c.wake_one-woken.new.self ≡ (upgraded c.args.who state).state = c.wake_one-woken.ensures.left ∙ ap (λ (s : ReadersWriter). (wake_one s).state) queued ∙ sym (ap (λ (x : Exchanged). x.state) stepped) in
    let woken : c.wake_one-woken.result ≡ (upgraded c.args.who state).woken = c.wake_one-woken.ensures.woken ∙ ap (λ (s : ReadersWriter). (wake_one s).woken) queued ∙ sym (ap (λ (x : Exchanged). x.woken) stepped) in
    subst IsSettled (sym left) all.settles

pub returns-else-is_single-clause-own : goal.returns-else-is_single-clause-own
returns-else-is_single-clause-own c =
    let state = c.self.inside.register in
    let reads : hold_of state c.args.who ≡ Reads = rw (← c.self.view_is) at c.requires.reads in
    let all = exchanges state c.args.who c.self.invariant.orderly reads in
    let stepped : upgraded c.args.who state ≡ queued_again (wake_one (stepped_back c.args.who state)) = steps_back c.args.who state (sym c.is_single.ensures.single ∙ c.if-is_single.false) in
    let queued : c.step_back.new.self ≡ stepped_back c.args.who state = c.step_back.ensures.stepped in
    let left : c.wake_one-woken.new.self ≡ (upgraded c.args.who state).state = c.wake_one-woken.ensures.left ∙ ap (λ (s : ReadersWriter). (wake_one s).state) queued ∙ sym (ap (λ (x : Exchanged). x.state) stepped) in
    let woken : c.wake_one-woken.result ≡ (upgraded c.args.who state).woken = c.wake_one-woken.ensures.woken ∙ ap (λ (s : ReadersWriter). (wake_one s).woken) queued ∙ sym (ap (λ (x : Exchanged). x.woken) stepped) in
    ap (λ (s : ReadersWriter). hold_of s c.args.who) left ∙ all.own ∙ ap (λ (x : Exchanged). answered x.answer Writes WaitsWrite) stepped

pub returns-else-is_single-clause-others : goal.returns-else-is_single-clause-others
returns-else-is_single-clause-others c other ne =
    let state = c.self.inside.register in
    let reads : hold_of state c.args.who ≡ Reads = rw (← c.self.view_is) at c.requires.reads in
    let all = exchanges state c.args.who c.self.invariant.orderly reads in
    let stepped : upgraded c.args.who state ≡ queued_again (wake_one (stepped_back c.args.who state)) = steps_back c.args.who state (sym c.is_single.ensures.single ∙ c.if-is_single.false) in
    let queued : c.step_back.new.self ≡ stepped_back c.args.who state = c.step_back.ensures.stepped in
    let left : c.wake_one-woken.new.self ≡ (upgraded c.args.who state).state = c.wake_one-woken.ensures.left ∙ ap (λ (s : ReadersWriter). (wake_one s).state) queued ∙ sym (ap (λ (x : Exchanged). x.state) stepped) in
    let woken : c.wake_one-woken.result ≡ (upgraded c.args.who state).woken = c.wake_one-woken.ensures.woken ∙ ap (λ (s : ReadersWriter). (wake_one s).woken) queued ∙ sym (ap (λ (x : Exchanged). x.woken) stepped) in
    ap (λ (s : ReadersWriter). hold_of s other) left
    ∙ all.others other ne
    ∙ ap (λ w. after_wake w other (hold_of state other)) (sym woken)
    ∙ ap (λ (s : ReadersWriter). after_wake c.wake_one-woken.result other (hold_of s other)) c.self.view_is

pub returns-else-is_single-clause-granted : goal.returns-else-is_single-clause-granted
returns-else-is_single-clause-granted c =
    let state = c.self.inside.register in
    let reads : hold_of state c.args.who ≡ Reads = rw (← c.self.view_is) at c.requires.reads in
    let all = exchanges state c.args.who c.self.invariant.orderly reads in
    let stepped : upgraded c.args.who state ≡ queued_again (wake_one (stepped_back c.args.who state)) = steps_back c.args.who state (sym c.is_single.ensures.single ∙ c.if-is_single.false) in
    let queued : c.step_back.new.self ≡ stepped_back c.args.who state = c.step_back.ensures.stepped in
    let left : c.wake_one-woken.new.self ≡ (upgraded c.args.who state).state = c.wake_one-woken.ensures.left ∙ ap (λ (s : ReadersWriter). (wake_one s).state) queued ∙ sym (ap (λ (x : Exchanged). x.state) stepped) in
    let woken : c.wake_one-woken.result ≡ (upgraded c.args.who state).woken = c.wake_one-woken.ensures.woken ∙ ap (λ (s : ReadersWriter). (wake_one s).woken) queued ∙ sym (ap (λ (x : Exchanged). x.woken) stepped) in
    let told : IfSome c.wake_one-woken.result (λ w. HasTicket (hold_of state w) × Has (hold_of c.wake_one-woken.new.self w)) =
    subst (λ (o : Option ℕ). IfSome o (λ w. HasTicket (hold_of state w) × Has (hold_of c.wake_one-woken.new.self w))) (sym woken)
    (subst (λ (s : ReadersWriter). IfSome (upgraded c.args.who state).woken (λ w. HasTicket (hold_of state w) × Has (hold_of s w))) (sym left) all.woken) in
    subst (λ (s : ReadersWriter). IfSome c.wake_one-woken.result (λ w. HasTicket (hold_of s w) × Has (hold_of c.wake_one-woken.new.self w))) c.self.view_is told
