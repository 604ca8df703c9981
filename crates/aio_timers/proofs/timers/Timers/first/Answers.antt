use Rattle.std.proofs.Common.{◌≡◌, ℕ, ◌/◌, ◌<◌, ◌≤◌, min, sym, ◌∙◌, ap, subst, inl, inr, arith}
use Rattle.std.proofs.lemmas.Bool.{cases_lt}
use Rattle.aio_model.specs.Timers.Calls.{IsEarliest}
use Rattle.aio_timers.specs.Keys.{none, stamps, joint, key_at}
use Rattle.aio_timers.specs.StandsFor.{StandsFor}
use Rattle.aio_timers.proofs.Rows.{of_rows, lower_all, joint_lower, joint_due, waiting_is_joint}
use Rattle.aio_timers.proofs.Standing.{tell_from, none_armed, is_earliest}
use Rattle.aio_timers.proofs.timers.Timers.first.Goals as goal

pub returns-then-key : goal.returns-then-key
returns-then-key c = λ calls stands.
    let h = c.self.inside in
    let kept = c.self.invariant in
    let stood = subst (λ timers. StandsFor timers calls) (sym c.self.view_is) stands in
    let tell = tell_from (joint h.due h.waiting) (key_at h.due) h.room h.made h.next kept.stamped kept.made_fits (of_rows h.due h.waiting) calls stood in
    let least : c.min-key.result ≡ min c.least.result c.least-2.result = c.min-key.ensures in
    none_armed (joint h.due h.waiting) (key_at h.due) h.room h.made h.next kept.stamped kept.made_fits (of_rows h.due h.waiting) calls tell (λ timer.
    joint_lower h.due h.waiting none timer (lower_all h.due none (omega arith) (λ k within. omega (arith, least, c.if-key.true, c.least.ensures.lower k within)) timer) (lower_all h.waiting none (omega arith) (λ k within. omega (arith, least, c.if-key.true, c.least-2.ensures.lower k within)) timer))

pub returns : goal.returns
returns c = λ calls stands.
    let h = c.self.inside in
    let kept = c.self.invariant in
    let key = c.min-key.result in
    let stood = subst (λ timers. StandsFor timers calls) (sym c.self.view_is) stands in
    let tell = tell_from (joint h.due h.waiting) (key_at h.due) h.room h.made h.next kept.stamped kept.made_fits (of_rows h.due h.waiting) calls stood in
    let least : key ≡ min c.least.result c.least-2.result = c.min-key.ensures in
    let short : key < none = omega (arith, c.if-key.false, c.min-key.type_inv) in
    let lower : (timer : ℕ) → key ≤ joint h.due h.waiting timer = λ timer.
    joint_lower h.due h.waiting key timer (lower_all h.due key (omega arith) (λ k within. omega (arith, least, c.least.ensures.lower k within)) timer) (lower_all h.waiting key (omega arith) (λ k within. omega (arith, least, c.least-2.ensures.lower k within)) timer) in
    let earliest : (timer : ℕ) → joint h.due h.waiting timer ≡ key → IsEarliest calls c.expiry_of.result = λ timer is.
    subst (IsEarliest calls) (ap (λ k. k / stamps) is ∙ sym c.expiry_of.ensures) (is_earliest (joint h.due h.waiting) (key_at h.due) h.room h.made h.next kept.stamped kept.made_fits (of_rows h.due h.waiting) calls tell timer (omega (arith, is)) (λ other. omega (arith, is, lower other))) in
    elim (cases_lt c.least-2.result c.least.result) [
      | inl waits ↦
          let held = c.least-2.ensures.held in
          earliest held.place (waiting_is_joint h.due h.waiting kept.apart held.place (omega (arith, held.is, least)) ∙ held.is ∙ omega (arith, least))
      | inr is_due ↦
          let held = c.least.ensures.held in
          earliest held.place (joint_due h.due h.waiting held.place (omega (arith, held.is, least)) ∙ held.is ∙ omega (arith, least))
    ]
