use Rattle.std.proofs.Common.{◌<◌, ◌∷◌, length, refl, sym, ◌∙◌, ap, subst, arith, length-set}
use Rattle.std.proofs.lemmas.Bool.{le-ltb}
use Rattle.aio_model.specs.declared.timers.calls.TimerCall.TheVariants.{Disarm}
use Rattle.aio_timers.specs.Keys.{none, joint, key_at}
use Rattle.aio_timers.specs.StandsFor.{StandsFor}
use Rattle.aio_timers.proofs.Rows.{of_rows, unmade}
use Rattle.aio_timers.proofs.Standing.{tell_from, stands_from, tell_unmade}
use Rattle.aio_timers.proofs.RowCalls.{put_apart, off_stamped, stands_disarmed}
use Rattle.aio_timers.proofs.timers.Timers.disarm.Goals as goal

pub returns-then-id-self-clause-was_armed : goal.returns-then-id-self-clause-was_armed
returns-then-id-self-clause-was_armed c = λ calls stands.
    let h = c.self.inside in
    let kept = c.self.invariant in
    let stood = subst (λ timers. StandsFor timers calls) (sym c.self.view_is) stands in
    let tell = tell_from (joint h.due h.waiting) (key_at h.due) h.room h.made h.next kept.stamped kept.made_fits (of_rows h.due h.waiting) calls stood in
    sym (le-ltb (joint h.due h.waiting c.args.id.number) none (unmade (joint h.due h.waiting) h.made h.next kept.stamped c.args.id.number c.if-id-self.true)) ∙ tell.armed c.args.id.number

pub returns-then-id-self-clause-stands : goal.returns-then-id-self-clause-stands
returns-then-id-self-clause-stands c = λ calls stands.
    let h = c.self.inside in
    let kept = c.self.invariant in
    let stood = subst (λ timers. StandsFor timers calls) (sym c.self.view_is) stands in
    let tell = tell_from (joint h.due h.waiting) (key_at h.due) h.room h.made h.next kept.stamped kept.made_fits (of_rows h.due h.waiting) calls stood in
    let unset = unmade (joint h.due h.waiting) h.made h.next kept.stamped c.args.id.number c.if-id-self.true in
    let told = tell_unmade (joint h.due h.waiting) (key_at h.due) h.made calls tell (of_rows h.due h.waiting) c.args.id.number unset in
    subst (λ timers. StandsFor timers (Disarm c.args.id.number ∷ calls)) c.self.view_is (stands_from (joint h.due h.waiting) (key_at h.due) h.room h.made h.next kept.stamped kept.made_fits (of_rows h.due h.waiting) (Disarm c.args.id.number ∷ calls) told)

pub invariant_of-self : goal.invariant_of-self
invariant_of-self c =
    let h = c.self.inside in
    let kept = c.self.invariant in
    let timer = c.args.id.number in
    let due' = c.take_off.new.due in
    let waiting' = c.take_off.new.waiting in
    let in_due : timer < length h.due = omega (arith, c.if-id-self.false, kept.made_fits, kept.due_sized) in
    let in_waiting : timer < length h.waiting = omega (arith, c.if-id-self.false, kept.made_fits, kept.waiting_sized) in
    record {
      due_sized = ap length c.take_off.ensures.due ∙ length-set h.due timer none ∙ kept.due_sized;
      waiting_sized = ap length c.take_off.ensures.waiting ∙ length-set h.waiting timer none ∙ kept.waiting_sized;
      ranks_sized = kept.ranks_sized;
      made_fits = kept.made_fits;
      apart = put_apart h.due h.waiting due' waiting' timer none in_due in_waiting c.take_off.ensures.due c.take_off.ensures.waiting kept.apart;
      stamped = off_stamped h.due h.waiting due' waiting' timer none in_due in_waiting c.take_off.ensures.due c.take_off.ensures.waiting refl h.made h.next kept.stamped;
    }

pub returns-clause-was_armed : goal.returns-clause-was_armed
returns-clause-was_armed c = λ calls stands.
    let h = c.self.inside in
    let kept = c.self.invariant in
    let stood = subst (λ timers. StandsFor timers calls) (sym c.self.view_is) stands in
    let tell = tell_from (joint h.due h.waiting) (key_at h.due) h.room h.made h.next kept.stamped kept.made_fits (of_rows h.due h.waiting) calls stood in
    c.take_off.ensures.was ∙ tell.armed c.args.id.number

pub returns-clause-stands : goal.returns-clause-stands
returns-clause-stands c = λ calls stands.
    let h = c.self.inside in
    let kept = c.self.invariant in
    let timer = c.args.id.number in
    let in_due : timer < length h.due = omega (arith, c.if-id-self.false, kept.made_fits, kept.due_sized) in
    let in_waiting : timer < length h.waiting = omega (arith, c.if-id-self.false, kept.made_fits, kept.waiting_sized) in
    let stood = subst (λ timers. StandsFor timers calls) (sym c.self.view_is) stands in
    let tell = tell_from (joint h.due h.waiting) (key_at h.due) h.room h.made h.next kept.stamped kept.made_fits (of_rows h.due h.waiting) calls stood in
    stands_disarmed h.due h.waiting c.take_off.new.due c.take_off.new.waiting timer none in_due in_waiting c.take_off.ensures.due c.take_off.ensures.waiting refl h.made h.next kept.stamped h.room calls tell kept.made_fits
