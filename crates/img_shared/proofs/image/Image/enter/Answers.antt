use Rattle.std.proofs.Common.{sym, ap, inl, subst, arith, refl}
use Rattle.aio_model.specs.Holds.{Has}
use Rattle.img_requests.specs.declared.journal.Mark.TheVariants.{Einval}
use Rattle.img_requests.specs.declared.present.Present.{Present}
use Rattle.img_shared.specs.declared.phases.Phase.TheVariants.{Active, Waiting}
use Rattle.img_shared.specs.Journals.{entry_next}
use Rattle.img_shared.specs.Phases.{Writing, has_failed, is_failed_stage}
use Rattle.img_shared.proofs.Charged.{charged_refused, charged_phase}
use Rattle.img_shared.proofs.Granting.{has_held}
use Rattle.img_shared.proofs.Others.{others_refused, clean_got}
use Rattle.img_shared.proofs.Sounds.{sound_refused, sound_entered}
use Rattle.img_shared.proofs.Steps.{within_begun, is_past, not_past, past_end}
use Rattle.img_shared.proofs.image.Image.enter.Goals as goal

pub invariant_of-self : goal.invariant_of-self
invariant_of-self g c =
    let known = rw (← c.self.view_is) at c.requires.known in
    let free = rw (← c.self.view_is) at c.requires.free in
    rw c.note.ensures.entries (record {
      sound = sound_refused g.D.Device.bytes _ c.self.invariant.sound c.args.stream known Einval c.of-before.result c.of-after.result free
          (ap (λ s. s.value) c.of-before.ensures) (ap (λ s. s.value) c.of-after.ensures);
      charged = charged_refused g.D.Device.extent g.D.Device.faults g.D.Device.size_faults g.D.Device.calls _ c.self.invariant.charged c.args.stream
          (omega (arith, known, c.self.invariant.sound.streams)) Einval c.of-before.result c.of-after.result refl;
    })

pub returns-then-reaches_past-clause-entered : goal.returns-then-reaches_past-clause-entered
returns-then-reaches_past-clause-entered g c =
    rw (← c.self.view_is, c.note.ensures.entries) (
      past_end c.args.stream c.self.inside.size c.args.request.now c.begin-present.result c.begin-present.ensures
          (is_past c.reaches_past.result _ _ c.reaches_past.ensures c.if-reaches_past.true),
      c.note.ensures.place,
      entry_next c.args.stream c.self.inside.ledger.entries Einval c.of-before.result c.of-after.result,
      refl,
      ap (λ s. s.value) c.of-before.ensures,
      ap (λ s. s.value) c.of-after.ensures,
      refl,
    )

pub returns-then-reaches_past-clause-others : goal.returns-then-reaches_past-clause-others
returns-then-reaches_past-clause-others g c =
    rw (← c.self.view_is, c.note.ensures.entries)
    (others_refused g.D.Device.bytes _ c.self.invariant.sound c.args.stream Einval c.of-before.result c.of-after.result)

pub invariant_of-self-in-Got : goal.invariant_of-self-in-Got
invariant_of-self-in-Got g c =
    let known = rw (← c.self.view_is) at c.requires.known in
    let free = rw (← c.self.view_is) at c.requires.free in
    record {
      sound = sound_entered g.D.Device.bytes _ c.self.invariant.sound c.args.stream known (Active c.begin-present.result) c.ask.new.access free
          c.ask.ensures.room c.in-Got.ensures.own c.ask.ensures.others
          (within_begun c.self.inside.size c.args.stream c.args.request.now c.begin-present.result c.begin-present.ensures
          (not_past c.reaches_past.result _ _ c.reaches_past.ensures c.if-reaches_past.false))
          (rw (← c.self.view_is) at c.requires.due);
      charged = charged_phase g.D.Device.extent g.D.Device.faults g.D.Device.size_faults g.D.Device.calls _ c.self.invariant.charged c.args.stream
          (omega (arith, known, c.self.invariant.sound.streams)) (Active c.begin-present.result) c.ask.new.access (ap has_failed free)
          (ap (λ (p : Present). is_failed_stage p.stage) c.begin-present.ensures);
    }

pub invariant_of-self-in-Queued : goal.invariant_of-self-in-Queued
invariant_of-self-in-Queued g c =
    let known = rw (← c.self.view_is) at c.requires.known in
    let free = rw (← c.self.view_is) at c.requires.free in
    record {
      sound = sound_entered g.D.Device.bytes _ c.self.invariant.sound c.args.stream known (Waiting c.begin-present.result) c.ask.new.access free
          c.ask.ensures.room (inl c.in-Queued.ensures.own) c.ask.ensures.others (
            within_begun c.self.inside.size c.args.stream c.args.request.now c.begin-present.result c.begin-present.ensures
                (not_past c.reaches_past.result _ _ c.reaches_past.ensures c.if-reaches_past.false),
            ap (λ (p : Present). p.stage) c.begin-present.ensures,
          )
          (rw (← c.self.view_is) at c.requires.due);
      charged = charged_phase g.D.Device.extent g.D.Device.faults g.D.Device.size_faults g.D.Device.calls _ c.self.invariant.charged c.args.stream
          (omega (arith, known, c.self.invariant.sound.streams)) (Waiting c.begin-present.result) c.ask.new.access (ap has_failed free) refl;
    }

pub returns-in-Got-clause-clean : goal.returns-in-Got-clause-clean
returns-in-Got-clause-clean g c =
    let free = rw (← c.self.view_is) at c.requires.free in
    rw (← c.self.view_is)
    (clean_got g.D.Device.bytes _ c.self.invariant.sound c.args.stream c.ask.new.access
    (λ writes. subst Writing free writes) (subst Has (sym c.in-Got.ensures.own) (has_held c.begin-present.result.kind)) c.ask.ensures.others)
