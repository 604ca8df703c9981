use Rattle.std.proofs.Common.{◌<◌, ◌∙◌, sym, ap, subst, length, arith, refl}
use Rattle.std.proofs.lemmas.List.{get_or_default}
use Rattle.aio_model.specs.Holds.{Has}
use Rattle.aio_model.specs.Holds.WhoHolds.{hold_of}
use Rattle.img_shared.specs.declared.phases.Phase.TheVariants.{Idle}
use Rattle.img_shared.specs.Journals.{entry_next}
use Rattle.img_shared.specs.Phases.{CanLeave, Linked}
use Rattle.img_shared.proofs.Charged.{charged_left}
use Rattle.img_shared.proofs.Granting.{woken_granted, has_held}
use Rattle.img_shared.proofs.Named.{named_all}
use Rattle.img_shared.proofs.Others.{others_left}
use Rattle.img_shared.proofs.Shown.{leaves_so}
use Rattle.img_shared.proofs.Sounds.{sound_left}
use Rattle.img_shared.proofs.image.Image.leave.Goals as goal

pub invariant_of-self : goal.invariant_of-self
invariant_of-self g c =
    let known = rw (← c.self.view_is) at c.requires.known in
    let sound = c.self.invariant.sound in
    let below : c.args.stream < length c.self.inside.phases.items = omega (arith, known, sound.streams) in
    let active = sym (c.index.ensures ∙ get_or_default c.self.inside.phases.items c.args.stream _ Idle below) ∙ c.in-Active.is in
    let ended = subst CanLeave active (rw (← c.self.view_is) at c.requires.ended) in
    rw (c.note-place.ensures.entries, c.mark.ensures) (record {
      sound = sound_left g.D.Device.bytes _ sound c.args.stream known _ c.of-before.result c.of-after.result c.of.result.value c.unlock-woken.new.self
          c.unlock-woken.ensures.room (ap (λ s. s.value) c.of-before.ensures) c.of.ensures (ap (λ s. s.value) c.of-after.ensures) c.unlock-woken.ensures.own
          (λ j ne. woken_granted c.unlock-woken.result j (hold_of c.self.inside.access j) (hold_of c.unlock-woken.new.self j) (c.unlock-woken.ensures.others j ne));
      charged = charged_left g.D.Device.extent g.D.Device.faults g.D.Device.size_faults g.D.Device.calls _ c.self.invariant.charged c.args.stream below
          c.in-Active.present c.of-before.result c.of-after.result c.of.result.value c.unlock-woken.new.self active ended;
    })

pub returns-clause-left : goal.returns-clause-left
returns-clause-left g c =
    let known = rw (← c.self.view_is) at c.requires.known in
    let below : c.args.stream < length c.self.inside.phases.items = omega (arith, known, c.self.invariant.sound.streams) in
    let active = sym (c.index.ensures ∙ get_or_default c.self.inside.phases.items c.args.stream _ Idle below) ∙ c.in-Active.is in
    rw (← c.self.view_is, c.note-place.ensures.entries, c.of.ensures, c.unlock-woken.ensures.left)
    (leaves_so c.args.stream c.note-place.result _ c.in-Active.present
    (entry_next c.args.stream c.self.inside.ledger.entries c.mark.result c.of-before.result c.of-after.result)
    active c.note-place.ensures.place
    (ap (λ mark. entry_next c.args.stream c.self.inside.ledger.entries mark c.of-before.result c.of-after.result) c.mark.ensures)
    (ap (λ s. s.value) c.of-before.ensures) (ap (λ s. s.value) c.of-after.ensures ∙ c.of.ensures))

pub returns-clause-named : goal.returns-clause-named
returns-clause-named g c =
    let known = rw (← c.self.view_is) at c.requires.known in
    let below : c.args.stream < length c.self.inside.phases.items = omega (arith, known, c.self.invariant.sound.streams) in
    let active = sym (c.index.ensures ∙ get_or_default c.self.inside.phases.items c.args.stream _ Idle below) ∙ c.in-Active.is in
    let held = subst (λ p. Linked p (hold_of c.self.inside.access c.args.stream)) active (c.self.invariant.sound.linked c.args.stream) in
    named_all g.D.Device.bytes _ c.self.invariant.sound c.args.stream (subst Has (sym held) (has_held c.in-Active.present.kind)) _
    (ap (λ ledger. ledger.requests) c.note-place.ensures.entries) Idle refl
    c.unlock-woken.result c.unlock-woken.ensures.granted

pub returns-clause-others : goal.returns-clause-others
returns-clause-others g c =
    let known = rw (← c.self.view_is) at c.requires.known in
    let below : c.args.stream < length c.self.inside.phases.items = omega (arith, known, c.self.invariant.sound.streams) in
    let active = sym (c.index.ensures ∙ get_or_default c.self.inside.phases.items c.args.stream _ Idle below) ∙ c.in-Active.is in
    rw (← c.self.view_is, c.note-place.ensures.entries, c.of.ensures)
    (others_left g.D.Device.bytes _ c.self.invariant.sound c.args.stream c.in-Active.present active c.mark.result c.of-before.result c.of-after.result c.unlock-woken.new.self)
