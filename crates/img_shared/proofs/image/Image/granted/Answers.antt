use Rattle.std.proofs.Common.{◌<◌, ◌∙◌, sym, ap, subst, refl, length, arith}
use Rattle.std.proofs.lemmas.List.{get_or_default}
use Rattle.aio_model.specs.Holds.WhoHolds.{hold_of}
use Rattle.img_shared.specs.declared.phases.Phase.TheVariants.{Idle, Active}
use Rattle.img_shared.specs.Phases.{Writing, has_failed, is_failed_stage}
use Rattle.img_shared.specs.Soundness.{IsInside}
use Rattle.img_shared.proofs.Charged.{charged_phase}
use Rattle.img_shared.proofs.Granting.{woken_granted}
use Rattle.img_shared.proofs.Named.{named_all}
use Rattle.img_shared.proofs.Others.{clean_got}
use Rattle.img_shared.proofs.Sounds.{sound_granted}
use Rattle.img_shared.proofs.image.Image.granted.Goals as goal

pub invariant_of-self : goal.invariant_of-self
invariant_of-self g c =
    let known = rw (← c.self.view_is) at c.requires.known in
    let has = rw (← c.self.view_is) at c.requires.holds in
    let sound = c.self.invariant.sound in
    let below : c.args.stream < length c.self.inside.phases.items = omega (arith, known, sound.streams) in
    let waits = sym (c.index.ensures ∙ get_or_default c.self.inside.phases.items c.args.stream _ Idle below) ∙ c.in-Waiting.is in
    record {
      sound = sound_granted g.D.Device.bytes _ sound c.args.stream known c.in-Waiting.present c.woken.new.self waits has c.woken.ensures.room
          (λ j. woken_granted c.woken.result j (hold_of c.self.inside.access j) (hold_of c.woken.new.self j) (c.woken.ensures.all j));
      charged = charged_phase g.D.Device.extent g.D.Device.faults g.D.Device.size_faults g.D.Device.calls _ c.self.invariant.charged c.args.stream below (Active c.in-Waiting.present) c.woken.new.self
          (ap has_failed waits)
          (ap is_failed_stage (subst (IsInside c.self.inside.size c.args.stream) waits (sound.inside c.args.stream)).1);
    }

pub returns-clause-named : goal.returns-clause-named
returns-clause-named g c =
    let has = rw (← c.self.view_is) at c.requires.holds in
    named_all g.D.Device.bytes _ c.self.invariant.sound c.args.stream has _ refl (Active c.in-Waiting.present) refl c.woken.result c.woken.ensures.granted

pub returns-clause-clean : goal.returns-clause-clean
returns-clause-clean g c =
    let known = rw (← c.self.view_is) at c.requires.known in
    let has = rw (← c.self.view_is) at c.requires.holds in
    let sound = c.self.invariant.sound in
    let below : c.args.stream < length c.self.inside.phases.items = omega (arith, known, sound.streams) in
    let waits = sym (c.index.ensures ∙ get_or_default c.self.inside.phases.items c.args.stream _ Idle below) ∙ c.in-Waiting.is in
    rw (← c.self.view_is)
    (clean_got g.D.Device.bytes _ sound c.args.stream c.self.inside.access
    (λ writes. subst Writing waits writes) has (λ j ne. refl))
