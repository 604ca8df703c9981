use Rattle.std.proofs.Common.{◌<◌, length, arith, refl, ap}
use Rattle.img_shared.specs.declared.phases.Phase.TheVariants.{Retired}
use Rattle.img_shared.specs.Phases.{has_failed}
use Rattle.img_shared.proofs.Charged.{charged_phase}
use Rattle.img_shared.proofs.Sounds.{sound_retired}
use Rattle.img_shared.proofs.image.Image.retire.Goals as goal

pub invariant_of-self : goal.invariant_of-self
invariant_of-self g c =
    let known = rw (← c.self.view_is) at c.requires.known in
    let free = rw (← c.self.view_is) at c.requires.free in
    let all = rw (← c.self.view_is) at c.requires.all in
    let below : c.args.stream < length c.self.inside.phases.items = omega (arith, known, c.self.invariant.sound.streams) in
    record {
      sound = sound_retired g.D.Device.bytes _ c.self.invariant.sound c.args.stream known free all;
      charged = charged_phase g.D.Device.extent g.D.Device.faults g.D.Device.size_faults g.D.Device.calls _ c.self.invariant.charged c.args.stream below Retired _ (ap has_failed free) refl;
    }
