use Rattle.std.proofs.Common.{map, ap, refl}
use Rattle.bell_loop.proofs.Commanding.{IsNew-of}
use Rattle.bell_loop.proofs.machine.Machine.build.Goals as goal

pub returns-clause-new : goal.returns-clause-new
returns-clause-new g c =
    let new = c.in-Ok-build.ensures.built in
    IsNew-of _ _ _ new.sizes_are (ap (map (λ l. l.items)) c.in_ok-callbacks.ensures.lists) (ap (λ k. k.seen) new.home_is) c.in_ok-callbacks.ensures.rang refl c.in_ok-marks.ensures
