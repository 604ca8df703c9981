use Rattle.co_waits.proofs.Kept.{write_stands}
use Rattle.co_waits.proofs.register.Register.write.Goals as goal

pub invariant_of-self : goal.invariant_of-self
invariant_of-self c =
    let inside = c.self.inside in
    (write_stands inside.readers inside.tickets inside.wishes.items c.args.who inside.writer c.self.invariant (rw (← c.self.view_is) at c.requires.free) (rw (← c.self.view_is) at c.requires.vacant) (rw (← c.self.view_is) at c.requires.below)).kept
