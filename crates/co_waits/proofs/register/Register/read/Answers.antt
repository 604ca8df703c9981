use Rattle.std.proofs.Common.{◌≡◌, ◌∙◌}
use Rattle.co_waits.proofs.Kept.{read_absent, read_stands}
use Rattle.co_waits.proofs.register.Register.read.Goals as goal

pub push_back-requires-clause-absent : goal.push_back-requires-clause-absent
push_back-requires-clause-absent c =
    let inside = c.self.inside in
    read_absent inside.readers inside.tickets inside.wishes.items c.args.who inside.writer (rw (← c.self.view_is) at c.requires.free) (rw (← c.self.view_is) at c.requires.unwritten)

pub invariant_of-self : goal.invariant_of-self
invariant_of-self c =
    let inside = c.self.inside in
    (read_stands inside.readers inside.tickets inside.wishes.items c.args.who inside.writer c.push_back.new.self c.self.invariant (rw (← c.self.view_is) at c.requires.free) (rw (← c.self.view_is) at c.requires.unwritten) (rw (← c.self.view_is) at c.requires.below) c.push_back.ensures.items c.push_back.ensures.room).kept

pub returns : goal.returns
returns c =
    let inside = c.self.inside in
    let stands = read_stands inside.readers inside.tickets inside.wishes.items c.args.who inside.writer c.push_back.new.self c.self.invariant (rw (← c.self.view_is) at c.requires.free) (rw (← c.self.view_is) at c.requires.unwritten) (rw (← c.self.view_is) at c.requires.below) c.push_back.ensures.items c.push_back.ensures.room in
    record { read = rw (← c.self.view_is) stands.is }
