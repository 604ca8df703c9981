use Rattle.std.proofs.Common.{◌∙◌, ap}
use Rattle.aio_model.specs.Holds.WhoHolds.{ReadersWriter, hold_of}
use Rattle.aio_model.proofs.Holding.{released-own}
use Rattle.co_waits.specs.Registers.{state_in}
use Rattle.co_waits.proofs.Kept.{release_present, released_writer, released_reader}
use Rattle.co_waits.proofs.register.Register.release.Goals as goal

pub unlink-requires : goal.unlink-requires
unlink-requires c =
    let inside = c.self.inside in
    release_present inside.readers inside.tickets inside.wishes.items c.args.who inside.writer (rw (← c.self.view_is) at c.requires.held) c.in-None.is

pub invariant_of-self : goal.invariant_of-self
invariant_of-self c =
    let inside = c.self.inside in
    (released_writer inside.readers inside.tickets inside.wishes.items c.args.who inside.writer c.in-Some.field-0 c.in-Some.is c.self.invariant).kept

pub returns-in-Some-clause-released : goal.returns-in-Some-clause-released
returns-in-Some-clause-released c =
    let inside = c.self.inside in
    let stands = released_writer inside.readers inside.tickets inside.wishes.items c.args.who inside.writer c.in-Some.field-0 c.in-Some.is c.self.invariant in
    (rw (← c.self.view_is) stands.is)

pub invariant_of-self-in-None : goal.invariant_of-self-in-None
invariant_of-self-in-None c =
    let inside = c.self.inside in
    (released_reader inside.readers inside.tickets inside.wishes.items c.args.who inside.writer c.unlink.new.self c.in-None.is c.self.invariant c.unlink.ensures.items c.unlink.ensures.room).kept

pub returns-in-None-clause-released : goal.returns-in-None-clause-released
returns-in-None-clause-released c =
    let inside = c.self.inside in
    let stands = released_reader inside.readers inside.tickets inside.wishes.items c.args.who inside.writer c.unlink.new.self c.in-None.is c.self.invariant c.unlink.ensures.items c.unlink.ensures.room in
    (rw (← c.self.view_is) stands.is)

pub returns-in-Some-clause-free : goal.returns-in-Some-clause-free
returns-in-Some-clause-free c =
    let inside = c.self.inside in
    let stands = released_writer inside.readers inside.tickets inside.wishes.items c.args.who inside.writer c.in-Some.field-0 c.in-Some.is c.self.invariant in
    ap (λ (s : ReadersWriter). hold_of s c.args.who) stands.is ∙ released-own (state_in inside.readers inside.writer inside.tickets inside.wishes.items) c.self.invariant.orderly c.args.who (rw (← c.self.view_is) at c.requires.held)

pub returns-in-None-clause-free : goal.returns-in-None-clause-free
returns-in-None-clause-free c =
    let inside = c.self.inside in
    let stands = released_reader inside.readers inside.tickets inside.wishes.items c.args.who inside.writer c.unlink.new.self c.in-None.is c.self.invariant c.unlink.ensures.items c.unlink.ensures.room in
    ap (λ (s : ReadersWriter). hold_of s c.args.who) stands.is ∙ released-own (state_in inside.readers inside.writer inside.tickets inside.wishes.items) c.self.invariant.orderly c.args.who (rw (← c.self.view_is) at c.requires.held)
