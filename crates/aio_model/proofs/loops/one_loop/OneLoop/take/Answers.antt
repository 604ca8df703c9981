use Rattle.std.proofs.Common.{◌∙◌, sym, arith}
use Rattle.std.proofs.lemmas.List.{reverse-append, length-reverse}
use Rattle.aio_model.specs.Loop.Inside.{state_of}
use Rattle.aio_model.proofs.LoopKept.{kept-length, kept-take}
use Rattle.aio_model.proofs.LoopFollows.{take_follows}
use Rattle.aio_model.proofs.loops.one_loop.OneLoop.take.Goals as goal

pub take_all-requires-clause-few : goal.take_all-requires-clause-few
take_all-requires-clause-few c =
    let a = c.self.inside in
    let v = c.self.invariant in
    omega (arith, kept-length a.halves.items a.stack.items a.out.items v.kept, v.halves, v.few, a.stack.ok.0)

pub take_all-requires-clause-room : goal.take_all-requires-clause-room
take_all-requires-clause-room c =
    let a = c.self.inside in
    let v = c.self.invariant in
    omega (arith, kept-length a.halves.items a.stack.items a.out.items v.kept, v.halves, v.stack_room, a.stack.ok.0, a.out.ok.0)

pub invariant_of-self : goal.invariant_of-self
invariant_of-self c =
    let a = c.self.inside in
    let v = c.self.invariant in
    record {
      few = v.few;
      few_events = v.few_events;
      halves = v.halves;
      stack_room = rw c.take_all.ensures.stack_capacity v.out_room;
      out_room = omega (arith, v.stack_room, c.take_all.ensures.out_capacity);
      kept = rw (c.take_all.ensures.stack, c.take_all.ensures.out) (kept-take a.halves.items a.stack.items a.out.items v.kept);
    }

pub returns-clause-follows : goal.returns-clause-follows
returns-clause-follows c log stands =
    let a = c.self.inside in
    let f = take_follows (state_of a) log (rw (← c.self.view_is) at stands) in
    (c.take_all.ensures.count ∙ (a.stack.ok.0 ∙ (sym (length-reverse a.stack.items) ∙ f.0)), rw (c.take_all.ensures.stack, c.take_all.ensures.out, reverse-append a.stack.items a.out.items) f.1)
