use Rattle.std.proofs.Common.{◌≡◌, ◌<◌, length, length-set, refl, arith, rules}
use Rattle.aio_model.specs.Loop.Inside.{pending_bit}
use Rattle.aio_model.proofs.LoopKept.{room_at, kept-enqueue}
use Rattle.aio_model.proofs.loops.one_loop.OneLoop.enqueue.Goals as goal

pub push_unless-requires : goal.push_unless-requires
push_unless-requires c idle =
    let a = c.self.inside in
    let below : c.args.index < length a.halves.items = search rules in
    let less = room_at a.halves.items a.stack.items a.out.items c.args.index _ c.self.invariant.kept below c.index_mut-half.ensures.value idle in
    omega (arith, less, c.self.invariant.halves, c.self.invariant.stack_room, a.stack.ok.0)

pub invariant_of-self : goal.invariant_of-self
invariant_of-self c =
    let a = c.self.inside in
    let below : c.args.index < length a.halves.items = search rules in
    let y = record c.index_mut-half.result.now { flags = c.joined-half.result } in
    let more : pending_bit y ≡ 1 = rw (c.joined-half.ensures, c.requires.pending) refl in
    record {
      few = c.self.invariant.few;
      few_events = c.self.invariant.few_events;
      halves = simp length-set c.self.invariant.halves;
      stack_room = rw c.push_unless.ensures.capacity c.self.invariant.stack_room;
      out_room = c.self.invariant.out_room;
      kept = rw c.push_unless.ensures.items (kept-enqueue a.halves.items a.stack.items a.out.items c.args.index c.index_mut-half.result.now y c.self.invariant.kept below c.index_mut-half.ensures.value more);
    }
