use Rattle.std.proofs.Common.{◌≡◌, ◌<◌, [], ◌∷◌, length, length-set, reverse, get_or, true, Some, ap, refl, ◌∙◌, arith}
use Rattle.std.proofs.lemmas.List.{reverse-append, get_or_read}
use Rattle.aio_model.specs.declared.loops.bottom_halves.BottomHalf.{BottomHalf}
use Rattle.aio_model.specs.Loop.State.{blank}
use Rattle.aio_model.specs.Loop.Inside.{state_of, pending_bit}
use Rattle.aio_model.proofs.LoopKept.{kept-pop, out_in_range}
use Rattle.aio_model.proofs.LoopFollows.{dequeue_follows}
use Rattle.aio_model.proofs.loops.one_loop.OneLoop.dequeue.Goals as goal
use Rattle.aio_model.proofs.loops.one_loop.OneLoop.dequeue.Goals.{In_ok-index}

in_range : (c : In_ok-index) → c.in_ok-index.index < length c.self.inside.halves.items
in_range c =
    let a = c.self.inside in
    let kept = rw c.in_ok-index.ensures.items at c.self.invariant.kept in
    out_in_range a.halves.items a.stack.items c.pop.new.self.items c.in_ok-index.index kept

pub index_mut-half-requires : goal.index_mut-half-requires
index_mut-half-requires c =
    omega (arith, in_range ((goal.at.index_mut-half-requires c).In_ok-index), c.self.inside.halves.ok.0)

pub invariant_of-self-2 : goal.invariant_of-self-2
invariant_of-self-2 c =
    let a = c.self.inside in
    let v = c.self.invariant in
    let kept = rw c.in_ok-index.ensures.items at v.kept in
    let y = record c.index_mut-half.result.now { flags = c.left_of-half.result; dequeued = true } in
    let idle : pending_bit y ≡ 0 = rw c.left_of-half.ensures refl in
    record {
      few = v.few;
      few_events = v.few_events;
      halves = simp length-set v.halves;
      stack_room = v.stack_room;
      out_room = rw c.in_ok-index.ensures.capacity v.out_room;
      kept = kept-pop a.halves.items a.stack.items c.pop.new.self.items c.in_ok-index.index kept y idle;
    }

pub returns-clause-follows : goal.returns-clause-follows
returns-clause-follows c log stands =
    let a = c.self.inside in
    let i = c.in_ok-index.index in
    let rest = c.pop.new.self.items in
    let below = in_range ((goal.at.returns-clause-follows c).In_ok-index) in
    let next : reverse a.out.items ≡ i ∷ reverse rest = rw (c.in_ok-index.ensures.items, reverse-append rest (i ∷ [])) refl in
    let half : c.index_mut-half.result.now ≡ get_or a.halves.items i blank = get_or_read a.halves.items i _ below c.index_mut-half.ensures.value blank in
    let f = dequeue_follows (state_of a) log (rw (← c.self.view_is) at stands) i (reverse rest) next below in
    (ap (λ (h : BottomHalf). Some (i, h.flags)) half ∙ f.0, rw (c.left_of-half.ensures, half) f.1)
