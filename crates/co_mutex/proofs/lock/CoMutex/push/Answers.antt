use Rattle.co_mutex.specs.LockWords.{next_at}
use Rattle.co_mutex.proofs.PushLoop.{push_init, push_named, push_free, loaded_place, stored_place, push_on, push_end}
use Rattle.co_mutex.proofs.lock.CoMutex.push.Goals as goal

pub loop-init : goal.loop-init
loop-init g c =
    (tt, tt, push_init c.args.self.now c.args.who c.args.pass.now c.store_who.new.pass c.store_who.ensures.pass c.store_who.ensures.step)

pub load_head-head-requires-clause-place : goal.load_head-head-requires-clause-place
load_head-head-requires-clause-place g c =
    (push_free c.args.self.now c.args.who c.args.pass.now c.loop.pass c.loop.invariant.2, (c.args.who, push_named c.args.self.now c.args.who c.args.pass.now c.loop.pass c.loop.invariant.2))

pub loop-preserved : goal.loop-preserved
loop-preserved g c =
    (tt, tt, push_on c.args.self.now c.args.who c.args.pass.now c.loop.pass c.loop.invariant.2 c.load_head-head.new.pass c.store_next.new.pass c.load_head-head.result (c.load_head-head.ensures.step c.args.who (push_named c.args.self.now c.args.who c.args.pass.now c.loop.pass c.loop.invariant.2)) (next_at c.load_head-head.new.pass.seat.me.0.number) (c.store_next.ensures.step c.args.who (loaded_place c.args.self.now c.args.who c.args.pass.now c.loop.pass c.loop.invariant.2 c.load_head-head.new.pass c.store_next.new.pass c.load_head-head.result (c.load_head-head.ensures.step c.args.who (push_named c.args.self.now c.args.who c.args.pass.now c.loop.pass c.loop.invariant.2)))) c.compare_head.new.pass c.compare_head.result c.compare_head.ensures.pass (c.compare_head.ensures.step c.args.who (stored_place c.args.self.now c.args.who c.args.pass.now c.loop.pass c.loop.invariant.2 c.load_head-head.new.pass c.store_next.new.pass c.load_head-head.result (c.load_head-head.ensures.step c.args.who (push_named c.args.self.now c.args.who c.args.pass.now c.loop.pass c.loop.invariant.2)) (next_at c.load_head-head.new.pass.seat.me.0.number) (c.store_next.ensures.step c.args.who (loaded_place c.args.self.now c.args.who c.args.pass.now c.loop.pass c.loop.invariant.2 c.load_head-head.new.pass c.store_next.new.pass c.load_head-head.result (c.load_head-head.ensures.step c.args.who (push_named c.args.self.now c.args.who c.args.pass.now c.loop.pass c.loop.invariant.2)))))) c.if-compare_head-head.false)

pub returns-then-compare_head-head-clause-pushed : goal.returns-then-compare_head-head-clause-pushed
returns-then-compare_head-head-clause-pushed g c =
    push_end c.args.self.now c.args.who c.args.pass.now c.loop.pass c.loop.invariant.2 c.load_head-head.new.pass c.store_next.new.pass c.load_head-head.result (c.load_head-head.ensures.step c.args.who (push_named c.args.self.now c.args.who c.args.pass.now c.loop.pass c.loop.invariant.2)) (next_at c.load_head-head.new.pass.seat.me.0.number) (c.store_next.ensures.step c.args.who (loaded_place c.args.self.now c.args.who c.args.pass.now c.loop.pass c.loop.invariant.2 c.load_head-head.new.pass c.store_next.new.pass c.load_head-head.result (c.load_head-head.ensures.step c.args.who (push_named c.args.self.now c.args.who c.args.pass.now c.loop.pass c.loop.invariant.2)))) c.compare_head.new.pass c.compare_head.result (c.compare_head.ensures.step c.args.who (stored_place c.args.self.now c.args.who c.args.pass.now c.loop.pass c.loop.invariant.2 c.load_head-head.new.pass c.store_next.new.pass c.load_head-head.result (c.load_head-head.ensures.step c.args.who (push_named c.args.self.now c.args.who c.args.pass.now c.loop.pass c.loop.invariant.2)) (next_at c.load_head-head.new.pass.seat.me.0.number) (c.store_next.ensures.step c.args.who (loaded_place c.args.self.now c.args.who c.args.pass.now c.loop.pass c.loop.invariant.2 c.load_head-head.new.pass c.store_next.new.pass c.load_head-head.result (c.load_head-head.ensures.step c.args.who (push_named c.args.self.now c.args.who c.args.pass.now c.loop.pass c.loop.invariant.2)))))) c.if-compare_head-head.true
