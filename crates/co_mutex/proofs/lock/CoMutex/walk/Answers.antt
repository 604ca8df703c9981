use Rattle.std.proofs.Common.{ap, ◌-◌, arith}
use Rattle.co_mutex.specs.PoppedList.{PoppedList}
use Rattle.co_mutex.proofs.WalkLoop.{walk_init, walk_at, walk_room, walk_on, walk_end}
use Rattle.co_mutex.proofs.lock.CoMutex.walk.Goals as goal

pub loop-init : goal.loop-init
loop-init g c =
    (tt, tt, walk_init c.args.self.now c.args.pass.now c.args.list.now c.args.first c.requires.duty.0 c.requires.pass c.requires.word.0 c.requires.word.1 c.requires.duty.1 c.requires.list.0 c.requires.list.1 c.requires.list.2)

pub load_next-next-requires-clause-duty : goal.load_next-next-requires-clause-duty
load_next-next-requires-clause-duty g c =
    let a = c.loop.invariant.2.some_word in
    walk_at c.args.self.now c.args.pass.now c.loop.pass c.loop.list c.loop.word _ c.loop.invariant.2 (omega (arith, a))

pub put_first-requires : goal.put_first-requires
put_first-requires g c =
    let a = c.loop.invariant.2.some_word in
    walk_room c.args.self.now c.args.pass.now c.loop.pass c.load_next-next.new.pass c.loop.list c.loop.word (c.loop.word - 1) c.load_next-next.result c.loop.invariant.2 (omega (arith, a)) c.load_next-next.ensures.step

pub returns-then-next-eq0-clause-walked : goal.returns-then-next-eq0-clause-walked
returns-then-next-eq0-clause-walked g c =
    let a = c.loop.invariant.2.some_word in
    walk_end c.args.self.now c.args.pass.now c.loop.pass c.load_next-next.new.pass c.loop.list c.put_first.new.self c.loop.word (c.loop.word - 1) c.load_next-next.result c.loop.invariant.2 (omega (arith, a)) c.load_next-next.ensures.step (ap (λ (z : PoppedList). z.waiting) c.put_first.ensures) c.if-next-eq0.true

pub loop-preserved : goal.loop-preserved
loop-preserved g c =
    let a = c.loop.invariant.2.some_word in
    (tt, tt, walk_on c.args.self.now c.args.pass.now c.loop.pass c.load_next-next.new.pass c.loop.list c.put_first.new.self c.loop.word (c.loop.word - 1) c.load_next-next.result c.loop.invariant.2 (omega (arith, a)) c.load_next-next.ensures.step c.load_next-next.ensures.pass (ap (λ (z : PoppedList). z.waiting) c.put_first.ensures) (ap (λ (z : PoppedList). z.room) c.put_first.ensures) c.if-next-eq0.false)
