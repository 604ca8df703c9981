use Rattle.std.proofs.Common.{◌≡◌, ◌-◌, length, ap, ◌∙◌, arith}
use Rattle.lot_pool.specs.declared.view.PoolView.{PoolView}
use Rattle.crossbeam_queue.specs.Passes.{view}
use Rattle.lot_pool.proofs.Indices.{length_indices}
use Rattle.lot_pool.proofs.steps.fill.Goals as goal

pub put_in-requires-clause-room : goal.put_in-requires-clause-room
put_in-requires-clause-room g c =
    let e : length (view c.loop-lot.pass).lots ≡ c.loop-lot.lot - c.args.handles = ap (λ (v : PoolView). length v.lots) c.loop-lot.invariant.1 ∙ length_indices c.args.handles (c.loop-lot.lot - c.args.handles) in
    let t = c.loop-lot-test.true in let r = c.requires.room in let few = c.requires.few in let a = c.loop-lot.auto in omega (e, t, r, few, a, arith)
