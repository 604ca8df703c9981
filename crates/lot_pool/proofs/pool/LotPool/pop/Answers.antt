use Rattle.std.proofs.Common.{◌≡◌, ℕ, List, ap, ◌∙◌, sym, subst, Contains}
use Rattle.crossbeam_queue.specs.Passes.{view}
use Rattle.lot_pool.specs.declared.view.PoolView.{PoolView}
use Rattle.lot_pool.specs.declared.view.PoolStep.TheVariants.{Popped, FoundEmpty}
use Rattle.lot_pool.specs.PoolRule.{stepped, StandsBeside}
use Rattle.lot_pool.specs.Pools.{PassState}
use Rattle.lot_pool.proofs.Passes.{matched, now_knows}
use Rattle.lot_pool.proofs.Indices.{within}
use Rattle.crossbeam_queue.specs.Fifo.{Held}
use Rattle.lot_pool.proofs.pool.LotPool.pop.Goals as goal

pub returns-clause-popped : goal.returns-clause-popped
returns-clause-popped g c =
    let same : c.args.pass.now.known ≡ view c.pass.inside.inner = ap (λ (p : PassState). p.known) (sym c.pass.view_is) in
    matched c.take_out.result
    (λ e. record {
      noted = now_knows c.args.pass.now _ _ _ _ _ _ _ _ (sym c.pass.view_is) c.take_out.ensures.queue.0 (e.0 ∙ ap (stepped FoundEmpty) (sym same));
      empty = let P : PoolView → Type 0 = λ v. Held 0 (StandsBeside v) in subst P (sym same) e.1;
    })
    (λ lot e. (
      now_knows c.args.pass.now _ _ _ _ _ _ _ _ (sym c.pass.view_is) c.take_out.ensures.queue.0 (e.1 ∙ ap (stepped (Popped lot)) (sym same)),
      let P : PoolView → Type 0 = λ v. Contains v.lots lot in let Q : List ℕ → Type 0 = λ l. Contains l lot in
          within c.args.self.now.handles c.args.self.now.lots lot (subst Q c.requires.pass.lots (subst P (sym same) e.0)),
    ))
    c.take_out.ensures.taken
