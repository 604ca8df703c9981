use Rattle.std.proofs.Common.{◌≡◌, ◌<◌, ◌+◌, ℕ, sym, ap, ◌∙◌, subst, arith}
use Rattle.aio_core.specs.Words.{flags_at}
use Rattle.aio_core.specs.Calls.{TableState}
use Rattle.aio_core.proofs.Claiming.{claim_allowed}
use Rattle.aio_core.proofs.Opened.{flags_within}
use Rattle.aio_core.proofs.table.LoopTable.claim.Goals as goal

pub compare_exchange_with-requires : goal.compare_exchange_with-requires
compare_exchange_with-requires g c =
    let t = c.self.inside.table.shared in
    let s = c.args.inner.now in
    let x = c.requires.job.0 in
    let low : c.args.lot < t.key.lots = subst (λ z. c.args.lot < z.sizes.lots) (sym c.self.view_is) c.requires.lot in
    let index : c.index_of_lot-bh.result ≡ t.key.handles + c.args.lot = c.index_of_lot-bh.ensures.index ∙ sym (ap (λ (z : TableState). z.sizes.handles + c.args.lot) c.self.view_is) in
    let place : c.flags_word.result ≡ flags_at (t.key.handles + c.args.lot) = c.flags_word.ensures ∙ ap (λ (n : ℕ). flags_at n) index in (
      c.requires.table ∙ sym (ap (λ (z : TableState). z.table) c.self.view_is),
      flags_within t.table_id.words c.flags_word.result (t.key.handles + c.args.lot) t.key c.self.invariant.1 place (omega arith),
      rw (place, c.requires.job.1) (claim_allowed _ t.key t.table_id.slots s.id c.args.lot x s.me low c.requires.numbers c.requires.rest),
    )
