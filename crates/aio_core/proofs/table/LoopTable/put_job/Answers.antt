use Rattle.std.proofs.Common.{◌≡◌, ◌<◌, ◌+◌, ℕ, Some, ◌∷◌, refl, sym, ap, ◌∙◌, subst, arith}
use Rattle.aio_model.specs.Loop.InFlight.{LotClaimed}
use Rattle.atomic_table.specs.Table.{rest}
use Rattle.aio_core.specs.Known.{Known}
use Rattle.aio_core.specs.Words.{flags_at}
use Rattle.aio_core.specs.Calls.{TableState}
use Rattle.aio_core.specs.Plays.{Enqueued}
use Rattle.aio_core.proofs.Delivering.{lot_enqueue_of}
use Rattle.aio_core.proofs.Opened.{flags_within}
use Rattle.aio_core.proofs.table.LoopTable.put_job.Goals as goal

pub fetch_or-requires : goal.fetch_or-requires
fetch_or-requires g c =
    let t = c.self.inside.table.shared in
    let s = c.exchange-empty.new.seat in
    let old = c.args.inner.now in
    let lot = c.args.lot in
    let x = c.requires.claimed.0 in
    let moved = c.exchange-empty.ensures in
    let low : lot < t.key.lots = subst (λ z. lot < z.sizes.lots) (sym c.self.view_is) c.requires.lot in
    let handles : c.args.self.now.sizes.handles ≡ t.key.handles = sym (ap (λ (z : TableState). z.sizes.handles) c.self.view_is) in
    let index : c.index_of_lot-bh.result ≡ t.key.handles + lot = c.index_of_lot-bh.ensures.index ∙ ap (λ (n : ℕ). n + lot) handles in
    let place : c.flags_word.result ≡ flags_at (t.key.handles + lot) = c.flags_word.ensures ∙ ap (λ (n : ℕ). flags_at n) index in
    let known : s.me.0 ≡ old.me.0 = ap (λ m. m.0) moved.3 in
    let held : s.me.1 ≡ (lot, Some x) ∷ rest old.me.1 = ap (λ m. m.1) moved.3 ∙ ap (λ o. (lot, o) ∷ rest old.me.1) c.requires.claimed.1 in
    let phase : s.me.0.phase ≡ LotClaimed (t.key.handles + lot) (g.J.Job.number_of x) = ap (λ (k : Known). k.phase) known ∙ c.requires.claimed.2 ∙ ap (λ (n : ℕ). LotClaimed (n + lot) (g.J.Job.number_of x)) handles in
    let count : 0 < s.me.0.count = subst (λ (k : Known). 0 < k.count) (sym known) c.requires.numbers in (
      moved.0 ∙ c.requires.table ∙ sym (ap (λ (z : TableState). z.table) c.self.view_is),
      flags_within t.table_id.words c.flags_word.result (t.key.handles + lot) t.key c.self.invariant.1 place (omega arith),
      rw place (lot_enqueue_of g.J.Job.number_of t.key t.table_id.slots s.id lot (g.J.Job.number_of x) x s.me (rest old.me.1) held c.self.invariant.2 low count phase refl),
    )

pub returns-clause-told : goal.returns-clause-told
returns-clause-told g c =
    let known = ap (λ m. m.0) c.exchange-empty.ensures.3 in
    let index = c.index_of_lot-bh.ensures.index in
    let told = c.fetch_or.ensures.2.1 (c.args.self.now.sizes.handles + c.args.lot) (c.flags_word.ensures ∙ ap (λ (n : ℕ). flags_at n) index) in
    (c.fetch_or.result, subst (λ (k : Known). Enqueued (c.args.self.now.sizes.handles + c.args.lot) 11 c.fetch_or.result k c.fetch_or.new.seat.me.0) known told)
