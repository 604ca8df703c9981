use Rattle.std.proofs.Common.{◌≡◌, ◌<◌, sym, subst}
use Rattle.aio_model.specs.Loop.InFlight.{HeadLoaded}
use Rattle.aio_core.specs.Words.{index_count}
use Rattle.aio_core.proofs.Aiming.{next_store_allowed}
use Rattle.aio_core.proofs.Opened.{same_table, held_numbers, next_within}
use Rattle.aio_core.proofs.table.LoopTable.store_next.Goals as goal

pub store-requires : goal.store-requires
store-requires g c =
    let s = c.seat.inside.inner in
    let t = c.self.inside.table.shared in
    let bh = c.args.bh in
    let below : bh < index_count t.key = subst (λ z. bh < index_count z.sizes) (sym c.self.view_is) c.requires.below in
    let phase : s.me.0.phase ≡ HeadLoaded bh c.args.head = subst (λ z. z.known.phase ≡ HeadLoaded bh c.args.head) (sym c.seat.view_is) c.requires.phase in (
      same_table s.table_id t.table_id s.me.0 t.key c.args.seat.now c.args.self.now c.seat.view_is c.self.view_is c.requires.seat,
      next_within t.table_id.words c.next_word.result bh t.key c.self.invariant.1 c.next_word.ensures below,
      rw c.next_word.ensures (next_store_allowed _ t.key t.table_id.slots s.id bh c.args.head s.me (held_numbers s.me _ _ c.seat.invariant) phase),
    )
