use Rattle.std.proofs.Common.{◌≡◌, ap, arith}
use Rattle.aio_core.proofs.Opened.{head_within}
use Rattle.aio_core.proofs.Splitting.{split_allowed}
use Rattle.aio_core.proofs.built.opened.Goals as goal

pub split_seat-home-requires : goal.split_seat-home-requires
split_seat-home-requires g c =
    let t = c.args.table.shared in
    let count : c.args.seat.me.0.count ≡ 65 = ap (λ m. m.0.count) c.requires.seat.1 in
    (c.requires.seat.0, head_within t.table_id.words c.args.counts c.requires.counts.0, split_allowed _ t.key c.args.seat.id 64 c.args.seat.me.0 (omega arith) (omega arith))
