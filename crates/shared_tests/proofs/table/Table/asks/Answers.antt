use Rattle.std.proofs.Common.{◌<◌, length, arith}
use Rattle.shared_tests.proofs.Seated.{all_asked}
use Rattle.shared_tests.proofs.table.Table.asks.Goals as goal

pub invariant_of-self : goal.invariant_of-self
invariant_of-self g c =
    let below : c.args.stream < length c.self.inside.players.items = omega (arith, c.if-stream-len.false, c.len.ensures) in
    all_asked g.D.Device.bytes c.args.stream c.self.inside.players.items c.index_mut.result.now c.asks.new.self below
    c.self.inside.image c.self.invariant c.index_mut.ensures.value c.asks.ensures.stream c.asks.ensures.left c.asks.ensures.turn c.asks.ensures.request
