use Rattle.std.proofs.Common.{◌<◌, length, arith}
use Rattle.shared_tests.proofs.Seated.{sits_found, all_stepped}
use Rattle.shared_tests.proofs.table.Table.step.Goals as goal

pub step-requires : goal.step-requires
step-requires g c =
    let below : c.args.stream < length c.self.inside.players.items = omega (arith, c.if-stream-len.false, c.len.ensures) in
    record {
      sits = (sits_found g.D.Device.bytes c.args.stream c.self.inside.players.items c.index_mut.result.now c.index_mut.result.now below
          c.self.inside.image c.self.invariant c.index_mut.ensures.value).1;
    }

pub invariant_of-self : goal.invariant_of-self
invariant_of-self g c =
    let below : c.args.stream < length c.self.inside.players.items = omega (arith, c.if-stream-len.false, c.len.ensures) in
    all_stepped g.D.Device.bytes c.args.stream c.self.inside.players.items c.index_mut.result.now c.step.new.self below
    c.self.inside.image c.self.invariant c.index_mut.ensures.value c.step.new.image c.step.ensures.stream c.step.ensures.others c.step.ensures.sits
