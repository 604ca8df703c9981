use Rattle.std.proofs.Common.{ap, ◌∙◌}
use Rattle.aio_core.specs.Known.{Known}
use Rattle.aio_core.proofs.Within.{taken_few, taken_within, taken_same, taken_hand}
use Rattle.aio_core.proofs.table.LoopTable.take.Goals as goal

pub invariant_of-home : goal.invariant_of-home
invariant_of-home g c =
    let home = c.args.home.now in
    let v = home.seat.known in
    let w = c.swap_head-found.new.seat.known in
    let found = c.swap_head-found.result in
    let takes = c.swap_head-found.ensures.step in
    record {
      number = (ap (λ (k : Known). k.first) takes.rest ∙ home.number.0, ap (λ (k : Known). k.count) takes.rest ∙ home.number.1);
      same_slices = taken_same found v w home.slices c.push.new.self takes home.same_slices c.push.ensures;
      few_slices = taken_few found home.slices c.push.new.self v.stage.slices home.same_slices c.requires.room c.push.ensures;
      slices_within = taken_within found v w home.slices c.push.new.self takes c.push.ensures home.slices_within;
      hand_is_handle = taken_hand found v w takes home.hand_is_handle;
    }
