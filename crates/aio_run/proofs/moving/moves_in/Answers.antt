use Rattle.std.proofs.Common.{◌≡◌, length, ap, sym, ◌∙◌, arith}
use Rattle.aio_run.specs.Moves.{begun_in, moved_in, states_in}
use Rattle.aio_run.proofs.Counted.{states_all, begun_all, left_over}
use Rattle.aio_run.proofs.moving.moves_in.Goals as goal

pub overflow_sub-moved : goal.overflow_sub-moved
overflow_sub-moved g c =
    let all = states_all c.args.script.now c.args.loops.now c.requires.served in
    let begun = begun_all c.args.script.now c.args.loops.now c.requires.bounded c.requires.served in
    let slice : length c.as_slice.result.now ≡ length c.args.script.now.streams = ap length c.as_slice.ensures in
    (left_over (states_in c.args.loops.now) (begun_in c.args.loops.now) (moved_in c.args.loops.now) (length c.as_slice.result.now) c.states_in.result all (begun ∙ sym slice) (omega (arith, slice, c.requires.bounded.few_streams)) c.states_in.ensures).0

pub returns-clause-moved : goal.returns-clause-moved
returns-clause-moved g c =
    let all = states_all c.args.script.now c.args.loops.now c.requires.served in
    let begun = begun_all c.args.script.now c.args.loops.now c.requires.bounded c.requires.served in
    let slice : length c.as_slice.result.now ≡ length c.args.script.now.streams = ap length c.as_slice.ensures in
    c.at_most_u32.ensures ∙ (left_over (states_in c.args.loops.now) (begun_in c.args.loops.now) (moved_in c.args.loops.now) (length c.as_slice.result.now) c.states_in.result all (begun ∙ sym slice) (omega (arith, slice, c.requires.bounded.few_streams)) c.states_in.ensures).1

pub returns-clause-begun : goal.returns-clause-begun
returns-clause-begun g c =
    begun_all c.args.script.now c.args.loops.now c.requires.bounded c.requires.served
