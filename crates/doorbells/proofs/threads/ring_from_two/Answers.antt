use Rattle.doorbells.proofs.Joined.{rings_twice}
use Rattle.doorbells.proofs.threads.ring_from_two.Goals as goal

pub returns : goal.returns
returns g c =
    let halves = c.in-Some.ensures.split in
    let rung = c.ring_both-first.ensures in
    rings_twice c.args.table.now c.args.low c.args.high c.ring_both-first.result.0.1 c.ring_both-first.result.1.1 c.args.seat c.split.new.seat c.in-Some.second c.ring_both-first.result.0.0 c.ring_both-first.result.1.0 c.join.new.seat
    c.requires.low c.requires.high halves.2 halves.3 rung.first rung.second c.join.ensures.seat c.join.ensures.both c.join.ensures.parts
