use Rattle.std.proofs.Common.{arith, vec_len}
use Rattle.loop_rows.specs.declared.shared.LoopShared.{LoopShared}
use Rattle.loop_rows.specs.declared.seats.Seats.{Seats}
use Rattle.loop_threads.specs.declared.members.Member.{Member}
use Rattle.loop_threads.specs.declared.ending.LoopRun.{LoopRun}
use Rattle.loop_threads.specs.Ending.{EndsLoop}
use Rattle.loop_rows.proofs.Places.{longer}
use Rattle.loop_threads.proofs.Ended.{four_pushed}
use Rattle.loop_threads.proofs.ending.+end_rest.Goals as goal

pub returns-clause-ends : goal.returns-clause-ends
returns-clause-ends g t c =
    let all = c.args.rest in
    let rest = c.take_last.new.self in
    let last = c.in-Some.last in
    let is = c.in-Some.ensures.last in
    let left = c.in-Some.ensures.rest in
    let ended = c.end_rest.ensures.ends in
    let ends = c.end_rest.new.ends in
    let pushed = c.push_reserved.ensures in
    let n = longer all.shared.items rest.shared.items last.shared is.shared_is in (
      omega (arith, n, all.shared.ok.0, rest.shared.ok.0, pushed.len, ended.0),
      (λ k a b s r lt. four_pushed (λ (x : LoopShared _ _) (y : Member _ _ _) (z : Seats _ _) (v : LoopRun _ _ _). EndsLoop x y z v) all.shared.items rest.shared.items all.members.items rest.members.items all.seats.items rest.seats.items c.push_reserved.new.self.items ends.items last.shared last.member last.seats c.end_loop.result (vec_len rest.shared)
          is.shared_is is.member_is is.seats_are pushed.items (omega (arith, rest.shared.ok.0)) (omega (arith, rest.members.ok.0, left.homes_long)) (omega (arith, rest.seats.ok.0, left.seats_long)) (omega (arith, ends.ok.0, ended.0)) ended.1 c.end_loop.ensures k a b s r (omega (arith, lt, n, all.shared.ok.0, rest.shared.ok.0))),
    )
