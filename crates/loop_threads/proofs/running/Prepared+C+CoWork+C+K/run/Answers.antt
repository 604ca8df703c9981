use Rattle.std.proofs.Common.{◌≡◌, ◌∙◌, arith, length, vec_len}
use Rattle.co_loop.specs.Working.{CanWork, Works}
use Rattle.loop_threads.proofs.Outcomes.{carried_parts, carried_twice, carried_order, runs_each}
use Rattle.loop_threads.proofs.running.Prepared+C+CoWork+C+K.run.Goals as goal

pub quieten-requires-clause-parts : goal.quieten-requires-clause-parts
quieten-requires-clause-parts g c =
    let was = c.carry_all-done.ensures in
    carried_parts (CanWork g.C.Origin.is_of) (Works g.row.E.Denot g.row.R.Denot g.C.Origin.is_of g.C.Co.resumes g.K.Clock.time) c.args.shared.now (vec_len c.args.self.parts) c.args.self.parts.items c.carry_all-done.result.items (omega (arith, was.0, c.carry_all-done.result.ok.0)) was.1

pub join_all-requires-clause-parts : goal.join_all-requires-clause-parts
join_all-requires-clause-parts g c =
    let was = c.carry_all-done.ensures in
    let now = c.quieten.ensures in
    let parts = c.args.self.parts in
    let done = c.carry_all-done.result in
    let all = carried_twice (CanWork g.C.Origin.is_of) (Works g.row.E.Denot g.row.R.Denot g.C.Origin.is_of g.C.Co.resumes g.K.Clock.time) c.args.shared.now (vec_len parts) parts.items done.items c.quieten.new.parts.items was.1 (λ k p q lt. now.carried k p q (omega (arith, lt, was.0))) in
    let long : length c.quieten.new.parts.items ≡ vec_len parts = omega (arith, now.len, was.0, c.quieten.new.parts.ok.0) in (
      carried_parts (CanWork g.C.Origin.is_of) (Works g.row.E.Denot g.row.R.Denot g.C.Origin.is_of g.C.Co.resumes g.K.Clock.time) c.args.shared.now (vec_len parts) parts.items c.quieten.new.parts.items long all,
      carried_order (CanWork g.C.Origin.is_of) (Works g.row.E.Denot g.row.R.Denot g.C.Origin.is_of g.C.Co.resumes g.K.Clock.time) c.args.shared.now (vec_len parts) parts.items c.quieten.new.parts.items (omega (arith, parts.ok.0)) long all c.requires.prepared.reversed,
      omega (arith, now.len, was.0, parts.ok.0, c.requires.prepared.count),
    )

pub returns-clause-members : goal.returns-clause-members
returns-clause-members g c =
    let was = c.carry_all-done.ensures in
    let now = c.quieten.ensures in
    let parts = c.args.self.parts in
    let done = c.carry_all-done.result in
    let joined = c.join_all.ensures.members in
    let n : vec_len parts ≡ length c.args.shared.now = omega (arith, parts.ok.0, c.requires.prepared.count) in
    let m : vec_len c.quieten.new.parts ≡ length c.args.shared.now = omega (arith, now.len, was.0, n) in
    let all = carried_twice (CanWork g.C.Origin.is_of) (Works g.row.E.Denot g.row.R.Denot g.C.Origin.is_of g.C.Co.resumes g.K.Clock.time) c.args.shared.now (vec_len parts) parts.items done.items c.quieten.new.parts.items was.1 (λ k p q lt. now.carried k p q (omega (arith, lt, was.0))) in (
      (joined.0 ∙ m),
      runs_each (CanWork g.C.Origin.is_of) (Works g.row.E.Denot g.row.R.Denot g.C.Origin.is_of g.C.Co.resumes g.K.Clock.time) c.args.shared.now (length c.args.shared.now) parts.items c.quieten.new.parts.items c.join_all.result.members.items c.join_all.result.row (λ k p q lt. all k p q (omega (arith, lt, n))) (λ k j p q at. joined.1 k j p q (omega (arith, at, m))) c.join_all.ensures.rows,
    )
