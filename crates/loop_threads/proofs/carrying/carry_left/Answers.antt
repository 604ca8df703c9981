use Rattle.std.proofs.Common.{◌≡◌, ◌∙◌, subst, arith, vec_len, ℕ, List}
use Rattle.co_loop.specs.Working.{CanWork, Works}
use Rattle.loop_threads.specs.declared.parts.Part.{Part}
use Rattle.loop_threads.specs.Parts.{HaveEnded, AllComeReversed}
use Rattle.loop_threads.proofs.Coming.{all_ended, all_parts, all_through, reversed_parts, reversed_twice}
use Rattle.loop_threads.proofs.carrying.carry_left.Goals as goal

pub returns-then-are_carried-clause-carried : goal.returns-then-are_carried-clause-carried
returns-then-are_carried-clause-carried g c =
    let was = c.loop.invariant in
    all_ended (CanWork g.C.Origin.is_of) (Works g.row.E.Denot g.row.R.Denot g.C.Origin.is_of g.C.Co.resumes g.K.Clock.time) c.args.shared.now (vec_len c.args.left.now) c.args.left.now.items c.loop.left.items (omega (arith, was.0, c.loop.left.ok.0)) was.4
    (subst (λ (xs : List (Part _ _ _)). HaveEnded xs) c.deref.ensures.value (c.are_carried.ensures c.if-are_carried.true))

pub step_each-requires-clause-parts : goal.step_each-requires-clause-parts
step_each-requires-clause-parts g c =
    let was = c.loop.invariant in
    all_parts (CanWork g.C.Origin.is_of) (Works g.row.E.Denot g.row.R.Denot g.C.Origin.is_of g.C.Co.resumes g.K.Clock.time) c.args.shared.now (vec_len c.args.left.now) c.args.left.now.items c.loop.left.items (omega (arith, was.0, c.loop.left.ok.0)) was.4

pub step_each-requires-in-loop-clause-parts : goal.step_each-requires-in-loop-clause-parts
step_each-requires-in-loop-clause-parts g c =
    let made = c.step_each.ensures in
    reversed_parts (CanWork g.C.Origin.is_of) (Works g.row.E.Denot g.row.R.Denot g.C.Origin.is_of g.C.Co.resumes g.K.Clock.time) c.args.shared.now (vec_len c.loop.left) c.loop.left.items c.step_each.new.to.items (omega (arith, made.len, c.step_each.new.to.ok.0)) made.steps

pub loop-preserved : goal.loop-preserved
loop-preserved g c =
    let was = c.loop.invariant in
    let there = c.step_each.ensures in
    let back = c.step_each-in-loop.ensures in
    let n : vec_len c.step_each.new.to ≡ vec_len c.args.left.now = there.len ∙ was.0 in (
      (back.len ∙ n),
      (back.room.1 ∙ (there.room.0 ∙ was.1)),
      back.empty,
      (back.room.0 ∙ (there.room.1 ∙ was.3)),
      all_through (CanWork g.C.Origin.is_of) (Works g.row.E.Denot g.row.R.Denot g.C.Origin.is_of g.C.Co.resumes g.K.Clock.time) c.args.shared.now (vec_len c.args.left.now) c.args.left.now.items c.loop.left.items c.step_each-in-loop.new.to.items was.4
          (reversed_twice (CanWork g.C.Origin.is_of) (Works g.row.E.Denot g.row.R.Denot g.C.Origin.is_of g.C.Co.resumes g.K.Clock.time) c.args.shared.now (vec_len c.args.left.now) c.loop.left.items c.step_each.new.to.items c.step_each-in-loop.new.to.items
          (subst (λ (m : ℕ). AllComeReversed (CanWork g.C.Origin.is_of) (Works g.row.E.Denot g.row.R.Denot g.C.Origin.is_of g.C.Co.resumes g.K.Clock.time) c.args.shared.now m c.loop.left.items c.step_each.new.to.items) was.0 there.steps)
          (subst (λ (m : ℕ). AllComeReversed (CanWork g.C.Origin.is_of) (Works g.row.E.Denot g.row.R.Denot g.C.Origin.is_of g.C.Co.resumes g.K.Clock.time) c.args.shared.now m c.step_each.new.to.items c.step_each-in-loop.new.to.items) n back.steps)),
    )
