use Rattle.std.proofs.Common.{◌≡◌, ◌∙◌, sym, ap, subst, arith, length, vec_len, List, [], ◌∷◌, slice_index_or}
use Rattle.std.proofs.lemmas.List.{get_or_append_left}
use Rattle.co_loop.specs.Working.{CanWork, Works}
use Rattle.loop_threads.specs.declared.parts.Part.{Part}
use Rattle.loop_threads.specs.Parts.{IsLoopPart, ComesFrom}
use Rattle.loop_rows.proofs.Places.{longer}
use Rattle.loop_threads.proofs.Coming.{last_is, reversed_more}
use Rattle.loop_threads.proofs.carrying.step_each.Goals as goal

pub step-requires : goal.step-requires
step-requires g c =
    let was = c.loop-part.invariant in
    let all = c.loop-part.from in
    let rest = c.pop.new.self in
    let v = c.in-Some.part in
    let e = c.in-Some.ensures.items in
    let n = longer all.items rest.items v e in
    let at = last_is (CanWork g.C.Origin.is_of) (Works g.row.E.Denot g.row.R.Denot g.C.Origin.is_of g.C.Co.resumes g.K.Clock.time) c.args.shared.now c.args.from.now.items all.items rest.items v e (was.3 (length rest.items) v (omega (arith, n, all.ok.0))) in
    record { lent = c.requires.lent; part = subst (IsLoopPart (CanWork g.C.Origin.is_of) c.args.shared.now) (sym at) (c.requires.parts (length rest.items) v (omega (arith, n, all.ok.0, was.0, c.args.from.now.ok.0))) }

pub loop-part-preserved : goal.loop-part-preserved
loop-part-preserved g c =
    let was = c.loop-part.invariant in
    let all = c.loop-part.from in
    let rest = c.pop.new.self in
    let to = c.loop-part.to in
    let v = c.in-Some.part in
    let e = c.in-Some.ensures.items in
    let orig = c.args.from.now in
    let n = longer all.items rest.items v e in
    let pushed = c.push_reserved.ensures in (
      omega (arith, was.0, n, all.ok.0, rest.ok.0, pushed.len),
      (c.in-Some.ensures.capacity ∙ was.1),
      (pushed.capacity ∙ was.2),
      (λ k p lt. sym (ap (λ l. slice_index_or l k p) e ∙ get_or_append_left rest.items (v ∷ []) p k (omega (arith, lt, rest.ok.0))) ∙ was.3 k p (omega (arith, lt, n, all.ok.0, rest.ok.0))),
      (λ k j p q at lt. subst (λ (xs : List (Part _ _ _)). ComesFrom (CanWork g.C.Origin.is_of) (Works g.row.E.Denot g.row.R.Denot g.C.Origin.is_of g.C.Co.resumes g.K.Clock.time) c.args.shared.now (slice_index_or orig.items k p) (slice_index_or xs j q)) (sym pushed.items)
          (reversed_more (CanWork g.C.Origin.is_of) (Works g.row.E.Denot g.row.R.Denot g.C.Origin.is_of g.C.Co.resumes g.K.Clock.time) c.args.shared.now orig.items all.items rest.items to.items v c.step.result (vec_len orig) e (omega (arith, was.0, all.ok.0, to.ok.0)) (omega (arith, orig.ok.0)) (was.3 (length rest.items) v (omega (arith, n, all.ok.0))) c.step.ensures
          (λ i h x y f low. was.4 i h x y f (omega (arith, low, to.ok.0))) k j p q at (omega (arith, lt, pushed.len, to.ok.0)))),
    )

pub returns-clause-steps : goal.returns-clause-steps
returns-clause-steps g c k j p q at =
    let was = c.loop-part.invariant in
    let none : vec_len c.loop-part.from ≡ 0 = c.in_default.ensures.cases.0 in
    was.4 k j p q at (omega (arith, at, none, was.0))
