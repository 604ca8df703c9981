use Rattle.std.proofs.Common.{◌≡◌, ◌<◌, ◌∙◌, sym, ap, subst, arith, rules, vec_len, vec_capacity, Vec, Global, ◌++◌, ◌∷◌, []}
use denote.Param.{param}
use denote.Exit.{no}
use denote.Param.Send.{IsSend, IsSync, param_send, arg_send, shr_send, shr_slice_send}
use Rattle.loop_rows.specs.contracts.shared.LoopShared as LoopShared
use Rattle.loop_rows.proofs.shared.LoopShared.TheSendSync.{the_sync as loop_sync}
use Rattle.std.proofs.sync.atomic.AtomicBool.TheSendSync.{the_sync as flag_sync}
use Rattle.co_loop.specs.Rows.{AreOfOrigin}
use Rattle.co_loop.specs.Working.{CanWork, Works}
use Rattle.loop_threads.specs.declared.parts.Part.{Part}
use Rattle.loop_threads.specs.Parts.{IsLoopPart, ComesFrom, AllCarried}
use Rattle.loop_rows.proofs.Places.{longer}
use Rattle.loop_threads.proofs.Sending.{part_work_send, five_send}
use Rattle.loop_threads.proofs.Coming.{carried_through}
use Rattle.loop_threads.proofs.Handing.{parts_popped, parts_pushed, carried_pushed, taken}
use Rattle.loop_threads.proofs.threads.+carry_rest.Goals.{in-Ok, in-Err+in-Some-pop}
use Rattle.loop_threads.proofs.threads.+carry_rest.Goals as goal

pub spawn_with-requires : goal.spawn_with-requires
spawn_with-requires g t c κs within =
    let e = c.in-Err.ensures.err in
    let rest = parts_popped (CanWork g.C.Origin.is_of) (Works g.row.E.Denot g.row.R.Denot g.C.Origin.is_of g.C.Co.resumes g.K.Clock.time) c.args.shared.now c.args.waiting.items c.pop.new.self.items c.in-Some.part c.in-Some.ensures.items c.requires.waiting in
    (search (rules, within), (search (rules, within), (search (rules, within), (search (rules, within), (search (rules, within), subst (λ (v : _). AreOfOrigin (g.C.Co.source_of v.1.now) v.2.now × IsLoopPart (CanWork g.C.Origin.is_of) v.2.now v.4) (sym e) (c.requires.lent, rest.1))))))

pub spawn_with-started-requires-send-F : goal.spawn_with-started-requires-send-F
spawn_with-started-requires-send-F g t c κs within =
    let s : IsSend (param 1 g.row.C) = search (rules, c.requires-raw) parts 8 in
    let k : IsSend (param 4 g.row.K) = search (rules, c.requires-raw) parts 8 in
    let e : IsSync (param 2 g.row.E) = search (rules, c.requires-raw) parts 8 in
    let r : IsSync (param 3 g.row.R) = search (rules, c.requires-raw) parts 8 in
    let l : IsSync (LoopShared.the_row (param 1 g.row.C) (param 5 g.row.C-Source) g.C.Origin) = search (loop_sync, s) in
    let w = part_work_send (param 1 g.row.C) (param 4 g.row.K) (param 5 g.row.C-Source) g.C.Origin s k in
    param_send 2 _ (arg_send _ no _ (five_send _ _ _ _ _ _ (shr_send _ _ (param 3 g.row.R) r) (shr_send _ _ (param 2 g.row.E) e) (shr_slice_send _ _ _ l) (shr_send _ _ _ flag_sync) w))

pub spawn_with-started-requires-send-T : goal.spawn_with-started-requires-send-T
spawn_with-started-requires-send-T g t c κs within =
    let s : IsSend (param 1 g.row.C) = search (rules, c.requires-raw) parts 8 in
    let k : IsSend (param 4 g.row.K) = search (rules, c.requires-raw) parts 8 in
    param_send 3 _ (arg_send _ no _ (part_work_send (param 1 g.row.C) (param 4 g.row.K) (param 5 g.row.C-Source) g.C.Origin s k))

pub spawn_with-started-requires-clause-runs : goal.spawn_with-started-requires-clause-runs
spawn_with-started-requires-clause-runs g t c κs within =
    (c.requires.lent, (parts_popped (CanWork g.C.Origin.is_of) (Works g.row.E.Denot g.row.R.Denot g.C.Origin.is_of g.C.Co.resumes g.K.Clock.time) c.args.shared.now c.args.waiting.items c.pop.new.self.items c.in-Some.part c.in-Some.ensures.items c.requires.waiting).1)

pub carry_rest-requires-clause-waiting : goal.carry_rest-requires-clause-waiting
carry_rest-requires-clause-waiting g t c κs within =
    (parts_popped (CanWork g.C.Origin.is_of) (Works g.row.E.Denot g.row.R.Denot g.C.Origin.is_of g.C.Co.resumes g.K.Clock.time) c.args.shared.now c.args.waiting.items c.pop.new.self.items c.in-Some.part c.in-Some.ensures.items c.requires.waiting).0

pub push_reserved-requires-2 : goal.push_reserved-requires-2
push_reserved-requires-2 g t c =
    let n = longer c.args.waiting.items c.pop.new.self.items c.in-Some.part c.in-Some.ensures.items in
    elim c.match-started.branch [
      | in-Ok w ↦
          let done = w.carry_rest.ensures.done in
          subst (λ (l : Vec (Part _ _ _) Global). vec_len l < vec_capacity l) (sym w.done-is) (omega (arith, n, done.0, w.carry_rest.ensures.room, c.requires.room.2, c.args.waiting.ok.0, c.pop.new.self.ok.0))
      | in-Err+in-Some-pop w ↦
          let done = w.carry_rest-in-Err.ensures.done in
          subst (λ (l : Vec (Part _ _ _) Global). vec_len l < vec_capacity l) (sym w.done-is) (omega (arith, n, done.0, w.carry_rest-in-Err.ensures.room, c.requires.room.2, c.args.waiting.ok.0, c.pop.new.self.ok.0))
    ]

pub returns-clause-room : goal.returns-clause-room
returns-clause-room g t c = elim c.match-started.branch [
  | in-Ok w ↦ c.push_reserved-2.ensures.capacity ∙ ap (λ (l : Vec (Part _ _ _) Global). vec_capacity l) w.done-is ∙ w.carry_rest.ensures.room
  | in-Err+in-Some-pop w ↦ c.push_reserved-2.ensures.capacity ∙ ap (λ (l : Vec (Part _ _ _) Global). vec_capacity l) w.done-is ∙ w.carry_rest-in-Err.ensures.room
]

pub carry_rest-requires-in-Err-clause-waiting : goal.carry_rest-requires-in-Err-clause-waiting
carry_rest-requires-in-Err-clause-waiting g t c κs within =
    (parts_popped (CanWork g.C.Origin.is_of) (Works g.row.E.Denot g.row.R.Denot g.C.Origin.is_of g.C.Co.resumes g.K.Clock.time) c.args.shared.now c.args.waiting.items c.pop.new.self.items c.in-Some.part c.in-Some.ensures.items c.requires.waiting).0

pub carry_rest-requires-in-Err-clause-left : goal.carry_rest-requires-in-Err-clause-left
carry_rest-requires-in-Err-clause-left g t c κs within =
    let e = c.in-Err.ensures.err in
    let back = subst (λ (v : _). ComesFrom (CanWork g.C.Origin.is_of) (Works g.row.E.Denot g.row.R.Denot g.C.Origin.is_of g.C.Co.resumes g.K.Clock.time) v.2.now v.4 c.spawn_with.result) e c.spawn_with.ensures in
    parts_pushed (CanWork g.C.Origin.is_of) (Works g.row.E.Denot g.row.R.Denot g.C.Origin.is_of g.C.Co.resumes g.K.Clock.time) c.args.shared.now c.push_reserved.new.self.items c.args.left.now.items c.spawn_with.result c.push_reserved.ensures.items c.requires.left back.part

pub returns-clause-left : goal.returns-clause-left
returns-clause-left g t c = elim c.match-started.branch [
  | in-Ok w ↦ subst (λ (l : Vec (Part _ _ _) Global). (vec_len l ≡ vec_len c.args.left.now) × AllCarried (CanWork g.C.Origin.is_of) (Works g.row.E.Denot g.row.R.Denot g.C.Origin.is_of g.C.Co.resumes g.K.Clock.time) c.args.shared.now (vec_len c.args.left.now) c.args.left.now.items l.items) (sym w.left-is) w.carry_rest.ensures.left
  | in-Err+in-Some-pop w ↦
      let got = w.carry_rest-in-Err.ensures.left in
      let pushed = w.push_reserved.new.self in
      let carried = w.carry_rest-in-Err.new.left in
      let after = w.pop-in-Err.new.self in
      let out = taken (CanWork g.C.Origin.is_of) (Works g.row.E.Denot g.row.R.Denot g.C.Origin.is_of g.C.Co.resumes g.K.Clock.time) c.args.shared.now c.args.left.now.items pushed.items carried.items after.items w.spawn_with.result w.in-Some-pop.part w.push_reserved.ensures.items
      (omega (arith, got.0, pushed.ok.0, carried.ok.0)) (λ k p q h. got.1 k p q (omega (arith, h, pushed.ok.0))) w.in-Some-pop.ensures.items in
      subst (λ (l : Vec (Part _ _ _) Global). (vec_len l ≡ vec_len c.args.left.now) × AllCarried (CanWork g.C.Origin.is_of) (Works g.row.E.Denot g.row.R.Denot g.C.Origin.is_of g.C.Co.resumes g.K.Clock.time) c.args.shared.now (vec_len c.args.left.now) c.args.left.now.items l.items) (sym w.left-is)
      (omega (arith, out.long, after.ok.0, c.args.left.now.ok.0), (λ k p q h. out.carried k p q (omega (arith, h, c.args.left.now.ok.0))))
]

pub returns-clause-done : goal.returns-clause-done
returns-clause-done g t c =
    let n = longer c.args.waiting.items c.pop.new.self.items c.in-Some.part c.in-Some.ensures.items in
    elim c.match-started.branch [
      | in-Ok w ↦
          let done = w.carry_rest.ensures.done in
          let items = c.push_reserved-2.ensures.items ∙ (λ i. (w.done-is i).items ++ w.part-is i ∷ []) in
          let promise = w.join.ensures in
          let came : ComesFrom (CanWork g.C.Origin.is_of) (Works g.row.E.Denot g.row.R.Denot g.C.Origin.is_of g.C.Co.resumes g.K.Clock.time) c.args.shared.now c.in-Some.part w.join.result = search (rules, promise) in
          let m = longer c.push_reserved-2.new.self.items w.carry_rest.new.done.items w.carry-part.result items in
          let all = carried_pushed (CanWork g.C.Origin.is_of) (Works g.row.E.Denot g.row.R.Denot g.C.Origin.is_of g.C.Co.resumes g.K.Clock.time) c.args.shared.now c.args.waiting.items c.pop.new.self.items c.push_reserved-2.new.self.items w.carry_rest.new.done.items c.in-Some.part w.carry-part.result c.in-Some.ensures.items items
          (omega (arith, done.0, w.carry_rest.new.done.ok.0, c.pop.new.self.ok.0)) (λ k p q h. done.1 k p q (omega (arith, h, c.pop.new.self.ok.0))) (carried_through (CanWork g.C.Origin.is_of) (Works g.row.E.Denot g.row.R.Denot g.C.Origin.is_of g.C.Co.resumes g.K.Clock.time) c.args.shared.now came w.carry-part.ensures) in
          (omega (arith, n, m, done.0, c.args.waiting.ok.0, c.pop.new.self.ok.0, w.carry_rest.new.done.ok.0, c.push_reserved-2.new.self.ok.0), (λ k p q h. all k p q (omega (arith, h, c.args.waiting.ok.0))))
      | in-Err+in-Some-pop w ↦
          let got = w.carry_rest-in-Err.ensures.left in
          let pushed = w.push_reserved.new.self in
          let carried = w.carry_rest-in-Err.new.left in
          let after = w.pop-in-Err.new.self in
          let out = taken (CanWork g.C.Origin.is_of) (Works g.row.E.Denot g.row.R.Denot g.C.Origin.is_of g.C.Co.resumes g.K.Clock.time) c.args.shared.now c.args.left.now.items pushed.items carried.items after.items w.spawn_with.result w.in-Some-pop.part w.push_reserved.ensures.items
          (omega (arith, got.0, pushed.ok.0, carried.ok.0)) (λ k p q h. got.1 k p q (omega (arith, h, pushed.ok.0))) w.in-Some-pop.ensures.items in
          let e = w.in-Err.ensures.err in
          let back = subst (λ (v : _). ComesFrom (CanWork g.C.Origin.is_of) (Works g.row.E.Denot g.row.R.Denot g.C.Origin.is_of g.C.Co.resumes g.K.Clock.time) v.2.now v.4 w.spawn_with.result) e w.spawn_with.ensures in
          let done = w.carry_rest-in-Err.ensures.done in
          let items = c.push_reserved-2.ensures.items ∙ (λ i. (w.done-is i).items ++ w.part-is i ∷ []) in
          let m = longer c.push_reserved-2.new.self.items w.carry_rest-in-Err.new.done.items w.in-Some-pop.part items in
          let all = carried_pushed (CanWork g.C.Origin.is_of) (Works g.row.E.Denot g.row.R.Denot g.C.Origin.is_of g.C.Co.resumes g.K.Clock.time) c.args.shared.now c.args.waiting.items c.pop.new.self.items c.push_reserved-2.new.self.items w.carry_rest-in-Err.new.done.items c.in-Some.part w.in-Some-pop.part c.in-Some.ensures.items items
          (omega (arith, done.0, w.carry_rest-in-Err.new.done.ok.0, c.pop.new.self.ok.0)) (λ k p q h. done.1 k p q (omega (arith, h, c.pop.new.self.ok.0))) (carried_through (CanWork g.C.Origin.is_of) (Works g.row.E.Denot g.row.R.Denot g.C.Origin.is_of g.C.Co.resumes g.K.Clock.time) c.args.shared.now back out.here) in
          (omega (arith, n, m, done.0, c.args.waiting.ok.0, c.pop.new.self.ok.0, w.carry_rest-in-Err.new.done.ok.0, c.push_reserved-2.new.self.ok.0), (λ k p q h. all k p q (omega (arith, h, c.args.waiting.ok.0))))
    ]
