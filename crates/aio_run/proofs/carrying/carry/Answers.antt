use Rattle.std.proofs.Common.{◌≡◌, sym, ap, subst, arith, List, length, vec_len}
use Rattle.co_loop.specs.Rows.{AreOfOrigin}
use Rattle.co_loop.specs.Working.{CanWork, Works}
use Rattle.loop_rows.specs.declared.shared.LoopShared.{LoopShared}
use Rattle.loop_rows.specs.Opening.{HomesEach}
use Rattle.loop_rows.specs.Rows.{IsRow}
use Rattle.loop_threads.specs.Members.{MembersEach}
use Rattle.loop_threads.specs.Running.{CanBeginEach}
use Rattle.aio_run.specs.Runs.{AreCarried}
use Rattle.aio_run.proofs.carrying.carry.Goals as goal

pub run_loops-joined-requires-clause-lent : goal.run_loops-joined-requires-clause-lent
run_loops-joined-requires-clause-lent g c κs within =
    subst (λ (l : List (LoopShared _ _)). AreOfOrigin (g.C.Co.source_of c.args.env.now) l) (sym c.deref.ensures.value) c.requires.lent

pub run_loops-joined-requires-clause-homes : goal.run_loops-joined-requires-clause-homes
run_loops-joined-requires-clause-homes g c κs within =
    subst (λ (l : List (LoopShared _ _)). (vec_len c.args.homes ≡ length l) × HomesEach (length l) l c.args.homes.items) (sym c.deref.ensures.value) c.requires.homes

pub run_loops-joined-requires-clause-hands : goal.run_loops-joined-requires-clause-hands
run_loops-joined-requires-clause-hands g c κs within =
    subst (λ (l : List (LoopShared _ _)). (vec_len c.args.hands ≡ length l) × CanBeginEach (CanWork g.C.Origin.is_of) l c.args.homes.items c.args.hands.items) (sym c.deref.ensures.value) c.requires.hands

pub end-requires-clause-members : goal.end-requires-clause-members
end-requires-clause-members g c =
    let joined = c.run_loops-joined.ensures in
    let n : length c.deref.result.now ≡ vec_len c.args.shared = omega (arith, ap length c.deref.ensures.value, c.args.shared.ok.0) in (
      omega (arith, n, joined.members.0),
      (λ k t m lt. subst (λ (l : List (LoopShared _ _)). MembersEach (length l) l c.run_loops-joined.result.members.items) c.deref.ensures.value joined.members.1 k t m (omega (arith, lt, c.args.shared.ok.0))),
    )

pub returns : goal.returns
returns g c =
    let joined = c.run_loops-joined.ensures in
    let n : length c.deref.result.now ≡ length c.args.shared.items = ap length c.deref.ensures.value in
    record {
      joined = c.run_loops-joined.result;
      carried = subst (λ (l : List (LoopShared _ _)). AreCarried (CanWork g.C.Origin.is_of) (Works g.row.E.Denot g.row.R.Denot g.C.Origin.is_of g.C.Co.resumes g.K.Clock.time) l c.args.homes.items c.args.hands.items c.args.row c.run_loops-joined.result) c.deref.ensures.value joined.carried;
      is_row = subst (λ (l : List (LoopShared _ _)). IsRow l c.run_loops-joined.result.row) c.deref.ensures.value joined.row.0;
      members = omega (arith, n, joined.members.0, c.run_loops-joined.result.members.ok.0);
      many = omega (arith, c.end.ensures.0, c.end.result.ok.0, c.args.shared.ok.0);
      ends = λ k t m s r lt. c.end.ensures.1 k t m s r (omega (arith, lt, c.args.shared.ok.0));
    }
