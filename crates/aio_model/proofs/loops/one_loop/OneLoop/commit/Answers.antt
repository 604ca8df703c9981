use Rattle.std.proofs.Common.{length, arith}
use Rattle.aio_model.specs.Loop.Inside.{state_of}
use Rattle.aio_model.proofs.LoopKept.{stack_in_range}
use Rattle.aio_model.proofs.CommitFollows.{commit_answers, commit_follows}
use Rattle.aio_model.proofs.loops.one_loop.OneLoop.commit.Goals as goal

pub newest_urgent-urgent-requires : goal.newest_urgent-urgent-requires
newest_urgent-urgent-requires c =
    let a = c.self.inside in
    rw (c.deref.ensures.value, c.deref-2.ensures.value) (stack_in_range a.halves.items a.stack.items a.out.items c.self.invariant.kept)

pub first_set-set-requires : goal.first_set-set-requires
first_set-set-requires c =
    rw c.deref-3.ensures.value (omega (arith, c.self.invariant.few_events))

pub returns-clause-follows : goal.returns-clause-follows
returns-clause-follows c log stands =
    let a = c.self.inside in
    let stands' = rw (← c.self.view_is) at stands in
    let answer = commit_answers (state_of a) log stands' (length a.halves.items) c.self.invariant.halves in
    (rw (← c.self.view_is, c.commit_by.ensures, c.newest_urgent-urgent.ensures, c.first_set-set.ensures, c.replace-rung.ensures.value, c.any_due-due.ensures, c.deref.ensures.value, c.deref-2.ensures.value, c.deref-3.ensures.value, c.deref-4.ensures.value) answer, rw c.replace-rung.ensures.after (commit_follows (state_of a) log stands'))
