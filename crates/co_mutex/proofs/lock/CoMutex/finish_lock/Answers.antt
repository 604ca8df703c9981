use Rattle.std.proofs.Common.{subst, ◌∙◌, ◌≢◌, ℕ, [], ◌∷◌}
use Rattle.aio_model.specs.Lock.History.{Grant, Wait}
use Rattle.co_mutex.specs.Places.{Queued}
use Rattle.co_mutex.specs.Calls.{Comes, Names, HoldsNow}
use Rattle.co_mutex.proofs.Finishing.{waited, looked_waits, looked_queued, waited_comes, has_granted, queues_named, own_hand, finish_holds}
use Rattle.co_mutex.proofs.lock.CoMutex.finish_lock.Goals as goal

pub returns-then-not-take_duty-clause-lock : goal.returns-then-not-take_duty-clause-lock
returns-then-not-take_duty-clause-lock g c =
    subst (λ k. Comes Queued (Wait c.args.pass.now.seat.me.0.number k ∷ []) c.args.pass.now.seat.me.0 c.take_duty.new.pass.seat.me.0) c.word_of.ensures (waited_comes c.word_of.result c.args.pass.now.seat.me.0 c.take_duty.new.pass.seat.me.0 (looked_waits c.word_of.result c.take_duty.result c.args.pass.now.seat.me.0 c.push.new.pass.seat.me.0 c.take_duty.new.pass.seat.me (waited c.word_of.result c.args.pass.now.seat.me.0 c.push.new.pass.seat.me c.push.ensures.pushed) c.take_duty.ensures.looked) (looked_queued c.take_duty.result c.push.new.pass.seat.me.0 c.take_duty.new.pass.seat.me c.take_duty.ensures.looked c.if-not-take_duty.true))

pub returns-then-not-take_duty-clause-steps : goal.returns-then-not-take_duty-clause-steps
returns-then-not-take_duty-clause-steps g c =
    (looked_waits c.word_of.result c.take_duty.result c.args.pass.now.seat.me.0 c.push.new.pass.seat.me.0 c.take_duty.new.pass.seat.me (waited c.word_of.result c.args.pass.now.seat.me.0 c.push.new.pass.seat.me c.push.ensures.pushed) c.take_duty.ensures.looked).did

pub returns-then-q-pass-clause-lock : goal.returns-then-q-pass-clause-lock
returns-then-q-pass-clause-lock g c =
    subst (λ k. (x : ℕ) × (x ≢ c.args.pass.now.seat.me.0.number) × Comes Queued (Grant c.args.pass.now.seat.me.0.number x ∷ Wait c.args.pass.now.seat.me.0.number k ∷ []) c.args.pass.now.seat.me.0 c.wake_one-q.new.pass.seat.me.0 × Names c.co_of.result c.args.pass.now.seat.me.0.number x c.wake_one-q.new.pass.seat.me.0) c.word_of.ensures (queues_named c.word_of.result c.wake_one-q.result.0 c.wake_one-q.result.1 c.args.pass.now.seat.me.0 c.wake_one-q.new.pass.seat.me.0 c.co_of.result _ (has_granted c.word_of.result c.wake_one-q.result.0 c.wake_one-q.result.1 c.args.pass.now.seat.me.0 c.take_duty.new.pass.seat.me.0 c.wake_one-q.new.pass.seat.me (looked_waits c.word_of.result c.take_duty.result c.args.pass.now.seat.me.0 c.push.new.pass.seat.me.0 c.take_duty.new.pass.seat.me (waited c.word_of.result c.args.pass.now.seat.me.0 c.push.new.pass.seat.me c.push.ensures.pushed) c.take_duty.ensures.looked) c.wake_one-q.ensures.woke) (c.wake_one-q.ensures.pass.number ∙ (has_granted c.word_of.result c.wake_one-q.result.0 c.wake_one-q.result.1 c.args.pass.now.seat.me.0 c.take_duty.new.pass.seat.me.0 c.wake_one-q.new.pass.seat.me (looked_waits c.word_of.result c.take_duty.result c.args.pass.now.seat.me.0 c.push.new.pass.seat.me.0 c.take_duty.new.pass.seat.me (waited c.word_of.result c.args.pass.now.seat.me.0 c.push.new.pass.seat.me c.push.ensures.pushed) c.take_duty.ensures.looked) c.wake_one-q.ensures.woke).number_is) c.if-q-pass.true c.co_of.ensures)

pub returns-then-q-pass-clause-steps : goal.returns-then-q-pass-clause-steps
returns-then-q-pass-clause-steps g c =
    (has_granted c.word_of.result c.wake_one-q.result.0 c.wake_one-q.result.1 c.args.pass.now.seat.me.0 c.take_duty.new.pass.seat.me.0 c.wake_one-q.new.pass.seat.me (looked_waits c.word_of.result c.take_duty.result c.args.pass.now.seat.me.0 c.push.new.pass.seat.me.0 c.take_duty.new.pass.seat.me (waited c.word_of.result c.args.pass.now.seat.me.0 c.push.new.pass.seat.me c.push.ensures.pushed) c.take_duty.ensures.looked) c.wake_one-q.ensures.woke).did

pub take_value-value-requires-clause-value : goal.take_value-value-requires-clause-value
take_value-value-requires-clause-value g c =
    own_hand g.P.LockRule.note c.args.self.now.table.shared.key.value.value _ c.wake_one-q.new.pass.seat.me c.swap_own_grant.new.pass.seat.me c.swap_own_grant.ensures.step

pub returns-clause-lock : goal.returns-clause-lock
returns-clause-lock g c =
    subst (λ k. HoldsNow g.P.LockRule.note c.args.self.now.table.shared.key.value.value (Grant c.args.pass.now.seat.me.0.number c.args.pass.now.seat.me.0.number ∷ Wait c.args.pass.now.seat.me.0.number k ∷ []) c.take_value-value.result c.args.pass.now.seat.me.0 c.take_value-value.new.pass.seat.me.0) c.word_of.ensures (finish_holds g.P.LockRule.note c.args.self.now.table.shared.key.value.value c.word_of.result c.wake_one-q.result.0 c.wake_one-q.result.1 _ c.args.pass.now.seat.me.0 c.wake_one-q.new.pass.seat.me c.swap_own_grant.new.pass.seat.me c.take_value-value.new.pass.seat.me c.take_value-value.result (has_granted c.word_of.result c.wake_one-q.result.0 c.wake_one-q.result.1 c.args.pass.now.seat.me.0 c.take_duty.new.pass.seat.me.0 c.wake_one-q.new.pass.seat.me (looked_waits c.word_of.result c.take_duty.result c.args.pass.now.seat.me.0 c.push.new.pass.seat.me.0 c.take_duty.new.pass.seat.me (waited c.word_of.result c.args.pass.now.seat.me.0 c.push.new.pass.seat.me c.push.ensures.pushed) c.take_duty.ensures.looked) c.wake_one-q.ensures.woke) (c.if-q-pass.false ∙ (c.wake_one-q.ensures.pass.number ∙ (has_granted c.word_of.result c.wake_one-q.result.0 c.wake_one-q.result.1 c.args.pass.now.seat.me.0 c.take_duty.new.pass.seat.me.0 c.wake_one-q.new.pass.seat.me (looked_waits c.word_of.result c.take_duty.result c.args.pass.now.seat.me.0 c.push.new.pass.seat.me.0 c.take_duty.new.pass.seat.me (waited c.word_of.result c.args.pass.now.seat.me.0 c.push.new.pass.seat.me c.push.ensures.pushed) c.take_duty.ensures.looked) c.wake_one-q.ensures.woke).number_is)) c.swap_own_grant.ensures.step c.take_value-value.ensures.value.0 c.take_value-value.ensures.value.1).0

pub returns-clause-steps : goal.returns-clause-steps
returns-clause-steps g c =
    (finish_holds g.P.LockRule.note c.args.self.now.table.shared.key.value.value c.word_of.result c.wake_one-q.result.0 c.wake_one-q.result.1 _ c.args.pass.now.seat.me.0 c.wake_one-q.new.pass.seat.me c.swap_own_grant.new.pass.seat.me c.take_value-value.new.pass.seat.me c.take_value-value.result (has_granted c.word_of.result c.wake_one-q.result.0 c.wake_one-q.result.1 c.args.pass.now.seat.me.0 c.take_duty.new.pass.seat.me.0 c.wake_one-q.new.pass.seat.me (looked_waits c.word_of.result c.take_duty.result c.args.pass.now.seat.me.0 c.push.new.pass.seat.me.0 c.take_duty.new.pass.seat.me (waited c.word_of.result c.args.pass.now.seat.me.0 c.push.new.pass.seat.me c.push.ensures.pushed) c.take_duty.ensures.looked) c.wake_one-q.ensures.woke) (c.if-q-pass.false ∙ (c.wake_one-q.ensures.pass.number ∙ (has_granted c.word_of.result c.wake_one-q.result.0 c.wake_one-q.result.1 c.args.pass.now.seat.me.0 c.take_duty.new.pass.seat.me.0 c.wake_one-q.new.pass.seat.me (looked_waits c.word_of.result c.take_duty.result c.args.pass.now.seat.me.0 c.push.new.pass.seat.me.0 c.take_duty.new.pass.seat.me (waited c.word_of.result c.args.pass.now.seat.me.0 c.push.new.pass.seat.me c.push.ensures.pushed) c.take_duty.ensures.looked) c.wake_one-q.ensures.woke).number_is)) c.swap_own_grant.ensures.step c.take_value-value.ensures.value.0 c.take_value-value.ensures.value.1).1
