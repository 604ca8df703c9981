use Rattle.std.proofs.Common.{refl, arith, subst}
use Rattle.co_mutex.specs.Places.{side_of}
use Rattle.co_mutex.specs.Plays.{Grants}
use Rattle.co_mutex.proofs.Codes.{pass_of, kept_makes}
use Rattle.co_mutex.proofs.WakeCodes.{grant_ready, grant_told}
use Rattle.co_mutex.proofs.lock.CoMutex.store_grant.Goals as goal

pub grant_word-word-requires : goal.grant_word-word-requires
grant_word-word-requires g c =
    (let a = c.args.self.now.few in let b = c.requires.pass.passes in let d = c.requires.below in omega (arith, a, b, d))

pub store-requires : goal.store-requires
store-requires g c =
    (c.requires.pass.table, (let a = c.args.self.now.sized.0 in let b = c.requires.pass.passes in let d = c.requires.below in let e = c.grant_word-word.ensures in omega (arith, a, b, d, e)), grant_ready g.P.LockRule.note c.args.self.now.table.shared.key.passes c.args.self.now.table.shared.key.value.value c.args.self.now.table.shared.table_id.slots c.args.pass.now.seat.id c.args.pass.now.seat.me c.requires.pass.live c.grant_word-word.result c.args.q (side_of c.args.pass.now.seat.me.0.place) c.grant_word-word.ensures c.requires.duty.0 c.requires.duty.2 c.requires.duty.1 c.requires.duty.4 c.requires.duty.3)

pub returns-clause-step : goal.returns-clause-step
returns-clause-step g c =
    λ who rest duty. subst (λ k. Grants (side_of c.args.pass.now.seat.me.0.place) c.args.q who k c.args.pass.now.seat.me.0 c.store.new.seat.me) c.grant_word-word.ensures (grant_told c.args.pass.now.seat.me c.store.new.seat.me (side_of c.args.pass.now.seat.me.0.place) c.args.q who c.grant_word-word.result rest duty c.store.ensures.2)

pub returns-clause-pass : goal.returns-clause-pass
returns-clause-pass g c =
    pass_of c.args.self.now c.args.pass.now (record { seat = c.store.new.seat; number = c.args.pass.now.number }) c.store.ensures.0 refl (kept_makes _ _ _ _ _ _ c.store.new.seat.me (grant_told c.args.pass.now.seat.me c.store.new.seat.me (side_of c.args.pass.now.seat.me.0.place) c.args.q c.requires.duty.0 c.grant_word-word.result c.requires.duty.1 c.requires.duty.3 c.store.ensures.2).makes) c.requires.pass
