use Rattle.std.proofs.Common.{refl, arith, subst}
use Rattle.co_mutex.specs.Places.{Granting, OnDuty, side_of}
use Rattle.co_mutex.specs.Known.{WhoLoad, moves}
use Rattle.co_mutex.specs.Plays.{done, Is}
use Rattle.co_mutex.proofs.Codes.{pass_of, kept_moves}
use Rattle.co_mutex.proofs.WakeCodes.{who_ready, who_told}
use Rattle.co_mutex.proofs.lock.CoMutex.load_who.Goals as goal

pub who_word-word-requires : goal.who_word-word-requires
who_word-word-requires g c =
    (let a = c.args.self.now.few in let b = c.requires.pass.passes in let d = c.requires.below in omega (arith, a, b, d))

pub load-requires : goal.load-requires
load-requires g c =
    (c.requires.pass.table, (let a = c.args.self.now.sized.0 in let b = c.requires.pass.passes in let d = c.requires.below in let e = c.who_word-word.ensures in omega (arith, a, b, d, e)), who_ready g.P.LockRule.note c.args.self.now.table.shared.key.passes c.args.self.now.table.shared.key.value.value c.args.self.now.table.shared.table_id.slots c.args.pass.now.seat.id c.args.pass.now.seat.me c.requires.pass.live c.who_word-word.result c.args.q (side_of c.args.pass.now.seat.me.0.place) c.who_word-word.ensures c.requires.duty.0 c.requires.duty.1)

pub returns-clause-step : goal.returns-clause-step
returns-clause-step g c =
    λ rest duty. subst (λ k. Is c.load.new.seat.me (moves c.args.pass.now.seat.me.0 (OnDuty (side_of c.args.pass.now.seat.me.0.place) (Granting c.args.q c.load.result rest)) (done WhoLoad k c.load.result), c.args.pass.now.seat.me.1)) c.who_word-word.ensures (who_told c.args.pass.now.seat.me c.load.new.seat.me (side_of c.args.pass.now.seat.me.0.place) c.args.q c.who_word-word.result c.load.result rest duty c.load.ensures.2)

pub returns-clause-pass : goal.returns-clause-pass
returns-clause-pass g c =
    pass_of c.args.self.now c.args.pass.now (record { seat = c.load.new.seat; number = c.args.pass.now.number }) c.load.ensures.0 refl (kept_moves _ _ _ _ c.load.new.seat.me (who_told c.args.pass.now.seat.me c.load.new.seat.me (side_of c.args.pass.now.seat.me.0.place) c.args.q c.who_word-word.result c.load.result c.requires.duty.0 c.requires.duty.1 c.load.ensures.2)) c.requires.pass
