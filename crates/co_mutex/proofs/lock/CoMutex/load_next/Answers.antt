use Rattle.std.proofs.Common.{refl, ◌+◌, arith, subst}
use Rattle.co_mutex.specs.Places.{side_of}
use Rattle.co_mutex.specs.Plays.{Loads}
use Rattle.co_mutex.proofs.Codes.{pass_of}
use Rattle.co_mutex.proofs.WakeCodes.{next_ready, next_told, load_kept}
use Rattle.co_mutex.proofs.lock.CoMutex.load_next.Goals as goal

pub next_word-word-requires : goal.next_word-word-requires
next_word-word-requires g c =
    (let a = c.args.self.now.few in let b = c.requires.pass.passes in let d = c.requires.below in omega (arith, a, b, d))

pub load-requires : goal.load-requires
load-requires g c =
    (c.requires.pass.table, (let a = c.args.self.now.sized.0 in let b = c.requires.pass.passes in let d = c.requires.below in let e = c.next_word-word.ensures in omega (arith, a, b, d, e)), next_ready g.P.LockRule.note c.args.self.now.table.shared.key.passes c.args.self.now.table.shared.key.value.value c.args.self.now.table.shared.table_id.slots c.args.pass.now.seat.id c.args.pass.now.seat.me c.requires.pass.live c.next_word-word.result c.args.q (side_of c.args.pass.now.seat.me.0.place) c.next_word-word.ensures c.requires.duty.0 c.requires.duty.1 c.requires.duty.2)

pub returns-clause-step : goal.returns-clause-step
returns-clause-step g c =
    λ left list duty. subst (λ k. Loads (side_of c.args.pass.now.seat.me.0.place) (c.args.q + 1) list k c.args.pass.now.seat.me c.load.result c.load.new.seat.me) c.next_word-word.ensures (next_told c.args.pass.now.seat.me c.load.new.seat.me (side_of c.args.pass.now.seat.me.0.place) (c.args.q + 1) c.next_word-word.result c.load.result left list duty c.load.ensures.2)

pub returns-clause-pass : goal.returns-clause-pass
returns-clause-pass g c =
    pass_of c.args.self.now c.args.pass.now (record { seat = c.load.new.seat; number = c.args.pass.now.number }) c.load.ensures.0 refl (load_kept (side_of c.args.pass.now.seat.me.0.place) _ _ _ _ c.args.pass.now.seat.me c.load.new.seat.me (next_told c.args.pass.now.seat.me c.load.new.seat.me (side_of c.args.pass.now.seat.me.0.place) (c.args.q + 1) c.next_word-word.result c.load.result c.requires.duty.0 c.requires.duty.1 c.requires.duty.2 c.load.ensures.2)) c.requires.pass
