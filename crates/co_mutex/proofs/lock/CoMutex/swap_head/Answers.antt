use Rattle.std.proofs.Common.{rules, refl, subst}
use Rattle.co_mutex.specs.Places.{side_of}
use Rattle.co_mutex.specs.Plays.{swaps_at}
use Rattle.co_mutex.proofs.Codes.{pass_of}
use Rattle.co_mutex.proofs.WakeCodes.{swap_kept}
use Rattle.co_mutex.proofs.WakeSteps.{swap_step}
use Rattle.co_mutex.proofs.lock.CoMutex.swap_head.Goals as goal

pub swap-requires : goal.swap-requires
swap-requires g c =
    (c.requires.pass.table, search rules, swap_step g.P.LockRule.note c.args.self.now.table.shared.key.passes c.args.self.now.table.shared.key.value.value c.args.self.now.table.shared.table_id.slots c.args.pass.now.seat.id c.args.pass.now.seat.me (side_of c.args.pass.now.seat.me.0.place) c.requires.pass.live c.requires.duty)

pub returns-clause-step : goal.returns-clause-step
returns-clause-step g c =
    subst (λ z. swaps_at z c.args.pass.now.seat.me c.swap.result c.swap.new.seat.me) c.requires.duty c.swap.ensures.2

pub returns-clause-pass : goal.returns-clause-pass
returns-clause-pass g c =
    pass_of c.args.self.now c.args.pass.now (record { seat = c.swap.new.seat; number = c.args.pass.now.number }) c.swap.ensures.0 refl (swap_kept (side_of c.args.pass.now.seat.me.0.place) c.args.pass.now.seat.me c.swap.new.seat.me c.swap.result (subst (λ z. swaps_at z c.args.pass.now.seat.me c.swap.result c.swap.new.seat.me) c.requires.duty c.swap.ensures.2)) c.requires.pass
