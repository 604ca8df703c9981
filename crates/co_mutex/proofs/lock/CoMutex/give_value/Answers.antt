use Rattle.std.proofs.Common.{rules, refl, eqb, ◌∙◌}
use Rattle.co_mutex.specs.declared.slot.Slot.TheVariants.{Value, Out}
use Rattle.co_mutex.proofs.Codes.{pass_of, in_hand, one_in_hand}
use Rattle.co_mutex.proofs.WakeCodes.{sub_ready, sub_told, sub_kept}
use Rattle.co_mutex.proofs.lock.CoMutex.give_value.Goals as goal

pub exchange-out-requires : goal.exchange-out-requires
exchange-out-requires g c =
    (c.requires.pass.table, in_hand c.args.pass.now.seat.me 0 Out c.requires.holds.0)

pub fetch_sub-requires : goal.fetch_sub-requires
fetch_sub-requires g c =
    (c.exchange-out.ensures.0 ∙ c.requires.pass.table, search rules, sub_ready g.P.LockRule.note c.args.self.now.table.shared.key.passes c.args.self.now.table.shared.key.value.value _ _ c.args.pass.now.seat.me c.exchange-out.new.seat.me c.args.value c.requires.pass.live c.requires.holds.0 c.requires.holds.1 c.exchange-out.ensures.3 c.requires.notes)

pub returns-clause-step : goal.returns-clause-step
returns-clause-step g c =
    sub_told c.args.pass.now.seat.me c.exchange-out.new.seat.me c.fetch_sub.new.seat.me c.args.value c.args.self.now.table.shared.table_id.slots c.fetch_sub.result (one_in_hand c.args.pass.now.seat.me c.exchange-out.new.seat.me 0 Out (Value c.args.value) c.requires.holds.0 c.exchange-out.ensures.3) c.fetch_sub.ensures.2

pub returns-clause-pass : goal.returns-clause-pass
returns-clause-pass g c =
    pass_of c.args.self.now c.args.pass.now (record { seat = c.fetch_sub.new.seat; number = c.args.pass.now.number }) (c.fetch_sub.ensures.0 ∙ c.exchange-out.ensures.0) refl (sub_kept (eqb c.fetch_sub.result 1) c.args.value c.fetch_sub.result _ _ (sub_told c.args.pass.now.seat.me c.exchange-out.new.seat.me c.fetch_sub.new.seat.me c.args.value c.args.self.now.table.shared.table_id.slots c.fetch_sub.result (one_in_hand c.args.pass.now.seat.me c.exchange-out.new.seat.me 0 Out (Value c.args.value) c.requires.holds.0 c.exchange-out.ensures.3) c.fetch_sub.ensures.2)) c.requires.pass
