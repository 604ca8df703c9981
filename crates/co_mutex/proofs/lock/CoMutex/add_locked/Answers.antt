use Rattle.std.proofs.Common.{rules, refl, eqb}
use Rattle.co_mutex.proofs.LockSteps.{add_step}
use Rattle.co_mutex.proofs.Codes.{either_way, pass_of, kept_moves, kept_makes}
use Rattle.co_mutex.proofs.lock.CoMutex.add_locked.Goals as goal

pub fetch_add-requires : goal.fetch_add-requires
fetch_add-requires g c =
    (c.requires.pass.table, search rules, add_step g.P.LockRule.note c.args.self.now.table.shared.key.passes c.args.self.now.table.shared.key.value.value c.args.self.now.table.shared.table_id.slots c.args.pass.now.seat.id c.args.pass.now.seat.me c.requires.pass.live c.requires.rest.0 c.requires.rest.1)

pub returns-clause-pass : goal.returns-clause-pass
returns-clause-pass g c =
    pass_of c.args.self.now c.args.pass.now (record { seat = c.fetch_add.new.seat; number = c.args.pass.now.number }) c.fetch_add.ensures.0 refl (either_way (eqb c.fetch_add.result 0) (c.fetch_add.ensures.2 c.args.self.now.table.shared.key.value.value c.requires.pass.opens) (λ h. kept_makes _ _ _ _ _ _ _ h.makes) (λ h. kept_moves _ _ _ _ _ h)) c.requires.pass

pub returns-clause-step : goal.returns-clause-step
returns-clause-step g c =
    c.fetch_add.ensures.2 c.args.self.now.table.shared.key.value.value c.requires.pass.opens
