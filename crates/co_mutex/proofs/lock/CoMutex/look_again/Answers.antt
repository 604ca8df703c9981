use Rattle.std.proofs.Common.{rules}
use Rattle.co_mutex.proofs.WakeSteps.{look_step}
use Rattle.co_mutex.proofs.WakeCodes.{look_told}
use Rattle.co_mutex.proofs.lock.CoMutex.look_again.Goals as goal

pub load-requires : goal.load-requires
load-requires g c =
    (c.requires.pass.table, search rules, look_step g.P.LockRule.note c.args.self.now.table.shared.key.passes c.args.self.now.table.shared.key.value.value c.args.self.now.table.shared.table_id.slots c.args.pass.now.seat.id c.args.pass.now.seat.me c.args.number c.requires.pass.live c.requires.place.0)

pub returns-clause-step : goal.returns-clause-step
returns-clause-step g c =
    look_told c.args.pass.now.seat.me c.load.new.seat.me c.args.number c.load.result c.requires.place.0 c.requires.place.1 c.load.ensures.2
