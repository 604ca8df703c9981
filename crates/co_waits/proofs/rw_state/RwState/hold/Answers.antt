use Rattle.aio_model.proofs.Granted.{writer_alone}
use Rattle.co_waits.proofs.rw_state.RwState.hold.Goals as goal

pub returns-clause-alone : goal.returns-clause-alone
returns-clause-alone c = writer_alone c.args.self.now
