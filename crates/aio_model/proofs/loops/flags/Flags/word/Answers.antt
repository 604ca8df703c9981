use Rattle.aio_model.proofs.FlagsWords.{flags_in-bytes}
use Rattle.aio_model.proofs.loops.flags.Flags.word.Goals as goal

pub returns-clause-inverse : goal.returns-clause-inverse
returns-clause-inverse c =
    flags_in-bytes c.args.self _ _ _ _ _ c.from.ensures c.from-2.ensures c.from-3.ensures c.from-4.ensures c.from-5.ensures
