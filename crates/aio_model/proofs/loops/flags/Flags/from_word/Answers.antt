use Rattle.aio_model.proofs.FlagsWords.{word_of-flags_in}
use Rattle.aio_model.proofs.loops.flags.Flags.from_word.Goals as goal

pub returns-clause-inverse : goal.returns-clause-inverse
returns-clause-inverse c = word_of-flags_in c.args.word c.requires
