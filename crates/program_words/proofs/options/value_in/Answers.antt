use Rattle.program_words.proofs.Keys.{key-stripped}
use Rattle.program_words.proofs.options.value_in.Goals as goal

pub returns : goal.returns
returns c = key-stripped c.args.key.now c.args.word.now c.strip_prefix.result c.strip_prefix.ensures.cases
