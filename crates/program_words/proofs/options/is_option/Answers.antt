use Rattle.std.proofs.Common.{rules}
use Rattle.program_words.specs.Words.{is_option}
use Rattle.program_words.proofs.options.is_option.Goals as goal

pub returns-then-begins_with-3 : goal.returns-then-begins_with-3
unfolding is_option
returns-then-begins_with-3 c = search rules

pub returns-then-begins_with-4 : goal.returns-then-begins_with-4
unfolding is_option
returns-then-begins_with-4 c = search rules

pub returns-else-begins_with-4 : goal.returns-else-begins_with-4
unfolding is_option
returns-else-begins_with-4 c = search rules
