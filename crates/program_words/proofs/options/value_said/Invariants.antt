-- No word so far begins with the key.
use Rattle.std.proofs.Common.{◌≡◌, map, drop, string_bytes}
use Rattle.program_words.specs.Words.{value_said}
use Rattle.program_words.proofs.options.value_said.Given as goal

abbrev pub invariant-loop-word : goal.invariant-loop-word
invariant-loop-word l = value_said l.key (map string_bytes l.words) ≡ value_said l.key (map string_bytes (drop l.word-index l.words))
