-- Each word so far is a key and a value, so that the ones left decide.
use Rattle.std.proofs.Common.{◌≡◌, map, drop, string_bytes}
use Rattle.std.specs.List.{list_all}
use Rattle.program_words.specs.Words.{is_option}
use Rattle.program_words.proofs.options.are_known.Given as goal

abbrev pub invariant-loop-word : goal.invariant-loop-word
invariant-loop-word l = list_all is_option (map string_bytes l.words) ≡ list_all is_option (map string_bytes (drop l.word-index l.words))
