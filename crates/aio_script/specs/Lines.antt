-- The significant lines of a text, each with its number, and what words they are.
use Rattle.std.specs.Prelude.{ℕ, ◌+◌, ◌&&◌, Bool, not, nat_le, List, [], ◌∷◌, filter, length}
use Rattle.std.specs.List.{list_all}
use Rattle.aio_script.specs.Text.{lines_of, words_of, is_skipped}

-- a line of the text, and its number
pub record Numbered : Type 0 where
  pub number : ℕ
  pub line : List ℕ

abbrev pub numbered_from : ℕ → List (List ℕ) → List Numbered
numbered_from n [] = []
numbered_from n (line ∷ lines) = record { number = n; line = line } ∷ numbered_from (n + 1) lines

-- the lines that say something, where the first line of the text has this number
abbrev pub significant_from : ℕ → List ℕ → List Numbered
significant_from n text = filter (λ numbered. not (is_skipped numbered.line)) (numbered_from n (lines_of text))

abbrev pub significant : List ℕ → List Numbered
significant text = significant_from 1 text

-- a word: bytes that are printed, at least one
abbrev pub is_word : List ℕ → Bool
is_word word = nat_le 1 (length word) && list_all (λ byte. nat_le 33 byte && nat_le byte 126) word

-- words with just one space between each two
abbrev pub are_words : List ℕ → Bool
are_words line = list_all is_word (words_of line)
