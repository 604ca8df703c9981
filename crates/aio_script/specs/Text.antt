-- Text as scripts have it: lines, words, numbers and data.
use Rattle.std.specs.Prelude.{ℕ, ◌+◌, ◌-◌, ◌*◌, ◌^◌, ◌==◌, ◌&&◌, Bool, true, nat_le, nat_eq, List, [], ◌∷◌, length, fold, codes, Option, Some, None, if◌then◌else◌}
use Rattle.std.specs.List.{slice_split, list_all}
use Rattle.std.specs.Char.{is_ascii_digit}
use Rattle.std.specs.Result.{result_ok}
use Rattle.hex.specs.Hex.{decode_of}
use lib.Pointwise.{pointwise}

-- these bytes are those of the other text
abbrev pub is : List ℕ → List ℕ → Bool
is text other = pointwise nat_eq text other

-- The lines, cut at each line feed. What is left behind the last one is a line too: where it is empty, it is skipped
-- like any other empty line.
abbrev pub lines_of : List ℕ → List (List ℕ)
lines_of text = slice_split (λ byte. byte == 10) text

-- an empty line, or a comment, which begins with `#`
abbrev pub is_skipped : List ℕ → Bool
is_skipped [] = true
is_skipped (byte ∷ rest) = byte == 35

-- the words of a line, cut at each space
abbrev pub words_of : List ℕ → List (List ℕ)
words_of line = slice_split (λ byte. byte == 32) line

-- what decimal digits stand for
abbrev pub decimal_value : List ℕ → ℕ
decimal_value digits = fold (λ n digit. 10 * n + (digit - 48)) 0 digits

-- a number: one to twenty digits, of a value that 64 bits hold
abbrev pub number_of : List ℕ → Option ℕ
number_of word =
    if nat_le 1 (length word) && (nat_le (length word) 20 && (list_all is_ascii_digit word && nat_le (decimal_value word) (2 ^ 64 - 1)))
    then Some (decimal_value word) else None

-- data: pairs of hexadecimal digits, at least one, or a dash for no bytes
abbrev pub data_of : List ℕ → Option (List ℕ)
data_of word =
    if is word (codes "-") then Some []
    else if nat_le 2 (length word) then result_ok (decode_of word)
    else None
