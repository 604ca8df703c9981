-- The words of the command line that the program takes, and what they ask for. Each word is a key and a value behind
-- it. A key stands at most once, in any order.
use Rattle.std.specs.Prelude.{ℕ, ◌≤◌, ◌&&◌, ◌||◌, Bool, nat_eq, nat_le, nat_lt, List, [], ◌∷◌, length, drop, codes, count_by, Option, Some, None, if◌then◌else◌}
use Rattle.std.specs.List.{list_all, starts_with}
use Rattle.std.specs.Char.{is_ascii_digit}
use Rattle.aio_script.specs.Text.{is, decimal_value}
use Rattle.program_words.specs.declared.modes.Mode.{Mode}
use Rattle.program_words.specs.declared.modes.Mode.TheVariants.{Image, Bells, Generated}

abbrev pub mode_key : List ℕ
mode_key = codes "--mode="

abbrev pub gen_key : List ℕ
gen_key = codes "--gen="

abbrev pub from_key : List ℕ
from_key = codes "--from="

abbrev pub image_key : List ℕ
image_key = codes "--image="

abbrev pub begins_with : List ℕ → List ℕ → Bool
begins_with key word = starts_with nat_eq word key

-- what stands behind the key in the first word that begins with it
abbrev pub value_said : List ℕ → List (List ℕ) → Option (List ℕ)
value_said key [] = None
value_said key (word ∷ words) = if begins_with key word then Some (drop (length key) word) else value_said key words

-- a word that begins with one of the keys; a path isn't empty
unfoldable pub is_option : List ℕ → Bool
is_option word =
    begins_with mode_key word || (begins_with gen_key word || (begins_with from_key word
    || (begins_with image_key word && nat_lt (length image_key) (length word))))

-- at most one of the words begins with the key
abbrev pub is_given_once : List ℕ → List (List ℕ) → Bool
is_given_once key words = nat_le (count_by (begins_with key) words) 1

abbrev pub is_each_once : List (List ℕ) → Bool
is_each_once words =
    is_given_once mode_key words && (is_given_once gen_key words && (is_given_once from_key words && is_given_once image_key words))

-- each word is a key and a value, and no key stands twice
abbrev pub are_options : List (List ℕ) → Bool
are_options words = list_all is_option words && is_each_once words

-- a number within these bounds
abbrev pub IsNumber : ℕ → ℕ → ℕ → Type 0
IsNumber least most n = (least ≤ n) × (n ≤ most)

-- the numbers of a mode are within their bounds
abbrev pub IsModeWithin : Mode → Type 0
IsModeWithin Image = Unit {0}
IsModeWithin Bells = Unit {0}
IsModeWithin (Generated n from) = IsNumber 1 4096 n × IsNumber 0 65535 from

-- the number that so many decimal digits at most stand for, where it lies within these bounds
abbrev pub number_within : ℕ → ℕ → ℕ → List ℕ → Option ℕ
number_within digits least most text =
    if nat_le 1 (length text) && (nat_le (length text) digits && (list_all is_ascii_digit text && (nat_le least (decimal_value text) && nat_le (decimal_value text) most)))
    then Some (decimal_value text) else None

abbrev pub number_or_none : Option ℕ → Option (Option ℕ)
number_or_none None = None
number_or_none (Some n) = Some (Some n)

-- A number that may be left out: None where its text is no such number.
abbrev pub number_said : ℕ → ℕ → ℕ → Option (List ℕ) → Option (Option ℕ)
number_said digits least most None = Some None
number_said digits least most (Some text) = number_or_none (number_within digits least most text)

-- the script that a mode's name is for; that of images where no mode is named
abbrev pub mode_named : Option (List ℕ) → Option Mode
mode_named None = Some Image
mode_named (Some name) = if is name (codes "run") then Some Image else if is name (codes "bh") then Some Bells else None

-- The mode, together with the numbers of the generated script. A first number needs a number of requests, and a loop
-- script has neither of them, nor an image.
abbrev pub mode_with : Mode → Option ℕ → Option ℕ → Option (List ℕ) → Option Mode
mode_with Bells None None None = Some Bells
mode_with Image None None image = Some Image
mode_with Image (Some n) None image = Some (Generated n 1)
mode_with Image (Some n) (Some from) image = Some (Generated n from)
mode_with mode requests from image = None

abbrev pub mode_of : Option Mode → Option (Option ℕ) → Option (Option ℕ) → Option (List ℕ) → Option Mode
mode_of (Some mode) (Some requests) (Some from) image = mode_with mode requests from image
mode_of mode requests from image = None

-- The mode that the words ask for. None where they aren't words of the program.
abbrev pub mode_said : List (List ℕ) → Option Mode
mode_said words =
    if are_options words
    then mode_of (mode_named (value_said mode_key words))
    (number_said 4 1 4096 (value_said gen_key words))
    (number_said 5 0 65535 (value_said from_key words))
    (value_said image_key words)
    else None
