-- The forms of lines, by their words alone. What is a number or data in a form is still the word that stands for it.
use Rattle.std.specs.Prelude.{ℕ, ◌||◌, Bool, List, [], ◌∷◌, codes, Option, Some, None, if◌then◌else◌}
use Rattle.aio_script.specs.Text.{is}

-- a line behind the header
pub data Form : Type 0 where
  declare : List ℕ → List ℕ → Form
  read : List ℕ → List ℕ → List ℕ → Form
  write : List ℕ → List ℕ → List ℕ → Form
  zeroing : List ℕ → List ℕ → List ℕ → Form
  flush : List ℕ → Form
  delay : List ℕ → List ℕ → Form
  move : List ℕ → List ℕ → Form

-- `image N` and `loops N`
abbrev pub header_form : List ℕ → List (List ℕ) → Option (List ℕ)
header_form name (word ∷ number ∷ []) = if is word name then Some number else None
header_form name words = None

-- `S flush`
abbrev pub of_one : List ℕ → List ℕ → Option Form
of_one s verb = if is verb (codes "flush") then Some (flush s) else None

-- `S delay NS` and `S move L`
abbrev pub of_two : List ℕ → List ℕ → List ℕ → Option Form
of_two s verb n =
    if is verb (codes "delay") then Some (delay s n)
    else if is verb (codes "move") then Some (move s n)
    else None

-- `S read AT LEN`, `S write AT DATA` and `S zero AT LEN`
abbrev pub of_three : List ℕ → List ℕ → List ℕ → List ℕ → Option Form
of_three s verb at last =
    if is verb (codes "read") then Some (read s at last)
    else if is verb (codes "write") then Some (write s at last)
    else if is verb (codes "zero") then Some (zeroing s at last)
    else None

-- a line of a stream, by the words behind the stream's number
abbrev pub form_of_stream : List ℕ → List (List ℕ) → Option Form
form_of_stream s (verb ∷ []) = of_one s verb
form_of_stream s (verb ∷ n ∷ []) = of_two s verb n
form_of_stream s (verb ∷ at ∷ last ∷ []) = of_three s verb at last
form_of_stream s words = None

-- `stream S L`
abbrev pub of_declaration : List (List ℕ) → Option Form
of_declaration (s ∷ l ∷ []) = Some (declare s l)
of_declaration words = None

-- words that begin no line behind the header
abbrev pub begins_header : List ℕ → Bool
begins_header word = is word (codes "image") || (is word (codes "loops") || is word (codes "version"))

abbrev pub form_of : List (List ℕ) → Option Form
form_of [] = None
form_of (first ∷ words) =
    if begins_header first then None
    else if is first (codes "stream") then of_declaration words
    else form_of_stream first words
