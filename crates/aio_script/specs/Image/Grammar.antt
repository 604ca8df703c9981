-- The grammar of scripts: the script that a text says, or the first line that can't stand where it does. On one line
-- its form is looked at first, then its numbers and data, then its limits, and last whether its stream was declared.
use Rattle.std.specs.Prelude.{ℕ, ◌+◌, ◌==◌, ◌&&◌, Bool, false, not, nat_le, nat_lt, List, [], ◌∷◌, ◌++◌, length, count_by, sum_by, codes, Option, Some, None, Result, Ok, Err, if◌then◌else◌}
use Rattle.std.specs.List.{list_any, filter_map}
use Rattle.aio_model.specs.declared.serving.requests.Request.TheVariants.{Read, Write, Zero, Flush}
use Rattle.aio_model.specs.declared.scripts.image_scripts.Stream.{Stream}
use Rattle.aio_model.specs.declared.scripts.image_scripts.Step.{Step}
use Rattle.aio_model.specs.declared.scripts.image_scripts.What.{What}
use Rattle.aio_model.specs.declared.scripts.image_scripts.What.TheVariants.{Ask, Delay, Move}
use Rattle.aio_model.specs.declared.scripts.image_scripts.Script.{Script}
use Rattle.aio_model.specs.Serving.Asked.{is_ask}
use Rattle.aio_script.specs.declared.refusals.ScriptRefusal.{ScriptRefusal}
use Rattle.aio_script.specs.declared.refusals.ScriptRefusal.TheVariants.{BadLine, BadNumber, OutOfLimit, UnknownStream, NoHeader}
use Rattle.aio_script.specs.declared.image.said.Said.{Said}
use Rattle.aio_script.specs.declared.image.said.Said.TheVariants.{Declares, Does}
use Rattle.aio_script.specs.declared.image.said.Counts.{Counts}
use Rattle.aio_script.specs.Text.{is, words_of, number_of, data_of}
use Rattle.aio_script.specs.Lines.{Numbered, significant, are_words}
use Rattle.aio_script.specs.Image.Forms.{Form, declare, read, write, zeroing, flush, delay, move, header_form, form_of}

infixl 10 ◌>>=◌
abbrev pub ◌>>=◌ : {A B : Type 0} → Result A ScriptRefusal → (A → Result B ScriptRefusal) → Result B ScriptRefusal
(Ok x) >>= f = f x
(Err e) >>= f = Err e

abbrev pub declared : Said → Option Stream
declared (Declares stream) = Some stream
declared (Does step) = None

abbrev pub step_done : Said → Option Step
step_done (Declares stream) = None
step_done (Does step) = Some step

abbrev pub streams_in : List Said → List Stream
streams_in said = filter_map declared said

abbrev pub steps_in : List Said → List Step
steps_in said = filter_map step_done said

-- whether one of the streams has this number
abbrev pub has_stream : ℕ → List Stream → Bool
has_stream s streams = list_any (λ stream. stream.id == s) streams

abbrev pub bytes_moved : What → ℕ
bytes_moved (Ask (Read at len)) = len
bytes_moved (Ask (Write at bytes)) = length bytes
bytes_moved what = 0

-- how many requests there are among these steps, how many other steps, and how many bytes are read and written
abbrev pub counts_of : List Step → Counts
counts_of steps = record {
  requests = count_by (λ step. is_ask step.what) steps;
  pauses = count_by (λ step. not (is_ask step.what)) steps;
  moved = sum_by (λ step. bytes_moved step.what) steps;
}

module _ (line : ℕ) where
  abbrev pub formed : {A : Type 0} → Option A → Result A ScriptRefusal
  formed None = Err (BadLine line)
  formed (Some x) = Ok x

  abbrev pub in_number_range : {A : Type 0} → Option A → Result A ScriptRefusal
  in_number_range None = Err (BadNumber line)
  in_number_range (Some x) = Ok x

  abbrev pub fresh : Bool → Result Unit ScriptRefusal
  fresh b = if b then Ok tt else Err (BadLine line)

  abbrev pub within : Bool → Result Unit ScriptRefusal
  within b = if b then Ok tt else Err (OutOfLimit line)

  abbrev pub is_known_stream : Bool → Result Unit ScriptRefusal
  is_known_stream b = if b then Ok tt else Err (UnknownStream line)

-- room for one request more, of so many bytes, of which so many are read or written
abbrev pub has_room : Counts → ℕ → ℕ → Bool
has_room counts len moved = nat_le len 65536 && (nat_lt counts.requests 4096 && nat_le (counts.moved + moved) 67108864)

-- room for one delay or move more
abbrev pub has_pause : Counts → Bool
has_pause counts = nat_lt counts.pauses 4096

-- the step of a stream, where these streams were declared
abbrev pub step_of : ℕ → List Stream → ℕ → What → Result Said ScriptRefusal
step_of line streams s what = is_known_stream line (has_stream s streams) >>= λ there. Ok (Does (record { stream = s; what = what }))

-- What a line of this form says, where so many loops are, the lines above declare these streams, and have these counts.
module _ (line loops : ℕ) (streams : List Stream) (counts : Counts) where
  abbrev pub said_of : Form → Result Said ScriptRefusal
  said_of (declare s l) = do
    id ← in_number_range line (number_of s)
    home ← in_number_range line (number_of l)
    new ← fresh line (not (has_stream id streams))
    small ← within line (nat_le id 63 && nat_lt home loops)
    Ok (Declares (record { id = id; home = home }))
  said_of (read s at len) = do
    id ← in_number_range line (number_of s)
    place ← in_number_range line (number_of at)
    n ← in_number_range line (number_of len)
    small ← within line (has_room counts n n)
    step_of line streams id (Ask (Read place n))
  said_of (write s at text) = do
    id ← in_number_range line (number_of s)
    place ← in_number_range line (number_of at)
    bytes ← in_number_range line (data_of text)
    small ← within line (has_room counts (length bytes) (length bytes))
    step_of line streams id (Ask (Write place bytes))
  said_of (zeroing s at len) = do
    id ← in_number_range line (number_of s)
    place ← in_number_range line (number_of at)
    n ← in_number_range line (number_of len)
    small ← within line (has_room counts n 0)
    step_of line streams id (Ask (Zero place n))
  said_of (flush s) = do
    id ← in_number_range line (number_of s)
    small ← within line (has_room counts 0 0)
    step_of line streams id (Ask Flush)
  said_of (delay s ns) = do
    id ← in_number_range line (number_of s)
    n ← in_number_range line (number_of ns)
    small ← within line (nat_le n 1000000000 && has_pause counts)
    step_of line streams id (Delay n)
  said_of (move s l) = do
    id ← in_number_range line (number_of s)
    loop ← in_number_range line (number_of l)
    small ← within line (nat_lt loop loops && has_pause counts)
    step_of line streams id (Move loop)

-- the words of a line, if it is words
abbrev pub words_at : Numbered → Result (List (List ℕ)) ScriptRefusal
words_at numbered = if are_words numbered.line then Ok (words_of numbered.line) else Err (BadLine numbered.number)

-- what the line says, where so much stands above it
abbrev pub said_at : ℕ → List Stream → Counts → Numbered → Result Said ScriptRefusal
said_at loops streams counts numbered = do
  words ← words_at numbered
  form ← formed numbered.number (form_of words)
  said_of numbered.number loops streams counts form

-- what all lines say, each below those before it
abbrev pub all_said : ℕ → List Said → List Numbered → Result (List Said) ScriptRefusal
all_said loops above [] = Ok above
all_said loops above (numbered ∷ lines) = said_at loops (streams_in above) (counts_of (steps_in above)) numbered >>= λ said. all_said loops (above ++ said ∷ []) lines

-- whether the first word is the name
abbrev pub begins_with_name : List ℕ → List (List ℕ) → Bool
begins_with_name name [] = false
begins_with_name name (word ∷ words) = is word name

abbrev pub present : Bool → Result Unit ScriptRefusal
present b = if b then Ok tt else Err NoHeader

-- the number of a header line, between these limits
abbrev pub header_at : List ℕ → ℕ → ℕ → Numbered → Result ℕ ScriptRefusal
header_at name least most numbered = do
  words ← words_at numbered
  there ← present (begins_with_name name words)
  word ← formed numbered.number (header_form name words)
  n ← in_number_range numbered.number (number_of word)
  small ← within numbered.number (nat_le least n && nat_le n most)
  Ok n

abbrev pub script_below : ℕ → ℕ → List Numbered → Result Script ScriptRefusal
script_below image loops lines = do
  said ← all_said loops [] lines
  Ok (record { image = image; loops = loops; streams = streams_in said; lines = steps_in said })

abbrev pub loops_below : ℕ → List Numbered → Result Script ScriptRefusal
loops_below image [] = Err NoHeader
loops_below image (numbered ∷ lines) = header_at (codes "loops") 1 16 numbered >>= λ loops. script_below image loops lines

abbrev pub script_lines : List Numbered → Result Script ScriptRefusal
script_lines [] = Err NoHeader
script_lines (numbered ∷ lines) = header_at (codes "image") 0 1048576 numbered >>= λ image. loops_below image lines

-- the script that a text says, or why it says none
abbrev pub script_said : List ℕ → Result Script ScriptRefusal
script_said text = script_lines (significant text)
