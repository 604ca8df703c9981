-- The forms of lines of a loop script, by their words alone. What is a number in a form is still the word that stands
-- for it.
use Rattle.std.specs.Prelude.{ℕ, Bool, List, [], ◌∷◌, codes, Option, Some, None, option_map, if◌then◌else◌}
use Rattle.aio_script.specs.declared.loops.form.Verb.{Verb}
use Rattle.aio_script.specs.declared.loops.form.Verb.TheVariants.{Schedule, Idle, Delete, Cancel}
use Rattle.aio_script.specs.Text.{is}

-- a line behind the header
pub data LoopForm : Type 0 where
  on_call : Verb → List ℕ → List ℕ → LoopForm
  on_nest : List ℕ → LoopForm
  call : Verb → List ℕ → LoopForm
  once : List ℕ → LoopForm
  poll : LoopForm
  commit : LoopForm
  set : List ℕ → LoopForm
  clear : List ℕ → LoopForm

-- the words behind `loop` in the header
pub record SizeWords : Type 0 where
  pub handles : List ℕ
  pub lots : List ℕ
  pub events : List ℕ

abbrev pub size_words : List (List ℕ) → Option SizeWords
size_words (h ∷ l ∷ e ∷ []) = Some (record { handles = h; lots = l; events = e })
size_words words = None

abbrev pub verb_named : List ℕ → Option Verb
verb_named word =
    if is word (codes "schedule") then Some Schedule
    else if is word (codes "idle") then Some Idle
    else if is word (codes "delete") then Some Delete
    else if is word (codes "cancel") then Some Cancel
    else None

-- an action, by the words behind `on`: `I nest`, or `I VERB J`
abbrev pub of_action : List (List ℕ) → Option LoopForm
of_action (i ∷ word ∷ []) = if is word (codes "nest") then Some (on_nest i) else None
of_action (i ∷ word ∷ j ∷ []) = option_map (λ verb. on_call verb i j) (verb_named word)
of_action words = None

-- `poll` and `commit`
abbrev pub of_word : List ℕ → Option LoopForm
of_word word =
    if is word (codes "poll") then Some poll
    else if is word (codes "commit") then Some commit
    else None

-- `once T`, `set E`, `clear E` and `VERB I`
abbrev pub of_words : List ℕ → List ℕ → Option LoopForm
of_words word n =
    if is word (codes "once") then Some (once n)
    else if is word (codes "set") then Some (set n)
    else if is word (codes "clear") then Some (clear n)
    else option_map (λ verb. call verb n) (verb_named word)

-- a command
abbrev pub of_command : List ℕ → List (List ℕ) → Option LoopForm
of_command word [] = of_word word
of_command word (n ∷ []) = of_words word n
of_command word words = None

-- Where a command stands above, an action is of no form.
abbrev pub loop_form_of : Bool → List (List ℕ) → Option LoopForm
loop_form_of behind_command [] = None
loop_form_of behind_command (first ∷ words) =
    if is first (codes "on") then (if behind_command then None else of_action words)
    else of_command first words
