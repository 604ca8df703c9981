-- The grammar of loop scripts: the script that a text says, or the first line that can't stand where it does. On one
-- line its form is looked at first, then its numbers, and then its limits.
use Rattle.std.specs.Prelude.{ℕ, ◌==◌, ◌&&◌, nat_le, nat_lt, List, [], ◌∷◌, ◌++◌, length, count_by, codes, Result, Ok, Err}
use Rattle.aio_model.specs.declared.scripts.loop_scripts.Act.{Act}
use Rattle.aio_model.specs.declared.scripts.loop_scripts.ActKind.{ActKind}
use Rattle.aio_model.specs.declared.scripts.loop_scripts.ActKind.TheVariants as act
use Rattle.aio_model.specs.declared.scripts.loop_scripts.Command.{Command}
use Rattle.aio_model.specs.declared.scripts.loop_scripts.Command.TheVariants as command
use Rattle.aio_model.specs.declared.scripts.loop_scripts.LoopScript.{LoopScript}
use Rattle.aio_script.specs.declared.refusals.ScriptRefusal.{ScriptRefusal}
use Rattle.aio_script.specs.declared.refusals.ScriptRefusal.TheVariants.{NoHeader}
use Rattle.aio_script.specs.declared.loops.form.Verb.{Verb}
use Rattle.aio_script.specs.declared.loops.form.Verb.TheVariants.{Schedule, Idle, Delete, Cancel}
use Rattle.aio_script.specs.declared.loops.form.LoopHeader.{LoopHeader}
use Rattle.aio_script.specs.declared.loops.form.LoopSaid.{LoopSaid}
use Rattle.aio_script.specs.declared.loops.form.LoopSaid.TheVariants.{Adds, Asks}
use Rattle.aio_script.specs.Text.{is, number_of}
use Rattle.aio_script.specs.Lines.{Numbered, significant}
use Rattle.aio_script.specs.Image.Grammar.{◌>>=◌, in_number_range, formed, present, within, words_at}
use Rattle.aio_script.specs.Loop.Forms.{SizeWords, size_words, LoopForm, on_call, on_nest, call, once, poll, commit, set, clear, loop_form_of}

-- ---- the header

abbrev pub sizes_read : ℕ → SizeWords → Result LoopHeader ScriptRefusal
sizes_read line words = do
  handles ← in_number_range line (number_of words.handles)
  lots ← in_number_range line (number_of words.lots)
  events ← in_number_range line (number_of words.events)
  small ← within line (nat_le 1 handles && (nat_le handles 64 && (nat_le lots 64 && nat_le events 64)))
  Ok (record { handles = handles; lots = lots; events = events })

-- `loop H L E`
abbrev pub header_of : ℕ → List (List ℕ) → Result LoopHeader ScriptRefusal
header_of line [] = Err NoHeader
header_of line (first ∷ words) = do
  there ← present (is first (codes "loop"))
  sizes ← formed line (size_words words)
  sizes_read line sizes

abbrev pub loop_header_at : Numbered → Result LoopHeader ScriptRefusal
loop_header_at numbered = words_at numbered >>= λ words. header_of numbered.number words

-- ---- a line behind it

abbrev pub act_of : Verb → ℕ → ActKind
act_of Schedule j = act.Schedule j
act_of Idle j = act.Idle j
act_of Delete j = act.Delete j
act_of Cancel j = act.Cancel j

abbrev pub call_of : Verb → ℕ → Command
call_of Schedule i = command.Schedule i
call_of Idle i = command.Idle i
call_of Delete i = command.Delete i
call_of Cancel i = command.Cancel i

-- how many of these actions are a callback's
abbrev pub act_count_of : ℕ → List Act → ℕ
act_count_of i acts = count_by (λ a. a.bh == i) acts

-- a number below this one
abbrev pub number_below : ℕ → ℕ → List ℕ → Result ℕ ScriptRefusal
number_below line end word = do
  n ← in_number_range line (number_of word)
  small ← within line (nat_lt n end)
  Ok n

-- one action more of a callback, which has at most eight
abbrev pub acted : ℕ → List Act → ℕ → ActKind → Result LoopSaid ScriptRefusal
acted line acts i what = do
  room ← within line (nat_lt (act_count_of i acts) 8)
  Ok (Adds (record { bh = i; what = what }))

-- one command more, of at most 4,096
abbrev pub commanded : ℕ → ℕ → Command → Result LoopSaid ScriptRefusal
commanded line asked what = do
  room ← within line (nat_lt asked 4096)
  Ok (Asks what)

-- What a line of this form says, where so many handles and events are, and these actions and so many commands stand in
-- the lines above.
module _ (line handles events : ℕ) (acts : List Act) (asked : ℕ) where
  abbrev pub loop_said_of : LoopForm → Result LoopSaid ScriptRefusal
  loop_said_of (on_call verb i j) = do
    bh ← in_number_range line (number_of i)
    target ← in_number_range line (number_of j)
    small ← within line (nat_lt bh handles && nat_lt target handles)
    acted line acts bh (act_of verb target)
  loop_said_of (on_nest i) = do
    bh ← number_below line handles i
    acted line acts bh act.Nest
  loop_said_of (call verb i) = do
    bh ← number_below line handles i
    commanded line asked (call_of verb bh)
  loop_said_of (once t) = do
    tag ← number_below line 1000 t
    commanded line asked (command.Once tag)
  loop_said_of poll = commanded line asked command.Poll
  loop_said_of commit = commanded line asked command.Commit
  loop_said_of (set e) = do
    event ← number_below line events e
    commanded line asked (command.Set event)
  loop_said_of (clear e) = do
    event ← number_below line events e
    commanded line asked (command.Clear event)

-- what the line says
abbrev pub loop_said_at : ℕ → ℕ → List Act → ℕ → Numbered → Result LoopSaid ScriptRefusal
loop_said_at handles events acts asked numbered = do
  words ← words_at numbered
  form ← formed numbered.number (loop_form_of (nat_lt 0 asked) words)
  loop_said_of numbered.number handles events acts asked form

-- ---- the whole

abbrev pub acts_with : List Act → LoopSaid → List Act
acts_with acts (Adds a) = acts ++ a ∷ []
acts_with acts (Asks c) = acts

abbrev pub commands_with : List Command → LoopSaid → List Command
commands_with commands (Adds a) = commands
commands_with commands (Asks c) = commands ++ c ∷ []

-- the script with what one more line says
abbrev pub with_said : LoopScript → LoopSaid → LoopScript
with_said script said =
    record { handles = script.handles; lots = script.lots; events = script.events; acts = acts_with script.acts said; commands = commands_with script.commands said }

-- what the line says below the lines that give this script
abbrev pub said_below : LoopScript → Numbered → Result LoopSaid ScriptRefusal
said_below script numbered = loop_said_at script.handles script.events script.acts (length script.commands) numbered

-- the script, with all these lines below those that give it
abbrev pub with_lines : LoopScript → List Numbered → Result LoopScript ScriptRefusal
with_lines script [] = Ok script
with_lines script (numbered ∷ lines) = said_below script numbered >>= λ said. with_lines (with_said script said) lines

-- the script of a header, these actions and these commands
abbrev pub script_of : LoopHeader → List Act → List Command → LoopScript
script_of header acts commands =
    record { handles = header.handles; lots = header.lots; events = header.events; acts = acts; commands = commands }

abbrev pub loop_script_lines : List Numbered → Result LoopScript ScriptRefusal
loop_script_lines [] = Err NoHeader
loop_script_lines (numbered ∷ lines) = loop_header_at numbered >>= λ header. with_lines (script_of header [] []) lines

-- the loop script that a text says, or why it says none
abbrev pub loop_script_said : List ℕ → Result LoopScript ScriptRefusal
loop_script_said text = loop_script_lines (significant text)
