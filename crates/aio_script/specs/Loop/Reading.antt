-- What a call that reads a loop script gives, against what the grammar says of its text.
use Rattle.std.specs.Prelude.{Result}
use Rattle.aio_model.specs.declared.scripts.loop_scripts.LoopScript.{LoopScript}
use Rattle.aio_script.specs.declared.refusals.ScriptRefusal.{ScriptRefusal}
use Rattle.aio_script.specs.declared.refusals.ScriptFail.{ScriptFail}
use Rattle.aio_script.specs.declared.loops.form.LoopForm as shown
use Rattle.aio_script.specs.declared.loops.form.LoopForm.TheVariants as shown_as
use Rattle.aio_script.specs.declared.loops.form.SizeWords as shown_sizes
use Rattle.aio_script.specs.Loop.Forms.{SizeWords, LoopForm, on_call, on_nest, call, once, poll, commit, set, clear}
use Rattle.aio_script.specs.Image.Reading.{Gives}

-- just the script that is said, or just that refusal; want of memory leaves it open
abbrev pub GivesLoopScript : Result LoopScript ScriptRefusal → Result LoopScript ScriptFail → Type 0
GivesLoopScript said result = Gives said result

-- the words of the header that are shown
abbrev pub sizes_shown : shown_sizes.SizeWords → SizeWords
sizes_shown words = record { handles = words.handles.now; lots = words.lots.now; events = words.events.now }

-- the form, of the words that are shown
abbrev pub loop_form_shown : shown.LoopForm → LoopForm
loop_form_shown (shown_as.OnCall verb i j) = on_call verb i.now j.now
loop_form_shown (shown_as.OnNest i) = on_nest i.now
loop_form_shown (shown_as.Call verb i) = call verb i.now
loop_form_shown (shown_as.Once tag) = once tag.now
loop_form_shown shown_as.Poll = poll
loop_form_shown shown_as.Commit = commit
loop_form_shown (shown_as.Set e) = set e.now
loop_form_shown (shown_as.Clear e) = clear e.now
