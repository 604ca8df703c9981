-- What a call that reads a text gives, against what the grammar says of the text. Want of memory leaves it open.
use Rattle.std.specs.Prelude.{◌≡◌, ℕ, List, ◌∷◌, Result, Ok, Err}
use Rattle.aio_model.specs.declared.scripts.image_scripts.Script.{Script}
use Rattle.aio_script.specs.declared.refusals.ScriptRefusal.{ScriptRefusal}
use Rattle.aio_script.specs.declared.refusals.ScriptFail.{ScriptFail}
use Rattle.aio_script.specs.declared.refusals.ScriptFail.TheVariants.{Refused, NoMemory}
use Rattle.aio_script.specs.declared.image.form.Form as shown
use Rattle.aio_script.specs.declared.image.form.Form.TheVariants as shown_as
use Rattle.aio_script.specs.Image.Forms.{Form, declare, read, write, zeroing, flush, delay, move}

-- exactly what is said, and a refusal exactly where it is that one
abbrev pub Gives : {A : Type 0} → Result A ScriptRefusal → Result A ScriptFail → Type 0
Gives said (Ok value) = said ≡ Ok value
Gives said (Err (Refused refusal)) = said ≡ Err refusal
Gives said (Err NoMemory) = Unit {0}

-- the same of a whole script
abbrev pub GivesScript : Result Script ScriptRefusal → Result Script ScriptFail → Type 0
GivesScript said result = Gives said result

-- the form, of the words that are shown
abbrev pub form_shown : shown.Form → Form
form_shown (shown_as.Declare s l) = declare s.now l.now
form_shown (shown_as.Read s at len) = read s.now at.now len.now
form_shown (shown_as.Write s at text) = write s.now at.now text.now
form_shown (shown_as.Zero s at len) = zeroing s.now at.now len.now
form_shown (shown_as.Flush s) = flush s.now
form_shown (shown_as.Delay s ns) = delay s.now ns.now
form_shown (shown_as.Move s l) = move s.now l.now

-- more words than one
abbrev pub AreSeveral : List (List ℕ) → Type 0
AreSeveral (one ∷ two ∷ words) = Unit {0}
AreSeveral words = ⊥
