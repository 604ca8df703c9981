-- Each loop script that the grammar gives is within the limits.
use Rattle.std.proofs.Common.{◌≡◌, ℕ, ◌+◌, ◌<◌, ◌≤◌, ◌==◌, ◌&&◌, Bool, true, false, inl, inr, nat_le, nat_lt, if◌then◌else◌, List, [], ◌∷◌, ◌++◌, length, length-append, codes, refl, ap, ◌∙◌, subst, arith, Result, Ok, Err, IfOk}
use Rattle.std.proofs.lemmas.Bool.{cases_Bool, leb-true, ltb-true, and_parts, eqb-true}
use Rattle.aio_model.specs.declared.scripts.loop_scripts.Act.{Act}
use Rattle.aio_model.specs.declared.scripts.loop_scripts.ActKind.{ActKind}
use Rattle.aio_model.specs.declared.scripts.loop_scripts.ActKind.TheVariants as act
use Rattle.aio_model.specs.declared.scripts.loop_scripts.Command.{Command}
use Rattle.aio_model.specs.declared.scripts.loop_scripts.Command.TheVariants as command
use Rattle.aio_model.specs.declared.scripts.loop_scripts.LoopScript.{LoopScript}
use Rattle.aio_script.specs.declared.refusals.ScriptRefusal.{ScriptRefusal}
use Rattle.aio_script.specs.declared.refusals.ScriptFail.{ScriptFail}
use Rattle.aio_script.specs.declared.loops.form.Verb.{Verb}
use Rattle.aio_script.specs.declared.loops.form.Verb.TheVariants.{Schedule, Idle, Delete, Cancel}
use Rattle.aio_script.specs.declared.loops.form.LoopHeader.{LoopHeader}
use Rattle.aio_script.specs.declared.loops.form.LoopSaid.{LoopSaid}
use Rattle.aio_script.specs.declared.loops.form.LoopSaid.TheVariants.{Adds, Asks}
use Rattle.aio_script.specs.Text.{is, number_of}
use Rattle.aio_script.specs.Lines.{Numbered, significant}
use Rattle.aio_script.specs.Image.Grammar.{◌>>=◌, in_number_range, formed, present, within, words_at}
use Rattle.aio_script.specs.Loop.Forms.{SizeWords, size_words, LoopForm, on_call, on_nest, call, once, poll, commit, set, clear, loop_form_of}
use Rattle.aio_script.specs.Loop.Grammar.{act_of, acted, act_count_of, call_of, commanded, header_of, loop_header_at, loop_said_at, loop_said_of, loop_script_lines, loop_script_said, number_below, said_below, script_of, sizes_read, with_lines, with_said}
use Rattle.aio_script.specs.Loop.Bounds.{CallsHandle, IsActWithin, IsCommandWithin, IsLoopBounded}
use Rattle.aio_script.specs.Loop.Reading.{GivesLoopScript}
use Rattle.aio_script.proofs.Bounded.{all_one_more, followed}
use Rattle.aio_script.proofs.LinesRead.{count_by-one}

past : {A : Type 0} (line : ℕ) (b : Bool) (r : Result A ScriptRefusal) (d : A) → (within line b >>= λ small. r) ≡ Ok d → (b ≡ true) × (r ≡ Ok d)
past line true r d e = (refl, e)
past line false r d e = cc e

below : (line end : ℕ) (word : List ℕ) (n : ℕ) → number_below line end word ≡ Ok n → n < end
below line end word n e =
    let one = followed (in_number_range line (number_of word)) (λ m. within line (nat_lt m end) >>= λ small. Ok m) n e in
    let two = past line (nat_lt one.0 end) (Ok one.0) n one.2 in
    let same : one.0 ≡ n = cc two.1 in
    omega (arith, ltb-true one.0 end two.0, same)

-- ---- what a line says

-- an action of a callback that has room for it, or a command for which there is room
abbrev IsFitting : ℕ → ℕ → List Act → ℕ → LoopSaid → Type 0
IsFitting handles events acts asked (Adds a) = IsActWithin handles a × (act_count_of a.bh acts < 8)
IsFitting handles events acts asked (Asks c) = IsCommandWithin handles events c × (asked < 4096)

calls_handle : (handles : ℕ) (verb : Verb) (j : ℕ) → j < handles → CallsHandle handles (act_of verb j)
calls_handle handles Schedule j h = h
calls_handle handles Idle j h = h
calls_handle handles Delete j h = h
calls_handle handles Cancel j h = h

call_within : (handles events : ℕ) (verb : Verb) (i : ℕ) → i < handles → IsCommandWithin handles events (call_of verb i)
call_within handles events Schedule i h = h
call_within handles events Idle i h = h
call_within handles events Delete i h = h
call_within handles events Cancel i h = h

module _ (line handles events : ℕ) (acts : List Act) (asked : ℕ) (said : LoopSaid) where
  fits_act : (i : ℕ) (what : ActKind) → i < handles → CallsHandle handles what → acted line acts i what ≡ Ok said
      → IsFitting handles events acts asked said
  fits_act i what here calls e =
      let room = past line (nat_lt (act_count_of i acts) 8) (Ok (Adds (record { bh = i; what = what }))) said e in
      let same : Adds (record { bh = i; what = what }) ≡ said = cc room.1 in
      let fit : IsFitting handles events acts asked (Adds (record { bh = i; what = what })) =
      (record { of = here; calls = calls }, ltb-true (act_count_of i acts) 8 room.0) in
      subst (IsFitting handles events acts asked) same fit

  fits_command : (c : Command) → IsCommandWithin handles events c → commanded line asked c ≡ Ok said
      → IsFitting handles events acts asked said
  fits_command c small e =
      let room = past line (nat_lt asked 4096) (Ok (Asks c)) said e in
      let same : Asks c ≡ said = cc room.1 in
      let fit : IsFitting handles events acts asked (Asks c) = (small, ltb-true asked 4096 room.0) in
      subst (IsFitting handles events acts asked) same fit

  -- a command that names a number below some end
  fits_numbered : (end : ℕ) (word : List ℕ) (f : ℕ → Command) → ((n : ℕ) → n < end → IsCommandWithin handles events (f n))
      → (number_below line end word >>= λ n. commanded line asked (f n)) ≡ Ok said → IsFitting handles events acts asked said
  fits_numbered end word f small e =
      let one = followed (number_below line end word) (λ n. commanded line asked (f n)) said e in
      fits_command (f one.0) (small one.0 (below line end word one.0 one.1)) one.2

  fits_form : (form : LoopForm) → loop_said_of line handles events acts asked form ≡ Ok said → IsFitting handles events acts asked said
  fits_form (on_call verb i j) e =
      let one = followed (in_number_range line (number_of i)) (λ bh. in_number_range line (number_of j) >>= λ target. within line (nat_lt bh handles && nat_lt target handles) >>= λ small. acted line acts bh (act_of verb target)) said e in
      let two = followed (in_number_range line (number_of j)) (λ target. within line (nat_lt one.0 handles && nat_lt target handles) >>= λ small. acted line acts one.0 (act_of verb target)) said one.2 in
      let three = past line (nat_lt one.0 handles && nat_lt two.0 handles) (acted line acts one.0 (act_of verb two.0)) said two.2 in
      let parts = and_parts (nat_lt one.0 handles) (nat_lt two.0 handles) three.0 in
      fits_act one.0 (act_of verb two.0) (ltb-true one.0 handles parts.0) (calls_handle handles verb two.0 (ltb-true two.0 handles parts.1)) three.1
  fits_form (on_nest i) e =
      let one = followed (number_below line handles i) (λ bh. acted line acts bh act.Nest) said e in
      fits_act one.0 act.Nest (below line handles i one.0 one.1) tt one.2
  fits_form (call verb i) e = fits_numbered handles i (call_of verb) (call_within handles events verb) e
  fits_form (once t) e = fits_numbered 1000 t command.Once (λ n h. omega (arith, h)) e
  fits_form poll e = fits_command command.Poll tt e
  fits_form commit e = fits_command command.Commit tt e
  fits_form (set word) e = fits_numbered events word command.Set (λ n h. h) e
  fits_form (clear word) e = fits_numbered events word command.Clear (λ n h. h) e

fits_line : (handles events : ℕ) (acts : List Act) (asked : ℕ) (numbered : Numbered) (said : LoopSaid)
    → loop_said_at handles events acts asked numbered ≡ Ok said → IsFitting handles events acts asked said
fits_line handles events acts asked numbered said e =
    let line = numbered.number in
    let one = followed (words_at numbered) (λ words. formed line (loop_form_of (nat_lt 0 asked) words) >>= λ form. loop_said_of line handles events acts asked form) said e in
    let two = followed (formed line (loop_form_of (nat_lt 0 asked) one.0)) (λ form. loop_said_of line handles events acts asked form) said one.2 in
    fits_form line handles events acts asked said two.0 two.2

-- ---- one more line

acts_one_more : (i : ℕ) (a : Act) (acts : List Act) → act_count_of i acts ≤ 8 → act_count_of a.bh acts < 8 → act_count_of i (acts ++ a ∷ []) ≤ 8
acts_one_more i a acts few room =
    let more : act_count_of i (acts ++ a ∷ []) ≡ act_count_of i acts + (if a.bh == i then 1 else 0) = count_by-one (λ (x : Act). x.bh == i) acts a in
    elim (cases_Bool (a.bh == i)) [
      | inl hit ↦
          let own : act_count_of i acts < 8 = subst (λ (j : ℕ). act_count_of j acts < 8) (eqb-true a.bh i hit) room in
          let one : act_count_of i (acts ++ a ∷ []) ≡ act_count_of i acts + 1 = more ∙ ap (λ (b : Bool). act_count_of i acts + (if b then 1 else 0)) hit in
          omega (arith, own, one)
      | inr miss ↦
          let none : act_count_of i (acts ++ a ∷ []) ≡ act_count_of i acts + 0 = more ∙ ap (λ (b : Bool). act_count_of i acts + (if b then 1 else 0)) miss in
          omega (arith, few, none)
    ]

bounded_line : (script : LoopScript) (said : LoopSaid) → IsLoopBounded script
    → IsFitting script.handles script.events script.acts (length script.commands) said → IsLoopBounded (with_said script said)
bounded_line script (Adds a) bounded fits = record {
  some_handle = bounded.some_handle;
  few_handles = bounded.few_handles;
  few_lots = bounded.few_lots;
  few_events = bounded.few_events;
  each_act = all_one_more (IsActWithin script.handles) script.acts a bounded.each_act fits.0;
  few_acts = λ i. acts_one_more i a script.acts (bounded.few_acts i) fits.1;
  each_command = bounded.each_command;
  few_commands = bounded.few_commands;
}
bounded_line script (Asks c) bounded fits = record {
  some_handle = bounded.some_handle;
  few_handles = bounded.few_handles;
  few_lots = bounded.few_lots;
  few_events = bounded.few_events;
  each_act = bounded.each_act;
  few_acts = bounded.few_acts;
  each_command = all_one_more (IsCommandWithin script.handles script.events) script.commands c bounded.each_command fits.0;
  few_commands = omega (arith, length-append script.commands (c ∷ []), fits.1);
}

bounded_lines : (lines : List Numbered) (script whole : LoopScript) → IsLoopBounded script → with_lines script lines ≡ Ok whole → IsLoopBounded whole
bounded_lines [] script whole bounded e =
    let same : script ≡ whole = cc e in
    subst IsLoopBounded same bounded
bounded_lines (numbered ∷ lines) script whole bounded e =
    let one = followed (said_below script numbered) (λ said. with_lines (with_said script said) lines) whole e in
    let fits = fits_line script.handles script.events script.acts (length script.commands) numbered one.0 one.1 in
    bounded_lines lines (with_said script one.0) whole (bounded_line script one.0 bounded fits) one.2

-- ---- the header

record IsHeaderWithin (header : LoopHeader) : Type 0 where
  some_handle : 1 ≤ header.handles
  few_handles : header.handles ≤ 64
  few_lots : header.lots ≤ 64
  few_events : header.events ≤ 64

sizes_within : (line : ℕ) (words : SizeWords) (header : LoopHeader) → sizes_read line words ≡ Ok header → IsHeaderWithin header
sizes_within line words header e =
    let small : ℕ → ℕ → ℕ → Bool = λ h l n. nat_le 1 h && (nat_le h 64 && (nat_le l 64 && nat_le n 64)) in
    let gives : ℕ → ℕ → ℕ → Result LoopHeader ScriptRefusal = λ h l n. within line (small h l n) >>= λ fits. Ok (record { handles = h; lots = l; events = n }) in
    let one = followed (in_number_range line (number_of words.handles)) (λ h. in_number_range line (number_of words.lots) >>= λ l. in_number_range line (number_of words.events) >>= λ n. gives h l n) header e in
    let two = followed (in_number_range line (number_of words.lots)) (λ l. in_number_range line (number_of words.events) >>= λ n. gives one.0 l n) header one.2 in
    let three = followed (in_number_range line (number_of words.events)) (λ n. gives one.0 two.0 n) header two.2 in
    let sizes : LoopHeader = record { handles = one.0; lots = two.0; events = three.0 } in
    let four = past line (small one.0 two.0 three.0) (Ok sizes) header three.2 in
    let a = and_parts (nat_le 1 one.0) (nat_le one.0 64 && (nat_le two.0 64 && nat_le three.0 64)) four.0 in
    let b = and_parts (nat_le one.0 64) (nat_le two.0 64 && nat_le three.0 64) a.1 in
    let c = and_parts (nat_le two.0 64) (nat_le three.0 64) b.1 in
    let fits : IsHeaderWithin sizes = record {
      some_handle = leb-true 1 one.0 a.0;
      few_handles = leb-true one.0 64 b.0;
      few_lots = leb-true two.0 64 c.0;
      few_events = leb-true three.0 64 c.1;
    } in
    let same : sizes ≡ header = cc four.1 in
    subst IsHeaderWithin {x = sizes} same fits

words_within : (line : ℕ) (words : List (List ℕ)) (header : LoopHeader) → header_of line words ≡ Ok header → IsHeaderWithin header
words_within line [] header e = cc e
words_within line (first ∷ words) header e =
    let one = followed (present (is first (codes "loop"))) (λ there. formed line (size_words words) >>= λ sizes. sizes_read line sizes) header e in
    let two = followed (formed line (size_words words)) (λ sizes. sizes_read line sizes) header one.2 in
    sizes_within line two.0 header two.2

-- ---- the whole

bounded_text : (lines : List Numbered) (script : LoopScript) → loop_script_lines lines ≡ Ok script → IsLoopBounded script
bounded_text [] script e = cc e
bounded_text (numbered ∷ lines) script e =
    let one = followed (loop_header_at numbered) (λ header. with_lines (script_of header [] []) lines) script e in
    let two = followed (words_at numbered) (λ words. header_of numbered.number words) one.0 one.1 in
    let fits = words_within numbered.number two.0 one.0 two.2 in
    let bounded : IsLoopBounded (script_of one.0 [] []) = record {
      some_handle = fits.some_handle;
      few_handles = fits.few_handles;
      few_lots = fits.few_lots;
      few_events = fits.few_events;
      each_act = tt;
      few_acts = λ i. omega arith;
      each_command = tt;
      few_commands = omega arith;
    } in
    bounded_lines lines (script_of one.0 [] []) script bounded one.2

-- what a call gives that gives what the grammar says
pub loop_bounded_from_gives : (text : List ℕ) (result : Result LoopScript ScriptFail) → GivesLoopScript (loop_script_said text) result → IfOk result IsLoopBounded
loop_bounded_from_gives text (Ok script) said = bounded_text (significant text) script said
loop_bounded_from_gives text (Err fail) said = tt
