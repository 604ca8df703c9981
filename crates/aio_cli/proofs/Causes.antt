-- Which answers are left where nothing failed.
use Rattle.std.proofs.Common.{◌≡◌, ℕ, zero, suc, ◌<◌, ◌≤◌, List, ◌++◌, length, Option, Some, None, IfSome, Ok, Err, refl, sym, ◌∙◌, ap, subst, arith, length-append}
use Rattle.std.proofs.lemmas.Option.{none-some, same_Some}
use Rattle.aio_model.specs.declared.serving.replies.Placed.{Placed}
use Rattle.aio_model.specs.declared.scripts.image_scripts.Script.{Script}
use Rattle.aio_model.specs.Serving.SerialHistory.{eios_of}
use Rattle.aio_model.specs.declared.scripts.loop_scripts.LoopScript.{LoopScript}
use Rattle.aio_words.specs.Content.{TakesBytes}
use Rattle.aio_words.specs.Faults.{HasRisen, HasRisenBy}
use Rattle.aio_words.proofs.ContentLemmas.{Takes_to_end}
use Rattle.aio_words.proofs.FaultLemmas.{HasRisen-from_more}
use Rattle.aio_script.specs.declared.refusals.ScriptRefusal.{ScriptRefusal}
use Rattle.aio_script.specs.Image.Grammar.{script_said}
use Rattle.aio_script.specs.Loop.Grammar.{loop_script_said}
use Rattle.aio_cli.specs.declared.answer.Answer.{Answer}
use Rattle.aio_cli.specs.declared.answer.Answer.TheVariants.{Done, Errors, Usage, BadScript, TooLong, TooLarge, ReadFault, WriteFault, NoMemory, DeviceFault}
use Rattle.aio_cli.specs.Answers.{LoopScriptIsDone, IsOfLoop, IsScriptRefusal, IsWholeAnswer, OnBadScript, OnCut, OnDeviceFault, OnRun, OnTooLarge, OnTooLong, OnWritten}
use Rattle.aio_cli.specs.Rings.{RingsSaid}
use Rattle.aio_cli.specs.Reading.{IsText, IsTooLong, Refuses, RefusesLoop, Says, SaysLoop, SaysFitting, SaysImage, SaysSome, longest_script}

-- a fact for the bytes that are told, if they are
pub told-each : (told : Option (List ℕ)) (P : List ℕ → Type 0) → ((bytes : List ℕ) → told ≡ Some bytes → P bytes) → IfSome told P
told-each None P each = tt
told-each (Some bytes) P each = each bytes refl

module _ (before now : Option (List ℕ)) (bytes : List ℕ) (told : before ≡ Some bytes) where
  -- a text read to its end is all that there was
  whole-text : (text : List ℕ) → IsText before now text → bytes ≡ text
  whole-text text read =
      let P : Option (List ℕ) → Type 0 = λ known. IfSome known (λ all. all ≡ text) in
      subst P told (Takes_to_end before now text read.taken read.ended)

  longer : (now : Option (List ℕ)) (text : List ℕ) → TakesBytes before now text → length text ≤ length bytes
  longer None text taken = absurd (none-some bytes (sym taken ∙ told))
  longer (Some left) text taken =
      let same : text ++ left ≡ bytes = same_Some (text ++ left) bytes (sym taken ∙ told) in
      omega (arith, length-append text left, ap length same)

  says-whole : (script : Script) → Says before now script → script_said bytes ≡ Ok script
  says-whole script said = ap script_said (whole-text said.text said.read) ∙ said.says

  refuses-whole : (refusal : ScriptRefusal) → Refuses before now refusal → script_said bytes ≡ Err refusal
  refuses-whole refusal refused = ap script_said (whole-text refused.text refused.read) ∙ refused.says

  too_long-longer : IsTooLong before now → longest_script < length bytes
  too_long-longer long = omega (arith, longer now long.text long.taken, long.long)

  -- a text that says a script says no refusal
  not-both : (script : Script) (refusal : ScriptRefusal) → script_said bytes ≡ Ok script → script_said bytes ≡ Err refusal → ⊥
  not-both script refusal said refused = cc (said, refused)

  same-script : (one other : Script) → script_said bytes ≡ Ok one → script_said bytes ≡ Ok other → one ≡ other
  same-script one other said again = cc (said, again)

  same-refusal : (one other : ScriptRefusal) → script_said bytes ≡ Err one → script_said bytes ≡ Err other → one ≡ other
  same-refusal one other said again = cc (said, again)

  -- the same of loop scripts

  says_loop-whole : (script : LoopScript) → SaysLoop before now script → loop_script_said bytes ≡ Ok script
  says_loop-whole script said = ap loop_script_said (whole-text said.text said.read) ∙ said.says

  refuses_loop-whole : (refusal : ScriptRefusal) → RefusesLoop before now refusal → loop_script_said bytes ≡ Err refusal
  refuses_loop-whole refusal refused = ap loop_script_said (whole-text refused.text refused.read) ∙ refused.says

  not-both-loop : (script : LoopScript) (refusal : ScriptRefusal) → loop_script_said bytes ≡ Ok script → loop_script_said bytes ≡ Err refusal → ⊥
  not-both-loop script refusal said refused = cc (said, refused)

  same-loop-refusal : (one other : ScriptRefusal) → loop_script_said bytes ≡ Err one → loop_script_said bytes ≡ Err other → one ≡ other
  same-loop-refusal one other said again = cc (said, again)

  pub refused_loop-only : (W V : List ℕ → Type 0) (answer : Answer) → IsOfLoop answer → (answer ≡ ReadFault → ⊥)
      → OnBadScript answer (RefusesLoop before now) → OnTooLong answer (IsTooLong before now)
      → OnWritten answer (RingsSaid before now W) → OnCut answer (RingsSaid before now V)
      → length bytes ≤ longest_script → (refusal : ScriptRefusal) → loop_script_said bytes ≡ Err refusal → IsScriptRefusal refusal answer
  refused_loop-only W V Done of fault bad long written cut few refusal says = absurd (not-both-loop written.script refusal (says_loop-whole written.script written.said) says)
  refused_loop-only W V (Errors n) of fault bad long written cut few refusal says = absurd of
  refused_loop-only W V Usage of fault bad long written cut few refusal says = absurd of
  refused_loop-only W V (BadScript told_so) of fault bad long written cut few refusal says = same-loop-refusal told_so refusal (refuses_loop-whole told_so bad) says
  refused_loop-only W V TooLong of fault bad long written cut few refusal says = absurd (omega (arith, few, too_long-longer long))
  refused_loop-only W V (TooLarge i d) of fault bad long written cut few refusal says = absurd of
  refused_loop-only W V ReadFault of fault bad long written cut few refusal says = absurd (fault refl)
  refused_loop-only W V WriteFault of fault bad long written cut few refusal says = absurd (not-both-loop cut.script refusal (says_loop-whole cut.script cut.said) says)
  refused_loop-only W V NoMemory of fault bad long written cut few refusal says = tt
  refused_loop-only W V DeviceFault of fault bad long written cut few refusal says = absurd of

  pub done_loop-only : (answer : Answer) → IsOfLoop answer → (answer ≡ ReadFault → ⊥) → (answer ≡ WriteFault → ⊥)
      → OnBadScript answer (RefusesLoop before now) → OnTooLong answer (IsTooLong before now)
      → length bytes ≤ longest_script → (script : LoopScript) → loop_script_said bytes ≡ Ok script → LoopScriptIsDone answer
  done_loop-only Done of read write bad long few script says = tt
  done_loop-only (Errors n) of read write bad long few script says = of
  done_loop-only Usage of read write bad long few script says = of
  done_loop-only (BadScript told_so) of read write bad long few script says = absurd (not-both-loop script told_so says (refuses_loop-whole told_so bad))
  done_loop-only TooLong of read write bad long few script says = absurd (omega (arith, few, too_long-longer long))
  done_loop-only (TooLarge i d) of read write bad long few script says = of
  done_loop-only ReadFault of read write bad long few script says = absurd (read refl)
  done_loop-only WriteFault of read write bad long few script says = absurd (write refl)
  done_loop-only NoMemory of read write bad long few script says = tt
  done_loop-only DeviceFault of read write bad long few script says = of

  module _ (extent size_before size_now : ℕ) where
    pub refused-only : (answer : Answer) → (answer ≡ Usage → ⊥) → (answer ≡ ReadFault → ⊥)
        → OnBadScript answer (Refuses before now) → OnTooLong answer (IsTooLong before now) → OnRun answer (SaysFitting before now extent)
        → OnTooLarge answer (λ image size. SaysImage before now image × (size ≡ extent) × (size < image))
        → OnDeviceFault answer (HasRisen size_before size_now × SaysSome before now)
        → length bytes ≤ longest_script → (refusal : ScriptRefusal) → script_said bytes ≡ Err refusal → IsScriptRefusal refusal answer
    refused-only Done usage fault bad long ran large size few refusal says = absurd (not-both ran.script refusal (says-whole ran.script ran.said) says)
    refused-only (Errors n) usage fault bad long ran large size few refusal says = absurd (not-both ran.script refusal (says-whole ran.script ran.said) says)
    refused-only Usage usage fault bad long ran large size few refusal says = absurd (usage refl)
    refused-only (BadScript told_so) usage fault bad long ran large size few refusal says = same-refusal told_so refusal (refuses-whole told_so bad) says
    refused-only TooLong usage fault bad long ran large size few refusal says = absurd (omega (arith, few, too_long-longer long))
    refused-only (TooLarge i d) usage fault bad long ran large size few refusal says = absurd (not-both large.0.script refusal (says-whole large.0.script large.0.said) says)
    refused-only ReadFault usage fault bad long ran large size few refusal says = absurd (fault refl)
    refused-only WriteFault usage fault bad long ran large size few refusal says = absurd (not-both ran.script refusal (says-whole ran.script ran.said) says)
    refused-only NoMemory usage fault bad long ran large size few refusal says = tt
    refused-only DeviceFault usage fault bad long ran large size few refusal says = absurd (not-both size.1.script refusal (says-whole size.1.script size.1.said) says)

    no_eio : (n before now : ℕ) → HasRisenBy n before now → (HasRisen before now → ⊥) → n ≡ 0
    no_eio zero before now risen still = refl
    no_eio (suc n) before now risen still = absurd (still (HasRisen-from_more (suc n) before now (omega arith) risen))

    fits-same : (script : Script) → script_said bytes ≡ Ok script → SaysFitting before now extent → script.image ≤ extent
    fits-same script says fitting =
        subst (λ (s : Script). s.image ≤ extent) (same-script fitting.script script (says-whole fitting.script fitting.said) says) fitting.fits

    image-same : (script : Script) (image : ℕ) → script_said bytes ≡ Ok script → SaysImage before now image → image ≡ script.image
    image-same script image says large =
        sym large.size ∙ ap (λ (s : Script). s.image) (same-script large.script script (says-whole large.script large.said) says)

    pub whole-only : (served : List Placed) (faults_before faults_now : ℕ) (answer : Answer)
        → (answer ≡ Usage → ⊥) → (answer ≡ ReadFault → ⊥) → (answer ≡ WriteFault → ⊥)
        → HasRisenBy (eios_of served) faults_before faults_now → (HasRisen faults_before faults_now → ⊥) → (HasRisen size_before size_now → ⊥)
        → OnBadScript answer (Refuses before now) → OnTooLong answer (IsTooLong before now) → OnRun answer (SaysFitting before now extent)
        → OnTooLarge answer (λ image size. SaysImage before now image × (size ≡ extent) × (size < image))
        → OnDeviceFault answer (HasRisen size_before size_now × SaysSome before now)
        → length bytes ≤ longest_script → (script : Script) → script_said bytes ≡ Ok script → IsWholeAnswer script.image extent answer served
    whole-only served f g Done usage read write eios still told_size bad long ran large size few script says = fits-same script says ran
    whole-only served f g (Errors n) usage read write eios still told_size bad long ran large size few script says =
        (fits-same script says ran, no_eio (eios_of served) f g eios still)
    whole-only served f g Usage usage read write eios still told_size bad long ran large size few script says = absurd (usage refl)
    whole-only served f g (BadScript refusal) usage read write eios still told_size bad long ran large size few script says =
        absurd (not-both script refusal says (refuses-whole refusal bad))
    whole-only served f g TooLong usage read write eios still told_size bad long ran large size few script says = absurd (omega (arith, few, too_long-longer long))
    whole-only served f g (TooLarge i d) usage read write eios still told_size bad long ran large size few script says =
        let image : i ≡ script.image = image-same script i says large.0 in
        (image, large.1, omega (arith, image, large.1, large.2))
    whole-only served f g ReadFault usage read write eios still told_size bad long ran large size few script says = absurd (read refl)
    whole-only served f g WriteFault usage read write eios still told_size bad long ran large size few script says = absurd (write refl)
    whole-only served f g NoMemory usage read write eios still told_size bad long ran large size few script says = tt
    whole-only served f g DeviceFault usage read write eios still told_size bad long ran large size few script says = absurd (told_size size.0)
