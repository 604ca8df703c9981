-- How a run of the program ends: what holds in every mode, and what holds in each.
use Rattle.std.specs.Prelude.{◌≡◌, ◌↔◌, ℕ, ◌+◌, ◌<◌, ◌≤◌, true, false, List, [], ◌∷◌, length, Option, None, Some, IfSome, Ok, Err}
use Rattle.aio_model.specs.declared.serving.replies.Placed.{Placed}
use Rattle.aio_model.specs.declared.scripts.image_scripts.Script.{Script}
use Rattle.aio_model.specs.declared.scripts.loop_scripts.LoopScript.{LoopScript}
use Rattle.aio_model.specs.Serving.SerialHistory.{eios_of}
use Rattle.aio_core.specs.Calls.{SeatState}
use Rattle.aio_words.specs.declared.called.DeviceAsk.TheVariants.{Size}
use Rattle.aio_words.specs.Called.{device_call, failures_in, sizes_asked}
use Rattle.aio_words.specs.Content.{with_piece, AppendsFront}
use Rattle.aio_words.specs.Faults.{HasRisen, HasRisenBy}
use Rattle.aio_script.specs.declared.refusals.ScriptRefusal.{ScriptRefusal}
use Rattle.aio_script.specs.Image.Grammar.{script_said}
use Rattle.aio_script.specs.Loop.Grammar.{loop_script_said}
use Rattle.program_words.specs.declared.modes.Mode.{Mode}
use Rattle.program_words.specs.declared.modes.Mode.TheVariants.{Image, Bells, Generated}
use Rattle.aio_run.specs.declared.running.RunEnd.{RunEnd}
use Rattle.aio_cli.specs.declared.answer.Answer.{Answer}
use Rattle.aio_cli.specs.declared.answer.Answer.TheVariants.{Usage, ReadFault, WriteFault}
use Rattle.aio_cli.specs.Answers.{IsLengthRefusal, IsOfLoop, IsOfRun, IsScriptRefusal, IsWholeAnswer, LoopScriptIsDone, OnBadScript, OnCut, OnDeviceFault, OnRun, OnTooLarge, OnTooLong, OnUnasked, OnUnserved, OnWritten, TellsErrors}
use Rattle.aio_cli.specs.Calls.{Reads, is_read_fault}
use Rattle.aio_cli.specs.Generated.{RunsGenerated}
use Rattle.aio_cli.specs.Outside.{Outside, GoesOutside}
use Rattle.aio_cli.specs.Reading.{IsTooLong, Refuses, RefusesLoop, SaysFitting, SaysImage, SaysSome, TakesAtMost, longest_script, most_read}
use Rattle.aio_cli.specs.Rings.{AtDone, EndsSaid, RingsSaid}
use Rattle.aio_cli.specs.Run.{RunsScript, RunsOnLoops}

module _ {S K D C O : Type 0} (before after : Outside S K D) (answer : Answer) (served : List Placed) (loops : List (RunEnd C O)) (bells : Option SeatState) where
  -- all of the text was written, and so much of it
  abbrev pub all_written : List ℕ → Type 0
  all_written text = after.held ≡ with_piece text before.held

  abbrev pub some_written : List ℕ → Type 0
  some_written = AppendsFront before.held after.held

  -- no call failed between the two moments
  abbrev pub NoRead : Type 0
  NoRead = HasRisen before.read_faults after.read_faults → ⊥

  abbrev pub NoWrite : Type 0
  NoWrite = HasRisen before.write_faults after.write_faults → ⊥

  abbrev pub NoSize : Type 0
  NoSize = HasRisen before.size_faults after.size_faults → ⊥

  abbrev pub NoCall : Type 0
  NoCall = HasRisen before.faults after.faults → ⊥

  -- where no read failed, this holds of the source's text
  abbrev pub OfText : (List ℕ → Type 0) → Type 0
  OfText P = NoRead → IfSome before.left P

  -- In every mode.
  pub record EndsAlways : Type 0 where
    pub outside : GoesOutside before after
    -- at most one byte more than a script may have is taken from the source
    pub taken : TakesAtMost most_read before.left after.left
    -- each read but the last gave some bytes, and ReadFault comes where the last one failed
    pub reads : Reads (is_read_fault answer) before.reads after.reads
    pub read_fault : answer ≡ ReadFault → HasRisen before.read_faults after.read_faults
    pub too_long : OnTooLong answer (IsTooLong before.left after.left)
    pub write_fault : answer ≡ WriteFault → HasRisen before.write_faults after.write_faults
    -- the device is asked for its size at most once
    pub size_once : sizes_asked after.calls ≤ sizes_asked before.calls + 1
    pub size_failed : OnDeviceFault answer (after.calls ≡ device_call Size true ∷ before.calls)
    pub size_told : OnTooLarge answer (λ _ _. after.calls ≡ device_call Size false ∷ before.calls)
    pub device_fault : OnDeviceFault answer (HasRisen before.size_faults after.size_faults)
    -- where nothing was served, nothing was written, and the device has its bytes
    pub unserved : OnUnserved answer ((after.sink ≡ before.sink) × (after.bytes ≡ before.bytes) × (served ≡ []))
    pub no_loops : OnUnserved answer (loops ≡ [])
    pub unasked : OnUnasked answer (after.device ≡ before.device)
    -- the answer tells whether replies are errors, and how many; each EIO has one call that failed
    pub errors : TellsErrors answer served
    pub eios : HasRisenBy (eios_of served) before.faults after.faults

  -- In the mode of image scripts.
  pub record EndsImage : Type 0 where
    -- at Done and Errors all of the printed text was written, and at WriteFault a front of it
    pub written : OnWritten answer (RunsScript before.left after.left before.bytes after.bytes served all_written)
    pub cut : OnCut answer (RunsScript before.left after.left before.bytes after.bytes served some_written)
    -- at these three answers the script's loops have carried it, each to its end
    pub carried : OnRun answer (RunsOnLoops before.left after.left before.bytes after.bytes served loops)
    pub no_bells : bells ≡ None
    pub fits : OnRun answer (SaysFitting before.left after.left before.extent)
    pub failures : OnRun answer (failures_in after.calls ≡ failures_in before.calls + eios_of served)
    -- when the other answers come
    pub bad_script : OnBadScript answer (Refuses before.left after.left)
    pub device_fault : OnDeviceFault answer (SaysSome before.left after.left)
    pub too_large : OnTooLarge answer (λ image size. SaysImage before.left after.left image × (size ≡ before.extent) × (size < image))
    -- a text that is too long or says no script is answered so
    pub long : OfText (λ text. longest_script < length text → IsLengthRefusal answer)
    pub refused : OfText (λ text. length text ≤ longest_script → (refusal : ScriptRefusal) → script_said text ≡ Err refusal → IsScriptRefusal refusal answer)
    -- Where nothing failed, a text that says a script is served if the device holds its image, and each error is that of a request
    -- past the end.
    pub complete : NoRead → NoWrite → NoCall → NoSize
        → IfSome before.left (λ text. length text ≤ longest_script → (script : Script) → script_said text ≡ Ok script → IsWholeAnswer script.image before.extent answer served)

  -- In the mode of loop scripts. The device isn't touched.
  pub record EndsBells : Type 0 where
    pub of_loop : IsOfLoop answer
    pub written : OnWritten answer (RingsSaid before.left after.left all_written)
    pub cut : OnCut answer (RingsSaid before.left after.left some_written)
    -- the end of that loop comes at Done, and at no other answer
    pub bells_are : AtDone answer bells (λ end. EndsSaid before.left after.left all_written end.known.seen)
    pub untouched : after.device ≡ before.device
    pub none_served : served ≡ []
    pub no_loops : loops ≡ []
    pub bad_script : OnBadScript answer (RefusesLoop before.left after.left)
    pub long : OfText (λ text. longest_script < length text → IsLengthRefusal answer)
    pub refused : OfText (λ text. length text ≤ longest_script → (refusal : ScriptRefusal) → loop_script_said text ≡ Err refusal → IsScriptRefusal refusal answer)
    -- where nothing failed, a text that says a loop script is done
    pub complete : NoRead → NoWrite
        → IfSome before.left (λ text. length text ≤ longest_script → (script : LoopScript) → loop_script_said text ≡ Ok script → LoopScriptIsDone answer)

  -- In the mode of the generated script of n requests, whose places begin at this number. The source isn't read, and the text is the
  -- script's sums.
  pub record EndsGenerated (n from : ℕ) : Type 0 where
    pub of_run : IsOfRun answer
    pub unread : after.source ≡ before.source
    pub written : OnWritten answer (RunsGenerated n from before.bytes after.bytes served loops all_written)
    pub cut : OnCut answer (RunsGenerated n from before.bytes after.bytes served loops some_written)
    pub no_bells : bells ≡ None
    pub fits : OnRun answer (1048576 ≤ before.extent)
    pub failures : OnRun answer (failures_in after.calls ≡ failures_in before.calls + eios_of served)
    pub too_large : OnTooLarge answer (λ image size. (image ≡ 1048576) × (size ≡ before.extent) × (size < image))
    pub complete : NoWrite → NoCall → NoSize → IsWholeAnswer 1048576 before.extent answer served

  -- Where the words name no mode.
  pub record EndsUnsaid : Type 0 where
    pub unread : after.source ≡ before.source
    pub no_bells : bells ≡ None

  -- in the mode that the words name
  abbrev pub EndsIn : Option Mode → Type 0
  EndsIn None = EndsUnsaid
  EndsIn (Some Image) = EndsImage
  EndsIn (Some Bells) = EndsBells
  EndsIn (Some (Generated n from)) = EndsGenerated n from

  -- a run by words that name this mode, or none
  pub record Ends (mode : Option Mode) : Type 0 where
    pub usage : (answer ≡ Usage) ↔ (mode ≡ None)
    pub always : EndsAlways
    pub in_mode : EndsIn mode
