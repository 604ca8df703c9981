-- What of a source was read.
use Rattle.std.specs.Prelude.{◌≡◌, ◌⊎◌, ℕ, ◌≤◌, List, [], length, Option, IfSome, Ok, Err}
use Rattle.aio_model.specs.declared.scripts.image_scripts.Script.{Script}
use Rattle.aio_model.specs.declared.scripts.loop_scripts.LoopScript.{LoopScript}
use Rattle.aio_words.specs.Content.{TakesBytes}
use Rattle.aio_script.specs.declared.refusals.ScriptRefusal.{ScriptRefusal}
use Rattle.aio_script.specs.Image.Grammar.{script_said}
use Rattle.aio_script.specs.Loop.Grammar.{loop_script_said}

-- how many bytes a script may have
abbrev pub longest_script : ℕ
longest_script = 1048576

-- how much is read at most: one byte more
abbrev pub most_read : ℕ
most_read = 1048577

-- at most so many bytes were taken from the source
pub record TakesAtMost (limit : ℕ) (before now : Option (List ℕ)) : Type 0 where
  pub text : List ℕ
  pub taken : TakesBytes before now text
  pub few : length text ≤ limit

-- This text was read: all that the source had left, or its front of so many bytes.
pub record IsRead (limit : ℕ) (before now : Option (List ℕ)) (text : List ℕ) : Type 0 where
  pub taken : TakesBytes before now text
  pub few : length text ≤ limit
  pub whole : IfSome now (λ left. left ≡ []) ⊎ (length text ≡ limit)

-- This text was read to its end, and isn't too long.
pub record IsText (before now : Option (List ℕ)) (text : List ℕ) : Type 0 where
  pub taken : TakesBytes before now text
  pub ended : IfSome now (λ left. left ≡ [])
  pub few : length text ≤ longest_script

-- the text that was read says this script
pub record Says (before now : Option (List ℕ)) (script : Script) : Type 0 where
  pub text : List ℕ
  pub read : IsText before now text
  pub says : script_said text ≡ Ok script

-- the text that was read says this loop script
pub record SaysLoop (before now : Option (List ℕ)) (script : LoopScript) : Type 0 where
  pub text : List ℕ
  pub read : IsText before now text
  pub says : loop_script_said text ≡ Ok script

-- it says no loop script, for this reason
pub record RefusesLoop (before now : Option (List ℕ)) (refusal : ScriptRefusal) : Type 0 where
  pub text : List ℕ
  pub read : IsText before now text
  pub says : loop_script_said text ≡ Err refusal

-- it says some script
pub record SaysSome (before now : Option (List ℕ)) : Type 0 where
  pub script : Script
  pub said : Says before now script

-- it says a script with an image of at most so many bytes
pub record SaysFitting (before now : Option (List ℕ)) (most : ℕ) : Type 0 where
  pub script : Script
  pub said : Says before now script
  pub fits : script.image ≤ most

-- it says a script with an image of so many bytes
pub record SaysImage (before now : Option (List ℕ)) (image : ℕ) : Type 0 where
  pub script : Script
  pub said : Says before now script
  pub size : script.image ≡ image

-- it says none, for this reason
pub record Refuses (before now : Option (List ℕ)) (refusal : ScriptRefusal) : Type 0 where
  pub text : List ℕ
  pub read : IsText before now text
  pub says : script_said text ≡ Err refusal

-- one byte more was taken than a script may have
pub record IsTooLong (before now : Option (List ℕ)) : Type 0 where
  pub text : List ℕ
  pub taken : TakesBytes before now text
  pub long : length text ≡ most_read
