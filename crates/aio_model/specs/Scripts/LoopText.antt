-- The text of a loop script: the lines of what its commands answer, done in order on a log that begins empty. The
-- only free choice is which lot a one-shot gets.
use Rattle.std.specs.Prelude.{◌≡◌, ℕ, List, []}
use Rattle.std.specs.List.{flat_map}
use Rattle.aio_model.specs.declared.scripts.loop_scripts.LoopScript.{LoopScript}
use Rattle.aio_model.specs.declared.scripts.loop_replies.LoopReply.{LoopReply}
use Rattle.aio_model.specs.Loop.Log.{Log}
use Rattle.aio_model.specs.Scripts.LoopLines.{reply_text}
use Rattle.aio_model.specs.Scripts.LoopReplies.{DoesAll}

-- this text is one of the script, and its log is this
pub record IsTextOf (script : LoopScript) (log : Log) (text : List ℕ) : Type 0 where
  pub replies : List LoopReply
  pub done : DoesAll script script.commands [] log replies
  pub lines : text ≡ flat_map reply_text replies

-- this text is one of the script
pub record IsLoopText (script : LoopScript) (text : List ℕ) : Type 0 where
  pub log : Log
  pub is_text : IsTextOf script log text
