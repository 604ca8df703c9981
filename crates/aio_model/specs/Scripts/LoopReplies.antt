-- The commands of a loop script, done in order on one log, and what each of them answers.
use Rattle.std.specs.Prelude.{◌≡◌, ◌⊎◌, ℕ, ◌-◌, ◌^◌, true, false, Option, None, Some, List, [], ◌∷◌, ◌++◌, length, map, take}
use Rattle.aio_model.specs.declared.scripts.loop_scripts.Command.{Command}
use Rattle.aio_model.specs.declared.scripts.loop_scripts.Command.TheVariants.{Schedule, Idle, Delete, Cancel, Once, Poll, Commit, Set, Clear}
use Rattle.aio_model.specs.declared.scripts.loop_scripts.LoopScript.{LoopScript}
use Rattle.aio_model.specs.declared.scripts.loop_replies.LoopReply.{LoopReply}
use Rattle.aio_model.specs.declared.scripts.loop_replies.LoopReply.TheVariants.{Flagged, Placed, Ran, Committed, WasSet, Cleared}
use Rattle.aio_model.specs.declared.loops.ran_lists.Called.{Called}
use Rattle.aio_model.specs.declared.loops.ran_lists.Called.TheVariants.{Handle, Once as OneShot}
use Rattle.aio_model.specs.Loop.History.{ToCall, ToCallIdle, ToDelete, History, Sizes}
use Rattle.aio_model.specs.Loop.Flags.{is_lot, lives}
use Rattle.aio_model.specs.Loop.Legal.{IsLegal}
use Rattle.aio_model.specs.Loop.Seats.{home, entries_of}
use Rattle.aio_model.specs.Loop.Frame.{Lent, PollPlace, start_of, Frame, DoesEntries, called_of, cut_nests_of}
use Rattle.aio_model.specs.Loop.Log.{Made, Log, history_of, flags_before, enqueued_log, canceled_log, begun_log, set_log, is_set_in, cleared_log, commit_of, committed_log}
use Rattle.aio_model.specs.Scripts.LoopActs.{DoesActs, acts_of}
use Rattle.aio_model.specs.Counts.{counted}

abbrev pub sizes_of : LoopScript → Sizes
sizes_of script = record { handles = script.handles; lots = script.lots; events = script.events }

-- the log with these entries made, newest first
abbrev pub made_log : History → Log → Log
made_log [] log = log
made_log (e ∷ older) log = Made e ∷ made_log older log

-- how many of the called ones a poll's reply names
abbrev pub named_most : ℕ
named_most = 256

-- a handle by its number, a one-shot by its tag, which is the number of its job
abbrev pub called_by : ℕ → Option ℕ → Called
called_by bh None = Handle bh
called_by bh (Some tag) = OneShot tag

abbrev pub called_as : Lent → Called
called_as lent = called_by lent.bh lent.job

-- the first of those that were called, how many it leaves out, whether there was progress, and how many nests were cut
abbrev pub poll_reply : PollPlace → LoopReply
poll_reply place =
    let called = map called_as (called_of place.log) in
    Ran (take named_most called) (counted (length called - named_most)) place.progress (counted (cut_nests_of place.log))

-- a one-shot with this tag gets some lot without a life, or there is none
abbrev pub PutsOnce : Sizes → ℕ → Log → Log → LoopReply → Type 0
PutsOnce sizes tag before after reply =
    (lot : ℕ) × (seat : ℕ) × (is_lot sizes lot ≡ true) × (lives lot (history_of before) ≡ false) × (after ≡ begun_log lot seat tag before) × (reply ≡ Placed tag true)

abbrev pub FindsNoLot : Sizes → ℕ → Log → Log → LoopReply → Type 0
FindsNoLot sizes tag before after reply =
    ((lot : ℕ) → is_lot sizes lot ≡ true → lives lot (history_of before) ≡ true) × (after ≡ before) × (reply ≡ Placed tag false)

-- One frame with eight depths, which home alone makes, and in which callbacks do their actions. Its history is legal,
-- so just those are called that are due.
pub record PollsInScript (script : LoopScript) (before after : Log) (reply : LoopReply) : Type 0 where
  pub end : PollPlace
  pub added : History
  pub frame : Frame (sizes_of script) 8 (start_of (history_of before)) end
  pub seen : end.seen ≡ added ++ history_of before
  pub alone : entries_of home added ≡ added
  pub legal : IsLegal (sizes_of script) end.seen
  pub runs : DoesEntries (DoesActs (acts_of script.acts)) [] end.log []
  pub log : after ≡ made_log added before
  pub replies : reply ≡ poll_reply end

-- One command, from a log to a log, and its reply. Entries outside of polls are of any seat.
abbrev pub DoesCommand : LoopScript → Command → Log → Log → LoopReply → Type 0
DoesCommand script (Schedule i) before after reply =
    (seat : ℕ) × (after ≡ enqueued_log i ToCall seat before) × (reply ≡ Flagged (Schedule i) (flags_before i before))
DoesCommand script (Idle i) before after reply =
    (seat : ℕ) × (after ≡ enqueued_log i ToCallIdle seat before) × (reply ≡ Flagged (Idle i) (flags_before i before))
DoesCommand script (Delete i) before after reply =
    (seat : ℕ) × (after ≡ enqueued_log i ToDelete seat before) × (reply ≡ Flagged (Delete i) (flags_before i before))
DoesCommand script (Cancel i) before after reply =
    (seat : ℕ) × (after ≡ canceled_log i seat before) × (reply ≡ Flagged (Cancel i) (flags_before i before))
DoesCommand script (Once tag) before after reply =
    PutsOnce (sizes_of script) tag before after reply ⊎ FindsNoLot (sizes_of script) tag before after reply
DoesCommand script Poll before after reply = PollsInScript script before after reply
DoesCommand script Commit before after reply =
    (after ≡ committed_log before) × (reply ≡ Committed (commit_of (sizes_of script) before))
DoesCommand script (Set e) before after reply = (seat : ℕ) × (after ≡ set_log e seat before) × (reply ≡ WasSet e)
DoesCommand script (Clear e) before after reply =
    (after ≡ cleared_log e before) × (reply ≡ Cleared e (is_set_in e before))

-- the commands in order, each on the log that the one before it leaves
abbrev pub DoesAll : LoopScript → List Command → Log → Log → List LoopReply → Type 0
DoesAll script [] before after replies = (after ≡ before) × (replies ≡ [])
DoesAll script (command ∷ commands) before after replies =
    (mid : Log) × (reply : LoopReply) × (later : List LoopReply) × DoesCommand script command before mid reply × DoesAll script commands mid after later × (replies ≡ reply ∷ later)
