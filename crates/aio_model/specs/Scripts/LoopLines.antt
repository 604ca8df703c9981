-- The line that a command of a loop script prints.
use Rattle.std.specs.Prelude.{◌≡◌, ℕ, ◌<◌, ◌-◌, ◌==◌, Bool, List, [], ◌∷◌, ◌++◌, length, take, codes, decimal, Some, None, if◌then◌else◌}
use Rattle.std.specs.List.{flat_map}
use Rattle.aio_model.specs.declared.loops.flags.Flags.{Flags}
use Rattle.aio_model.specs.declared.loops.commits.Commit.{Commit}
use Rattle.aio_model.specs.declared.loops.commits.Commit.TheVariants.{Sleep, Awake}
use Rattle.aio_model.specs.declared.loops.commits.Why.TheVariants.{Urgent, Deadline, Event, Notified}
use Rattle.aio_model.specs.declared.scripts.loop_scripts.Command.{Command}
use Rattle.aio_model.specs.declared.scripts.loop_scripts.Command.TheVariants.{Schedule, Idle, Delete, Cancel}
use Rattle.aio_model.specs.declared.loops.ran_lists.Called.{Called}
use Rattle.aio_model.specs.declared.loops.ran_lists.Called.TheVariants.{Handle, Once}
use Rattle.aio_model.specs.declared.scripts.loop_replies.LoopReply.{LoopReply}
use Rattle.aio_model.specs.declared.scripts.loop_replies.LoopReply.TheVariants.{Flagged, Placed, Ran, Committed, WasSet, Cleared}

-- a flag: its letter, or a dash where it isn't set
abbrev pub flag_text : List ℕ → Bool → List ℕ
flag_text letter b = if b then letter else codes "-"

abbrev pub flags_text : Flags → List ℕ
flags_text flags =
    flag_text (codes "P") flags.pending ++ (flag_text (codes "S") flags.scheduled ++ (flag_text (codes "D") flags.deleted ++ (flag_text (codes "O") flags.oneshot ++ flag_text (codes "I") flags.idle)))

-- a call on a handle, as its command says it; no other command is one
abbrev pub call_text : Command → List ℕ
call_text (Schedule i) = codes "schedule " ++ decimal i
call_text (Idle i) = codes "idle " ++ decimal i
call_text (Delete i) = codes "delete " ++ decimal i
call_text (Cancel i) = codes "cancel " ++ decimal i
call_text command = []

-- a handle by its number, a one-shot by its tag
abbrev pub called_text : Called → List ℕ
called_text (Handle i) = decimal i
called_text (Once tag) = codes "o" ++ decimal tag

abbrev pub behind_space : Called → List ℕ
behind_space called = codes " " ++ called_text called

-- those that were called, each behind a space; a dash for none
abbrev pub list_text : List Called → List ℕ
list_text [] = codes " -"
list_text (first ∷ called) = flat_map behind_space (first ∷ called)

-- how many more were called
abbrev pub more_text : ℕ → List ℕ
more_text n = if n == 0 then [] else codes " more " ++ decimal n

abbrev pub progress_text : Bool → List ℕ
progress_text progress = if progress then codes "yes" else codes "no"

abbrev pub commit_text : Commit → List ℕ
commit_text (Awake (Urgent i)) = codes "awake urgent " ++ decimal i
commit_text (Awake (Event e)) = codes "awake event " ++ decimal e
commit_text (Awake Notified) = codes "awake notified"
commit_text (Awake Deadline) = []
commit_text (Sleep None) = codes "sleep forever"
commit_text (Sleep (Some ns)) = codes "sleep " ++ decimal ns

-- the line of a reply
abbrev pub reply_text : LoopReply → List ℕ
reply_text (Flagged command flags) = call_text command ++ (codes " was " ++ (flags_text flags ++ codes "\n"))
reply_text (Placed tag put) = codes "once " ++ (decimal tag ++ (if put then codes " put\n" else codes " noroom\n"))
reply_text (Ran called more progress cut) =
    codes "poll ran" ++ (list_text called ++ (more_text more ++ (codes " progress " ++ (progress_text progress ++ (codes " cut " ++ (decimal cut ++ codes "\n"))))))
reply_text (Committed commit) = codes "commit " ++ (commit_text commit ++ codes "\n")
reply_text (WasSet e) = codes "set " ++ (decimal e ++ codes "\n")
reply_text (Cleared e was) = codes "clear " ++ (decimal e ++ (if was then codes " was 1\n" else codes " was 0\n"))

-- The replies that have a line: flags are those of a call on a handle, none are left out of a list that isn't full, and
-- nothing has a deadline.

abbrev pub IsCall : Command → Type 0
IsCall (Schedule i) = Unit {0}
IsCall (Idle i) = Unit {0}
IsCall (Delete i) = Unit {0}
IsCall (Cancel i) = Unit {0}
IsCall command = ⊥

abbrev pub HasNoDeadline : Commit → Type 0
HasNoDeadline (Awake Deadline) = ⊥
HasNoDeadline commit = Unit {0}

abbrev pub HasLine : LoopReply → Type 0
HasLine (Flagged command flags) = IsCall command
HasLine (Ran called more progress cut) = 0 < more → length called ≡ 256
HasLine (Committed commit) = HasNoDeadline commit
HasLine reply = Unit {0}

-- the reply of a poll that called these, in order: the first 256 are told, and how many more there were
abbrev pub ran_reply : List Called → Bool → ℕ → LoopReply
ran_reply called progress cut = Ran (take 256 called) (length called - 256) progress cut
