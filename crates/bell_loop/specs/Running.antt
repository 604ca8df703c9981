-- A loop script's run on a shared loop, as far as home alone makes its history.
use Rattle.std.specs.Prelude.{◌≡◌, ◌⊎◌, ◌≤◌, ◌+◌, ℕ, zero, suc, Bool, true, false, ◌||◌, Option, None, is_some, List, [], ◌∷◌, ◌++◌, find}
use Rattle.aio_model.specs.declared.scripts.loop_scripts.ActKind.{ActKind}
use Rattle.aio_model.specs.declared.scripts.loop_scripts.Command.{Command}
use Rattle.aio_model.specs.declared.scripts.loop_scripts.LoopScript.{LoopScript}
use Rattle.aio_model.specs.declared.scripts.loop_replies.LoopReply.{LoopReply}
use Rattle.aio_model.specs.Loop.History.{Sizes, History}
use Rattle.aio_model.specs.Scripts.LoopActs.{acts_of}
use Rattle.aio_model.specs.Scripts.LoopReplies.{DoesCommand, sizes_of}
use Rattle.aio_model.specs.Loop.Seats.{home, entries_of}
use Rattle.aio_model.specs.Loop.Lists.{is_announced, stack_of, out_of}
use Rattle.aio_model.specs.Loop.Flags.{is_lot, is_pending, is_due, is_urgent, lives}
use Rattle.aio_model.specs.Loop.FlagsWord.{bit}
use Rattle.aio_model.specs.Loop.Laws.{times_of}
use Rattle.aio_model.specs.Loop.Frame.{Entered}
use Rattle.aio_model.specs.Loop.Legal.{IsLegal}
use Rattle.aio_model.specs.Loop.Log.{Log, history_of, is_rung, begun_log, first_from}
use Rattle.aio_model.specs.Loop.InFlight.{AtRest}
use Rattle.aio_core.specs.Known.{Known, empty_stage, is_running}
use Rattle.aio_core.specs.Calls.{TableState, SeatState, IsSeatOf}
use Rattle.bell_loop.specs.Actions.{some_rings}

-- home alone made the history
abbrev pub IsAlone : History → Type 0
IsAlone history = entries_of home history ≡ history

-- some entry that a callback made notifies
abbrev pub any_rings : List Entered → Bool
any_rings [] = false
any_rings (entered ∷ older) = any_rings older || some_rings entered.made

-- the home's seat between two commands
pub record Idles (table : TableState) (seat : SeatState) : Type 0 where
  pub of : IsSeatOf table seat
  pub rest : seat.known.phase ≡ AtRest
  pub first : seat.known.first ≡ 64
  pub count : seat.known.count ≡ 1
  pub stage : seat.known.stage ≡ empty_stage
  pub running : is_running seat.known.sleep ≡ true
  pub legal : IsLegal table.sizes seat.known.seen

-- each index that was enqueued was pushed
abbrev pub NoneAnnounced : History → Type 0
NoneAnnounced history = (i : ℕ) → is_announced i history ≡ false

-- each lot that lives is pending, or one of these
abbrev pub Lots : (ℕ → Type 0) → History → Type 0
Lots others history =
    (i : ℕ) → lives i history ≡ true → (is_pending i history ≡ true) ⊎ others i

-- what was pushed since the last take are handles
abbrev pub StackBelow : Sizes → History → Type 0
StackBelow sizes history =
    (i : ℕ) → sizes.handles ≤ i → times_of i (stack_of history) ≡ 0

-- between two commands nothing is announced or out, and each lot that lives is pending
pub record Calm (history : History) : Type 0 where
  pub announced : NoneAnnounced history
  pub none_out : out_of history ≡ []
  pub lots : Lots (λ _. ⊥) history

-- What was seen went on. Where home alone made it, what the log of before leads to is its log, and this was told of that log.
pub record GoesTo (moves : Log → Log) (Told : Log → Type 0) (seen seen_after : History) : Type 0 where
  pub between : History
  pub longer : seen_after ≡ between ++ seen
  pub at : IsAlone seen_after → (log : Log) → history_of log ≡ seen → (history_of (moves log) ≡ seen_after) × Told log
  pub calm : IsAlone seen_after → Calm seen → Calm seen_after

-- what was seen went on with what others made
pub record OnlyOthers (seen seen_after : History) : Type 0 where
  pub between : History
  pub longer : seen_after ≡ between ++ seen
  pub not_home : entries_of home between ≡ []

-- What a scan found: the newest urgent one of the stack, and where there is none, whether an index is due.
pub record Finds (sizes : Sizes) (urgent : Option ℕ) (idle : Bool) (seen : History) : Type 0 where
  pub newest : urgent ≡ find (λ i. is_urgent i seen) (stack_of seen)
  pub due : urgent ≡ None → idle ≡ is_some (first_from (λ i. is_due i seen) 0 (sizes.handles + sizes.lots))

-- of what home knows nothing changed but what was seen and made, and which steps were done
abbrev pub SameButSeen : Known → Known → Type 0
SameButSeen before after =
    after ≡ record before { seen = after.seen; mine = after.mine; did = after.did; told = after.told }

-- the script has these sizes, and its callbacks these actions
pub record IsScriptOf (script : LoopScript) (sizes : Sizes) (acts : ℕ → List ActKind) : Type 0 where
  pub sizes_are : sizes_of script ≡ sizes
  pub acts_are : (bh : ℕ) → acts bh ≡ acts_of script.acts bh

-- the log has this history, and this tells whether it notified since its last commit
pub record IsLogOf (seen : History) (rang : Bool) (log : Log) : Type 0 where
  pub history : history_of log ≡ seen
  pub rung : rang ≡ is_rung log
  pub calm : Calm seen

-- from the log on the command does what the definition says, and leads to this history
pub record AnsweredSeen (script : LoopScript) (command : Command) (reply : LoopReply) (rang_after : Bool) (seen_after : History) (log : Log) : Type 0 where
  pub after : Log
  pub does : DoesCommand script command log after reply
  pub stands : IsLogOf seen_after rang_after after

-- What was seen went on. Where home alone made it, the command was answered so, for each script of these sizes and actions.
pub record AnswersSeen (sizes : Sizes) (acts : ℕ → List ActKind) (command : Command) (reply : LoopReply) (rang rang_after : Bool) (seen seen_after : History) : Type 0 where
  pub between : History
  pub longer : seen_after ≡ between ++ seen
  pub at : IsAlone seen_after → (script : LoopScript) (log : Log) → IsScriptOf script sizes acts → IsLogOf seen rang log → AnsweredSeen script command reply rang_after seen_after log

-- how many of so many numbers from this one on pass
abbrev pub count_from : (ℕ → Bool) → ℕ → ℕ → ℕ
count_from test start zero = 0
count_from test start (suc more) = bit (test start) + count_from test (suc start) more

-- how many lots live
abbrev pub living_in : Sizes → History → ℕ
living_in sizes history =
    count_from (λ i. lives i history) sizes.handles sizes.lots

-- A one-shot with this tag was placed in some lot, and what was seen went on with it; one lot more lives.
pub record PlacesTag (sizes : Sizes) (tag living living_after : ℕ) (seen seen_after : History) : Type 0 where
  pub lot : ℕ
  pub goes : GoesTo (begun_log lot home tag) (λ log. (is_lot sizes lot ≡ true) × (lives lot (history_of log) ≡ false)) seen seen_after
  pub counts : IsAlone seen_after → living ≡ living_in sizes seen → living_after ≡ living_in sizes seen_after
