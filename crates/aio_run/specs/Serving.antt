-- What stands in the history of the coroutines of a loop that served a script.
use Rattle.std.specs.Prelude.{◌≡◌, ℕ, zero, suc, ◌==◌, ◌&&◌, Bool, true, false, not, if◌then◌else◌, List, [], ◌∷◌, length, map, slice_index}
use Rattle.std.specs.List.{AllByRecursion, list_any}
use Rattle.aio_model.specs.declared.coroutines.causes.Cause.{Cause}
use Rattle.aio_model.specs.declared.coroutines.causes.Cause.TheVariants.{Begin, Wake, Move}
use Rattle.aio_model.specs.declared.scripts.image_scripts.Script.{Script}
use Rattle.aio_model.specs.declared.scripts.image_scripts.Step.{Step}
use Rattle.aio_model.specs.declared.scripts.image_scripts.What.{What}
use Rattle.aio_model.specs.declared.scripts.image_scripts.What.TheVariants as what
use Rattle.aio_model.specs.Coroutines.History.{Schedule, Push, Enter, History}
use Rattle.stream_ends.specs.Images.{homes_of}

-- which coroutines were scheduled to begin, the last one first
abbrev pub begins_of : History → List ℕ
begins_of [] = []
begins_of (Schedule c Begin given seat ∷ older) = c ∷ begins_of older
begins_of (Schedule c Wake given seat ∷ older) = begins_of older
begins_of (Schedule c Move given seat ∷ older) = begins_of older
begins_of (Push c seat ∷ older) = begins_of older
begins_of (Enter c ∷ older) = begins_of older

-- which coroutines were scheduled to move here, the last one first
abbrev pub moves_of : History → List ℕ
moves_of [] = []
moves_of (Schedule c Begin given seat ∷ older) = moves_of older
moves_of (Schedule c Wake given seat ∷ older) = moves_of older
moves_of (Schedule c Move given seat ∷ older) = c ∷ moves_of older
moves_of (Push c seat ∷ older) = moves_of older
moves_of (Enter c ∷ older) = moves_of older

-- whether a line has its stream go on on this loop
abbrev pub goes_to : ℕ → What → Bool
goes_to loop (what.Ask request) = false
goes_to loop (what.Delay ns) = false
goes_to loop (what.Move to) = to == loop

-- whether the stream of this number has a line by which it moves to this loop
abbrev pub has_move : Script → ℕ → ℕ → Bool
has_move script loop number =
    list_any (λ (step : Step). (step.stream == slice_index (map (λ stream. stream.id) script.streams) number) && goes_to loop step.what) script.lines

-- which of the first so many have this loop as their home, the last one first
abbrev pub beginning_on : ℕ → List ℕ → ℕ → List ℕ
beginning_on zero homes loop = []
beginning_on (suc co) homes loop =
    if slice_index homes co == loop then co ∷ beginning_on co homes loop else beginning_on co homes loop

-- the entries of one coroutine
abbrev pub entries_for : ℕ → History → History
entries_for c [] = []
entries_for c (Schedule d cause given seat ∷ older) =
    if c == d then Schedule d cause given seat ∷ entries_for c older else entries_for c older
entries_for c (Push d seat ∷ older) = if c == d then Push d seat ∷ entries_for c older else entries_for c older
entries_for c (Enter d ∷ older) = if c == d then Enter d ∷ entries_for c older else entries_for c older

-- each time that the coroutine was scheduled, it was pushed once, by the same seat, and entered once, before it was scheduled again
abbrev pub AreEntered : History → Type 0
AreEntered [] = Unit {0}
AreEntered (Enter c ∷ Push d by ∷ Schedule e cause given seat ∷ older) = (by ≡ seat) × AreEntered older
AreEntered _ = ⊥

-- whether a state is to come with a schedule of this cause, where it came or not
abbrev pub fits_cause : Cause → Bool → Bool
fits_cause Begin given = given
fits_cause Wake given = not given
fits_cause Move given = given

-- a state came with each schedule that lets a coroutine begin or move here, and with no other
abbrev pub brings_states : History → Bool
brings_states [] = true
brings_states (Schedule c cause given seat ∷ older) = fits_cause cause given && brings_states older
brings_states (Push c seat ∷ older) = brings_states older
brings_states (Enter c ∷ older) = brings_states older

-- Each stream that has this loop as its home began here once, and no other coroutine began here. Each that moved here is a stream with a
-- move line to this loop. Whatever was scheduled here was pushed and entered, once for each time. A state came with each that began or
-- moved here, and with no other.
pub record HasServed (script : Script) (loop : ℕ) (history : History) : Type 0 where
  pub began : begins_of history ≡ beginning_on (length script.streams) (homes_of script.streams) loop
  pub moved : AllByRecursion (λ number. has_move script loop number ≡ true) (moves_of history)
  pub entered : (c : ℕ) → AreEntered (entries_for c history)
  pub states : brings_states history ≡ true
