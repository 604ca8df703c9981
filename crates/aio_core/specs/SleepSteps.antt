-- What the steps of a home on its way to sleep, and those on events, make of what a seat knows.
use Rattle.std.specs.Prelude.{◌≡◌, ℕ, suc, ◌≤◌, Bool, true, false, ◌==◌, if◌then◌else◌, None, Some, List, [], ◌∷◌, ◌++◌, length, drop}
use Rattle.aio_model.specs.declared.loops.flags.Flags.{Flags}
use Rattle.aio_model.specs.Loop.FlagsWord.{word_of}
use Rattle.aio_model.specs.Loop.History.{SetEvent, ClearEvent, History}
use Rattle.aio_model.specs.Loop.Flags.{flags_of, are_urgent}
use Rattle.aio_model.specs.Loop.Lists.{stack_of, out_of}
use Rattle.aio_model.specs.Loop.Legal.{IsLegal}
use Rattle.aio_model.specs.Loop.Seats.{own_entries}
use Rattle.aio_model.specs.Loop.InFlight.{ForEvent, ToStore}
use Rattle.aio_core.specs.Words.{head_at, notified_at, notify_me_at, notifier_at, event_at, flags_at, next_at, index_count}
use Rattle.aio_core.specs.Known.{ScanHeadLoad, ScanNextLoad, ScanFlagsLoad, ArmFetchAdd, TestLoad, DisarmFetchSub, AcceptStore, NotifierClearSwap, EventSetSwap, EventClearSwap, EventLoad, Stage, empty_stage, Scan, Sleep, Running, Scanning, Armed, ToDisarm, Committed, Known, numbers_of}
use Rattle.aio_core.specs.Standing.{is_empty, done, Makes, without_first}

abbrev pub no_scan : Scan
no_scan = record { stage = empty_stage; left = []; watched = [] }

-- what a scanning home knows, and what an armed or committed one watches
abbrev pub scan_in : Sleep → Scan
scan_in Running = no_scan
scan_in (Scanning made scan) = scan
scan_in (Armed made watched) = no_scan
scan_in ToDisarm = no_scan
scan_in (Committed watched) = no_scan

abbrev pub watched_in : Sleep → List ℕ
watched_in Running = []
watched_in (Scanning made scan) = scan.watched
watched_in (Armed made watched) = watched
watched_in ToDisarm = []
watched_in (Committed watched) = watched

abbrev pub is_scanning : Sleep → Bool
is_scanning (Scanning made scan) = true
is_scanning _ = false

-- home has armed and tested
abbrev pub is_to_disarm : Sleep → Bool
is_to_disarm ToDisarm = true
is_to_disarm (Committed watched) = true
is_to_disarm _ = false

-- What was seen goes on, with what others did; it is legal.
pub record Learns (before after : Known) : Type 0 where
  pub others : History
  pub not_own : own_entries (numbers_of before) others ≡ []
  pub seen : after.seen ≡ others ++ before.seen
  pub legal : IsLegal before.sizes after.seen

-- a scan begins with all that is in the stack and out
abbrev pub scan_of : ℕ → Stage → History → Scan
scan_of head stage history =
    record { stage = record { slices = without_first head stage.slices; hand = None; job = None }; left = stack_of history ++ out_of history; watched = [] }

-- how many steps there are after one more
abbrev pub made_after : Known → ℕ
made_after known = suc (length known.did)

-- the head was loaded: the scan has all that was in the stack and out then still to load
pub record BeginsScan (found : ℕ) (before after : Known) : Type 0 where
  pub learns : Learns before after
  pub below : found ≤ index_count before.sizes
  pub left : is_empty (without_first found before.stage.slices) ≡ is_empty (stack_of after.seen ++ out_of after.seen)
  pub rest : after ≡ record before { seen = after.seen; did = done ScanHeadLoad head_at found ∷ before.did; sleep = Scanning (made_after before) (scan_of found before.stage after.seen) }

-- what follows the first index of the first slice was loaded
pub record ScansNext (i found : ℕ) (more : List ℕ) (scan : Scan) (before after : Known) : Type 0 where
  pub below : found ≤ index_count before.sizes
  pub rest : after ≡ record before { did = done ScanNextLoad (next_at i) found ∷ before.did; sleep = Scanning (made_after before) (record scan { stage = record { slices = without_first found more; hand = Some i; job = None } }) }

-- the scan ends at an urgent one, and else goes on
abbrev pub after_flags : Flags → ℕ → Scan → Sleep
after_flags flags made scan =
    if are_urgent flags then Running else Scanning made (record scan { stage = record scan.stage { hand = None }; left = drop 1 scan.left })

-- the flags of the index at hand were loaded
pub record ScansFlags (i : ℕ) (flags : Flags) (scan : Scan) (before after : Known) : Type 0 where
  pub learns : Learns before after
  pub were : flags ≡ flags_of i after.seen
  pub was_left : scan.left ≡ i ∷ drop 1 scan.left
  pub left : is_empty scan.stage.slices ≡ is_empty (drop 1 scan.left)
  pub rest : after ≡ record before { seen = after.seen; did = done ScanFlagsLoad (flags_at i) (word_of flags) ∷ before.did; sleep = after_flags flags (made_after before) scan }

-- 2 was added to `notify_me`
pub record Arms (watched : List ℕ) (found : ℕ) (before after : Known) : Type 0 where
  pub rest : after ≡ record before { did = done ArmFetchAdd notify_me_at found ∷ before.did; sleep = Armed (made_after before) watched }

abbrev pub after_test : ℕ → List ℕ → Sleep
after_test found watched = if found == 0 then Committed watched else ToDisarm

-- `notified` was loaded
pub record Tests (watched : List ℕ) (found : ℕ) (before after : Known) : Type 0 where
  pub bit : found ≤ 1
  pub rest : after ≡ record before { did = done TestLoad notified_at found ∷ before.did; sleep = after_test found watched }

-- 2 was taken off `notify_me`
pub record Disarms (found : ℕ) (before after : Known) : Type 0 where
  pub rest : after ≡ record before { did = done DisarmFetchSub notify_me_at found ∷ before.did; sleep = Running }

-- the notifier was cleared
pub record ClearsNotifier (found : ℕ) (before after : Known) : Type 0 where
  pub bit : found ≤ 1
  pub rest : after ≡ record before { did = done NotifierClearSwap notifier_at found ∷ before.did }

-- `notified` was cleared
pub record Accepts (before after : Known) : Type 0 where
  pub rest : after ≡ record before { did = done AcceptStore notified_at 0 ∷ before.did }

-- Steps on events.

-- the event was set
pub record SetsEvent (e found : ℕ) (before after : Known) : Type 0 where
  pub makes : Makes (SetEvent e before.first) before after
  pub rest : after ≡ record before { seen = after.seen; mine = after.mine; did = done EventSetSwap (event_at e) found ∷ before.did; phase = ToStore (ForEvent e) }

-- the event was cleared, and was set where 1 was found
pub record ClearsEvent (e found : ℕ) (before after : Known) : Type 0 where
  pub makes : Makes (ClearEvent e (found == 1)) before after
  pub rest : after ≡ record before { seen = after.seen; mine = after.mine; did = done EventClearSwap (event_at e) found ∷ before.did }

-- the scan ends at an event that is set, and else watches it
abbrev pub after_event : ℕ → ℕ → ℕ → Scan → Sleep
after_event found e made scan =
    if found == 0 then Scanning made (record scan { watched = e ∷ scan.watched }) else Running

-- A look at an event by home wherever it is: one that scans, or has just scanned, goes on as it should; nothing else changes.
abbrev pub after_any_load : ℕ → ℕ → ℕ → Sleep → Sleep
after_any_load found e made_now Running = Running
after_any_load found e made_now (Scanning made scan) =
    if made == made_now then after_event found e (suc made_now) scan else Scanning made scan
after_any_load found e made_now (Armed made watched) = Armed made watched
after_any_load found e made_now ToDisarm = ToDisarm
after_any_load found e made_now (Committed watched) = Committed watched

pub record LoadsEvent (e found : ℕ) (before after : Known) : Type 0 where
  pub bit : found ≤ 1
  pub rest : after ≡ record before { did = done EventLoad (event_at e) found ∷ before.did; sleep = after_any_load found e (length before.did) before.sleep }

-- the seat has every number, the home's too
pub record OwnsAll (known : Known) : Type 0 where
  pub first : known.first ≡ 0
  pub count : known.count ≡ 65
