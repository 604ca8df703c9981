-- What a seat of a loop's table knows.
use Rattle.std.specs.Prelude.{◌≡◌, ℕ, Bool, true, false, Option, None, List, []}
use Rattle.table_seats.specs.Seats.{Numbers, Told, Part, numbers_in}
use Rattle.aio_model.specs.Loop.History.{Sizes, Entry, History}
use Rattle.aio_model.specs.Loop.InFlight.{Phase, AtRest}

-- the kinds of atomic step on a word
pub data Kind : Type 0 where
  EnqueueFetchOr : Kind
  HeadLoad : Kind
  NextStore : Kind
  HeadCompare : Kind
  TakeSwap : Kind
  NextLoad : Kind
  DequeueFetchAnd : Kind
  CancelFetchAnd : Kind
  LotClaimCompare : Kind
  LotFreeStore : Kind
  NotifiedStore : Kind
  NotifyMeLoad : Kind
  NotifierSwap : Kind
  ScanHeadLoad : Kind
  ScanNextLoad : Kind
  ScanFlagsLoad : Kind
  ArmFetchAdd : Kind
  TestLoad : Kind
  DisarmFetchSub : Kind
  AcceptStore : Kind
  NotifierClearSwap : Kind
  EventSetSwap : Kind
  EventClearSwap : Kind
  EventLoad : Kind
  NotifierLoad : Kind

-- a step that was done: its kind, its word, and what it found there
pub record Done : Type 0 where
  pub kind : Kind
  pub word : ℕ
  pub found : ℕ

-- The home's lists: the words that lead to what was taken, and the index that is at hand between its next load and its
-- dequeue.
pub record Stage : Type 0 where
  pub slices : List ℕ
  pub hand : Option ℕ
  -- the number of the job, where what is at hand is a lot
  pub job : Option ℕ

abbrev pub empty_stage : Stage
empty_stage = record { slices = []; hand = None; job = None }

-- How far a scan has come: the words that lead to what is still to be loaded, with the index at hand between its next load and its flags
-- load; the indices still to be loaded; and the events that were loaded since, none of which was set.
pub record Scan : Type 0 where
  pub stage : Stage
  pub left : List ℕ
  pub watched : List ℕ

-- How far the home is on its way to sleep. The number says how many steps the home had made then, so that what it found is over with
-- the next one.
pub data Sleep : Type 0 where
  Running : Sleep
  Scanning : ℕ → Scan → Sleep
  Armed : ℕ → List ℕ → Sleep
  ToDisarm : Sleep
  -- with the events that it watches
  Committed : List ℕ → Sleep

-- a home that scans, or has scanned, counts as running
abbrev pub is_running : Sleep → Bool
is_running Running = true
is_running (Scanning made scan) = true
is_running _ = false

-- what a scan or an arm found is over
abbrev pub calmed : Sleep → Sleep
calmed Running = Running
calmed (Scanning made scan) = Running
calmed (Armed made watched) = ToDisarm
calmed ToDisarm = ToDisarm
calmed (Committed watched) = Committed watched

-- Histories have the newest entry in front, and so have the steps that were done.
pub record Known : Type 0 where
  pub sizes : Sizes
  pub seen : History
  pub mine : History
  pub did : List Done
  pub first : ℕ
  pub count : ℕ
  pub phase : Phase
  pub stage : Stage
  pub sleep : Sleep
  pub told : Option (Told Entry)

-- it has the home's number, and no other
abbrev pub IsHomes : Known → Type 0
IsHomes known = (known.first ≡ 64) × (known.count ≡ 1)

-- the part that is about numbers and the history
abbrev pub part_of : Known → Part Entry
part_of known =
    record { first = known.first; count = known.count; seen = known.seen; mine = known.mine; told = known.told }

abbrev pub numbers_of : Known → Numbers
numbers_of known = numbers_in (part_of known)

-- what the first view knows: all numbers, and nothing done
abbrev pub first_known : Sizes → Known
first_known sizes =
    record { sizes = sizes; seen = []; mine = []; did = []; first = 0; count = 65; phase = AtRest; stage = empty_stage; sleep = Running; told = None }
