-- What stands in a history stands in a longer one; and each part of a turn makes home's history longer.
use Rattle.std.proofs.Common.{◌≡◌, ℕ, zero, suc, Bool, true, false, ◌==◌, nat_lt, Option, Some, None, MatchBool, MatchOption, List, [], ◌∷◌, ◌++◌, sym, ap, ◌∙◌, subst}
use Rattle.std.proofs.lemmas.Bool.{or_right}
use mathlib.Core.Logic.{⊎_elim}
use Rattle.aio_model.specs.declared.loops.commits.Commit.{Commit}
use Rattle.aio_model.specs.declared.loops.commits.Commit.TheVariants.{Sleep, Awake}
use Rattle.aio_model.specs.declared.loops.commits.Why.TheVariants.{Urgent, Deadline, Event}
use Rattle.aio_model.specs.Loop.History.{Entry, History}
use Rattle.aio_model.specs.Loop.Laws.{some_entry}
use Rattle.aio_core.specs.Known.{Known}
use Rattle.aio_core.specs.Scans.{LookedAt, Passes, PassesAll, Scans}
use Rattle.aio_core.specs.SleepSteps.{Learns, Disarms, LoadsEvent, ClearsEvent}
use Rattle.aio_notify.specs.Commits.{AcceptsAll, Commits, PastDeadline, PastEvents, ArmsAndTests, is_past, sleep_bound}
use Rattle.aio_notify.specs.Waiting.{LooksInVain, FindsNotifier, PassesTime, Waits}
use Rattle.aio_notify.specs.Watching.{watches, LooksAt, LooksBelow, FindsBits, FindsSet}
use Rattle.aio_bh.specs.Running.{SeatComesBack}
use Rattle.aio_loop.specs.declared.side.Side.{Side}
use Rattle.aio_loop.specs.Blocking.{FollowsCommit}
use Rattle.aio_loop.specs.Turns.{Awakes}
use Rattle.aio_loop.specs.Walks.{ClearsFirst}

pub by_more : (rest before after : History) → after ≡ rest ++ before → (test : Entry → Bool) → some_entry test before ≡ true → some_entry test after ≡ true
by_more rest before after is test stands =
    subst (λ (h : History). some_entry test h ≡ true) (sym is) (more rest)
  where
    more : (l : History) → some_entry test (l ++ before) ≡ true
    more [] = stands
    more (e ∷ l) = or_right (test e) (some_entry test (l ++ before)) (more l)

pub by_same : (before after : History) → after ≡ before → (test : Entry → Bool) → some_entry test before ≡ true → some_entry test after ≡ true
by_same before after is test stands = subst (λ (h : History). some_entry test h ≡ true) (sym is) stands

-- what stands in the first stands in the second
abbrev pub StandsOn : History → History → Type 0
StandsOn before after = (test : Entry → Bool) → some_entry test before ≡ true → some_entry test after ≡ true

pub same_stands : (a b : Known) → b ≡ a → StandsOn a.seen b.seen
same_stands a b same = by_same a.seen b.seen (ap (λ (k : Known). k.seen) same)

-- The way to sleep.

learns_on : (a b : Known) → Learns a b → StandsOn a.seen b.seen
learns_on a b learns = by_more learns.others a.seen b.seen learns.seen

pass_on : (looked : LookedAt) (a b : Known) → Passes looked a b → StandsOn a.seen b.seen
pass_on looked a b passes test stands =
    learns_on passes.lifted b passes.flags.learns test (by_same a.seen passes.lifted.seen (ap (λ (k : Known). k.seen) passes.next.rest) test stands)

passes_on : (loads : List LookedAt) (a b : Known) → PassesAll loads a b → StandsOn a.seen b.seen
passes_on [] a b same = same_stands a b same
passes_on (looked ∷ older) a b passes =
    λ test stands. pass_on looked passes.0 b passes.3 test (passes_on older a passes.0 passes.1 test stands)

scan_on : (urgent : Option ℕ) (idle : Bool) (a b : Known) → Scans urgent idle a b → StandsOn a.seen b.seen
scan_on urgent idle a b scans test stands =
    passes_on scans.loads scans.begun b scans.passes test (learns_on a scans.begun scans.begins.learns test stands)

look_seen : (watch e : ℕ) (set : Bool) (a b : Known) → LooksAt watch e set a b → b.seen ≡ a.seen
look_seen watch e set a b look = by_bit (watches watch e) look
  where
    by_bit : (c : Bool) → MatchBool c ((found : ℕ) × (set ≡ (found == 1)) × LoadsEvent e found a b) ((set ≡ false) × (b ≡ a)) → b.seen ≡ a.seen
    by_bit true loads = ap (λ (k : Known). k.seen) loads.2.rest
    by_bit false same = ap (λ (k : Known). k.seen) same.1

looks_seen : (watch e : ℕ) (a b : Known) → LooksBelow watch e a b → b.seen ≡ a.seen
looks_seen watch zero a b same = ap (λ (k : Known). k.seen) same
looks_seen watch (suc e) a b looks =
    look_seen watch e false looks.0 b looks.2 ∙ looks_seen watch e a looks.0 looks.1

tests_seen : (notified : Bool) (a b : Known) → ArmsAndTests notified a b → b.seen ≡ a.seen
tests_seen notified a b tests =
    by_word notified tests.ends ∙ ap (λ (k : Known). k.seen) tests.tests.rest ∙ ap (λ (k : Known). k.seen) tests.arms.rest
  where
    by_word : (w : Bool) → MatchBool w ((two : ℕ) × Disarms two tests.tested b) (b ≡ tests.tested) → b.seen ≡ tests.tested.seen
    by_word true disarms = ap (λ (k : Known). k.seen) disarms.1.rest
    by_word false same = ap (λ (k : Known). k.seen) same

past_seen : (watch events : ℕ) (bound : Option ℕ) (answer : Commit) (a b : Known) → PastDeadline watch events bound answer a b → b.seen ≡ a.seen
past_seen watch events bound answer a b past = by_event past.set past.is
  where
    by_event : (o : Option ℕ) → MatchOption o ((looked : Known) × LooksBelow watch events a looked × PastEvents bound answer looked b) (λ e. (answer ≡ Awake (Event e)) × FindsSet watch events e a b) → b.seen ≡ a.seen
    by_event None on = tests_seen on.2.notified on.0 b on.2.tests ∙ looks_seen watch events a on.0 on.1
    by_event (Some e) found = ap (λ (k : Known). k.seen) found.1.loads.rest ∙ looks_seen watch e a found.1.looked found.1.looks

commit_seen : (watch events : ℕ) (deadline : Option ℕ) (now : ℕ) (answer : Commit) (a b : Known) (commits : Commits watch events deadline now answer a b) → b.seen ≡ commits.scanned.seen
commit_seen watch events deadline now answer a b commits = by_urgent commits.urgent commits.is
  where
    by_deadline : (p : Bool) → MatchBool p ((answer ≡ Awake Deadline) × (b ≡ commits.scanned)) (PastDeadline watch events (sleep_bound deadline now commits.idle) answer commits.scanned b) → b.seen ≡ commits.scanned.seen
    by_deadline true over = ap (λ (k : Known). k.seen) over.1
    by_deadline false past = past_seen watch events (sleep_bound deadline now commits.idle) answer commits.scanned b past

    by_urgent : (o : Option ℕ) → MatchOption o (MatchBool (is_past deadline now) ((answer ≡ Awake Deadline) × (b ≡ commits.scanned)) (PastDeadline watch events (sleep_bound deadline now commits.idle) answer commits.scanned b)) (λ i. (answer ≡ Awake (Urgent i)) × (b ≡ commits.scanned)) → b.seen ≡ commits.scanned.seen
    by_urgent None past = by_deadline (is_past deadline now) past
    by_urgent (Some i) found = ap (λ (k : Known). k.seen) found.1

pub commit_on : (watch events : ℕ) (deadline : Option ℕ) (now : ℕ) (answer : Commit) (a b : Known) → Commits watch events deadline now answer a b → StandsOn a.seen b.seen
commit_on watch events deadline now answer a b commits test stands =
    by_same commits.scanned.seen b.seen (commit_seen watch events deadline now answer a b commits) test (scan_on commits.urgent commits.idle a commits.scanned commits.scans test stands)

vain_seen : (n : ℕ) (a b : Known) → LooksInVain n a b → b.seen ≡ a.seen
vain_seen zero a b same = ap (λ (k : Known). k.seen) same
vain_seen (suc n) a b looks =
    ap (λ (k : Known). k.seen) looks.2.rest ∙ vain_seen n a looks.0 looks.1

finds_seen : (a b : Known) → FindsNotifier a b → b.seen ≡ a.seen
finds_seen a b finds =
    ap (λ (k : Known). k.seen) finds.set.rest ∙ vain_seen finds.looks a finds.last finds.vain

waits_seen : (left : Option ℕ) (start end : ℕ) (a b : Known) → Waits left start end a b → b.seen ≡ a.seen
waits_seen None start end a b finds = finds_seen a b finds
waits_seen (Some left) start end a b waits =
    ⊎_elim (λ (finds : FindsNotifier a b). finds_seen a b finds) (λ (passes : PassesTime left start end a b). vain_seen passes.looks a b passes.vain) waits

follows_seen : (answer : Commit) (now end : ℕ) (a b : Known) → FollowsCommit answer now end a b → b.seen ≡ a.seen
follows_seen (Sleep left) now end a b follows =
    ap (λ (k : Known). k.seen) follows.disarms.rest ∙ waits_seen left now end a follows.waited follows.waits
follows_seen (Awake why) now end a b follows = ap (λ (k : Known). k.seen) follows.0

-- The parts of a turn.

pub awakes_on : (block : Bool) (events : ℕ) (side : Side) (slept : Bool) (time time_after : ℕ) (a b : Known) → Awakes block events side slept time time_after a b → StandsOn a.seen b.seen
awakes_on true events side slept time time_after a b sleeps =
    λ test stands. by_same sleeps.committed.seen b.seen (follows_seen sleeps.answer sleeps.now time_after sleeps.committed b sleeps.follows) test
    (commit_on sleeps.watch events sleeps.first sleeps.now sleeps.answer a sleeps.committed sleeps.commits test stands)
awakes_on false events side slept time time_after a b awake = same_stands a b awake.2

pub accepts_on : (a b : Known) → AcceptsAll a b → StandsOn a.seen b.seen
accepts_on a b accepts =
    by_same a.seen b.seen (ap (λ (k : Known). k.seen) accepts.accepts.rest ∙ ap (λ (k : Known). k.seen) accepts.clears.rest)

pub back_on : (made : History) (a b : Known) → SeatComesBack made a b → StandsOn a.seen b.seen
back_on made a b back = by_more back.between a.seen b.seen back.seen

pub clear_on : (events event : ℕ) (a b : Known) → ClearsFirst events event a b → StandsOn a.seen b.seen
clear_on events event a b clears = by_number (nat_lt event events) clears
  where
    by_number : (c : Bool) → MatchBool c ((found : ℕ) × ClearsEvent event found a b) (b ≡ a) → StandsOn a.seen b.seen
    by_number true one = by_more (_ ∷ one.1.makes.others) a.seen b.seen one.1.makes.seen
    by_number false same = same_stands a b same

pub bits_on : (watch events bits : ℕ) (a b : Known) → FindsBits watch events bits a b → StandsOn a.seen b.seen
bits_on watch zero bits a b finds = same_stands a b finds.1
bits_on watch (suc e) bits a b finds =
    λ test stands. by_same finds.0.seen b.seen (look_seen watch e finds.2 finds.0 b finds.4) test (bits_on watch e finds.1 a finds.0 finds.3 test stands)
