-- A commit makes no entry, and home idles again after it.
use Rattle.std.proofs.Common.{◌≡◌, ℕ, zero, suc, ◌-◌, ◌^◌, ◌==◌, Bool, true, false, Option, Some, None, MatchBool, MatchOption, sym, ap, ◌∙◌, subst}
use Rattle.aio_model.specs.declared.loops.commits.Commit.{Commit}
use Rattle.aio_model.specs.declared.loops.commits.Commit.TheVariants.{Sleep, Awake}
use Rattle.aio_model.specs.declared.loops.commits.Why.{Why}
use Rattle.aio_model.specs.declared.loops.commits.Why.TheVariants.{Urgent, Event}
use Rattle.aio_model.specs.Loop.History.{History}
use Rattle.aio_model.specs.Loop.Legal.{IsLegal}
use Rattle.aio_core.specs.Known.{Known, is_running}
use Rattle.aio_core.specs.SleepSteps.{Disarms, LoadsEvent}
use Rattle.aio_core.specs.Scans.{SameButSleep}
use Rattle.aio_core.specs.Calls.{TableState, SeatState, IsSeatOf}
use Rattle.aio_notify.specs.Commits.{Commits, PastDeadline, PastEvents, ArmsAndTests, IsAwakeBy, sleep_bound}
use Rattle.aio_notify.specs.Settling.{is_committed}
use Rattle.aio_notify.specs.Watching.{watches, LooksAt, LooksBelow, FindsSet}
use Rattle.bell_loop.specs.Running.{Idles, OnlyOthers}
use Rattle.bell_loop.specs.Ending.{IsCommitted}
use Rattle.bell_loop.proofs.Scanning.{scan_others, scan_legal}

look_seen : (watch e : ℕ) (set : Bool) (v w : Known) → LooksAt watch e set v w → w.seen ≡ v.seen
look_seen watch e set v w look =
    by_bit (watches watch e) look
  where
    by_bit : (c : Bool) → MatchBool c ((found : ℕ) × (set ≡ (found == 1)) × LoadsEvent e found v w) ((set ≡ false) × (w ≡ v)) → w.seen ≡ v.seen
    by_bit true loads = ap (λ (k : Known). k.seen) loads.2.rest
    by_bit false same = ap (λ (k : Known). k.seen) same.1

looks_seen : (watch e : ℕ) (v w : Known) → LooksBelow watch e v w → w.seen ≡ v.seen
looks_seen watch zero v w same = ap (λ (k : Known). k.seen) same
looks_seen watch (suc e) v w looks =
    look_seen watch e false looks.0 w looks.2 ∙ looks_seen watch e v looks.0 looks.1

tests_seen : (notified : Bool) (v w : Known) → ArmsAndTests notified v w → w.seen ≡ v.seen
tests_seen notified v w tests =
    by_word notified tests.ends ∙ ap (λ (k : Known). k.seen) tests.tests.rest ∙ ap (λ (k : Known). k.seen) tests.arms.rest
  where
    by_word : (b : Bool) → MatchBool b ((two : ℕ) × Disarms two tests.tested w) (w ≡ tests.tested) → w.seen ≡ tests.tested.seen
    by_word true disarms = ap (λ (k : Known). k.seen) disarms.1.rest
    by_word false same = ap (λ (k : Known). k.seen) same

past_seen : (watch events : ℕ) (bound : Option ℕ) (answer : Commit) (v w : Known) → PastDeadline watch events bound answer v w → w.seen ≡ v.seen
past_seen watch events bound answer v w past = by_event past.set past.is
  where
    by_event : (o : Option ℕ) → MatchOption o ((looked : Known) × LooksBelow watch events v looked × PastEvents bound answer looked w) (λ e. (answer ≡ Awake (Event e)) × FindsSet watch events e v w) → w.seen ≡ v.seen
    by_event None on = tests_seen on.2.notified on.0 w on.2.tests ∙ looks_seen watch events v on.0 on.1
    by_event (Some e) found = ap (λ (k : Known). k.seen) found.1.loads.rest ∙ looks_seen watch e v found.1.looked found.1.looks

commit_seen : (watch events : ℕ) (answer : Commit) (v w : Known) (commits : Commits watch events None 0 answer v w) → w.seen ≡ commits.scanned.seen
commit_seen watch events answer v w commits = by_urgent commits.urgent commits.is
  where
    by_urgent : (o : Option ℕ) → MatchOption o (PastDeadline watch events (sleep_bound None 0 commits.idle) answer commits.scanned w) (λ i. (answer ≡ Awake (Urgent i)) × (w ≡ commits.scanned)) → w.seen ≡ commits.scanned.seen
    by_urgent None past = past_seen watch events (sleep_bound None 0 commits.idle) answer commits.scanned w past
    by_urgent (Some i) found = ap (λ (k : Known). k.seen) found.1

pub commit_others : (watch events : ℕ) (answer : Commit) (v w : Known) → v.first ≡ 64 → v.count ≡ 1 → Commits watch events None 0 answer v w → OnlyOthers v.seen w.seen
commit_others watch events answer v w first count commits =
    subst (OnlyOthers v.seen) (sym (commit_seen watch events answer v w commits)) (scan_others commits.urgent commits.idle v commits.scanned commits.scans first count)

pub commit_legal : (watch events : ℕ) (answer : Commit) (v w : Known) → v.first ≡ 64 → v.count ≡ 1 → Commits watch events None 0 answer v w → IsLegal v.sizes w.seen
commit_legal watch events answer v w first count commits =
    subst (IsLegal v.sizes) (sym (commit_seen watch events answer v w commits)) (scan_legal commits.urgent commits.idle v commits.scanned commits.scans first count)

-- home idles after it was on its way to sleep
pub Idles-slept : (table : TableState) (a b : SeatState) → Idles table a → IsSeatOf table b → SameButSleep a.known b.known → is_running b.known.sleep ≡ true → IsLegal a.known.sizes b.known.seen → Idles table b
Idles-slept table a b idles of same running legal = record {
  of = of;
  rest = ap (λ (k : Known). k.phase) same ∙ idles.rest;
  first = ap (λ (k : Known). k.first) same ∙ idles.first;
  count = ap (λ (k : Known). k.count) same ∙ idles.count;
  stage = ap (λ (k : Known). k.stage) same ∙ idles.stage;
  running = running;
  legal = subst (λ s. IsLegal s b.known.seen) idles.of.sizes legal;
}

-- an accept changes nothing that is seen
pub Idles-accepted : (table : TableState) (a b : SeatState) → Idles table a → IsSeatOf table b → b.known ≡ record a.known { did = b.known.did } → Idles table b
Idles-accepted table a b idles of same = record {
  of = of;
  rest = ap (λ (k : Known). k.phase) same ∙ idles.rest;
  first = ap (λ (k : Known). k.first) same ∙ idles.first;
  count = ap (λ (k : Known). k.count) same ∙ idles.count;
  stage = ap (λ (k : Known). k.stage) same ∙ idles.stage;
  running = ap (λ (k : Known). is_running k.sleep) same ∙ idles.running;
  legal = subst (λ (h : History). IsLegal table.sizes h) (sym (ap (λ (k : Known). k.seen) same)) idles.legal;
}

-- a commit that came to a sleep, and one that didn't
pub IsCommitted-of : (table : TableState) (a b : SeatState) (answer : Commit) (bound : Option ℕ) → Idles table a → IsSeatOf table b → SameButSleep a.known b.known → answer ≡ Sleep bound → IsAwakeBy (2 ^ 64 - 1) table.sizes.events answer b.known → IsCommitted table b
IsCommitted-of table a b answer bound idles of same is awake = record {
  of = of;
  committed = ap is_committed (subst (λ c. IsAwakeBy (2 ^ 64 - 1) table.sizes.events c b.known) is awake);
  rest = ap (λ (k : Known). k.phase) same ∙ idles.rest;
  first = ap (λ (k : Known). k.first) same ∙ idles.first;
  count = ap (λ (k : Known). k.count) same ∙ idles.count;
}

pub Idles-awake : (table : TableState) (a b : SeatState) (answer : Commit) (why : Why) → Idles table a → IsSeatOf table b → SameButSleep a.known b.known → answer ≡ Awake why → IsAwakeBy (2 ^ 64 - 1) table.sizes.events answer b.known → IsLegal a.known.sizes b.known.seen → Idles table b
Idles-awake table a b answer why idles of same is awake legal =
    Idles-slept table a b idles of same (subst (λ c. IsAwakeBy (2 ^ 64 - 1) table.sizes.events c b.known) is awake) legal
