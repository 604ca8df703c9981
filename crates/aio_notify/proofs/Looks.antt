-- What the way to sleep leaves: a home that has scanned has still scanned after it looked at an event that wasn't set.
use Rattle.std.proofs.Common.{◌≡◌, ℕ, zero, suc, ◌≤◌, ◌==◌, Bool, true, false, cond, eqb, Option, None, List, [], ◌∷◌, length, drop, refl, sym, ap, ◌∙◌, subst, arith, MatchBool, MatchOption}
use Rattle.std.proofs.lemmas.Bool.{eq-eqb}
use Rattle.aio_model.specs.Loop.Flags.{are_urgent}
use Rattle.aio_core.specs.Known.{Known, Sleep, Running, Scanning, Scan}
use Rattle.aio_core.specs.Standing.{is_empty}
use Rattle.aio_core.specs.SleepSteps.{LoadsEvent, Disarms, after_any_load, made_after, scan_in}
use Rattle.aio_core.specs.Scans.{LookedAt, Passes, PassesAll, IsAhead, FoundNone, FoundUrgent, Scans, SameButSleep}
use Rattle.aio_core.proofs.Passing.{to_same, same_then}
use Rattle.aio_notify.specs.Watching.{watches, watched_below, LooksAt, LooksBelow, LooksOn, FindsSet, FindsBits}
use Rattle.aio_notify.specs.Commits.{ArmsAndTests}

-- The scan.

-- where no index is urgent, all has been scanned
pub none_found : (urgent : Option ℕ) (idle : Bool) (before after : Known) → Scans urgent idle before after → urgent ≡ None → IsAhead [] after
none_found urgent idle before after scans is =
    (subst (λ o. MatchOption o (FoundNone scans.begun scans.loads after) (λ i. FoundUrgent i scans.loads after)) is scans.answer).scanned

flags_watch : (b : Bool) (made : ℕ) (scan : Scan) → scan.watched ≡ [] → (scan_in (cond b Running (Scanning made (record scan { stage = record scan.stage { hand = None }; left = drop 1 scan.left })))).watched ≡ []
flags_watch true made scan unwatched = refl
flags_watch false made scan unwatched = unwatched

pass_watches : (looked : LookedAt) (v w : Known) → (scan_in v.sleep).watched ≡ [] → Passes looked v w → (scan_in w.sleep).watched ≡ []
pass_watches looked v w unwatched passes =
    let m = passes.lifted in
    let lifted : (scan_in m.sleep).watched ≡ [] = ap (λ (k : Known). (scan_in k.sleep).watched) passes.next.rest ∙ unwatched in
    ap (λ (k : Known). (scan_in k.sleep).watched) passes.flags.rest ∙ flags_watch (are_urgent looked.flags) (made_after m) (scan_in m.sleep) lifted

passes_watch : (loads : List LookedAt) (begun after : Known) → (scan_in begun.sleep).watched ≡ [] → PassesAll loads begun after → (scan_in after.sleep).watched ≡ []
passes_watch [] begun after unwatched same =
    subst (λ (k : Known). (scan_in k.sleep).watched ≡ []) (sym same) unwatched
passes_watch (looked ∷ older) begun after unwatched passes =
    pass_watches looked passes.0 after (passes_watch older begun passes.0 unwatched passes.1) passes.3

-- a scan watches no event
pub scan_watches : (urgent : Option ℕ) (idle : Bool) (before after : Known) → Scans urgent idle before after → (scan_in after.sleep).watched ≡ []
scan_watches urgent idle before after scans =
    passes_watch scans.loads scans.begun after (ap (λ (k : Known). (scan_in k.sleep).watched) scans.begins.rest) scans.passes

-- Looks at events.

-- a scan that watches one more
abbrev watching : Scan → ℕ → Scan
watching scan e = record scan { watched = e ∷ scan.watched }

-- what an event that isn't set makes of a fresh scan, and what one that is set
fresh_load : (e made : ℕ) (scan : Scan) → after_any_load 0 e made (Scanning made scan) ≡ Scanning (suc made) (watching scan e)
fresh_load e made scan = let same : eqb made made ≡ true = eq-eqb made made refl in rw same refl

fresh_end : (e made : ℕ) (scan : Scan) → after_any_load 1 e made (Scanning made scan) ≡ Running
fresh_end e made scan = let same : eqb made made ≡ true = eq-eqb made made refl in rw same refl

asleep_then : (e : ℕ) (v w : Known) → IsAhead [] v → LoadsEvent e 0 v w → w.sleep ≡ Scanning (length w.did) (watching (scan_in v.sleep) e)
asleep_then e v w ahead loads =
    let count : length w.did ≡ suc (length v.did) = ap (λ (k : Known). length k.did) loads.rest in
    ap (λ (k : Known). k.sleep) loads.rest ∙ ap (λ (s : Sleep). after_any_load 0 e (length v.did) s) ahead.scanning ∙ fresh_load e (length v.did) (scan_in v.sleep) ∙ ap (λ n. Scanning n (watching (scan_in v.sleep) e)) (sym count)

still_ahead : (e : ℕ) (v w : Known) → IsAhead [] v → LoadsEvent e 0 v w → IsAhead [] w
still_ahead e v w ahead loads =
    let asleep = asleep_then e v w ahead loads in
    let scan : scan_in w.sleep ≡ watching (scan_in v.sleep) e = ap scan_in asleep in
    record {
      scanning = asleep ∙ ap (λ s. Scanning (length w.did) s) (sym scan);
      ahead = ap (λ (s : Scan). s.stage) scan ∙ ahead.ahead;
      within = refl;
      left = ahead.left ∙ sym (ap (λ (s : Scan). is_empty s.left) scan);
    }

now_watched : (e : ℕ) (v w : Known) → IsAhead [] v → LoadsEvent e 0 v w → (scan_in w.sleep).watched ≡ e ∷ (scan_in v.sleep).watched
now_watched e v w ahead loads =
    ap (λ (s : Sleep). (scan_in s).watched) (asleep_then e v w ahead loads)

zero_of : (n : ℕ) → n ≤ 1 → eqb n 1 ≡ false → n ≡ 0
zero_of zero below other = refl
zero_of (suc zero) below other = absurd cc
zero_of (suc (suc n)) below other = absurd (omega arith)

-- one was looked at that isn't set
looks_on : (watch e : ℕ) (before v w : Known) → LooksOn watch e before v → LooksAt watch e false v w → LooksOn watch (suc e) before w
looks_on watch e before v w on looks = by (watches watch e) refl looks
  where
    by : (b : Bool) → watches watch e ≡ b → MatchBool b ((found : ℕ) × (false ≡ (found == 1)) × LoadsEvent e found v w) ((false ≡ false) × (w ≡ v)) → LooksOn watch (suc e) before w
    by true is looked =
        let found = looked.0 in
        let unset : found ≡ 0 = zero_of found looked.2.bit (sym looked.1) in
        let loads : LoadsEvent e 0 v w = subst (λ n. LoadsEvent e n v w) unset looked.2 in
        record {
          looks = (v, on.looks, looks);
          scanned = still_ahead e v w on.scanned loads;
          watched = now_watched e v w on.scanned loads ∙ ap (λ (l : List ℕ). e ∷ l) on.watched ∙ sym (ap (λ (b : Bool). cond b (e ∷ watched_below watch e) (watched_below watch e)) is);
        }
    by false is same =
        record {
          looks = (v, on.looks, looks);
          scanned = subst (IsAhead []) (sym same.1) on.scanned;
          watched = subst (λ (k : Known). (scan_in k.sleep).watched ≡ watched_below watch e) (sym same.1) on.watched ∙ sym (ap (λ (b : Bool). cond b (e ∷ watched_below watch e) (watched_below watch e)) is);
        }

looks_all : (watch : ℕ) (before : Known) → IsAhead [] before → (scan_in before.sleep).watched ≡ [] → (e : ℕ) (after : Known) → LooksBelow watch e before after → LooksOn watch e before after
looks_all watch before ahead unwatched zero after same =
    record {
      looks = same;
      scanned = subst (IsAhead []) (sym same) ahead;
      watched = subst (λ (k : Known). (scan_in k.sleep).watched ≡ []) (sym same) unwatched;
    }
looks_all watch before ahead unwatched (suc e) after looks =
    looks_on watch e before looks.0 after (looks_all watch before ahead unwatched e looks.0 looks.1) looks.2

-- an event that is set ends the way to sleep
pub finds_running : (watch events e : ℕ) (before after : Known) → IsAhead [] before → (scan_in before.sleep).watched ≡ [] → FindsSet watch events e before after → after.sleep ≡ Running
finds_running watch events e before after ahead unwatched finds =
    let m = finds.looked in
    let on = looks_all watch before ahead unwatched e m finds.looks in
    ap (λ (k : Known). k.sleep) finds.loads.rest ∙ ap (λ (s : Sleep). after_any_load 1 e (length m.did) s) on.scanned.scanning ∙ fresh_end e (length m.did) (scan_in m.sleep)

-- What stays.

look_same : (watch e : ℕ) (set : Bool) (v w : Known) → LooksAt watch e set v w → SameButSleep v w
look_same watch e set v w looks = by (watches watch e) looks
  where
    by : (b : Bool) → MatchBool b ((found : ℕ) × (set ≡ (found == 1)) × LoadsEvent e found v w) ((set ≡ false) × (w ≡ v)) → SameButSleep v w
    by true looked = to_same v w _ looked.2.rest refl
    by false same = subst (SameButSleep v) (sym same.1) refl

looks_same : (watch e : ℕ) (v w : Known) → LooksBelow watch e v w → SameButSleep v w
looks_same watch zero v w same = subst (SameButSleep v) (sym same) refl
looks_same watch (suc e) v w looks =
    same_then v looks.0 w (looks_same watch e v looks.0 looks.1) (look_same watch e false looks.0 w looks.2)

finds_same : (watch events e : ℕ) (v w : Known) → FindsSet watch events e v w → SameButSleep v w
finds_same watch events e v w finds =
    same_then v finds.looked w (looks_same watch e v finds.looked finds.looks) (to_same finds.looked w _ finds.loads.rest refl)

tests_same : (notified : Bool) (v w : Known) → ArmsAndTests notified v w → SameButSleep v w
tests_same notified v w tests =
    same_then v tests.tested w (same_then v tests.armed tests.tested (to_same v tests.armed _ tests.arms.rest refl) (to_same tests.armed tests.tested _ tests.tests.rest refl)) (by notified tests.ends)
  where
    by : (b : Bool) → MatchBool b ((two : ℕ) × Disarms two tests.tested w) (w ≡ tests.tested) → SameButSleep tests.tested w
    by true disarmed = to_same tests.tested w _ disarmed.1.rest refl
    by false same = subst (SameButSleep tests.tested) (sym same) refl

-- what stays where an event is set
pub same_at_event : (watch events e : ℕ) (urgent : Option ℕ) (idle : Bool) (before scanned after : Known) → Scans urgent idle before scanned → FindsSet watch events e scanned after → SameButSleep before after
same_at_event watch events e urgent idle before scanned after scans finds =
    same_then before scanned after scans.rest (finds_same watch events e scanned after finds)

-- what stays after a test
pub same_at_test : (watch events : ℕ) (urgent : Option ℕ) (idle notified : Bool) (before scanned looked after : Known) → Scans urgent idle before scanned → LooksOn watch events scanned looked → ArmsAndTests notified looked after → SameButSleep before after
same_at_test watch events urgent idle notified before scanned looked after scans on tests =
    same_then before scanned after scans.rest (same_then scanned looked after (looks_same watch events scanned looked on.looks) (tests_same notified looked after tests))

-- what stays where all watched events were looked at
pub same_at_bits : (watch e bits : ℕ) (v w : Known) → FindsBits watch e bits v w → SameButSleep v w
same_at_bits watch zero bits v w finds = subst (SameButSleep v) (sym finds.1) refl
same_at_bits watch (suc e) bits v w finds =
    same_then v finds.0 w (same_at_bits watch e finds.1 v finds.0 finds.3) (look_same watch e finds.2 finds.0 w finds.4)
