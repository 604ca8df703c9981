-- The rule's part on events, and the steps on their words.
use Rattle.std.proofs.Common.{◌≡◌, ◌≢◌, ◌⊎◌, ℕ, ◌+◌, ◌<◌, ◌≤◌, Bool, true, false, not, cond, eqb, Option, List, ◌∷◌, length, set, slice_index, inl, inr, refl, sym, ap, ◌∙◌, subst, ⊎_elim, arith}
use Rattle.std.proofs.lemmas.Bool.{cases_eq, ne_eqb, eqb-true, eq-eqb}
use mathlib.Core.Option.{some, none}
use lib.ListN.{get_elem?, length-set}
use Rattle.atomic_table.specs.Table.{Me, keeps, step, Allows}
use Rattle.aio_model.specs.Loop.FlagsWord.{bit}
use Rattle.aio_model.specs.Loop.History.{Sizes, SetEvent, ClearEvent, History}
use Rattle.aio_model.specs.Loop.Lists.{stack_of, out_of, is_set}
use Rattle.aio_model.specs.Loop.Seats.{owns, home}
use Rattle.aio_model.specs.Loop.InFlight.{Reason, ForIndex, ForEvent, ForNothing, AtRest, ToStore, flight_of}
use Rattle.aio_chain.specs.Chains.{IsChain}
use Rattle.aio_chain.proofs.Chains.{chain_kept}
use Rattle.aio_core.specs.Words.{head_at, notified_at, notify_me_at, notifier_at, event_at, next_at, next_in}
use Rattle.aio_core.specs.Known.{Done, EventSetSwap, EventClearSwap, EventLoad, Scan, Sleep, Running, Scanning, Armed, ToDisarm, Committed, Known, numbers_of}
use Rattle.aio_core.specs.Rule.{push_of, store_of, is_wanted, is_among, AreCovered, IsScan, Sleeps, EventsStand, Stands, Kept}
use Rattle.aio_core.specs.Standing.{done, Makes}
use Rattle.aio_core.specs.SleepSteps.{made_after, SetsEvent, ClearsEvent, after_event, after_any_load, LoadsEvent}
use Rattle.aio_core.specs.Plays.{event_set, event_cleared, event_loaded}
use Rattle.aio_core.proofs.Slots.{same_lot, same_entry, same_hand, slots_kept}
use Rattle.table_seats.proofs.Entries.{owns_first}
use Rattle.aio_core.proofs.Seats.{seats_make, seats_keep, makes_of, same_view}
use Rattle.aio_core.proofs.Histories.{owed_still}
use Rattle.aio_core.proofs.Flags.{read_here, read_else, flags_apart}
use Rattle.aio_core.proofs.Lists.{claimed_still, each_all, owes_kept, has_out_kept, lists_after}
use Rattle.aio_core.proofs.Keeping.{loaded_words, view_stands}
use Rattle.aio_core.proofs.Sleeping.{something, no_reason, some_set, sleeps_own, sleep_kept}
use Rattle.aio_core.proofs.Scanning.{home_sleeps, sleep_home, covered_still}

-- one event's word changes
pub events_change : (h g : History) (words : List ℕ) (e x : ℕ) → EventsStand h words → 68 ≤ length words → e < 64 → x ≡ bit (is_set e g) → ((other : ℕ) → other ≢ e → is_set other g ≡ is_set other h) → EventsStand g (set words (event_at e) x)
events_change h g words e x stand long below new same other low =
    ⊎_elim (λ (q : other ≡ e). subst (λ k. slice_index (set words (event_at e) x) (event_at k) ≡ bit (is_set k g)) (sym q) (read_here words (event_at e) x (omega arith) ∙ new)) (λ (ne : other ≢ e). read_else words (event_at e) (event_at other) x (λ q. ne (omega arith)) ∙ stand other low ∙ ap bit (sym (same other ne))) (cases_eq other e)

set_here : (e s : ℕ) (h : History) → is_set e (SetEvent e s ∷ h) ≡ true
set_here e s h = let same : eqb e e ≡ true = eq-eqb e e refl in rw same refl

set_beside : (e other s : ℕ) (h : History) → other ≢ e → is_set other (SetEvent e s ∷ h) ≡ is_set other h
set_beside e other s h ne = let away : eqb other e ≡ false = ne_eqb other e ne in rw away refl

cleared_here : (e : ℕ) (was : Bool) (h : History) → is_set e (ClearEvent e was ∷ h) ≡ false
cleared_here e was h = let same : eqb e e ≡ true = eq-eqb e e refl in rw same refl

cleared_beside : (e other : ℕ) (was : Bool) (h : History) → other ≢ e → is_set other (ClearEvent e was ∷ h) ≡ is_set other h
cleared_beside e other was h ne = let away : eqb other e ≡ false = ne_eqb other e ne in rw away refl

wanted_set : (r : Reason) (e s : ℕ) (h : History) → is_wanted r (SetEvent e s ∷ h) ≡ true → (is_wanted r h ≡ true) ⊎ (ForEvent e ≡ r)
wanted_set (ForIndex i) e s h is = inl is
wanted_set (ForEvent other) e s h is =
    ⊎_elim (λ (q : other ≡ e). inr (ap ForEvent (sym q))) (λ (ne : other ≢ e). inl (sym (set_beside e other s h ne) ∙ is)) (cases_eq other e)
wanted_set ForNothing e s h is = inl is

wanted_cleared : (r : Reason) (e : ℕ) (was : Bool) (h : History) → is_wanted r (ClearEvent e was ∷ h) ≡ true → is_wanted r h ≡ true
wanted_cleared (ForIndex i) e was h is = is
wanted_cleared (ForEvent other) e was h is =
    ⊎_elim (λ (q : other ≡ e). absurd (let no : false ≡ true = sym (cleared_here e was h) ∙ subst (λ k. is_set k (ClearEvent e was ∷ h) ≡ true) q is in cc)) (λ (ne : other ≢ e). sym (cleared_beside e other was h ne) ∙ is) (cases_eq other e)
wanted_cleared ForNothing e was h is = is

-- A set.

abbrev pub after_event_set : Known → History → ℕ → ℕ → Known
after_event_set v h e found =
    let entry = SetEvent e v.first in
    record v { seen = entry ∷ h; mine = entry ∷ v.mine; did = done EventSetSwap (event_at e) found ∷ v.did; phase = ToStore (ForEvent e) }

module _ (sizes : Sizes) (h : History) (words : List ℕ) (views : List Known) (id : ℕ) (v : Known) (e found : ℕ) where
  pub event_set_stands : Stands sizes h words views → get_elem? views id ≡ some v → 0 < v.count → v.phase ≡ AtRest → e < 64 → Stands sizes (SetEvent e v.first ∷ h) (set words (event_at e) 1) (set views id (after_event_set v h e found))
  event_set_stands stand at numbered rest below =
      let entry = SetEvent e v.first in
      let w = after_event_set v h e found in
      let k = event_at e in
      let words' = set words k 1 in
      let count = stand.long in
      let same_next : (j : ℕ) → next_in words' j ≡ next_in words j = λ j. read_else words k (next_at j) 1 (λ q. omega arith) in
      let top : slice_index words' head_at ≡ slice_index words head_at = read_else words k head_at 1 (λ q. omega arith) in
      record {
        long = length-set words k 1 ∙ stand.long;
        legal = (tt, stand.legal);
        seats = seats_make sizes h views id entry v w stand.seats at (same_view v w refl refl refl) (owns_first (numbers_of v) numbered) refl refl numbered;
        flags = flags_apart sizes h (entry ∷ h) words k 1 stand.flags (λ j q. omega arith) (λ j. refl);
        lists = lists_after sizes h (entry ∷ h) words words' views id w stand.lists
            (subst (λ t. IsChain (next_in words') t (stack_of h)) (sym top) (chain_kept (next_in words) (next_in words') (slice_index words head_at) (stack_of h) stand.lists.stack (each_all _ (stack_of h) same_next)))
            tt
            (λ beside u ne atu. owes_kept sizes words words' h (entry ∷ h) u.first u.phase (λ j busy owed. (owed_still sizes h entry u.first j owed refl refl, same_next j)) (λ j job busy c. claimed_still sizes h entry _ j job refl refl refl c))
            (has_out_kept words words' h (entry ∷ h) v refl (each_all _ (out_of h) same_next) (stand.lists.out id v at))
            (λ beside u ne atu. has_out_kept words words' h (entry ∷ h) u refl (each_all _ (out_of h) same_next));
        events = events_change h (entry ∷ h) words e 1 stand.events (omega arith) below (sym (ap bit (set_here e v.first h))) (λ other ne. set_beside e other v.first h ne);
        sleep = sleep_kept sizes h (entry ∷ h) words words' views id v w (done EventSetSwap k found) stand.seats at refl refl refl stand.sleep
            (record {
              wanted = λ r is. ⊎_elim (λ old. inl old) (λ q. inr q) (wanted_set r e v.first h is);
              stores = λ r is q. absurd (something r (entry ∷ h) is (sym (ap store_of rest) ∙ q));
              flies = λ r is q. absurd (something r (entry ∷ h) is (sym (ap flight_of rest) ∙ q));
              notified = read_else words k notified_at 1 (λ q. omega arith);
              notifier = read_else words k notifier_at 1 (λ q. omega arith);
            })
            (read_else words k notify_me_at 1 (λ q. omega arith))
            (λ j announced. inr (announced, λ q. absurd (no_reason j (sym (ap push_of rest) ∙ q))))
            (λ no j put. (put, same_next j));
      }

pub event_set_allowed : {J : Type 0} (number : J → ℕ) (sizes : Sizes) (slots id e : ℕ) (me : Me (Option J) Known) → 0 < me.0.count → me.0.phase ≡ AtRest → e < 64 → Allows (Kept number sizes) slots id me (event_at e) (λ _. 1) (event_set (step slots (event_at e) 1 0 none) me)
event_set_allowed number sizes slots id e me numbered rest below s kept long at fits =
    let h = kept.0 in
    let stand = kept.1 in
    let v = me.0 in
    let found = slice_index s.words (event_at e) in
    let now = event_set_stands sizes h s.words s.views id v e found stand at numbered rest below in
    let w = after_event_set v h e found in
    let told : SetsEvent e found v w = record { makes = makes_of sizes h (SetEvent e v.first) v w (stand.seats.parts.each id v at) (stand.seats.tables id v at) numbered refl refl now.legal; rest = refl } in
    (w, keeps, tt, (SetEvent e v.first ∷ h, now, slots_kept number sizes h (SetEvent e v.first ∷ h) s.homes s.views id me.0 w kept.2 at refl (λ m low. (same_lot (sizes.handles + m) (SetEvent e v.first) h refl refl refl refl, same_hand (sizes.handles + m) me.0.stage w.stage refl refl))), (refl, λ other same. let is_e : e ≡ other = omega arith in subst (λ k. SetsEvent k found v w) is_e told))

-- A clear.

abbrev pub after_event_clear : Known → History → ℕ → ℕ → Known
after_event_clear v h e found =
    let entry = ClearEvent e (is_set e h) in
    record v { seen = entry ∷ h; mine = entry ∷ v.mine; did = done EventClearSwap (event_at e) found ∷ v.did }

module _ (sizes : Sizes) (h : History) (words : List ℕ) (views : List Known) (id : ℕ) (v : Known) (e found : ℕ) where
  pub event_clear_stands : Stands sizes h words views → get_elem? views id ≡ some v → 0 < v.count → owns (numbers_of v) home ≡ true → e < 64 → Stands sizes (ClearEvent e (is_set e h) ∷ h) (set words (event_at e) 0) (set views id (after_event_clear v h e found))
  event_clear_stands stand at numbered is_home below =
      let was = is_set e h in
      let entry = ClearEvent e was in
      let w = after_event_clear v h e found in
      let k = event_at e in
      let words' = set words k 0 in
      let count = stand.long in
      let same_next : (j : ℕ) → next_in words' j ≡ next_in words j = λ j. read_else words k (next_at j) 0 (λ q. omega arith) in
      let top : slice_index words' head_at ≡ slice_index words head_at = read_else words k head_at 0 (λ q. omega arith) in
      record {
        long = length-set words k 0 ∙ stand.long;
        legal = (refl, stand.legal);
        seats = seats_make sizes h views id entry v w stand.seats at (same_view v w refl refl refl) is_home refl refl numbered;
        flags = flags_apart sizes h (entry ∷ h) words k 0 stand.flags (λ j q. omega arith) (λ j. refl);
        lists = lists_after sizes h (entry ∷ h) words words' views id w stand.lists
            (subst (λ t. IsChain (next_in words') t (stack_of h)) (sym top) (chain_kept (next_in words) (next_in words') (slice_index words head_at) (stack_of h) stand.lists.stack (each_all _ (stack_of h) same_next)))
            (owes_kept sizes words words' h (entry ∷ h) v.first v.phase (λ j busy owed. (owed_still sizes h entry v.first j owed refl refl, same_next j)) (λ j job busy c. claimed_still sizes h entry _ j job refl refl refl c) (stand.lists.owed id v at))
            (λ beside u ne atu. owes_kept sizes words words' h (entry ∷ h) u.first u.phase (λ j busy owed. (owed_still sizes h entry u.first j owed refl refl, same_next j)) (λ j job busy c. claimed_still sizes h entry _ j job refl refl refl c))
            (has_out_kept words words' h (entry ∷ h) v refl (each_all _ (out_of h) same_next) (stand.lists.out id v at))
            (λ beside u ne atu. has_out_kept words words' h (entry ∷ h) u refl (each_all _ (out_of h) same_next));
        events = events_change h (entry ∷ h) words e 0 stand.events (omega arith) below (sym (ap bit (cleared_here e was h))) (λ other ne. cleared_beside e other was h ne);
        sleep = sleep_kept sizes h (entry ∷ h) words words' views id v w (done EventClearSwap k found) stand.seats at refl refl refl stand.sleep
            (record {
              wanted = λ r is. inl (wanted_cleared r e was h is);
              stores = λ r is q. q;
              flies = λ r is q. q;
              notified = read_else words k notified_at 0 (λ q. omega arith);
              notifier = read_else words k notifier_at 0 (λ q. omega arith);
            })
            (read_else words k notify_me_at 0 (λ q. omega arith))
            (λ j announced. inr (announced, λ q. q))
            (λ no j put. absurd (let both : true ≡ false = sym is_home ∙ no in cc));
      }

was_one : (b : Bool) (n : ℕ) → n ≡ bit b → eqb n 1 ≡ b
was_one true n e = eq-eqb n 1 e
was_one false n e = ne_eqb n 1 (λ q. omega arith)

pub event_clear_allowed : {J : Type 0} (number : J → ℕ) (sizes : Sizes) (slots id e : ℕ) (me : Me (Option J) Known) → 0 < me.0.count → owns (numbers_of me.0) home ≡ true → e < 64 → Allows (Kept number sizes) slots id me (event_at e) (λ _. 0) (event_cleared (step slots (event_at e) 0 0 none) me)
event_clear_allowed number sizes slots id e me numbered is_home below s kept long at fits =
    let h = kept.0 in
    let stand = kept.1 in
    let v = me.0 in
    let found = slice_index s.words (event_at e) in
    let now = event_clear_stands sizes h s.words s.views id v e found stand at numbered is_home below in
    let w = after_event_clear v h e found in
    let was : eqb found 1 ≡ is_set e h = was_one (is_set e h) found (stand.events e below) in
    let told : ClearsEvent e found v w = record { makes = subst (λ b. Makes (ClearEvent e b) v w) (sym was) (makes_of sizes h (ClearEvent e (is_set e h)) v w (stand.seats.parts.each id v at) (stand.seats.tables id v at) numbered refl refl now.legal); rest = refl } in
    (w, keeps, tt, (ClearEvent e (is_set e h) ∷ h, now, slots_kept number sizes h (ClearEvent e (is_set e h) ∷ h) s.homes s.views id me.0 w kept.2 at refl (λ m low. (same_lot (sizes.handles + m) (ClearEvent e (is_set e h)) h refl refl refl refl, same_hand (sizes.handles + m) me.0.stage w.stage refl refl))), (refl, λ other same. let is_e : e ≡ other = omega arith in subst (λ k. ClearsEvent k found v w) is_e told))

-- A look at an event by home: one that isn't set is watched from then on, where a scan is fresh.

abbrev pub watching : Scan → ℕ → Scan
watching scan e = record scan { watched = e ∷ scan.watched }

among_other : (other e : ℕ) (rest : List ℕ) → other ≢ e → is_among other (e ∷ rest) ≡ is_among other rest
among_other other e rest ne = let away : eqb other e ≡ false = ne_eqb other e ne in rw away refl

now_covered : (e : ℕ) (left watched : List ℕ) (h : History) (words : List ℕ) (views : List Known) → is_set e h ≡ false → AreCovered left watched h words views → AreCovered left (e ∷ watched) h words views
now_covered e left watched h words views unset covered (ForIndex i) urgent closed = covered (ForIndex i) urgent closed
now_covered e left watched h words views unset covered (ForEvent other) set_now closed =
    ⊎_elim (λ (q : other ≡ e). absurd (let no : true ≡ false = sym (subst (λ k. is_set k h ≡ true) q set_now) ∙ unset in cc)) (λ (ne : other ≢ e). covered (ForEvent other) set_now (ap not (sym (among_other other e watched ne)) ∙ closed)) (cases_eq other e)
now_covered e left watched h words views unset covered ForNothing wanted closed = absurd cc

bit_zero : (b : Bool) → bit b ≡ 0 → b ≡ false
bit_zero true e = absurd (omega arith)
bit_zero false e = refl

module _ (sizes : Sizes) (h : History) (words : List ℕ) (views : List Known) (id : ℕ) (v : Known) (made e : ℕ) (scan : Scan) (stand : Stands sizes h words views) (at : get_elem? views id ≡ some v) (is_home : owns (numbers_of v) home ≡ true) (asleep : v.sleep ≡ Scanning made scan) (fresh : made ≡ length v.did) (below : e < 64) where
  event_sleep : (w : Known) (d : Done) → w.phase ≡ v.phase → (b : Bool) → eqb (slice_index words (event_at e)) 0 ≡ b → Sleeps h words (set views id w) (d ∷ v.did) (cond b (Scanning (made_after v) (watching scan e)) Running)
  event_sleep w d phase true none_set =
      let was = home_sleeps sizes h words views id v stand at is_home (Scanning made scan) asleep in
      let old : IsScan scan h words views = was.2 fresh in
      let unset : is_set e h ≡ false = bit_zero (is_set e h) (sym (stand.events e below) ∙ eqb-true _ 0 none_set) in (
        was.0,
        omega arith,
        λ q. record {
          leads = old.leads;
          full = old.full;
          pushed = old.pushed;
          covered = now_covered e scan.left scan.watched h words (set views id w) unset (covered_still sizes h words views id v stand at is_home words w scan.left scan.watched phase refl old.covered);
        },
      )
  event_sleep w d phase false set_now =
      (home_sleeps sizes h words views id v stand at is_home (Scanning made scan) asleep).0

bit_at_most : (b : Bool) → bit b ≤ 1
bit_at_most true = omega arith
bit_at_most false = omega arith

module _ (sizes : Sizes) (h : History) (words : List ℕ) (views : List Known) (id : ℕ) (v : Known) (e : ℕ) (stand : Stands sizes h words views) (at : get_elem? views id ≡ some v) (is_home : owns (numbers_of v) home ≡ true) (below : e < 64) where
  any_sleep : (w : Known) (d : Done) → w.phase ≡ v.phase → (t : Sleep) → v.sleep ≡ t → Sleeps h words (set views id w) (d ∷ v.did) (after_any_load (slice_index words (event_at e)) e (length v.did) t)
  any_sleep w d phase t is = by t is (home_sleeps sizes h words views id v stand at is_home t is)
    where
      own : (u : Sleep) → Sleeps h words views v.did u → Sleeps h words (set views id w) (d ∷ v.did) u
      own u s = sleeps_own h h words words views (set views id w) refl (λ two watched safe r wanted closed. ⊎_elim (λ one. inl (some_set (λ p. flight_of p ≡ r) views id v w at (λ q. ap flight_of phase ∙ q) one)) (λ n. inr n) (safe r wanted closed)) d v.did u s

      scans : (made : ℕ) (scan : Scan) → v.sleep ≡ Scanning made scan → Sleeps h words views v.did (Scanning made scan) → (b : Bool) → eqb made (length v.did) ≡ b → Sleeps h words (set views id w) (d ∷ v.did) (cond b (after_event (slice_index words (event_at e)) e (made_after v) scan) (Scanning made scan))
      scans made scan q s true fresh = event_sleep sizes h words views id v made e scan stand at is_home q (eqb-true made (length v.did) fresh) below w d phase (eqb (slice_index words (event_at e)) 0) refl
      scans made scan q s false stale = own (Scanning made scan) s

      by : (u : Sleep) → v.sleep ≡ u → Sleeps h words views v.did u → Sleeps h words (set views id w) (d ∷ v.did) (after_any_load (slice_index words (event_at e)) e (length v.did) u)
      by Running q s = s
      by (Scanning made scan) q s = scans made scan q s (eqb made (length v.did)) refl
      by (Armed made watched) q s = own (Armed made watched) s
      by ToDisarm q s = s
      by (Committed watched) q s = own (Committed watched) s

pub event_load_allowed : {J : Type 0} (number : J → ℕ) (sizes : Sizes) (slots id e : ℕ) (me : Me (Option J) Known) → 0 < me.0.count → owns (numbers_of me.0) home ≡ true → e < 64 → Allows (Kept number sizes) slots id me (event_at e) (λ n. n) (event_loaded (step slots (event_at e) 0 0 none) me)
event_load_allowed number sizes slots id e me numbered is_home below s kept long at fits_word =
    let h = kept.0 in
    let stand = kept.1 in
    let v = me.0 in
    let found = slice_index s.words (event_at e) in
    let w : Known = record v { did = done EventLoad (event_at e) found ∷ v.did; sleep = after_any_load found e (length v.did) v.sleep } in
    let sleep = sleep_home sizes h s.words s.views id v stand at is_home s.words w refl refl (stand.sleep.notified, stand.sleep.notifier) (any_sleep sizes h s.words s.views id v e stand at is_home below w (done EventLoad (event_at e) found) refl v.sleep refl) in
    let seats = seats_keep sizes h s.views id v w stand.seats at (same_view v w refl refl refl) refl refl numbered in
    let told : LoadsEvent e found v w = record { bit = subst (λ n. n ≤ 1) (sym (stand.events e below)) (bit_at_most (is_set e h)); rest = refl } in
    (w, keeps, tt, (h, subst (λ ws. Stands sizes h ws (set s.views id w)) (sym (loaded_words s.words (event_at e))) (view_stands sizes h s.words s.views id v w stand seats (stand.lists.owed id v at) (stand.lists.out id v at) sleep), slots_kept number sizes h h s.homes s.views id me.0 w kept.2 at refl (λ m low. (same_entry h (sizes.handles + m), same_hand (sizes.handles + m) me.0.stage w.stage refl refl))), (refl, λ other same. let is_e : e ≡ other = omega arith in subst (λ k. LoadsEvent k found v w) is_e told))
