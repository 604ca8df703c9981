-- The loads of a scan keep the rule.
use Rattle.std.proofs.Common.{◌≡◌, ◌≢◌, ℕ, ◌+◌, ◌<◌, ◌≤◌, Bool, true, false, cond, ◌||◌, eqb, Option, Some, None, List, [], ◌∷◌, ◌++◌, drop, length, set, slice_index, inl, inr, refl, sym, ap, ◌∙◌, subst, ⊎_elim, arith}
use Rattle.std.proofs.lemmas.Bool.{cases_eq, ne_eqb, eqb-true, eqb-false, eq-eqb}
use mathlib.Core.Option.{some, none}
use lib.ListN.{get_elem?}
use Rattle.atomic_table.specs.Table.{Me, keeps, step, Allows}
use Rattle.aio_model.specs.Loop.FlagsWord.{word_of}
use Rattle.aio_model.specs.Loop.History.{Sizes, History}
use Rattle.aio_model.specs.Loop.Flags.{flags_of, are_urgent, is_urgent}
use Rattle.aio_model.specs.Loop.Lists.{seat_of, was_put, stack_of, out_of}
use Rattle.aio_model.specs.Loop.Legal.{IsLegal}
use Rattle.table_seats.specs.Seats.{owns, home, IsSeat}
use Rattle.aio_model.specs.Loop.InFlight.{ForIndex, ForEvent, ForNothing, Phase}
use Rattle.aio_model.proofs.AnnouncedOnce.{fits}
use Rattle.aio_chain.specs.Chains.{IsChain, AreChains}
use Rattle.aio_chain.proofs.Chains.{none_taken}
use Rattle.aio_core.specs.Words.{head_at, notified_at, notify_me_at, notifier_at, flags_at, next_at, index_count, next_in}
use Rattle.aio_core.specs.Known.{Done, ScanHeadLoad, ScanNextLoad, ScanFlagsLoad, Scan, Sleep, Running, Scanning, Armed, ToDisarm, Committed, is_running, Known, part_of, numbers_of}
use Rattle.aio_core.specs.Rule.{IsOfTable, IsOut, NoneEmpty, push_of, store_of, SomeSeat, is_among, is_open, AreCovered, IsScan, Sleeps, SleepStands, Stands, Kept}
use Rattle.aio_core.specs.Standing.{done, is_empty, without_first}
use Rattle.aio_core.specs.SleepSteps.{Learns, scan_of, made_after, BeginsScan, ScansNext, after_flags, ScansFlags}
use Rattle.aio_core.specs.Plays.{FlagsAreScanned, scan_begun, scan_lifted, flags_scanned}
use Rattle.aio_core.proofs.Slots.{same_entry, same_hand, slots_kept}
use Rattle.aio_core.proofs.Seats.{seats_keep, seats_learn, same_view}
use Rattle.aio_core.proofs.Histories.{pending_below, stack_below}
use Rattle.aio_core.proofs.Flags.{flags_again}
use Rattle.aio_core.proofs.Keeping.{loaded_words, view_stands}
use Rattle.aio_core.proofs.Sliced.{chains_empty, chain_word_below, out_lifted, none_empty-lifted, lifted_word_below}
use Rattle.aio_core.proofs.Sleeping.{some_set, some_mono, push_stores, each_among, sleep_after}
use Rattle.aio_core.proofs.Pushed.{urgent_is_pending, unlisted_is_announced, listed_was_put, put_is_below}

pub running_me : (h : History) (words : List ℕ) (views : List Known) (did : List Done) (t : Sleep) → is_running t ≡ true → Sleeps h words views did t → slice_index words notify_me_at ≡ 0
running_me h words views did Running e s = s
running_me h words views did (Scanning made scan) e s = s.0
running_me h words views did (Armed made watched) e s = absurd cc
running_me h words views did ToDisarm e s = absurd cc
running_me h words views did (Committed watched) e s = absurd cc

module _ (sizes : Sizes) (h : History) (words : List ℕ) (views : List Known) (id : ℕ) (v : Known) (stand : Stands sizes h words views) (at : get_elem? views id ≡ some v) (is_home : owns (numbers_of v) home ≡ true) where
  pub home_sleeps : (t : Sleep) → v.sleep ≡ t → Sleeps h words views v.did t
  home_sleeps t e = subst (Sleeps h words views v.did) e (stand.sleep.home id v at is_home)

  pub home_me : is_running v.sleep ≡ true → slice_index words notify_me_at ≡ 0
  home_me running =
      running_me h words views v.did v.sleep running (stand.sleep.home id v at is_home)

  -- the part, from what it says of the home's new view
  pub sleep_home : (other : List ℕ) (w : Known) → numbers_of w ≡ numbers_of v → w.phase ≡ v.phase → (slice_index other notified_at ≤ 1) × (slice_index other notifier_at ≤ 1) → Sleeps h other (set views id w) w.did w.sleep → SleepStands h other (set views id w)
  sleep_home other w numbers phase bits new =
      sleep_after sizes h h words other views id v w stand.seats at numbers stand.sleep bits
      (λ i announced. some_set (λ p. push_of p ≡ ForIndex i) views id v w at (λ e. ap push_of phase ∙ e) (stand.sleep.pushers i announced))
      (λ mine s. new)
      (λ none did t s. absurd (let both : true ≡ false = sym is_home ∙ none in cc))

  -- who covers does so still
  pub covered_still : (other : List ℕ) (w : Known) (left watched : List ℕ) → w.phase ≡ v.phase → slice_index other notified_at ≡ slice_index words notified_at → AreCovered left watched h words views → AreCovered left watched h other (set views id w)
  covered_still other w left watched phase same covered r wanted closed =
      ⊎_elim (λ s. inl (some_set (λ p. store_of p ≡ r) views id v w at (λ e. ap store_of phase ∙ e) s)) (λ n. inr (same ∙ n)) (covered r wanted closed)

learns_of : (sizes : Sizes) (h : History) (v w : Known) → IsSeat seat_of h (part_of v) → IsOfTable sizes v → 0 < v.count → w.seen ≡ h → IsLegal sizes h → Learns v w
learns_of sizes h v w is table numbered seen legal =
    record {
      others = is.seen_of.rest;
      not_own = is.seen_of.none_missed;
      seen = seen ∙ is.seen_of.longer;
      legal = subst (IsLegal v.sizes) (sym seen) (subst (λ z. IsLegal z h) (sym (table.sizes_are numbered)) legal);
    }

-- The head load.

abbrev pub after_scan_head : Known → History → ℕ → Known
after_scan_head v h found =
    record v { seen = h; did = done ScanHeadLoad head_at found ∷ v.did; sleep = Scanning (made_after v) (scan_of found v.stage h) }

front_chains : (next : ℕ → ℕ) (word : ℕ) (more items back : List ℕ) (b : Bool) → eqb word 0 ≡ b → IsChain next word items → AreChains next more back → AreChains next (cond b more (word ∷ more)) (items ++ back)
front_chains next word more items back true is chain rest =
    let none = none_taken next word items chain (eqb-true word 0 is) in
    subst (AreChains next more) (sym (ap (λ (l : List ℕ). l ++ back) none)) rest
front_chains next word more items back false is chain rest = (items, back, refl, chain, rest)

front_full : (word : ℕ) (more : List ℕ) (b : Bool) → eqb word 0 ≡ b → NoneEmpty more → NoneEmpty (cond b more (word ∷ more))
front_full word more true is h = h
front_full word more false is h = ((let no = eqb-false word 0 is in omega arith), h)

no_open_event : (e : ℕ) → is_open [] [] (ForEvent e) ≡ false → ⊥
no_open_event e h = cc

module _ (sizes : Sizes) (h : History) (words : List ℕ) (views : List Known) (id : ℕ) (v : Known) (stand : Stands sizes h words views) (at : get_elem? views id ≡ some v) (is_home : owns (numbers_of v) home ≡ true) (no_hand : v.stage.hand ≡ None) where
  abbrev head_now : ℕ
  head_now = slice_index words head_at

  head_scan : (views' : List Known) → ((P : Phase → Type 0) → SomeSeat P views → SomeSeat P views') → IsScan (scan_of head_now v.stage h) h words views'
  head_scan views' more =
      let now = stand.lists.out id v at is_home in
      let out : AreChains (next_in words) v.stage.slices (out_of h) = subst (λ o. IsOut (next_in words) v.stage.slices o (out_of h)) no_hand now.0 in
      record {
        leads = front_chains (next_in words) head_now v.stage.slices (stack_of h) (out_of h) (eqb head_now 0) refl stand.lists.stack out;
        full = front_full head_now v.stage.slices (eqb head_now 0) refl now.1;
        pushed = λ i there. listed_was_put sizes h stand.legal i there;
        covered = covered;
      }
    where
      covered : AreCovered (stack_of h ++ out_of h) [] h words views'
      covered (ForIndex i) urgent closed =
          let announced = unlisted_is_announced sizes h stand.legal i (urgent_is_pending i h urgent) closed in
          inl (some_mono (λ p. push_of p ≡ ForIndex i) (λ p. store_of p ≡ ForIndex i) views' (push_stores i) (more (λ p. push_of p ≡ ForIndex i) (stand.sleep.pushers i announced)))
      covered (ForEvent e) set_now closed = absurd cc
      covered ForNothing wanted closed = absurd cc

pub scan_head_allowed : {J : Type 0} (number : J → ℕ) (sizes : Sizes) (slots id : ℕ) (me : Me (Option J) Known) → 0 < me.0.count → owns (numbers_of me.0) home ≡ true → is_running me.0.sleep ≡ true → me.0.stage.hand ≡ None → Allows (Kept number sizes) slots id me head_at (λ n. n) (scan_begun (step slots head_at 0 0 none) me)
scan_head_allowed number sizes slots id me numbered is_home running no_hand s kept long at fits_word =
    let h = kept.0 in
    let stand = kept.1 in
    let v = me.0 in
    let found = slice_index s.words head_at in
    let w = after_scan_head v h found in
    let table = stand.seats.tables id v at in
    let scan = head_scan sizes h s.words s.views id v stand at is_home no_hand (set s.views id w) (λ P one. some_set P s.views id v w at (λ e. e) one) in
    let me_is : slice_index s.words notify_me_at ≡ 0 = home_me sizes h s.words s.views id v stand at is_home running in
    let sleep = sleep_home sizes h s.words s.views id v stand at is_home s.words w refl refl (stand.sleep.notified, stand.sleep.notifier) (me_is, omega arith, λ e. scan) in
    let seats = seats_learn sizes h s.views id v w stand.seats at (same_view v w refl refl refl) refl refl numbered in
    let low : found ≤ index_count v.sizes = subst (λ z. found ≤ index_count z) (sym (table.sizes_are numbered)) (chain_word_below (next_in s.words) found (index_count sizes) (stack_of h) stand.lists.stack (stack_below sizes h stand.legal)) in
    let told : BeginsScan found v w = record {
      learns = learns_of sizes h v w (stand.seats.parts.each id v at) table numbered refl stand.legal;
      below = low;
      left = chains_empty (next_in s.words) (without_first found v.stage.slices) (stack_of h ++ out_of h) scan.leads scan.full;
      rest = refl;
    } in
    (w, keeps, tt, (h, subst (λ ws. Stands sizes h ws (set s.views id w)) (sym (loaded_words s.words head_at)) (view_stands sizes h s.words s.views id v w stand seats (stand.lists.owed id v at) (stand.lists.out id v at) sleep), slots_kept number sizes h h s.homes s.views id me.0 w kept.2 at refl (λ m low. (same_entry h (sizes.handles + m), same_hand (sizes.handles + m) me.0.stage w.stage refl refl))), (refl, told))

-- The next load.

abbrev pub lifted_scan : Scan → ℕ → ℕ → List ℕ → Scan
lifted_scan scan i found more =
    record scan { stage = record { slices = without_first found more; hand = Some i; job = None } }

abbrev pub after_scan_next : Known → Scan → ℕ → ℕ → List ℕ → Known
after_scan_next v scan i found more =
    record v { did = done ScanNextLoad (next_at i) found ∷ v.did; sleep = Scanning (made_after v) (lifted_scan scan i found more) }

pub made_same : (m n : ℕ) (s t : Scan) → Scanning m s ≡ Scanning n t → s ≡ t
made_same m n s t e = cc

first_is : (i j : ℕ) (more others : List ℕ) → (i + 1) ∷ more ≡ (j + 1) ∷ others → i ≡ j
first_is i j more others e = let firsts : i + 1 ≡ j + 1 = cc in omega arith

rest_is : (i j : ℕ) (more others : List ℕ) → (i + 1) ∷ more ≡ (j + 1) ∷ others → more ≡ others
rest_is i j more others e = cc

pub scan_next_allowed : {J : Type 0} (number : J → ℕ) (sizes : Sizes) (slots id made i : ℕ) (more : List ℕ) (scan : Scan) (me : Me (Option J) Known) → 0 < me.0.count → owns (numbers_of me.0) home ≡ true → me.0.sleep ≡ Scanning made scan → made ≡ length me.0.did → scan.stage.slices ≡ (i + 1) ∷ more → scan.stage.hand ≡ None → Allows (Kept number sizes) slots id me (next_at i) (λ n. n) (scan_lifted (step slots (next_at i) 0 0 none) me)
scan_next_allowed number sizes slots id made i more scan me numbered is_home asleep fresh slices hand s kept long at fits_word =
    let h = kept.0 in
    let stand = kept.1 in
    let v = me.0 in
    let found = next_in s.words i in
    let w = after_scan_next v scan i found more in
    let was = home_sleeps sizes h s.words s.views id v stand at is_home (Scanning made scan) asleep in
    let old : IsScan scan h s.words s.views = was.2 fresh in
    let out : IsOut (next_in s.words) ((i + 1) ∷ more) None scan.left = subst (λ o. IsOut (next_in s.words) ((i + 1) ∷ more) o scan.left) hand (subst (λ l. IsOut (next_in s.words) l scan.stage.hand scan.left) slices old.leads) in
    let full : NoneEmpty ((i + 1) ∷ more) = subst NoneEmpty slices old.full in
    let new : IsScan (lifted_scan scan i found more) h s.words (set s.views id w) = record {
      leads = out_lifted (next_in s.words) i more scan.left out;
      full = none_empty-lifted (next_in s.words) i more full.1;
      pushed = old.pushed;
      covered = covered_still sizes h s.words s.views id v stand at is_home s.words w scan.left scan.watched refl refl old.covered;
    } in
    let sleep = sleep_home sizes h s.words s.views id v stand at is_home s.words w refl refl (stand.sleep.notified, stand.sleep.notifier) (was.0, omega arith, λ e. new) in
    let seats = seats_keep sizes h s.views id v w stand.seats at (same_view v w refl refl refl) refl refl numbered in
    let low : found ≤ index_count v.sizes = subst (λ z. found ≤ index_count z) (sym ((stand.seats.tables id v at).sizes_are numbered)) (lifted_word_below (next_in s.words) i (index_count sizes) more scan.left out (each_among (λ j. j < index_count sizes) scan.left (λ j there. put_is_below sizes h stand.legal j (old.pushed j there)))) in
    let told : ScansNext i found more scan v w = record { below = low; rest = refl } in (
      w,
      keeps,
      tt,
      (h, subst (λ ws. Stands sizes h ws (set s.views id w)) (sym (loaded_words s.words (next_at i))) (view_stands sizes h s.words s.views id v w stand seats (stand.lists.owed id v at) (stand.lists.out id v at) sleep), slots_kept number sizes h h s.homes s.views id me.0 w kept.2 at refl (λ m low. (same_entry h (sizes.handles + m), same_hand (sizes.handles + m) me.0.stage w.stage refl refl))),
      (
        refl,
        λ made' j others scan' asleep' eq.
            let same : scan ≡ scan' = made_same made made' scan scan' (sym asleep ∙ asleep') in
            let both : (i + 1) ∷ more ≡ (j + 1) ∷ others = sym slices ∙ ap (λ (x : Scan). x.stage.slices) same ∙ eq in
            let index : i ≡ j = first_is i j more others both in
            let rest : more ≡ others = rest_is i j more others both in
            subst (λ x. ScansNext j found others x v w) same (subst (λ k. ScansNext k found others scan v w) index (subst (λ l. ScansNext i found l scan v w) rest told)),
      ),
    )

-- The flags load.

abbrev pub passed_scan : Scan → Scan
passed_scan scan =
    record scan { stage = record scan.stage { hand = None }; left = drop 1 scan.left }

abbrev pub after_scan_flags : Known → History → Scan → ℕ → Known
after_scan_flags v h scan i =
    let flags = flags_of i h in
    record v { seen = h; did = done ScanFlagsLoad (flags_at i) (word_of flags) ∷ v.did; sleep = after_flags flags (made_after v) scan }

among_first_or : (j i : ℕ) (rest : List ℕ) → j ≢ i → is_among j rest ≡ false → is_among j (i ∷ rest) ≡ false
among_first_or j i rest ne e = let other : eqb j i ≡ false = ne_eqb j i ne in rw other e

among_second : (j i : ℕ) (rest : List ℕ) → is_among j rest ≡ true → is_among j (i ∷ rest) ≡ true
among_second j i rest e = by (eqb j i) (is_among j rest) e
  where
    by : (a b : Bool) → b ≡ true → (a || b) ≡ true
    by true b e = refl
    by false b e = e

-- what was at hand is open no more, and isn't wanted
still_covered : (i : ℕ) (rest watched : List ℕ) (h : History) (words : List ℕ) (views : List Known) → is_urgent i h ≡ false → AreCovered (i ∷ rest) watched h words views → AreCovered rest watched h words views
still_covered i rest watched h words views calm covered (ForIndex j) urgent closed =
    ⊎_elim (λ (e : j ≡ i). absurd (let no : true ≡ false = sym (subst (λ k. is_urgent k h ≡ true) e urgent) ∙ calm in cc)) (λ (ne : j ≢ i). covered (ForIndex j) urgent (among_first_or j i rest ne closed)) (cases_eq j i)
still_covered i rest watched h words views calm covered (ForEvent e) set_now closed = covered (ForEvent e) set_now closed
still_covered i rest watched h words views calm covered ForNothing wanted closed = absurd cc

module _ (sizes : Sizes) (h : History) (words : List ℕ) (views : List Known) (id : ℕ) (v : Known) (made i : ℕ) (scan : Scan) (stand : Stands sizes h words views) (at : get_elem? views id ≡ some v) (is_home : owns (numbers_of v) home ≡ true) (asleep : v.sleep ≡ Scanning made scan) (fresh : made ≡ length v.did) (hand : scan.stage.hand ≡ Some i) where
  pub at_scan : (slice_index words notify_me_at ≡ 0) × IsScan scan h words views
  at_scan =
      let was = home_sleeps sizes h words views id v stand at is_home (Scanning made scan) asleep in
      (was.0, was.2 fresh)

  pub in_hand : (rest : List ℕ) × (scan.left ≡ i ∷ rest) × AreChains (next_in words) scan.stage.slices rest
  in_hand = subst (λ o. IsOut (next_in words) scan.stage.slices o scan.left) hand at_scan.1.leads

  pub hand_was_put : was_put i h ≡ true
  hand_was_put =
      at_scan.1.pushed i (subst (λ l. is_among i l ≡ true) (sym in_hand.1) (let e : eqb i i ≡ true = eq-eqb i i refl in rw e refl))

  flags_sleep : (w : Known) → w.phase ≡ v.phase → (b : Bool) → are_urgent (flags_of i h) ≡ b → Sleeps h words (set views id w) (done ScanFlagsLoad (flags_at i) (word_of (flags_of i h)) ∷ v.did) (cond b Running (Scanning (made_after v) (passed_scan scan)))
  flags_sleep w phase true urgent = at_scan.0
  flags_sleep w phase false calm = (
    at_scan.0,
    omega arith,
    λ e. record {
      leads = subst (λ l. AreChains (next_in words) scan.stage.slices (drop 1 l)) (sym in_hand.1) in_hand.2;
      full = at_scan.1.full;
      pushed = λ j there. at_scan.1.pushed j (subst (λ l. is_among j l ≡ true) (sym in_hand.1) (among_second j i in_hand.0 (subst (λ l. is_among j (drop 1 l) ≡ true) in_hand.1 there)));
      covered = covered_still sizes h words views id v stand at is_home words w (drop 1 scan.left) scan.watched phase refl (subst (λ l. AreCovered (drop 1 l) scan.watched h words views) (sym in_hand.1) (still_covered i in_hand.0 scan.watched h words views calm (subst (λ l. AreCovered l scan.watched h words views) in_hand.1 at_scan.1.covered)));
    },
  )

pub scan_flags_allowed : {J : Type 0} (number : J → ℕ) (sizes : Sizes) (slots id made i : ℕ) (scan : Scan) (me : Me (Option J) Known) → 0 < me.0.count → owns (numbers_of me.0) home ≡ true → me.0.sleep ≡ Scanning made scan → made ≡ length me.0.did → scan.stage.hand ≡ Some i → Allows (Kept number sizes) slots id me (flags_at i) (λ n. n) (flags_scanned (step slots (flags_at i) 0 0 none) me)
scan_flags_allowed number sizes slots id made i scan me numbered is_home asleep fresh hand s kept long at fits_word =
    let h = kept.0 in
    let stand = kept.1 in
    let v = me.0 in
    let flags = flags_of i h in
    let w = after_scan_flags v h scan i in
    let table = stand.seats.tables id v at in
    let held = in_hand sizes h s.words s.views id v made i scan stand at is_home asleep fresh hand in
    let put = hand_was_put sizes h s.words s.views id v made i scan stand at is_home asleep fresh hand in
    let scanned = at_scan sizes h s.words s.views id v made i scan stand at is_home asleep fresh hand in
    let pending = (fits sizes h i stand.legal).enqueued put in
    let found : slice_index s.words (flags_at i) ≡ word_of flags = flags_again sizes h s.words i stand.flags (pending_below sizes h i stand.legal pending) ((fits sizes h i stand.legal).alive pending) in
    let sleep = sleep_home sizes h s.words s.views id v stand at is_home s.words w refl refl (stand.sleep.notified, stand.sleep.notifier) (flags_sleep sizes h s.words s.views id v made i scan stand at is_home asleep fresh hand w refl (are_urgent flags) refl) in
    let seats = seats_learn sizes h s.views id v w stand.seats at (same_view v w refl refl refl) refl refl numbered in
    let left_is : scan.left ≡ i ∷ drop 1 scan.left = held.1 ∙ ap (λ (l : List ℕ). i ∷ drop 1 l) (sym held.1) in
    let left : is_empty scan.stage.slices ≡ is_empty (drop 1 scan.left) = chains_empty (next_in s.words) scan.stage.slices (drop 1 scan.left) (subst (λ l. AreChains (next_in s.words) scan.stage.slices (drop 1 l)) (sym held.1) held.2) scanned.1.full in
    let scans : ScansFlags i flags scan v w = record { learns = learns_of sizes h v w (stand.seats.parts.each id v at) table numbered refl stand.legal; were = refl; was_left = left_is; left = left; rest = refl } in
    let told : FlagsAreScanned i (slice_index s.words (flags_at i)) scan v w = record { flags = flags; found_is = found; scans = scans } in (
      w,
      keeps,
      tt,
      (h, subst (λ ws. Stands sizes h ws (set s.views id w)) (sym (loaded_words s.words (flags_at i))) (view_stands sizes h s.words s.views id v w stand seats (stand.lists.owed id v at) (stand.lists.out id v at) sleep), slots_kept number sizes h h s.homes s.views id me.0 w kept.2 at refl (λ m low. (same_entry h (sizes.handles + m), same_hand (sizes.handles + m) me.0.stage w.stage refl refl))),
      (
        refl,
        λ made' j scan' asleep' eq.
            let same : scan ≡ scan' = made_same made made' scan scan' (sym asleep ∙ asleep') in
            let index : i ≡ j = same_some i j (sym hand ∙ ap (λ (x : Scan). x.stage.hand) same ∙ eq) in
            subst (λ x. FlagsAreScanned j (slice_index s.words (flags_at i)) x v w) same (subst (λ k. FlagsAreScanned k (slice_index s.words (flags_at i)) scan v w) index told),
      ),
    )
  where
    same_some : (a b : ℕ) → Some a ≡ Some b → a ≡ b
    same_some a b e = cc
