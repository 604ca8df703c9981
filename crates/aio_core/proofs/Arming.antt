-- The other steps of a home on its way to sleep and back keep the rule: arm, test, disarm, accept.
use Rattle.std.proofs.Common.{◌≡◌, ℕ, ◌+◌, ◌-◌, ◌%◌, ◌^◌, ◌<◌, ◌≤◌, Bool, true, false, cond, eqb, Option, List, [], ◌∷◌, length, set, slice_index, inl, refl, sym, ap, ◌∙◌, subst, ⊎_elim, arith}
use Rattle.std.proofs.lemmas.Bool.{eqb-true}
use mathlib.Core.Option.{some, none}
use lib.ListN.{get_elem?}
use Rattle.atomic_table.specs.Table.{Me, keeps, step, Allows}
use Rattle.aio_model.specs.Loop.History.{Sizes, History}
use Rattle.aio_model.specs.Loop.Seats.{owns, home}
use Rattle.aio_model.specs.Loop.InFlight.{flight_of}
use Rattle.aio_core.specs.Words.{notified_at, notify_me_at, notifier_at, next_in}
use Rattle.aio_core.specs.Known.{Done, ArmFetchAdd, TestLoad, DisarmFetchSub, AcceptStore, NotifierClearSwap, Stage, empty_stage, Scan, Sleep, Running, Scanning, Armed, ToDisarm, Committed, is_running, Known, numbers_of}
use Rattle.aio_core.specs.Rule.{IsOut, store_of, AreCovered, IsScan, Sleeps, Stands, Kept}
use Rattle.aio_core.specs.Standing.{done}
use Rattle.aio_core.specs.SleepSteps.{is_to_disarm, made_after, Arms, after_test, Tests, Disarms, ClearsNotifier, Accepts}
use Rattle.aio_core.specs.Plays.{armed, tested, disarmed, notifier_cleared, accepted}
use Rattle.aio_core.proofs.Slots.{same_entry, same_hand, slots_kept}
use Rattle.aio_core.proofs.Seats.{seats_keep, same_view}
use Rattle.aio_core.proofs.Flags.{read_here, read_else}
use Rattle.aio_core.proofs.Keeping.{loaded_words, view_stands}
use Rattle.aio_core.proofs.Sleeping.{some_set, some_mono, store_flies, sleeps_own}
use Rattle.aio_core.proofs.Notifying.{word_stands}
use Rattle.aio_core.proofs.Scanning.{running_me, home_sleeps, sleep_home, covered_still, made_same}

-- The arm.

abbrev pub after_arm : Known → List ℕ → ℕ → Known
after_arm v watched found =
    record v { did = done ArmFetchAdd notify_me_at found ∷ v.did; sleep = Armed (made_after v) watched }

pub arm_allowed : {J : Type 0} (number : J → ℕ) (sizes : Sizes) (slots id made : ℕ) (scan : Scan) (me : Me (Option J) Known) → 0 < me.0.count → owns (numbers_of me.0) home ≡ true → me.0.sleep ≡ Scanning made scan → made ≡ length me.0.did → scan.stage ≡ empty_stage → Allows (Kept number sizes) slots id me notify_me_at (λ n. (n + 2) % 2 ^ 64) (armed (step slots notify_me_at 2 0 none) me)
arm_allowed number sizes slots id made scan me numbered is_home asleep fresh over s kept long at fits_word =
    let h = kept.0 in
    let stand = kept.1 in
    let v = me.0 in
    let found = slice_index s.words notify_me_at in
    let w = after_arm v scan.watched found in
    let words' = set s.words notify_me_at 2 in
    let count = stand.long in
    let was = home_sleeps sizes h s.words s.views id v stand at is_home (Scanning made scan) asleep in
    let old : IsScan scan h s.words s.views = was.2 fresh in
    let none_left : scan.left ≡ [] = subst (λ (t : Stage). IsOut (next_in s.words) t.slices t.hand scan.left) over old.leads in
    let new : (found + 2) % 2 ^ 64 ≡ 2 = ap (λ n. (n + 2) % 2 ^ 64) was.0 in
    let now : slice_index words' notify_me_at ≡ 2 = read_here s.words notify_me_at 2 (omega arith) in
    let mark : slice_index words' notified_at ≡ slice_index s.words notified_at = read_else s.words notify_me_at notified_at 2 (λ q. omega arith) in
    let bell : slice_index words' notifier_at ≡ slice_index s.words notifier_at = read_else s.words notify_me_at notifier_at 2 (λ q. omega arith) in
    let covered = covered_still sizes h s.words s.views id v stand at is_home words' w [] scan.watched refl mark (subst (λ l. AreCovered l scan.watched h s.words s.views) none_left old.covered) in
    let sleep = sleep_home sizes h s.words s.views id v stand at is_home words' w refl refl (subst (λ n. n ≤ 1) (sym mark) stand.sleep.notified, subst (λ n. n ≤ 1) (sym bell) stand.sleep.notifier) (now, omega arith, λ e. covered) in
    let told : Arms scan.watched found v w = record { rest = refl } in (
      w,
      keeps,
      tt,
      (h, subst (λ n. Stands sizes h (set s.words notify_me_at n) (set s.views id w)) (sym new) (word_stands sizes h s.words s.views id notify_me_at 2 v w stand at numbered (same_view v w refl refl refl) refl refl refl (omega arith) (omega arith) (stand.lists.owed id v at) sleep), slots_kept number sizes h h s.homes s.views id me.0 w kept.2 at refl (λ m low. (same_entry h (sizes.handles + m), same_hand (sizes.handles + m) me.0.stage w.stage refl refl))),
      (
        refl,
        λ made' scan' asleep'.
            let same : scan ≡ scan' = made_same made made' scan scan' (sym asleep ∙ asleep') in
            subst (λ (x : Scan). Arms x.watched found v w) same told,
      ),
    )

-- The test.

abbrev pub after_testing : Known → List ℕ → ℕ → Known
after_testing v watched found =
    record v { did = done TestLoad notified_at found ∷ v.did; sleep = after_test found watched }

armed_same : (m n : ℕ) (a b : List ℕ) → Armed m a ≡ Armed n b → a ≡ b
armed_same m n a b e = cc

module _ (sizes : Sizes) (h : History) (words : List ℕ) (views : List Known) (id : ℕ) (v : Known) (made : ℕ) (watched : List ℕ) (stand : Stands sizes h words views) (at : get_elem? views id ≡ some v) (is_home : owns (numbers_of v) home ≡ true) (asleep : v.sleep ≡ Armed made watched) (fresh : made ≡ length v.did) where
  abbrev mark_now : ℕ
  mark_now = slice_index words notified_at

  test_sleep : (w : Known) (did : List Done) → w.phase ≡ v.phase → (b : Bool) → eqb mark_now 0 ≡ b → Sleeps h words (set views id w) did (cond b (Committed watched) ToDisarm)
  test_sleep w did phase true zero_found =
      let was = home_sleeps sizes h words views id v stand at is_home (Armed made watched) asleep in
      let none_stored : mark_now ≡ 0 = eqb-true mark_now 0 zero_found in
      (was.0, λ r wanted closed. ⊎_elim (λ s. inl (some_set (λ p. flight_of p ≡ r) views id v w at (λ e. ap flight_of phase ∙ e) (some_mono (λ p. store_of p ≡ r) (λ p. flight_of p ≡ r) views (λ p. store_flies r h p wanted) s))) (λ n. absurd (omega arith)) (was.2 fresh r wanted closed))
  test_sleep w did phase false found =
      (home_sleeps sizes h words views id v stand at is_home (Armed made watched) asleep).0

pub test_allowed : {J : Type 0} (number : J → ℕ) (sizes : Sizes) (slots id made : ℕ) (watched : List ℕ) (me : Me (Option J) Known) → 0 < me.0.count → owns (numbers_of me.0) home ≡ true → me.0.sleep ≡ Armed made watched → made ≡ length me.0.did → Allows (Kept number sizes) slots id me notified_at (λ n. n) (tested (step slots notified_at 0 0 none) me)
test_allowed number sizes slots id made watched me numbered is_home asleep fresh s kept long at fits_word =
    let h = kept.0 in
    let stand = kept.1 in
    let v = me.0 in
    let found = slice_index s.words notified_at in
    let w = after_testing v watched found in
    let sleep = sleep_home sizes h s.words s.views id v stand at is_home s.words w refl refl (stand.sleep.notified, stand.sleep.notifier) (test_sleep sizes h s.words s.views id v made watched stand at is_home asleep fresh w w.did refl (eqb found 0) refl) in
    let seats = seats_keep sizes h s.views id v w stand.seats at (same_view v w refl refl refl) refl refl numbered in
    let told : Tests watched found v w = record { bit = stand.sleep.notified; rest = refl } in (
      w,
      keeps,
      tt,
      (h, subst (λ ws. Stands sizes h ws (set s.views id w)) (sym (loaded_words s.words notified_at)) (view_stands sizes h s.words s.views id v w stand seats (stand.lists.owed id v at) (stand.lists.out id v at) sleep), slots_kept number sizes h h s.homes s.views id me.0 w kept.2 at refl (λ m low. (same_entry h (sizes.handles + m), same_hand (sizes.handles + m) me.0.stage w.stage refl refl))),
      (
        refl,
        λ made' watched' asleep'.
            let same : watched ≡ watched' = armed_same made made' watched watched' (sym asleep ∙ asleep') in
            subst (λ x. Tests x found v w) same told,
      ),
    )

-- The disarm.

armed_me : (h : History) (words : List ℕ) (views : List Known) (did : List Done) (t : Sleep) → is_to_disarm t ≡ true → Sleeps h words views did t → slice_index words notify_me_at ≡ 2
armed_me h words views did Running e s = absurd cc
armed_me h words views did (Scanning made scan) e s = absurd cc
armed_me h words views did (Armed made watched) e s = absurd cc
armed_me h words views did ToDisarm e s = s
armed_me h words views did (Committed watched) e s = s.0

abbrev pub after_disarm : Known → ℕ → Known
after_disarm v found =
    record v { did = done DisarmFetchSub notify_me_at found ∷ v.did; sleep = Running }

pub disarm_allowed : {J : Type 0} (number : J → ℕ) (sizes : Sizes) (slots id : ℕ) (me : Me (Option J) Known) → 0 < me.0.count → owns (numbers_of me.0) home ≡ true → is_to_disarm me.0.sleep ≡ true → Allows (Kept number sizes) slots id me notify_me_at (λ n. (n + (2 ^ 64 - 2)) % 2 ^ 64) (disarmed (step slots notify_me_at 2 0 none) me)
disarm_allowed number sizes slots id me numbered is_home due s kept long at fits_word =
    let h = kept.0 in
    let stand = kept.1 in
    let v = me.0 in
    let found = slice_index s.words notify_me_at in
    let w = after_disarm v found in
    let words' = set s.words notify_me_at 0 in
    let count = stand.long in
    let two : found ≡ 2 = armed_me h s.words s.views v.did v.sleep due (stand.sleep.home id v at is_home) in
    let new : (found + (2 ^ 64 - 2)) % 2 ^ 64 ≡ 0 = ap (λ n. (n + (2 ^ 64 - 2)) % 2 ^ 64) two in
    let now : slice_index words' notify_me_at ≡ 0 = read_here s.words notify_me_at 0 (omega arith) in
    let mark : slice_index words' notified_at ≡ slice_index s.words notified_at = read_else s.words notify_me_at notified_at 0 (λ q. omega arith) in
    let bell : slice_index words' notifier_at ≡ slice_index s.words notifier_at = read_else s.words notify_me_at notifier_at 0 (λ q. omega arith) in
    let sleep = sleep_home sizes h s.words s.views id v stand at is_home words' w refl refl (subst (λ n. n ≤ 1) (sym mark) stand.sleep.notified, subst (λ n. n ≤ 1) (sym bell) stand.sleep.notifier) now in
    let told : Disarms found v w = record { rest = refl } in
    (w, keeps, tt, (h, subst (λ n. Stands sizes h (set s.words notify_me_at n) (set s.views id w)) (sym new) (word_stands sizes h s.words s.views id notify_me_at 0 v w stand at numbered (same_view v w refl refl refl) refl refl refl (omega arith) (omega arith) (stand.lists.owed id v at) sleep), slots_kept number sizes h h s.homes s.views id me.0 w kept.2 at refl (λ m low. (same_entry h (sizes.handles + m), same_hand (sizes.handles + m) me.0.stage w.stage refl refl))), (refl, told))

-- Accepting: a running home clears the notifier, and then `notified`.

-- what a running home keeps, where `notify_me` stays
running_sleeps : (h : History) (words other : List ℕ) (views after : List Known) (step : Done) (did : List Done) (t : Sleep) → is_running t ≡ true → slice_index other notify_me_at ≡ slice_index words notify_me_at → Sleeps h words views did t → Sleeps h other after (step ∷ did) t
running_sleeps h words other views after step did t running same s =
    sleeps_own h h words other views after same (λ two watched safe r wanted closed. absurd (let none = running_me h words views did t running s in omega arith)) step did t s

abbrev pub after_notifier_clear : Known → ℕ → Known
after_notifier_clear v found = record v { did = done NotifierClearSwap notifier_at found ∷ v.did }

pub notifier_clear_allowed : {J : Type 0} (number : J → ℕ) (sizes : Sizes) (slots id : ℕ) (me : Me (Option J) Known) → 0 < me.0.count → owns (numbers_of me.0) home ≡ true → is_running me.0.sleep ≡ true → Allows (Kept number sizes) slots id me notifier_at (λ _. 0) (notifier_cleared (step slots notifier_at 0 0 none) me)
notifier_clear_allowed number sizes slots id me numbered is_home running s kept long at fits_word =
    let h = kept.0 in
    let stand = kept.1 in
    let v = me.0 in
    let found = slice_index s.words notifier_at in
    let w = after_notifier_clear v found in
    let words' = set s.words notifier_at 0 in
    let count = stand.long in
    let now : slice_index words' notifier_at ≡ 0 = read_here s.words notifier_at 0 (omega arith) in
    let mark : slice_index words' notified_at ≡ slice_index s.words notified_at = read_else s.words notifier_at notified_at 0 (λ q. omega arith) in
    let same : slice_index words' notify_me_at ≡ slice_index s.words notify_me_at = read_else s.words notifier_at notify_me_at 0 (λ q. omega arith) in
    let sleep = sleep_home sizes h s.words s.views id v stand at is_home words' w refl refl (subst (λ n. n ≤ 1) (sym mark) stand.sleep.notified, omega arith) (running_sleeps h s.words words' s.views (set s.views id w) (done NotifierClearSwap notifier_at found) v.did v.sleep running same (stand.sleep.home id v at is_home)) in
    let told : ClearsNotifier found v w = record { bit = stand.sleep.notifier; rest = refl } in
    (w, keeps, tt, (h, word_stands sizes h s.words s.views id notifier_at 0 v w stand at numbered (same_view v w refl refl refl) refl refl refl (omega arith) (omega arith) (stand.lists.owed id v at) sleep, slots_kept number sizes h h s.homes s.views id me.0 w kept.2 at refl (λ m low. (same_entry h (sizes.handles + m), same_hand (sizes.handles + m) me.0.stage w.stage refl refl))), (refl, told))

abbrev pub after_accept : Known → Known
after_accept v = record v { did = done AcceptStore notified_at 0 ∷ v.did }

pub accept_allowed : {J : Type 0} (number : J → ℕ) (sizes : Sizes) (slots id : ℕ) (me : Me (Option J) Known) → 0 < me.0.count → owns (numbers_of me.0) home ≡ true → is_running me.0.sleep ≡ true → Allows (Kept number sizes) slots id me notified_at (λ _. 0) (λ _. accepted (step slots notified_at 0 0 none) me 0)
accept_allowed number sizes slots id me numbered is_home running s kept long at fits_word =
    let h = kept.0 in
    let stand = kept.1 in
    let v = me.0 in
    let w = after_accept v in
    let words' = set s.words notified_at 0 in
    let count = stand.long in
    let now : slice_index words' notified_at ≡ 0 = read_here s.words notified_at 0 (omega arith) in
    let bell : slice_index words' notifier_at ≡ slice_index s.words notifier_at = read_else s.words notified_at notifier_at 0 (λ q. omega arith) in
    let same : slice_index words' notify_me_at ≡ slice_index s.words notify_me_at = read_else s.words notified_at notify_me_at 0 (λ q. omega arith) in
    let sleep = sleep_home sizes h s.words s.views id v stand at is_home words' w refl refl (omega arith, subst (λ n. n ≤ 1) (sym bell) stand.sleep.notifier) (running_sleeps h s.words words' s.views (set s.views id w) (done AcceptStore notified_at 0) v.did v.sleep running same (stand.sleep.home id v at is_home)) in
    let told : Accepts v w = record { rest = refl } in
    (w, keeps, tt, (h, word_stands sizes h s.words s.views id notified_at 0 v w stand at numbered (same_view v w refl refl refl) refl refl refl (omega arith) (omega arith) (stand.lists.owed id v at) sleep, slots_kept number sizes h h s.homes s.views id me.0 w kept.2 at refl (λ m low. (same_entry h (sizes.handles + m), same_hand (sizes.handles + m) me.0.stage w.stage refl refl))), (refl, told))
