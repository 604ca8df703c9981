-- The three steps of a notify keep the rule.
use Rattle.std.proofs.Common.{◌+◌, Option, ◌≡◌, ℕ, ◌<◌, ◌≤◌, Bool, true, false, cond, eqb, List, ◌∷◌, set, slice_index, inl, inr, refl, sym, ap, ◌∙◌, subst, ⊎_elim, arith}
use Rattle.std.proofs.lemmas.Bool.{ne_eqb}
use mathlib.Core.Option.{some, none}
use lib.ListN.{get_elem?, length-set}
use Rattle.atomic_table.specs.Table.{Me, keeps, step, Allows}
use Rattle.aio_model.specs.Loop.History.{Sizes, History}
use Rattle.aio_model.specs.Loop.Lists.{stack_of, out_of}
use Rattle.aio_model.specs.Loop.Seats.{owns, home}
use Rattle.aio_model.specs.Loop.InFlight.{Reason, ForIndex, ForNothing, Phase, AtRest, LotClaimed, Announced, HeadLoaded, Linked, ToStore, ToLoad, ToSet, flight_of}
use Rattle.aio_chain.specs.Chains.{IsChain}
use Rattle.aio_chain.proofs.Chains.{chain_kept}
use Rattle.aio_core.specs.Words.{head_at, notified_at, notify_me_at, notifier_at, next_at, next_in}
use Rattle.aio_core.specs.Known.{NotifiedStore, NotifyMeLoad, NotifierSwap, Known, numbers_of}
use Rattle.aio_core.specs.Rule.{Owes, HasOut, push_of, store_of, AreCovered, IsSleepSafe, SleepStands, Stands, Kept, IsOut, NoneEmpty}
use Rattle.aio_core.specs.Standing.{may_notify, done, after_load, StoresNotified, LoadsNotifyMe, SetsNotifier}
use Rattle.aio_core.specs.Plays.{notified_stored, notify_me_loaded, notifier_set}
use Rattle.aio_core.proofs.Slots.{same_entry, same_hand, slots_kept}
use Rattle.aio_core.proofs.Seats.{IsSame, seats_keep, same_view}
use Rattle.aio_core.proofs.Flags.{events_apart, read_here, read_else, flags_apart}
use Rattle.aio_core.proofs.Lists.{each_all, owes_kept, has_out_kept, lists_after}
use Rattle.aio_core.proofs.Keeping.{loaded_words}
use Rattle.aio_core.proofs.Sleeping.{something, no_reason, some_set, sleep_after, sleeps_own, sleeps_beside, pushers_kept}

-- a step on one of the words 1, 2 and 3 leaves all parts but that on sleep
pub word_stands : (sizes : Sizes) (h : History) (words : List ℕ) (views : List Known) (id k x : ℕ) (v w : Known) → Stands sizes h words views → get_elem? views id ≡ some v → 0 < v.count → IsSame v w → w.seen ≡ v.seen → w.mine ≡ v.mine → w.stage ≡ v.stage → 0 < k → k < 4 → Owes sizes words h w.first w.phase → SleepStands h (set words k x) (set views id w) → Stands sizes h (set words k x) (set views id w)
word_stands sizes h words views id k x v w stand at numbered same seen mine stage low high owes sleep =
    let words' = set words k x in
    let same_next : (j : ℕ) → next_in words' j ≡ next_in words j = λ j. read_else words k (next_at j) x (λ q. omega arith) in
    let top : slice_index words' head_at ≡ slice_index words head_at = read_else words k head_at x (λ q. omega arith) in
    record {
      long = length-set words k x ∙ stand.long;
      legal = stand.legal;
      seats = seats_keep sizes h views id v w stand.seats at same seen mine numbered;
      flags = flags_apart sizes h h words k x stand.flags (λ j q. omega arith) (λ j. refl);
      lists = lists_after sizes h h words words' views id w stand.lists
          (subst (λ t. IsChain (next_in words') t (stack_of h)) (sym top) (chain_kept (next_in words) (next_in words') (slice_index words head_at) (stack_of h) stand.lists.stack (each_all _ (stack_of h) same_next)))
          (owes_kept sizes words words' h h w.first w.phase (λ j busy owed. (owed, same_next j)) (λ j job busy c. c) owes)
          (λ beside u ne atu. owes_kept sizes words words' h h u.first u.phase (λ j busy owed. (owed, same_next j)) (λ j job busy c. c))
          (stage_same (has_out_kept words words' h h v refl (each_all _ (out_of h) same_next) (stand.lists.out id v at)))
          (λ beside u ne atu. has_out_kept words words' h h u refl (each_all _ (out_of h) same_next));
      events = events_apart h h words k x stand.events (λ e below q. omega arith) (λ e. refl);
      sleep = sleep;
    }
  where
    stage_same : HasOut (set words k x) h v → HasOut (set words k x) h w
    stage_same has own =
        let own' : owns (numbers_of v) home ≡ true = subst (λ n. owns n home ≡ true) same.part.numbers_are own in
        subst (λ t. IsOut (next_in (set words k x)) t.slices t.hand (out_of h) × NoneEmpty t.slices) (sym stage) (has own')

abbrev pub reason_of : Phase → Reason
reason_of AtRest = ForNothing
reason_of (LotClaimed i job) = ForNothing
reason_of (Announced i) = ForIndex i
reason_of (HeadLoaded i found) = ForIndex i
reason_of (Linked i found) = ForIndex i
reason_of (ToStore reason) = reason
reason_of (ToLoad reason) = reason
reason_of (ToSet reason) = reason

-- The store.

no_push : (p : Phase) → may_notify p ≡ true → push_of p ≡ ForNothing
no_push AtRest e = refl
no_push (LotClaimed i job) e = absurd cc
no_push (Announced i) e = absurd cc
no_push (HeadLoaded i found) e = absurd cc
no_push (Linked i found) e = absurd cc
no_push (ToStore reason) e = refl
no_push (ToLoad reason) e = absurd cc
no_push (ToSet reason) e = absurd cc

abbrev pub after_store : Known → Reason → Known
after_store v reason =
    record v { did = done NotifiedStore notified_at 1 ∷ v.did; phase = ToLoad reason }

module _ (sizes : Sizes) (h : History) (words : List ℕ) (views : List Known) (id : ℕ) (v : Known) (reason : Reason) where
  store_sleep : Stands sizes h words views → get_elem? views id ≡ some v → may_notify v.phase ≡ true → reason ≡ flight_of v.phase → SleepStands h (set words notified_at 1) (set views id (after_store v reason))
  store_sleep stand at ready is =
      let w = after_store v reason in
      let words' = set words notified_at 1 in
      let views' = set views id w in
      let count = stand.long in
      let now : slice_index words' notified_at ≡ 1 = read_here words notified_at 1 (omega arith) in
      let me : slice_index words' notify_me_at ≡ slice_index words notify_me_at = read_else words notified_at notify_me_at 1 (λ q. omega arith) in
      let bell : slice_index words' notifier_at ≡ slice_index words notifier_at = read_else words notified_at notifier_at 1 (λ q. omega arith) in
      let next : (j : ℕ) → next_in words' j ≡ next_in words j = λ j. read_else words notified_at (next_at j) 1 (λ q. omega arith) in
      let safe : slice_index words notify_me_at ≡ 2 → (watched : List ℕ) → IsSleepSafe watched h words views → IsSleepSafe watched h words' views' = λ two watched safe r wanted closed. ⊎_elim (λ s. inl (some_set (λ p. flight_of p ≡ r) views id v w at (λ e. is ∙ e) s)) (λ n. inr (bell ∙ n)) (safe r wanted closed) in
      sleep_after sizes h h words words' views id v w stand.seats at refl stand.sleep
      (let one = now in omega arith, subst (λ n. n ≤ 1) (sym bell) stand.sleep.notifier)
      (pushers_kept h h words views id v w at stand.sleep (λ i announced. inr (announced, λ e. absurd (no_reason i (sym (no_push v.phase ready) ∙ e)))))
      (λ is_home s. sleeps_own h h words words' views views' me safe (done NotifiedStore notified_at 1) v.did v.sleep s)
      (λ not_home. sleeps_beside h h words words' views views' me safe (λ left watched covered r wanted closed. inr now) (λ j put. (put, next j)))

pub notified_store_allowed : {J : Type 0} (number : J → ℕ) (sizes : Sizes) (slots id : ℕ) (me : Me (Option J) Known) → 0 < me.0.count → may_notify me.0.phase ≡ true → Allows (Kept number sizes) slots id me notified_at (λ _. 1) (λ _. notified_stored (step slots notified_at 1 0 none) me 1)
notified_store_allowed number sizes slots id me numbered ready s kept long at fits =
    let reason = flight_of me.0.phase in
    let h = kept.0 in
    let stand = kept.1 in
    let v = me.0 in
    let w = after_store v reason in
    let told : StoresNotified reason v w = record { rest = refl } in
    (w, keeps, tt, (h, word_stands sizes h s.words s.views id notified_at 1 v w stand at numbered (same_view v w refl refl refl) refl refl refl (omega arith) (omega arith) tt (store_sleep sizes h s.words s.views id v reason stand at ready refl), slots_kept number sizes h h s.homes s.views id me.0 w kept.2 at refl (λ m low. (same_entry h (sizes.handles + m), same_hand (sizes.handles + m) me.0.stage w.stage refl refl))), (refl, λ _. told))

-- The load.

abbrev pub after_me_load : Known → Reason → ℕ → Known
after_me_load v reason found =
    record v { did = done NotifyMeLoad notify_me_at found ∷ v.did; phase = after_load reason found }

-- a home that is about to sleep is told
goes_on_flying : (reason r : Reason) (found : ℕ) → found ≡ 2 → reason ≡ r → flight_of (after_load reason found) ≡ r
goes_on_flying reason r found two e =
    let no : eqb found 0 ≡ false = ne_eqb found 0 (λ q. omega arith) in
    rw no e

module _ (sizes : Sizes) (h : History) (words : List ℕ) (views : List Known) (id : ℕ) (v : Known) (reason : Reason) where
  abbrev found_me : ℕ
  found_me = slice_index words notify_me_at

  load_sleep : Stands sizes h words views → get_elem? views id ≡ some v → v.phase ≡ ToLoad reason → SleepStands h words (set views id (after_me_load v reason found_me))
  load_sleep stand at phase =
      let w = after_me_load v reason found_me in
      let views' = set views id w in
      let safe : found_me ≡ 2 → (watched : List ℕ) → IsSleepSafe watched h words views → IsSleepSafe watched h words views' = λ two watched safe r wanted closed. ⊎_elim (λ s. inl (some_set (λ p. flight_of p ≡ r) views id v w at (λ e. goes_on_flying reason r found_me two (sym (ap flight_of phase) ∙ e)) s)) (λ n. inr n) (safe r wanted closed) in
      let covered : (left watched : List ℕ) → AreCovered left watched h words views → AreCovered left watched h words views' = λ left watched covered r wanted closed. ⊎_elim (λ s. inl (some_set (λ p. store_of p ≡ r) views id v w at (λ e. absurd (something r h wanted (sym (ap store_of phase) ∙ e))) s)) (λ n. inr n) (covered r wanted closed) in
      sleep_after sizes h h words words views id v w stand.seats at refl stand.sleep
      (stand.sleep.notified, stand.sleep.notifier)
      (pushers_kept h h words views id v w at stand.sleep (λ i announced. inr (announced, λ e. absurd (no_reason i (sym (ap push_of phase) ∙ e)))))
      (λ is_home s. sleeps_own h h words words views views' refl safe (done NotifyMeLoad notify_me_at found_me) v.did v.sleep s)
      (λ not_home. sleeps_beside h h words words views views' refl safe covered (λ j put. (put, refl)))

owes_nothing : (sizes : Sizes) (words : List ℕ) (h : History) (n : ℕ) (reason : Reason) (b : Bool) → Owes sizes words h n (cond b AtRest (ToSet reason))
owes_nothing sizes words h n reason true = tt
owes_nothing sizes words h n reason false = tt

pub notify_me_load_allowed : {J : Type 0} (number : J → ℕ) (sizes : Sizes) (slots id : ℕ) (reason : Reason) (me : Me (Option J) Known) → 0 < me.0.count → me.0.phase ≡ ToLoad reason → Allows (Kept number sizes) slots id me notify_me_at (λ n. n) (notify_me_loaded (step slots notify_me_at 0 0 none) me)
notify_me_load_allowed number sizes slots id reason me numbered phase s kept long at fits =
    let h = kept.0 in
    let stand = kept.1 in
    let v = me.0 in
    let found = slice_index s.words notify_me_at in
    let w = after_me_load v reason found in
    let told : LoadsNotifyMe reason found v w = record { rest = refl } in
    let sleep = load_sleep sizes h s.words s.views id v reason stand at phase in
    (w, keeps, tt, (h, word_stands sizes h s.words s.views id notify_me_at found v w stand at numbered (same_view v w refl refl refl) refl refl refl (omega arith) (omega arith) (owes_nothing sizes s.words h v.first reason (eqb found 0)) (subst (λ ws. SleepStands h ws (set s.views id w)) (sym (loaded_words s.words notify_me_at)) sleep), slots_kept number sizes h h s.homes s.views id me.0 w kept.2 at refl (λ m low. (same_entry h (sizes.handles + m), same_hand (sizes.handles + m) me.0.stage w.stage refl refl))), (refl, λ other is. let same : reason ≡ other = ap reason_of (sym phase ∙ is) in subst (λ r. LoadsNotifyMe r found v w) same told))

-- The swap.

abbrev pub after_set : Known → ℕ → Known
after_set v found = record v { did = done NotifierSwap notifier_at found ∷ v.did; phase = AtRest }

module _ (sizes : Sizes) (h : History) (words : List ℕ) (views : List Known) (id : ℕ) (v : Known) (reason : Reason) where
  abbrev found_bell : ℕ
  found_bell = slice_index words notifier_at

  set_sleep : Stands sizes h words views → get_elem? views id ≡ some v → v.phase ≡ ToSet reason → SleepStands h (set words notifier_at 1) (set views id (after_set v found_bell))
  set_sleep stand at phase =
      let w = after_set v found_bell in
      let words' = set words notifier_at 1 in
      let views' = set views id w in
      let count = stand.long in
      let now : slice_index words' notifier_at ≡ 1 = read_here words notifier_at 1 (omega arith) in
      let me : slice_index words' notify_me_at ≡ slice_index words notify_me_at = read_else words notifier_at notify_me_at 1 (λ q. omega arith) in
      let mark : slice_index words' notified_at ≡ slice_index words notified_at = read_else words notifier_at notified_at 1 (λ q. omega arith) in
      let next : (j : ℕ) → next_in words' j ≡ next_in words j = λ j. read_else words notifier_at (next_at j) 1 (λ q. omega arith) in
      let safe : slice_index words notify_me_at ≡ 2 → (watched : List ℕ) → IsSleepSafe watched h words views → IsSleepSafe watched h words' views' = λ two watched safe r wanted closed. inr now in
      let covered : (left watched : List ℕ) → AreCovered left watched h words views → AreCovered left watched h words' views' = λ left watched covered r wanted closed. ⊎_elim (λ s. inl (some_set (λ p. store_of p ≡ r) views id v w at (λ e. absurd (something r h wanted (sym (ap store_of phase) ∙ e))) s)) (λ n. inr (mark ∙ n)) (covered r wanted closed) in
      sleep_after sizes h h words words' views id v w stand.seats at refl stand.sleep
      (subst (λ n. n ≤ 1) (sym mark) stand.sleep.notified, let one = now in omega arith)
      (pushers_kept h h words views id v w at stand.sleep (λ i announced. inr (announced, λ e. absurd (no_reason i (sym (ap push_of phase) ∙ e)))))
      (λ is_home s. sleeps_own h h words words' views views' me safe (done NotifierSwap notifier_at found_bell) v.did v.sleep s)
      (λ not_home. sleeps_beside h h words words' views views' me safe covered (λ j put. (put, next j)))

pub notifier_set_allowed : {J : Type 0} (number : J → ℕ) (sizes : Sizes) (slots id : ℕ) (reason : Reason) (me : Me (Option J) Known) → 0 < me.0.count → me.0.phase ≡ ToSet reason → Allows (Kept number sizes) slots id me notifier_at (λ _. 1) (notifier_set (step slots notifier_at 1 0 none) me)
notifier_set_allowed number sizes slots id reason me numbered phase s kept long at fits =
    let h = kept.0 in
    let stand = kept.1 in
    let v = me.0 in
    let found = slice_index s.words notifier_at in
    let w = after_set v found in
    let told : SetsNotifier found v w = record { rest = refl } in
    (w, keeps, tt, (h, word_stands sizes h s.words s.views id notifier_at 1 v w stand at numbered (same_view v w refl refl refl) refl refl refl (omega arith) (omega arith) tt (set_sleep sizes h s.words s.views id v reason stand at phase), slots_kept number sizes h h s.homes s.views id me.0 w kept.2 at refl (λ m low. (same_entry h (sizes.handles + m), same_hand (sizes.handles + m) me.0.stage w.stage refl refl))), (refl, told))
