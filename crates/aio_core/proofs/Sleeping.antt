-- The rule's part on sleep: what keeps it when a word, an entry or a view changes.
use Rattle.std.proofs.Common.{◌≡◌, ◌≢◌, ◌⊎◌, ℕ, zero, suc, ◌≤◌, Bool, true, false, not, ◌&&◌, ◌||◌, eqb, List, [], ◌∷◌, length, set, slice_index, inl, inr, refl, sym, ap, ◌∙◌, subst, ⊎_elim, arith}
use Rattle.std.proofs.lemmas.Bool.{cases_eq, eq-eqb}
use mathlib.Core.Option.{some, some-injective}
use lib.ListN.{get_elem?}
use Rattle.atomic_table.proofs.Lists.{set_else}
use Rattle.aio_model.specs.Loop.History.{Sizes, History}
use Rattle.aio_model.specs.Loop.Flags.{is_pending}
use Rattle.aio_model.specs.Loop.Lists.{was_put, is_announced}
use Rattle.aio_model.specs.Loop.Seats.{owns, home}
use Rattle.aio_model.specs.Loop.InFlight.{Reason, ForIndex, ForNothing, Phase, AtRest, LotClaimed, Announced, HeadLoaded, Linked, ToStore, ToLoad, ToSet, flight_of}
use Rattle.aio_chain.proofs.Chains.{Each}
use Rattle.aio_core.specs.Words.{notified_at, notify_me_at, notifier_at, next_in}
use Rattle.aio_core.specs.Known.{Done, Sleep, Running, Scanning, Armed, ToDisarm, Committed, calmed, Known, numbers_of}
use Rattle.aio_core.specs.Rule.{SeatsStand, push_of, store_of, is_wanted, SomeSeat, WillPush, is_among, AreCovered, IsSleepSafe, Sleeps, HasSleep, SleepStands}
use Rattle.table_seats.proofs.Seats.{each_set}
use Rattle.aio_core.proofs.Lists.{is_out_kept}

-- Some seat.

pub changed_here : (views : List Known) (id : ℕ) (v w : Known) → get_elem? views id ≡ some v → get_elem? (set views id w) id ≡ some w
changed_here [] id v w e = absurd cc
changed_here (x ∷ xs) zero v w e = refl
changed_here (x ∷ xs) (suc id) v w e = changed_here xs id v w e

pub some_set : (P : Phase → Type 0) (views : List Known) (id : ℕ) (v w : Known) → get_elem? views id ≡ some v → (P v.phase → P w.phase) → SomeSeat P views → SomeSeat P (set views id w)
some_set P views id v w at keeps one =
    ⊎_elim
    (λ (z : one.id ≡ id). record { id = id; known = w; at = changed_here views id v w at; is = keeps (subst (λ (u : Known). P u.phase) (some-injective _ _ (sym one.at ∙ (ap (get_elem? views) z ∙ at))) one.is) })
    (λ (z : one.id ≢ id). record { id = one.id; known = one.known; at = set_else views id one.id w z ∙ one.at; is = one.is })
    (cases_eq one.id id)

pub some_here : (P : Phase → Type 0) (views : List Known) (id : ℕ) (v w : Known) → get_elem? views id ≡ some v → P w.phase → SomeSeat P (set views id w)
some_here P views id v w at e =
    record { id = id; known = w; at = changed_here views id v w at; is = e }

pub some_mono : (P Q : Phase → Type 0) (views : List Known) → ((p : Phase) → P p → Q p) → SomeSeat P views → SomeSeat Q views
some_mono P Q views f one =
    record { id = one.id; known = one.known; at = one.at; is = f one.known.phase one.is }

-- what is wanted is something
pub something : (r : Reason) (h : History) → is_wanted r h ≡ true → ForNothing ≡ r → ⊥
something r h wanted e =
    let no : false ≡ true = subst (λ x. is_wanted x h ≡ true) (sym e) wanted in
    cc

pub no_reason : (i : ℕ) → ForNothing ≡ ForIndex i → ⊥
no_reason i e = cc

-- who is still to store is in flight
pub store_flies : (r : Reason) (h : History) (p : Phase) → is_wanted r h ≡ true → store_of p ≡ r → flight_of p ≡ r
store_flies r h AtRest wanted e = e
store_flies r h (LotClaimed i job) wanted e = e
store_flies r h (Announced i) wanted e = e
store_flies r h (HeadLoaded i found) wanted e = e
store_flies r h (Linked i found) wanted e = e
store_flies r h (ToStore reason) wanted e = e
store_flies r h (ToLoad reason) wanted e = absurd (something r h wanted e)
store_flies r h (ToSet reason) wanted e = absurd (something r h wanted e)

-- who is to push is still to store
pub push_stores : (i : ℕ) (p : Phase) → push_of p ≡ ForIndex i → store_of p ≡ ForIndex i
push_stores i AtRest e = e
push_stores i (LotClaimed j job) e = e
push_stores i (Announced j) e = e
push_stores i (HeadLoaded j found) e = e
push_stores i (Linked j found) e = e
push_stores i (ToStore reason) e = absurd cc
push_stores i (ToLoad reason) e = e
push_stores i (ToSet reason) e = e

-- Members.

in_rest : (a b : Bool) → b ≡ true → (a || b) ≡ true
in_rest true b e = refl
in_rest false b e = e

pub among_rest : (i j : ℕ) (xs : List ℕ) → is_among i xs ≡ true → is_among i (j ∷ xs) ≡ true
among_rest i j xs e = in_rest (eqb i j) (is_among i xs) e

pub among_first : (i : ℕ) (xs : List ℕ) → is_among i (i ∷ xs) ≡ true
among_first i xs = let e : eqb i i ≡ true = eq-eqb i i refl in rw e refl

pub each_among : (P : ℕ → Type 0) (xs : List ℕ) → ((i : ℕ) → is_among i xs ≡ true → P i) → Each P xs
each_among P [] h = tt
each_among P (x ∷ xs) h =
    (h x (among_first x xs), each_among P xs (λ i e. h i (among_rest i x xs e)))

-- What a step leaves of who covers and of who is in flight.

pub record Carries (h g : History) (words other : List ℕ) (v w : Known) : Type 0 where
  pub wanted : (r : Reason) → is_wanted r g ≡ true → (is_wanted r h ≡ true) ⊎ (store_of w.phase ≡ r)
  pub stores : (r : Reason) → is_wanted r g ≡ true → store_of v.phase ≡ r → store_of w.phase ≡ r
  pub flies : (r : Reason) → is_wanted r g ≡ true → flight_of v.phase ≡ r → flight_of w.phase ≡ r
  pub notified : slice_index other notified_at ≡ slice_index words notified_at
  pub notifier : slice_index other notifier_at ≡ slice_index words notifier_at

module _ (h g : History) (words other : List ℕ) (views : List Known) (id : ℕ) (v w : Known) (at : get_elem? views id ≡ some v) (carries : Carries h g words other v w) where
  pub covered_carried : (left watched : List ℕ) → AreCovered left watched h words views → AreCovered left watched g other (set views id w)
  covered_carried left watched covered r wanted closed =
      ⊎_elim
      (λ (old : is_wanted r h ≡ true). ⊎_elim (λ s. inl (some_set (λ p. store_of p ≡ r) views id v w at (carries.stores r wanted) s)) (λ n. inr (carries.notified ∙ n)) (covered r old closed))
      (λ (new : store_of w.phase ≡ r). inl (some_here (λ p. store_of p ≡ r) views id v w at new))
      (carries.wanted r wanted)

  pub safe_carried : (watched : List ℕ) → IsSleepSafe watched h words views → IsSleepSafe watched g other (set views id w)
  safe_carried watched safe r wanted closed =
      ⊎_elim
      (λ (old : is_wanted r h ≡ true). ⊎_elim (λ s. inl (some_set (λ p. flight_of p ≡ r) views id v w at (carries.flies r wanted) s)) (λ n. inr (carries.notifier ∙ n)) (safe r old closed))
      (λ (new : store_of w.phase ≡ r). inl (some_here (λ p. flight_of p ≡ r) views id v w at (store_flies r g w.phase wanted new)))
      (carries.wanted r wanted)

-- The home's facts.

module _ (h g : History) (words other : List ℕ) (views after : List Known) (same_me : slice_index other notify_me_at ≡ slice_index words notify_me_at) (safe : slice_index words notify_me_at ≡ 2 → (watched : List ℕ) → IsSleepSafe watched h words views → IsSleepSafe watched g other after) where
  -- the home's own step ends what it had found
  pub sleeps_own : (step : Done) (did : List Done) (t : Sleep) → Sleeps h words views did t → Sleeps g other after (step ∷ did) t
  sleeps_own step did Running s = same_me ∙ s
  sleeps_own step did (Scanning made scan) s =
      let low : made ≤ length did = s.1 in
      (same_me ∙ s.0, omega arith, λ (e : made ≡ suc (length did)). absurd (omega arith))
  sleeps_own step did (Armed made watched) s =
      let low : made ≤ length did = s.1 in
      (same_me ∙ s.0, omega arith, λ (e : made ≡ suc (length did)). absurd (omega arith))
  sleeps_own step did ToDisarm s = same_me ∙ s
  sleeps_own step did (Committed watched) s = (same_me ∙ s.0, safe s.0 watched s.1)

  -- another's step leaves it
  pub sleeps_beside : ((left watched : List ℕ) → AreCovered left watched h words views → AreCovered left watched g other after) → ((j : ℕ) → was_put j h ≡ true → (was_put j g ≡ true) × (next_in other j ≡ next_in words j)) → (did : List Done) (t : Sleep) → Sleeps h words views did t → Sleeps g other after did t
  sleeps_beside covers lefts did Running s = same_me ∙ s
  sleeps_beside covers lefts did (Scanning made scan) s = (
    same_me ∙ s.0,
    s.1,
    λ e. let old = s.2 e in record {
      leads = is_out_kept (next_in words) (next_in other) scan.stage.slices scan.stage.hand scan.left old.leads (each_among (λ j. next_in other j ≡ next_in words j) scan.left (λ j among. (lefts j (old.pushed j among)).1));
      full = old.full;
      pushed = λ j among. (lefts j (old.pushed j among)).0;
      covered = covers scan.left scan.watched old.covered;
    },
  )
  sleeps_beside covers lefts did (Armed made watched) s =
      (same_me ∙ s.0, s.1, λ e. covers [] watched (s.2 e))
  sleeps_beside covers lefts did ToDisarm s = same_me ∙ s
  sleeps_beside covers lefts did (Committed watched) s =
      (same_me ∙ s.0, safe s.0 watched s.1)

-- The part.

-- from what it says of the home's view, after its own step and after another's
pub sleep_after : (sizes : Sizes) (h g : History) (words other : List ℕ) (views : List Known) (id : ℕ) (v w : Known) → SeatsStand sizes h views → get_elem? views id ≡ some v → numbers_of w ≡ numbers_of v → SleepStands h words views → (slice_index other notified_at ≤ 1) × (slice_index other notifier_at ≤ 1) → ((i : ℕ) → is_announced i g ≡ true → WillPush i (set views id w)) → (owns (numbers_of v) home ≡ true → Sleeps h words views v.did v.sleep → Sleeps g other (set views id w) w.did w.sleep) → (owns (numbers_of v) home ≡ false → (did : List Done) (t : Sleep) → Sleeps h words views did t → Sleeps g other (set views id w) did t) → SleepStands g other (set views id w)
sleep_after sizes h g words other views id v w seats at numbers stand bits pushers own beside =
    record {
      notified = bits.0;
      notifier = bits.1;
      pushers = pushers;
      home = each_set (HasSleep h words views) (HasSleep g other (set views id w)) views id w stand.home
          (λ is_home. let mine : owns (numbers_of v) home ≡ true = subst (λ n. owns n home ≡ true) numbers is_home in own mine (stand.home id v at mine))
          (λ far u ne atu has is_home. beside (seats.parts.apart far id u v atu at ne home is_home) u.did u.sleep (has is_home));
    }

-- what a step leaves of who is to push
abbrev pub PushesKept : History → History → Known → Known → Type 0
PushesKept h g v w =
    (i : ℕ) → is_announced i g ≡ true → (push_of w.phase ≡ ForIndex i) ⊎ ((is_announced i h ≡ true) × (push_of v.phase ≡ ForIndex i → push_of w.phase ≡ ForIndex i))

pub pushers_kept : (h g : History) (words : List ℕ) (views : List Known) (id : ℕ) (v w : Known) → get_elem? views id ≡ some v → SleepStands h words views → PushesKept h g v w → (i : ℕ) → is_announced i g ≡ true → WillPush i (set views id w)
pushers_kept h g words views id v w at stand kept i announced =
    ⊎_elim (λ (new : push_of w.phase ≡ ForIndex i). some_here (λ p. push_of p ≡ ForIndex i) views id v w at new) (λ (old : (is_announced i h ≡ true) × (push_of v.phase ≡ ForIndex i → push_of w.phase ≡ ForIndex i)). some_set (λ p. push_of p ≡ ForIndex i) views id v w at old.1 (stand.pushers i old.0)) (kept i announced)

-- a step that leaves `notified`, `notify_me` and the notifier
pub sleep_kept : (sizes : Sizes) (h g : History) (words other : List ℕ) (views : List Known) (id : ℕ) (v w : Known) (step : Done) → SeatsStand sizes h views → get_elem? views id ≡ some v → numbers_of w ≡ numbers_of v → w.did ≡ step ∷ v.did → w.sleep ≡ v.sleep → SleepStands h words views → Carries h g words other v w → slice_index other notify_me_at ≡ slice_index words notify_me_at → PushesKept h g v w → (owns (numbers_of v) home ≡ false → (j : ℕ) → was_put j h ≡ true → (was_put j g ≡ true) × (next_in other j ≡ next_in words j)) → SleepStands g other (set views id w)
sleep_kept sizes h g words other views id v w step seats at numbers longer same stand carries same_me pushes lefts =
    sleep_after sizes h g words other views id v w seats at numbers stand
    (subst (λ n. n ≤ 1) (sym carries.notified) stand.notified, subst (λ n. n ≤ 1) (sym carries.notifier) stand.notifier)
    (pushers_kept h g words views id v w at stand pushes)
    (λ is_home s. subst (λ t. Sleeps g other (set views id w) w.did t) (sym same) (subst (λ d. Sleeps g other (set views id w) d v.sleep) (sym longer) (sleeps_own h g words other views (set views id w) same_me (λ two. safe_carried h g words other views id v w at carries) step v.did v.sleep s)))
    (λ not_home. sleeps_beside h g words other views (set views id w) same_me (λ two. safe_carried h g words other views id v w at carries) (covered_carried h g words other views id v w at carries) (lefts not_home))

-- phases of one flight
pub record SameFlight (p q : Phase) : Type 0 where
  pub pushes : push_of q ≡ push_of p
  pub stores : store_of q ≡ store_of p
  pub flies : flight_of q ≡ flight_of p

pub same_flight : (p q : Phase) → q ≡ p → SameFlight p q
same_flight p q e = record { pushes = ap push_of e; stores = ap store_of e; flies = ap flight_of e }

-- a step that makes no entry and leaves the three words
pub sleep_still : (sizes : Sizes) (h : History) (words other : List ℕ) (views : List Known) (id : ℕ) (v w : Known) (step : Done) → SeatsStand sizes h views → get_elem? views id ≡ some v → numbers_of w ≡ numbers_of v → w.did ≡ step ∷ v.did → w.sleep ≡ v.sleep → SleepStands h words views → SameFlight v.phase w.phase → (slice_index other notified_at ≡ slice_index words notified_at) × (slice_index other notify_me_at ≡ slice_index words notify_me_at) × (slice_index other notifier_at ≡ slice_index words notifier_at) → ((j : ℕ) → was_put j h ≡ true → next_in other j ≡ next_in words j) → SleepStands h other (set views id w)
sleep_still sizes h words other views id v w step seats at numbers longer same stand flight three next =
    sleep_kept sizes h h words other views id v w step seats at numbers longer same stand (record { wanted = λ r is. inl is; stores = λ r is e. flight.stores ∙ e; flies = λ r is e. flight.flies ∙ e; notified = three.0; notifier = three.2 }) three.1 (λ i announced. inr (announced, λ e. flight.pushes ∙ e)) (λ no j put. (put, next j put))

-- what a step that makes no entry and is on no way to sleep makes of a view
pub record IsStill (v w : Known) : Type 0 where
  pub step : Done
  pub longer : w.did ≡ step ∷ v.did
  pub sleep_is : w.sleep ≡ v.sleep
  pub flight : SameFlight v.phase w.phase

pub flight_by : (p q r : Phase) → p ≡ q → SameFlight q r → SameFlight p r
flight_by p q r e flight = subst (λ x. SameFlight x r) (sym e) flight

put_or_not : (p w : Bool) → (p && not w) ≡ true → w ≡ true → ⊥
put_or_not true true a b = cc
put_or_not true false a b = cc
put_or_not false w a b = cc

-- what is announced wasn't pushed
pub put_not_announced : (i : ℕ) (h : History) → is_announced i h ≡ true → was_put i h ≡ true → ⊥
put_not_announced i h = put_or_not (is_pending i h) (was_put i h)

-- Views that are other than before, with each seat that was under way there still.

module _ (h : History) (words : List ℕ) (views after : List Known) (more : (P : Phase → Type 0) → (P AtRest → ⊥) → SomeSeat P views → SomeSeat P after) where
  pub sleeps_more : (did : List Done) (t : Sleep) → Sleeps h words views did t → Sleeps h words after did t
  sleeps_more did t =
      sleeps_beside h h words words views after refl
      (λ two watched safe r wanted closed. ⊎_elim (λ s. inl (more (λ p. flight_of p ≡ r) (something r h wanted) s)) (λ n. inr n) (safe r wanted closed))
      (λ left watched covered r wanted closed. ⊎_elim (λ s. inl (more (λ p. store_of p ≡ r) (something r h wanted) s)) (λ n. inr n) (covered r wanted closed))
      (λ j put. (put, refl)) did t

  -- what a scan or an arm found is over
  pub sleeps_calmed : (did other : List Done) (t : Sleep) → Sleeps h words views did t → Sleeps h words after other (calmed t)
  sleeps_calmed did other Running s = s
  sleeps_calmed did other (Scanning made scan) s = s.0
  sleeps_calmed did other (Armed made watched) s = s.0
  sleeps_calmed did other ToDisarm s = s
  sleeps_calmed did other (Committed watched) s = sleeps_more did (Committed watched) s

  pub pushers_more : SleepStands h words views → (i : ℕ) → is_announced i h ≡ true → WillPush i after
  pushers_more stand i announced =
      more (λ p. push_of p ≡ ForIndex i) (no_reason i) (stand.pushers i announced)
