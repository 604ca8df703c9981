-- The steps that make no entry and pass no baton: who store, head load, next store, a lost head compare, hand-off load, a lost
-- hand-off compare, and the second look.
use Rattle.std.proofs.Common.{◌≡◌, ◌≢◌, ℕ, ◌<◌, true, false, List, [], ◌∷◌, ◌++◌, reverse, slice_index, set, length, length-set, refl, sym, ap, ◌∙◌, subst, arith, zero, suc}
use mathlib.Core.Option.{Option as Opt, some, some-injective, some-ne-none}
use lib.ListN.{get_elem?}
use Rattle.atomic_table.proofs.Lists.{set_here, set_else}
use Rattle.aio_chain.proofs.Chains.{none_taken}
use Rattle.aio_model.specs.Lock.History.{LockEntry, IsWaitingIn, owner_of, waiters_of}
use Rattle.co_mutex.specs.Places.{PassPlace, AtRest, Counted, Named, HeadLoaded, Linked, Pushed, Loaded, Queued, SelfGranted, Holds, OnDuty, Published, Found, is_before_push, StillLooks}
use Rattle.co_mutex.specs.LockWords.{locked_at, handoff_at, head_at, next_at, grant_at, who_at, next_in}
use Rattle.co_mutex.specs.declared.slot.Slot.{Slot}
use Rattle.co_mutex.specs.Rule.{Baton, Offered, owner_in, Fit, one_if, ListIs, Stands}
use Rattle.co_mutex.proofs.Counting.{count_some}
use Rattle.co_mutex.proofs.Frames.{read_here, read_else}
use Rattle.co_mutex.proofs.Quiet.{Touches, quiet_stands}

pub at_low : {A : Type 0} (l : List A) (i : ℕ) (a : A) → get_elem? l i ≡ some a → i < length l
at_low [] i a e = absurd (some-ne-none a (sym e))
at_low (x ∷ xs) zero a e = omega arith
at_low (x ∷ xs) (suc i) a e = let rest = at_low xs i a e in omega (arith, rest)

pub no_touch : {T : Type 0} (h : List (LockEntry T)) (words : List ℕ) (p : ℕ) → Touches h words words p
no_touch h words p =
    record { long = refl; grants = λ q. refl; next = λ q ne. refl; who = λ q ne. refl; own = λ w. (refl, refl) }

pub looks_before : (handoff : ℕ) (place : PassPlace) → is_before_push place ≡ true → StillLooks handoff place
looks_before handoff AtRest e = absurd cc
looks_before handoff Counted e = tt
looks_before handoff (Named co) e = tt
looks_before handoff (HeadLoaded co found) e = tt
looks_before handoff (Linked co found) e = tt
looks_before handoff Pushed e = absurd cc
looks_before handoff (Loaded n) e = absurd cc
looks_before handoff Queued e = absurd cc
looks_before handoff SelfGranted e = absurd cc
looks_before handoff Holds e = absurd cc
looks_before handoff (OnDuty side task) e = absurd cc
looks_before handoff (Published n) e = absurd cc
looks_before handoff (Found n) e = absurd cc

module _ {T : Type 0} (n : ℕ) (built : T) (h : List (LockEntry T)) (words : List ℕ) (homes : List (Opt (Slot T))) (places : List PassPlace) (b : Baton) (stack : List ℕ) (s : Stands n built h words homes places b stack) (p : ℕ) where
  who_touches : (co : ℕ) → ¬ (IsWaitingIn p (waiters_of h)) → Touches h words (set words (who_at p) co) p
  who_touches co apart =
      record {
        long = length-set words (who_at p) co;
        grants = λ q. read_else words (who_at p) (grant_at q) co (λ e. omega arith);
        next = λ q ne. read_else words (who_at p) (next_at q) co (λ e. omega arith);
        who = λ q ne. read_else words (who_at p) (who_at q) co (λ e. ne (omega arith));
        own = λ w. absurd (apart w);
      }

  next_touches : (to : ℕ) → ¬ (IsWaitingIn p (waiters_of h)) → Touches h words (set words (next_at p) to) p
  next_touches to apart =
      record {
        long = length-set words (next_at p) to;
        grants = λ q. read_else words (next_at p) (grant_at q) to (λ e. omega arith);
        next = λ q ne. read_else words (next_at p) (next_at q) to (λ e. ne (omega arith));
        who = λ q ne. read_else words (next_at p) (who_at q) to (λ e. omega arith);
        own = λ w. absurd (apart w);
      }

  pub itself : (handoff : ℕ) (old new : PassPlace) → get_elem? places p ≡ some old → StillLooks handoff new → (q : ℕ) × (place : PassPlace) × (get_elem? (set places p new) q ≡ some place) × StillLooks handoff place
  itself handoff old new at looks = (p, new, set_here places p new (at_low places p old at), looks)

  pub who_stored : (co : ℕ) → get_elem? places p ≡ some Counted → Stands n built h (set words (who_at p) co) homes (set places p (Named co)) b stack
  who_stored co at =
      let is = s.baton_stands.each p Counted at in
      let low = at_low places p Counted at in
      let long = s.long in
      let each = s.each in
      let fits : who_at p < length words = omega (arith, low, long, each) in
      quiet_stands n built h words (set words (who_at p) co) homes places b stack p Counted (Named co) s at (record { touches = who_touches co is.0; head = read_else words (who_at p) head_at co (λ q. omega arith); locked = read_else words (who_at p) locked_at co (λ q. omega arith); handoff = read_else words (who_at p) handoff_at co (λ q. omega arith); line = refl; before = refl; held = refl; holds = refl; duty = refl; is_at = λ k. k; linked = tt; named = read_here words (who_at p) co fits; numbered = tt; looker = λ o l. itself _ Counted (Named co) at tt })

  pub head_loaded : (co : ℕ) → get_elem? places p ≡ some (Named co) → Stands n built h words homes (set places p (HeadLoaded co (slice_index words head_at))) b stack
  head_loaded co at =
      quiet_stands n built h words words homes places b stack p (Named co) (HeadLoaded co (slice_index words head_at)) s at (record { touches = no_touch h words p; head = refl; locked = refl; handoff = refl; line = refl; before = refl; held = refl; holds = refl; duty = refl; is_at = λ k. k; linked = tt; named = s.names.each p (Named co) at; numbered = tt; looker = λ o l. itself _ (Named co) _ at tt })

  pub next_stored : (co found : ℕ) → get_elem? places p ≡ some (HeadLoaded co found) → Stands n built h (set words (next_at p) found) homes (set places p (Linked co found)) b stack
  next_stored co found at =
      let is = s.baton_stands.each p (HeadLoaded co found) at in
      let low = at_low places p (HeadLoaded co found) at in
      let long = s.long in
      let each = s.each in
      let fits : next_at p < length words = omega (arith, low, long, each) in
      let who = read_else words (next_at p) (who_at p) found (λ e. omega arith) in
      quiet_stands n built h words (set words (next_at p) found) homes places b stack p (HeadLoaded co found) (Linked co found) s at (record { touches = next_touches found is.0; head = read_else words (next_at p) head_at found (λ q. omega arith); locked = read_else words (next_at p) locked_at found (λ q. omega arith); handoff = read_else words (next_at p) handoff_at found (λ q. omega arith); line = refl; before = refl; held = refl; holds = refl; duty = refl; is_at = λ k. k; linked = read_here words (next_at p) found fits; named = who ∙ s.names.each p (HeadLoaded co found) at; numbered = tt; looker = λ o l. itself _ (HeadLoaded co found) _ at tt })

  pub push_lost : (co found : ℕ) → get_elem? places p ≡ some (Linked co found) → Stands n built h words homes (set places p (Named co)) b stack
  push_lost co found at =
      quiet_stands n built h words words homes places b stack p (Linked co found) (Named co) s at (record { touches = no_touch h words p; head = refl; locked = refl; handoff = refl; line = refl; before = refl; held = refl; holds = refl; duty = refl; is_at = λ k. k; linked = tt; named = s.names.each p (Linked co found) at; numbered = tt; looker = λ o l. itself _ (Linked co found) _ at tt })

  offered_handoff : b ≡ Offered → slice_index words handoff_at ≢ 0
  offered_handoff o = (subst (λ k. Fit k (slice_index words locked_at) (slice_index words handoff_at)) o s.baton_stands.fit).1

  pub none_offered : get_elem? places p ≡ some Pushed → slice_index words handoff_at ≡ 0 → Stands n built h words homes (set places p Queued) b stack
  none_offered at zero_there =
      quiet_stands n built h words words homes places b stack p Pushed Queued s at (record { touches = no_touch h words p; head = refl; locked = refl; handoff = refl; line = refl; before = refl; held = refl; holds = refl; duty = refl; is_at = λ k. k; linked = tt; named = tt; numbered = tt; looker = λ o l. absurd (offered_handoff o zero_there) })

  pub one_offered : get_elem? places p ≡ some Pushed → slice_index words handoff_at ≢ 0 → Stands n built h words homes (set places p (Loaded (slice_index words handoff_at))) b stack
  one_offered at there =
      quiet_stands n built h words words homes places b stack p Pushed (Loaded (slice_index words handoff_at)) s at (record { touches = no_touch h words p; head = refl; locked = refl; handoff = refl; line = refl; before = refl; held = refl; holds = refl; duty = refl; is_at = λ k. k; linked = tt; named = tt; numbered = there; looker = λ o l. itself _ Pushed _ at refl })

  pub lock_lost : (k : ℕ) → get_elem? places p ≡ some (Loaded k) → slice_index words handoff_at ≢ k → Stands n built h words homes (set places p Queued) b stack
  lock_lost k at other =
      quiet_stands n built h words words homes places b stack p (Loaded k) Queued s at (record { touches = no_touch h words p; head = refl; locked = refl; handoff = refl; line = refl; before = refl; held = refl; holds = refl; duty = refl; is_at = λ k. k; linked = tt; named = tt; numbered = tt; looker = λ o l. absurd (other (sym l)) })

  pub unlock_lost : (k : ℕ) → get_elem? places p ≡ some (Found k) → slice_index words handoff_at ≢ k → Stands n built h words homes (set places p AtRest) b stack
  unlock_lost k at other =
      quiet_stands n built h words words homes places b stack p (Found k) AtRest s at (record { touches = no_touch h words p; head = refl; locked = refl; handoff = refl; line = refl; before = refl; held = refl; holds = refl; duty = refl; is_at = λ k. k; linked = tt; named = tt; numbered = tt; looker = λ o l. absurd (other (sym l)) })

  pub look_found : (k : ℕ) → get_elem? places p ≡ some (Published k) → Stands n built h words homes (set places p (Found k)) b stack
  look_found k at =
      quiet_stands n built h words words homes places b stack p (Published k) (Found k) s at (record { touches = no_touch h words p; head = refl; locked = refl; handoff = refl; line = refl; before = refl; held = refl; holds = refl; duty = refl; is_at = λ k. k; linked = tt; named = tt; numbered = s.looks.numbered p (Published k) at; looker = λ o l. itself _ (Published k) _ at l })

  -- nobody was pushed, so somebody is counted who has still to push
  other_looks : (k : ℕ) → get_elem? places p ≡ some (Published k) → slice_index words head_at ≡ 0 → b ≡ Offered → (q : ℕ) × (place : PassPlace) × (get_elem? (set places p AtRest) q ≡ some place) × StillLooks (slice_index words handoff_at) place
  other_looks k at empty o =
      let list = subst (λ k. ListIs k h words homes places stack) o s.lists.list in
      let bare : stack ≡ [] = none_taken (next_in words) (slice_index words head_at) stack s.lists.chain empty in
      let nobody : waiters_of h ≡ [] = list.0.waiters ∙ ap (λ (l : List ℕ). l ++ reverse stack) list.1 ∙ ap reverse bare in
      let short : length (waiters_of h) ≡ 0 = ap length nobody in
      let unowned : one_if (owner_of h) ≡ 0 = ap one_if (s.baton_stands.owner ∙ ap owner_in o) in
      let low = (subst (λ k. Fit k (slice_index words locked_at) (slice_index words handoff_at)) o s.baton_stands.fit).0 in
      let parts = s.counts.parts in
      let one = count_some is_before_push places (omega (arith, low, parts, short, unowned)) in
      let ne : one.0 ≢ p = λ e. (let same : one.1 ≡ Published k = some-injective _ _ (sym one.2 ∙ ap (get_elem? places) e ∙ at) in let isnt : is_before_push one.1 ≡ false = ap is_before_push same in let yes = one.3 in cc) in
      (one.0, one.1, set_else places p one.0 AtRest ne ∙ one.2, looks_before _ one.1 one.3)

  pub look_none : (k : ℕ) → get_elem? places p ≡ some (Published k) → slice_index words head_at ≡ 0 → Stands n built h words homes (set places p AtRest) b stack
  look_none k at empty =
      quiet_stands n built h words words homes places b stack p (Published k) AtRest s at (record { touches = no_touch h words p; head = refl; locked = refl; handoff = refl; line = refl; before = refl; held = refl; holds = refl; duty = refl; is_at = λ k. k; linked = tt; named = tt; numbered = tt; looker = λ o l. other_looks k at empty o })
