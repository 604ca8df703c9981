-- The loop of an unlock: it has the duty and the popped list, and has made no entry since the release.
use Rattle.std.proofs.Common.{◌≡◌, ◌≢◌, ℕ, ◌<◌, Bool, true, false, eqb, MatchBool, Some, None, List, [], ◌∷◌, ◌++◌, refl, sym, ap, ◌∙◌, subst, append_assoc}
use Rattle.std.proofs.lemmas.Bool.{eq-eqb, ne_eqb}
use Rattle.co_mutex.specs.declared.slot.Slot.{Slot}
use Rattle.co_mutex.specs.declared.slot.Slot.TheVariants.{Waiters, Out}
use Rattle.co_mutex.specs.declared.lock.CoMutex.{CoMutex}
use Rattle.co_mutex.specs.declared.lock.Pass.{Pass}
use Rattle.co_state.specs.declared.cx.CoId.{CoId}
use Rattle.aio_model.specs.Lock.History.{LockEntry, Release, Grant, IsLegalLock}
use Rattle.co_mutex.specs.Lists.{Each}
use Rattle.co_mutex.specs.PoppedList.{PoppedList}
use Rattle.co_mutex.specs.LockWords.{locked_at, head_at, grant_at, who_at}
use Rattle.co_mutex.specs.Places.{Unlocking, ToPop, PassPlace, AtRest, OnDuty, side_of}
use Rattle.co_mutex.specs.Rule.{Popped}
use Rattle.co_mutex.specs.Known.{Kind, LockedFetchSub, HeadSwap, WhoLoad, GrantStore, Done, Known, makes, moves, advances, GoesOn}
use Rattle.co_mutex.specs.Plays.{done, LeftAlone, LeftOthers}
use Rattle.co_mutex.specs.Passes.{IsOf, known, carried}
use Rattle.co_mutex.specs.Waking.{AllOfKinds, looks_for, walks, Granted, Offered, WalkedPasses}
use Rattle.co_mutex.specs.Calls.{wakes, Comes, Names, co_id_word, UnlockSteps}
use Rattle.co_mutex.proofs.Calls.{stands_one, stands_more}
use Rattle.co_mutex.proofs.Codes.{M}
use Rattle.co_mutex.proofs.WakeOne.{all_append}
use Rattle.co_mutex.proofs.Finishing.{all_wider}

from_looks : (k : Kind) → looks_for k ≡ true → wakes k ≡ true
from_looks Rattle.co_mutex.specs.Known.LockedCompare e = absurd cc
from_looks Rattle.co_mutex.specs.Known.LockedFetchAdd e = absurd cc
from_looks Rattle.co_mutex.specs.Known.LockedFetchSub e = absurd cc
from_looks Rattle.co_mutex.specs.Known.WhoStore e = absurd cc
from_looks Rattle.co_mutex.specs.Known.HeadLoad e = absurd cc
from_looks Rattle.co_mutex.specs.Known.NextStore e = absurd cc
from_looks Rattle.co_mutex.specs.Known.HeadCompare e = absurd cc
from_looks Rattle.co_mutex.specs.Known.HeadSwap e = refl
from_looks Rattle.co_mutex.specs.Known.NextLoad e = refl
from_looks Rattle.co_mutex.specs.Known.WhoLoad e = absurd cc
from_looks Rattle.co_mutex.specs.Known.GrantStore e = absurd cc
from_looks Rattle.co_mutex.specs.Known.GrantSwap e = absurd cc
from_looks Rattle.co_mutex.specs.Known.HandoffLoad e = absurd cc
from_looks Rattle.co_mutex.specs.Known.HandoffStore e = refl
from_looks Rattle.co_mutex.specs.Known.HandoffCompare e = refl
from_looks Rattle.co_mutex.specs.Known.SecondLook e = refl

from_walks : (k : Kind) → walks k ≡ true → looks_for k ≡ true
from_walks Rattle.co_mutex.specs.Known.LockedCompare e = absurd cc
from_walks Rattle.co_mutex.specs.Known.LockedFetchAdd e = absurd cc
from_walks Rattle.co_mutex.specs.Known.LockedFetchSub e = absurd cc
from_walks Rattle.co_mutex.specs.Known.WhoStore e = absurd cc
from_walks Rattle.co_mutex.specs.Known.HeadLoad e = absurd cc
from_walks Rattle.co_mutex.specs.Known.NextStore e = absurd cc
from_walks Rattle.co_mutex.specs.Known.HeadCompare e = absurd cc
from_walks Rattle.co_mutex.specs.Known.HeadSwap e = refl
from_walks Rattle.co_mutex.specs.Known.NextLoad e = refl
from_walks Rattle.co_mutex.specs.Known.WhoLoad e = absurd cc
from_walks Rattle.co_mutex.specs.Known.GrantStore e = absurd cc
from_walks Rattle.co_mutex.specs.Known.GrantSwap e = absurd cc
from_walks Rattle.co_mutex.specs.Known.HandoffLoad e = absurd cc
from_walks Rattle.co_mutex.specs.Known.HandoffStore e = absurd cc
from_walks Rattle.co_mutex.specs.Known.HandoffCompare e = absurd cc
from_walks Rattle.co_mutex.specs.Known.SecondLook e = absurd cc

module _ {T : Type 0} where
  pub list_of : (list other : PoppedList) → ◌≡◌ {A = List (ℕ × Slot T)} ((1, Waiters list) ∷ []) ((1, Waiters other) ∷ []) → list ≡ other
  list_of list other e = same_list list other (ap (λ (l : List (ℕ × Slot T)). (Rattle.std.proofs.Common.get_or l 0 (1, Waiters list)).1) e)
    where
      same_list : (list other : PoppedList) → ◌≡◌ {A = Slot T} (Waiters list) (Waiters other) → list ≡ other
      same_list list other e = cc

  abbrev pub SubTold : T → Known T → ℕ → M T → Type 0
  SubTold x v found after = MatchBool (eqb found 1) (LeftAlone x found v after) (LeftOthers x found v after)

  pub left_others : (x : T) (v : Known T) (after : M T) (found : ℕ) → SubTold x v found after → found ≢ 1 → LeftOthers x found v after
  left_others x v after found told more =
      subst (λ c. MatchBool c (LeftAlone x found v after) (LeftOthers x found v after)) (ne_eqb found 1 more) told

  -- what the list in hand is
  pub has_list : (x : T) (v : Known T) (after : M T) (found : ℕ) → SubTold x v found after → found ≢ 1 → (list : PoppedList) × (after.1 ≡ (1, Waiters list) ∷ [])
  has_list x v after found told more =
      let t = left_others x v after found told more in
      (record { waiting = t.popped; last = t.last; room = 64 }, ap (λ (z : M T). z.1) t.makes.is)

  pub taken_again : (b : Bool) (v : Known T) (after : M T) → (o : Offered b v after) → b ≡ true → (last : ℕ) × (after ≡ (advances v (OnDuty Unlocking (ToPop [])) o.steps, (1, Popped [] last) ∷ []))
  taken_again b v after o e =
      subst (λ c. MatchBool c ((last : ℕ) × (after ≡ (advances v (OnDuty Unlocking (ToPop [])) o.steps, (1, Popped [] last) ∷ []))) (after ≡ (advances v AtRest o.steps, []))) e o.is

  pub again_list : (b : Bool) (v : Known T) (after : M T) → Offered b v after → b ≡ true → (list : PoppedList) × (after.1 ≡ (1, Waiters list) ∷ [])
  again_list b v after o e =
      let t = taken_again b v after o e in
      (record { waiting = []; last = t.0; room = 64 }, ap (λ (z : M T). z.1) t.1)

  -- the pass after the sub
  abbrev pub left_known : T → ℕ → Known T → List (LockEntry T) → Known T
  left_known x found v older = makes v AtRest (done LockedFetchSub locked_at found) older (Release v.number x)

  -- at 1 the call is over
  pub alone_comes : (x : T) (v : Known T) (after : M T) (found : ℕ) → SubTold x v found after → found ≡ 1 → Comes AtRest (Release v.number x ∷ []) v after.0 × UnlockSteps None v.did after.0.did
  alone_comes x v after found told e =
      let t : LeftAlone x found v after = subst (λ c. MatchBool c (LeftAlone x found v after) (LeftOthers x found v after)) (eq-eqb found 1 e) told in
      let now : after.0 ≡ left_known x found v t.older = ap (λ (z : M T). z.0) t.makes.is in
      (subst (λ (z : Known T). Comes AtRest (Release v.number x ∷ []) v z) (sym now) record { place_is = refl; number_is = refl; stands = stands_one v.number (Release v.number x) t.older v.seen v.mine refl t.makes.goes t.makes.legal }, record { found = found; did = record { steps = []; is = ap (λ (z : Known T). z.did) now; kinds = tt }; alone = λ o. (refl, ap (λ (z : Known T). z.did) now) })

module _ {P T N : Type 0} where
  pub record IsWaking (m : CoMutex P T N) (x : T) (start now : Pass P T N) (list : PoppedList) : Type 0 where
    pub pass : IsOf m now
    pub found : ℕ
    pub more : found ≢ 1
    pub older : List (LockEntry T)
    pub goes : GoesOn (known start).number (known start).seen (known start).mine older
    pub legal : IsLegalLock (Release (known start).number x ∷ older)
    pub steps : List Done
    pub kinds : AllOfKinds looks_for steps
    pub is : now.seat.me ≡ (advances (left_known x found (known start) older) (OnDuty Unlocking (ToPop list.waiting)) steps, (1, Out) ∷ [])
    pub each : Each (λ k. k < (known start).passes) list.waiting
    pub room : list.room ≡ 64

  module _ (m : CoMutex P T N) (x : T) (start : Pass P T N) where
    -- after the sub that found more, and the list was taken out
    pub wake_init : (left now : Pass P T N) (list : PoppedList) (found : ℕ) → SubTold x (known start) found left.seat.me → found ≢ 1 → IsOf m now → carried left ≡ (1, Waiters list) ∷ [] → now.seat.me ≡ (known left, (1, Out) ∷ []) → IsWaking m x start now list
    wake_init left now list found told more pass had is =
        let t = left_others x (known start) left.seat.me found told more in
        let same : list ≡ record { waiting = t.popped; last = t.last; room = 64 } = list_of list _ (sym had ∙ ap (λ (z : M T). z.1) t.makes.is) in
        let waiting : list.waiting ≡ t.popped = ap (λ (z : PoppedList). z.waiting) same in
        record {
          pass = pass;
          found = found;
          more = more;
          older = t.older;
          goes = t.makes.goes;
          legal = t.makes.legal;
          steps = [];
          kinds = tt;
          is = is ∙ ap (λ (z : M T). (z.0, (1, Out) ∷ [])) t.makes.is ∙ ap (λ (l : List ℕ). (advances (left_known x found (known start) t.older) (OnDuty Unlocking (ToPop l)) [], (1, Out) ∷ [])) (sym waiting);
          each = subst (λ (l : List ℕ). Each (λ k. k < (known start).passes) l) (sym waiting) t.low;
          room = ap (λ (z : PoppedList). z.room) same;
        }

    module _ (now : Pass P T N) (old : PoppedList) (h : IsWaking m x start now old) where
      abbrev base : Known T
      base = left_known x h.found (known start) h.older

      pub wake_place : (known now).place ≡ OnDuty Unlocking (ToPop old.waiting)
      wake_place = ap (λ (z : M T). z.0.place) h.is

      pub wake_side : side_of (known now).place ≡ Unlocking
      wake_side = ap (λ (z : M T). side_of z.0.place) h.is

      pub wake_hand : carried now ≡ (1, Out) ∷ []
      wake_hand = ap (λ (z : M T). z.1) h.is

      pub wake_each : Each (λ k. k < (known now).passes) old.waiting
      wake_each = subst (λ p. Each (λ k. k < p) old.waiting) (sym (ap (λ (z : M T). z.0.passes) h.is)) h.each

      abbrev swap_steps : ℕ → List Done
      swap_steps head = done HeadSwap head_at head ∷ h.steps

      -- the head was swapped
      swapped_is : (head : ℕ) (swapped : Known T) (place : PassPlace) → swapped ≡ moves (known now) place (done HeadSwap head_at head) → swapped ≡ advances base place (done HeadSwap head_at head ∷ h.steps)
      swapped_is head swapped place e =
          e ∙ ap (λ (z : M T). moves z.0 place (done HeadSwap head_at head)) h.is

      advance : (v w : Known T) (place place2 : PassPlace) (steps more : List Done) → w ≡ advances v place more → advances w place2 steps ≡ advances v place2 (steps ++ more)
      advance v w place place2 steps more e =
          ap (λ (z : Known T). advances z place2 steps) e ∙ ap (λ (l : List Done). record v { place = place2; did = l }) (sym (append_assoc steps more v.did))

      -- the pushed list was walked
      pub wake_walked : (walked : Pass P T N) (list : PoppedList) (head : ℕ) (swapped : Known T) (place : PassPlace) (side : Rattle.co_mutex.specs.Places.Side) → swapped ≡ moves (known now) place (done HeadSwap head_at head) → side ≡ Unlocking → WalkedPasses side swapped list.waiting walked.seat.me → IsOf m walked → list.room ≡ 64 → IsWaking m x start walked list
      wake_walked walked list head swapped place side e unlocks w pass room =
          let s = swapped_is head swapped place e in
          let passes : swapped.passes ≡ (known start).passes = ap (λ (z : Known T). z.passes) s in
          record {
            pass = pass;
            found = h.found;
            more = h.more;
            older = h.older;
            goes = h.goes;
            legal = h.legal;
            steps = w.steps ++ done HeadSwap head_at head ∷ h.steps;
            kinds = all_append looks_for w.steps (done HeadSwap head_at head ∷ h.steps) (all_wider walks looks_for from_walks w.steps w.kinds) (refl, h.kinds);
            is = w.is ∙ ap (λ z. (advances swapped (OnDuty z (ToPop list.waiting)) w.steps, (1, Out) ∷ [])) unlocks ∙ ap (λ (z : Known T). (z, (1, Out) ∷ [])) (advance base swapped place (OnDuty Unlocking (ToPop list.waiting)) w.steps (done HeadSwap head_at head ∷ h.steps) s);
            each = subst (λ p. Each (λ k. k < p) list.waiting) passes w.low;
            room = room;
          }

      -- the duty was given up and taken back
      pub wake_back : (offered taken : Pass P T N) (list : PoppedList) (head : ℕ) (swapped : Known T) (place : PassPlace) (b : Bool) → swapped ≡ moves (known now) place (done HeadSwap head_at head) → Offered b swapped offered.seat.me → b ≡ true → IsOf m taken → carried offered ≡ (1, Waiters list) ∷ [] → taken.seat.me ≡ (known offered, (1, Out) ∷ []) → IsWaking m x start taken list
      wake_back offered taken list head swapped place b e o back pass had out =
          let t = taken_again b swapped offered.seat.me o back in
          let same : list ≡ record { waiting = []; last = t.0; room = 64 } = list_of list _ (sym had ∙ ap (λ (z : M T). z.1) t.1) in
          let waiting : list.waiting ≡ [] = ap (λ (z : PoppedList). z.waiting) same in
          let s = swapped_is head swapped place e in
          record {
            pass = pass;
            found = h.found;
            more = h.more;
            older = h.older;
            goes = h.goes;
            legal = h.legal;
            steps = o.steps ++ done HeadSwap head_at head ∷ h.steps;
            kinds = all_append looks_for o.steps (done HeadSwap head_at head ∷ h.steps) o.kinds (refl, h.kinds);
            is = out ∙ ap (λ (z : M T). (z.0, (1, Out) ∷ [])) t.1 ∙ ap (λ (z : Known T). (z, (1, Out) ∷ [])) (advance base swapped place (OnDuty Unlocking (ToPop [])) o.steps (done HeadSwap head_at head ∷ h.steps) s) ∙ ap (λ (l : List ℕ). (advances base (OnDuty Unlocking (ToPop l)) (o.steps ++ done HeadSwap head_at head ∷ h.steps), (1, Out) ∷ [])) (sym waiting);
            each = subst (λ (l : List ℕ). Each (λ k. k < (known start).passes) l) (sym waiting) tt;
            room = ap (λ (z : PoppedList). z.room) same;
          }

      -- nobody was found, and the hand-off stays published
      pub wake_none : (offered : Pass P T N) (head : ℕ) (swapped : Known T) (place : PassPlace) (b : Bool) → swapped ≡ moves (known now) place (done HeadSwap head_at head) → Offered b swapped offered.seat.me → b ≡ false → Comes AtRest (Release (known start).number x ∷ []) (known start) (known offered) × UnlockSteps None (known start).did (known offered).did
      wake_none offered head swapped place b e o isnt =
          let s = swapped_is head swapped place e in
          let is : offered.seat.me ≡ (advances swapped AtRest o.steps, []) = subst (λ c. MatchBool c ((last : ℕ) × (offered.seat.me ≡ (advances swapped (OnDuty Unlocking (ToPop [])) o.steps, (1, Popped [] last) ∷ []))) (offered.seat.me ≡ (advances swapped AtRest o.steps, []))) isnt o.is in
          let all = o.steps ++ done HeadSwap head_at head ∷ h.steps in
          let w : known offered ≡ advances base AtRest (o.steps ++ done HeadSwap head_at head ∷ h.steps) = ap (λ (z : M T). z.0) is ∙ advance base swapped place AtRest o.steps (done HeadSwap head_at head ∷ h.steps) s in
          (subst (λ (z : Known T). Comes AtRest (Release (known start).number x ∷ []) (known start) z) (sym w) record { place_is = refl; number_is = refl; stands = stands_one (known start).number (Release (known start).number x) h.older (known start).seen (known start).mine refl h.goes h.legal }, record { found = h.found; did = record { steps = all; is = ap (λ (z : Known T). z.did) w; kinds = all_wider looks_for wakes from_looks all (all_append looks_for o.steps (done HeadSwap head_at head ∷ h.steps) o.kinds (refl, h.kinds)) }; alone = λ one. absurd (h.more one) })

      -- a waiter was granted
      pub wake_grants : (granted : Pass P T N) (q who : ℕ) (co : CoId) → Granted (side_of (known now).place) q who (known now) granted.seat.me → co_id_word co ≡ who → ((k : ℕ) × Comes AtRest (Grant (known start).number k ∷ Release (known start).number x ∷ []) (known start) (known granted) × Names co (known start).number k (known granted)) × UnlockSteps (Some co) (known start).did (known granted).did
      wake_grants granted q who co g0 named =
          let g = subst (λ s. Granted s q who (known now) granted.seat.me) wake_side g0 in
          let k = ap (λ (z : M T). z.0) h.is in
          let g2 = subst (λ (z : Known T). Granted Unlocking q who z granted.seat.me) k g in
          let t = g2.1 in
          let w = ap (λ (z : M T). z.0) t.is in
          let one = stands_one (known start).number (Release (known start).number x) h.older (known start).seen (known start).mine refl h.goes h.legal in
          let two = stands_more (known start).number (Grant (known start).number q) (Release (known start).number x ∷ []) g2.0 (known start).seen (known start).mine base.seen base.mine refl one t.goes t.legal in
          let all = done GrantStore (grant_at q) 1 ∷ done WhoLoad (who_at q) who ∷ h.steps in
          ((q, subst (λ (z : Known T). Comes AtRest (Grant (known start).number q ∷ Release (known start).number x ∷ []) (known start) z) (sym w) record { place_is = refl; number_is = refl; stands = two }, record { older = g2.0; last = ap (λ (z : Known T). z.seen) w; named = named ∙ g2.2 }), record { found = h.found; did = record { steps = all; is = ap (λ (z : Known T). z.did) w; kinds = (refl, (refl, all_wider looks_for wakes from_looks h.steps h.kinds)) }; alone = λ one. absurd (h.more one) })
