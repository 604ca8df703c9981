-- Where a step leaves a pass that is stepped by hand.
use Rattle.std.proofs.Common.{◌≡◌, ◌≢◌, ℕ, ◌+◌, ◌<◌, cond, MatchBool, List, [], ◌∷◌, sym, ap, ◌∙◌, subst, arith}
use Rattle.std.proofs.lemmas.Bool.{eq-eqb, ne_eqb}
use Rattle.co_mutex.specs.declared.slot.Slot.TheVariants.{Waiters, Out}
use Rattle.co_mutex.specs.Lists.{Each}
use Rattle.co_mutex.specs.PoppedList.{PoppedList}
use Rattle.co_mutex.specs.LockWords.{next_at}
use Rattle.co_mutex.specs.Places.{Side, Locking, Unlocking, Task, ToPop, Walking, PassPlace, AtRest, Queued, SelfGranted, OnDuty, side_of, left_of, after_grant}
use Rattle.co_mutex.specs.Known.{NextLoad, Known, moves}
use Rattle.co_mutex.specs.Plays.{done, Is, TakesDuty, LeftOthers, Grants, Loads}
use Rattle.co_mutex.specs.declared.lock.CoMutex.{CoMutex}
use Rattle.co_mutex.specs.declared.lock.Pass.{Pass}
use Rattle.co_mutex.specs.Passes.{hand_of, carried}
use Rattle.co_mutex.specs.Decks.{IsResting}
use Rattle.co_mutex.proofs.Codes.{M}
use Rattle.co_mutex.proofs.UnlockLoop.{list_of}

pub on_duty : (place : PassPlace) (side : Side) (task : Task) → place ≡ OnDuty side task → place ≡ OnDuty (side_of place) task
on_duty place side task e = e ∙ ap (λ s. OnDuty s task) (sym (ap side_of e))

module _ {T : Type 0} where
  -- who took the duty has the list
  pub taken : (side : Side) (found : ℕ) (v : Known T) (after : M T) → TakesDuty side found v after → (list : PoppedList) × (after.1 ≡ (1, Waiters list) ∷ [])
  taken side found v after t = (_, ap (λ (z : M T). z.1) t.is)

  -- the list of one who gave the lock up, and that was taken out
  pub record Left (v : Known T) (list : PoppedList) (now : M T) : Type 0 where
    pub side : side_of now.0.place ≡ Unlocking
    pub place : now.0.place ≡ OnDuty (side_of now.0.place) (ToPop list.waiting)
    pub hand : now.1 ≡ (1, Out) ∷ []
    pub room : list.room ≡ 64
    pub low : Each (λ q. q < now.0.passes) list.waiting

  pub left : (x : T) (found : ℕ) (v : Known T) (after now : M T) (list : PoppedList) → LeftOthers x found v after → after.1 ≡ (1, Waiters list) ∷ [] → now ≡ (after.0, (1, Out) ∷ []) → Left v list now
  left x found v after now list t had is =
      let same : list ≡ record { waiting = t.popped; last = t.last; room = 64 } = list_of list _ (sym had ∙ ap (λ (z : M T). z.1) t.makes.is) in
      let waiting : list.waiting ≡ t.popped = ap (λ (z : PoppedList). z.waiting) same in
      let place : now.0.place ≡ OnDuty Unlocking (ToPop list.waiting) = ap (λ (z : M T). z.0.place) is ∙ ap (λ (z : M T). z.0.place) t.makes.is ∙ ap (λ (l : List ℕ). OnDuty Unlocking (ToPop l)) (sym waiting) in
      let passes : v.passes ≡ now.0.passes = sym (ap (λ (z : M T). z.0.passes) is ∙ ap (λ (z : M T). z.0.passes) t.makes.is) in
      record {
        side = ap side_of place;
        place = on_duty _ _ _ place;
        hand = ap (λ (z : M T). z.1) is;
        room = ap (λ (z : PoppedList). z.room) same;
        low = subst (λ n. Each (λ q. q < n) list.waiting) passes (subst (Each (λ q. q < v.passes)) (sym waiting) t.low);
      }

  -- A grant, of itself or another.
  module _ (side : Side) (q co at : ℕ) (v : Known T) (after : M T) (g : Grants side q co at v after) where
    number : after.0.number ≡ v.number
    number = ap (λ (z : M T). z.0.number) g.makes.is

    pub free_hand : after.1 ≡ []
    free_hand = ap (λ (z : M T). z.1) g.makes.is

    pub granted_self : side ≡ Locking → q ≡ after.0.number → after.0.place ≡ SelfGranted
    granted_self s e =
        ap (λ (z : M T). z.0.place) g.makes.is ∙ ap (λ z. after_grant z v.number q) s ∙ ap (λ b. cond b SelfGranted Queued) (eq-eqb q v.number (e ∙ number))

    pub granted_other : side ≡ Locking → q ≢ after.0.number → after.0.place ≡ Queued
    granted_other s e =
        ap (λ (z : M T). z.0.place) g.makes.is ∙ ap (λ z. after_grant z v.number q) s ∙ ap (λ b. cond b SelfGranted Queued) (ne_eqb q v.number (λ h. e (h ∙ sym number)))

    pub granted_away : side ≡ Unlocking → after.0.place ≡ AtRest
    granted_away s =
        ap (λ (z : M T). z.0.place) g.makes.is ∙ ap (λ z. after_grant z v.number q) s

  -- A step of a walk.
  module _ (side : Side) (q found : ℕ) (list : List ℕ) (before after : M T) (t : Loads side (q + 1) list (next_at q) before found after) where
    same : t.q ≡ q
    same = (let a = t.word_is in omega (arith, a))

    -- that was the last
    pub ends : found ≡ 0 → after ≡ (moves before.0 (OnDuty side (ToPop (q ∷ list))) (done NextLoad (next_at q) found), before.1)
    ends last =
        subst (λ c. MatchBool c (Is after (moves before.0 (OnDuty side (ToPop (t.q ∷ list))) (done NextLoad (next_at q) found), before.1)) ((l : List ℕ) × Is after (moves before.0 (OnDuty side (Walking found l (t.q ∷ list))) (done NextLoad (next_at q) found), before.1))) (eq-eqb found 0 last) t.is ∙ ap (λ k. (moves before.0 (OnDuty side (ToPop (k ∷ list))) (done NextLoad (next_at q) found), before.1)) same

    -- another follows
    pub goes_on : found ≢ 0 → (l : List ℕ) × (after ≡ (moves before.0 (OnDuty side (Walking found l (q ∷ list))) (done NextLoad (next_at q) found), before.1))
    goes_on more =
        let both = subst (λ c. MatchBool c (Is after (moves before.0 (OnDuty side (ToPop (t.q ∷ list))) (done NextLoad (next_at q) found), before.1)) ((l : List ℕ) × Is after (moves before.0 (OnDuty side (Walking found l (t.q ∷ list))) (done NextLoad (next_at q) found), before.1))) (ne_eqb found 0 more) t.is in
        (both.0, both.1 ∙ ap (λ k. (moves before.0 (OnDuty side (Walking found both.0 (k ∷ list))) (done NextLoad (next_at q) found), before.1)) same)

    -- where the next one lies
    pub walking_at : (q2 : ℕ) (longer : List ℕ) → found ≢ 0 → q2 + 1 ≡ found → longer ≡ q ∷ list → after.0.place ≡ OnDuty (side_of after.0.place) (Walking (q2 + 1) (left_of after.0.place) longer)
    walking_at q2 longer more e long =
        let both = goes_on more in
        let place = ap (λ (z : M T). z.0.place) both.1 in
        place ∙ ap (λ s. OnDuty s (Walking found both.0 (q ∷ list))) (sym (ap side_of place)) ∙ ap (λ l. OnDuty (side_of after.0.place) (Walking found l (q ∷ list))) (sym (ap left_of place)) ∙ ap (λ k. OnDuty (side_of after.0.place) (Walking k (left_of after.0.place) (q ∷ list))) (sym e) ∙ ap (λ l. OnDuty (side_of after.0.place) (Walking (q2 + 1) (left_of after.0.place) l)) (sym long)

module _ {P T N : Type 0} (m : CoMutex P T N) where
  pub resting_hand : (k : ℕ) (p : Pass P T N) → IsResting m k p → carried p ≡ []
  resting_hand k p rests = rests.0.hand ∙ ap hand_of rests.1
