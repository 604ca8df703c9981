-- The loop of a walk: so far these were found.
use Rattle.std.proofs.Common.{◌≡◌, ◌≢◌, ℕ, ◌+◌, ◌<◌, ◌≤◌, MatchBool, List, [], ◌∷◌, length, refl, sym, ap, ◌∙◌, subst, arith}
use Rattle.std.proofs.lemmas.Bool.{eq-eqb, ne_eqb}
use Rattle.co_mutex.specs.declared.slot.Slot.TheVariants.{Out}
use Rattle.co_mutex.specs.declared.lock.CoMutex.{CoMutex}
use Rattle.co_mutex.specs.declared.lock.Pass.{Pass}
use Rattle.co_mutex.specs.Lists.{Each}
use Rattle.co_mutex.specs.PoppedList.{PoppedList}
use Rattle.co_mutex.specs.LockWords.{next_at}
use Rattle.co_mutex.specs.Places.{Side, ToPop, Walking, OnDuty, side_of}
use Rattle.co_mutex.specs.Known.{NextLoad, Done, moves, advances}
use Rattle.co_mutex.specs.Plays.{done, Is, Loads}
use Rattle.co_mutex.specs.Passes.{IsOf, known, carried}
use Rattle.co_mutex.specs.Waking.{walks, AllOfKinds, WalkedPasses}
use Rattle.co_mutex.proofs.Codes.{M}

module _ {P T N : Type 0} where
  abbrev pub side : Pass P T N → Side
  side p = side_of (known p).place

  pub record IsWalking (m : CoMutex P T N) (start now : Pass P T N) (list : PoppedList) (word : ℕ) : Type 0 where
    pub pass : IsOf m now
    pub some_word : word ≢ 0
    pub low : word ≤ (known start).passes
    pub left : List ℕ
    pub steps : List Done
    pub kinds : AllOfKinds walks steps
    pub is : now.seat.me ≡ (advances (known start) (OnDuty (side start) (Walking word left list.waiting)) steps, (1, Out) ∷ [])
    pub each : Each (λ k. k < (known start).passes) list.waiting
    pub room : list.room ≡ 64

  pub walk_init : (m : CoMutex P T N) (start : Pass P T N) (list : PoppedList) (word : ℕ) (left : List ℕ) → IsOf m start → word ≢ 0 → word ≤ (known start).passes → (known start).place ≡ OnDuty (side start) (Walking word left []) → carried start ≡ (1, Out) ∷ [] → list.room ≡ 64 → list.waiting ≡ [] → IsWalking m start start list word
  walk_init m start list word left pass some_word low duty one room empty =
      record {
        pass = pass;
        some_word = some_word;
        low = low;
        left = left;
        steps = [];
        kinds = tt;
        is = subst (λ z. start.seat.me ≡ (advances (known start) (OnDuty (side start) (Walking word left z)) [], (1, Out) ∷ [])) (sym empty) (λ i. (advances (known start) (duty i) [], one i));
        each = subst (λ z. Each (λ k. k < (known start).passes) z) (sym empty) tt;
        room = room;
      }

  -- the side stays
  same_side : (m : CoMutex P T N) (start now : Pass P T N) (list : PoppedList) (word : ℕ) → IsWalking m start now list word → side now ≡ side start
  same_side m start now list word h = ap (λ (z : M T). side_of z.0.place) h.is

  walk_place : (m : CoMutex P T N) (start now : Pass P T N) (list : PoppedList) (word q : ℕ) → IsWalking m start now list word → q + 1 ≡ word → (left : List ℕ) × ((known now).place ≡ OnDuty (side now) (Walking (q + 1) left list.waiting))
  walk_place m start now list word q h e =
      (h.left, subst (λ z. (known now).place ≡ OnDuty z (Walking (q + 1) h.left list.waiting)) (sym (same_side m start now list word h)) (subst (λ z. (known now).place ≡ OnDuty (side start) (Walking z h.left list.waiting)) (sym e) (ap (λ (z : M T). z.0.place) h.is)))

  -- what a load asks
  pub walk_at : (m : CoMutex P T N) (start now : Pass P T N) (list : PoppedList) (word q : ℕ) → IsWalking m start now list word → q + 1 ≡ word → (left : List ℕ) × (found : List ℕ) × ((known now).place ≡ OnDuty (side now) (Walking (q + 1) left found))
  walk_at m start now list word q h e =
      let at = walk_place m start now list word q h e in
      (at.0, list.waiting, at.1)

  abbrev pub Told : (now after : Pass P T N) (q found : ℕ) → Type 0
  Told now after q found =
      (left list : List ℕ) → (known now).place ≡ OnDuty (side now) (Walking (q + 1) left list) → Loads (side now) (q + 1) list (next_at q) now.seat.me found after.seat.me

  pub walk_room : (m : CoMutex P T N) (start now after : Pass P T N) (list : PoppedList) (word q found : ℕ) → IsWalking m start now list word → q + 1 ≡ word → Told now after q found → length list.waiting < list.room
  walk_room m start now after list word q found h e told =
      let at = walk_place m start now list word q h e in
      subst (λ z. length list.waiting < z) (sym h.room) (told at.0 list.waiting at.1).room

  -- another was found
  pub walk_on : (m : CoMutex P T N) (start now after : Pass P T N) (list next : PoppedList) (word q found : ℕ) → IsWalking m start now list word → q + 1 ≡ word → Told now after q found → IsOf m after → next.waiting ≡ q ∷ list.waiting → next.room ≡ list.room → found ≢ 0 → IsWalking m start after next found
  walk_on m start now after list next word q found h e told pass longer room more =
      let at = walk_place m start now list word q h e in
      let t = told at.0 list.waiting at.1 in
      let passes : (known now).passes ≡ (known start).passes = ap (λ (z : M T). z.0.passes) h.is in
      let low0 = h.low in
      let same : t.q ≡ q = (let a = t.word_is in omega (arith, a)) in
      let d = done NextLoad (next_at q) found in
      let both : (l : List ℕ) × Is after.seat.me (moves (known now) (OnDuty (side now) (Walking found l (t.q ∷ list.waiting))) d, carried now) = subst (λ c. MatchBool c (Is after.seat.me (moves (known now) (OnDuty (side now) (ToPop (t.q ∷ list.waiting))) d, carried now)) ((l : List ℕ) × Is after.seat.me (moves (known now) (OnDuty (side now) (Walking found l (t.q ∷ list.waiting))) d, carried now))) (ne_eqb found 0 more) t.is in
      record {
        pass = pass;
        some_word = more;
        low = subst (λ z. found ≤ z) passes t.more;
        left = both.0;
        steps = d ∷ h.steps;
        kinds = (refl, h.kinds);
        is = both.1 ∙ ap (λ (z : M T). (moves z.0 (OnDuty (side now) (Walking found both.0 (t.q ∷ list.waiting))) d, z.1)) h.is ∙ ap (λ s. (advances (known start) (OnDuty s (Walking found both.0 (t.q ∷ list.waiting))) (d ∷ h.steps), (1, Out) ∷ [])) (same_side m start now list word h) ∙ ap (λ (l : List ℕ). (advances (known start) (OnDuty (side start) (Walking found both.0 l)) (d ∷ h.steps), (1, Out) ∷ [])) (ap (λ z. z ∷ list.waiting) same ∙ sym longer);
        each = subst (λ (l : List ℕ). Each (λ k. k < (known start).passes) l) (sym longer) ((omega (arith, e, low0), h.each));
        room = room ∙ h.room;
      }

  -- that was the last
  pub walk_end : (m : CoMutex P T N) (start now after : Pass P T N) (list next : PoppedList) (word q found : ℕ) → IsWalking m start now list word → q + 1 ≡ word → Told now after q found → next.waiting ≡ q ∷ list.waiting → found ≡ 0 → WalkedPasses (side start) (known start) next.waiting after.seat.me
  walk_end m start now after list next word q found h e told longer last =
      let at = walk_place m start now list word q h e in
      let t = told at.0 list.waiting at.1 in
      let low0 = h.low in
      let same : t.q ≡ q = (let a = t.word_is in omega (arith, a)) in
      let d = done NextLoad (next_at q) found in
      let is : after.seat.me ≡ (moves (known now) (OnDuty (side now) (ToPop (t.q ∷ list.waiting))) d, carried now) = subst (λ c. MatchBool c (Is after.seat.me (moves (known now) (OnDuty (side now) (ToPop (t.q ∷ list.waiting))) d, carried now)) ((l : List ℕ) × Is after.seat.me (moves (known now) (OnDuty (side now) (Walking found l (t.q ∷ list.waiting))) d, carried now))) (eq-eqb found 0 last) t.is in
      record {
        steps = d ∷ h.steps;
        kinds = (refl, h.kinds);
        q = q;
        rest = list.waiting;
        some_one = longer;
        low = subst (λ (l : List ℕ). Each (λ k. k < (known start).passes) l) (sym longer) ((omega (arith, e, low0), h.each));
        is = is ∙ ap (λ (z : M T). (moves z.0 (OnDuty (side now) (ToPop (t.q ∷ list.waiting))) d, z.1)) h.is ∙ ap (λ s. (advances (known start) (OnDuty s (ToPop (t.q ∷ list.waiting))) (d ∷ h.steps), (1, Out) ∷ [])) (same_side m start now list word h) ∙ ap (λ (l : List ℕ). (advances (known start) (OnDuty (side start) (ToPop l)) (d ∷ h.steps), (1, Out) ∷ [])) (ap (λ z. z ∷ list.waiting) same ∙ sym longer);
      }
