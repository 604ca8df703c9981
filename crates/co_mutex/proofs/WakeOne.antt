-- How a locker with the duty came to grant the first waiter.
use Rattle.std.proofs.Common.{◌≡◌, ◌≢◌, ℕ, true, false, eqb, MatchBool, List, [], ◌∷◌, ◌++◌, refl, sym, ap, ◌∙◌, subst}
use Rattle.co_mutex.specs.LockWords.{head_at}
use Rattle.co_mutex.specs.Places.{Side, Locking, Unlocking, PassPlace, ToPop, Walking, Nobody, OnDuty, side_of}
use Rattle.co_mutex.specs.Known.{HeadSwap, Done, Known, moves, advances}
use Rattle.co_mutex.specs.Plays.{done, Is, Swaps}
use Rattle.co_mutex.specs.Waking.{walks, AllOfKinds, Granted, WalkedPasses, WokePass}
use Rattle.co_mutex.proofs.Codes.{M}

pub all_append : (test : Rattle.co_mutex.specs.Known.Kind → Rattle.std.proofs.Common.Bool) (xs ys : List Done) → AllOfKinds test xs → AllOfKinds test ys → AllOfKinds test (xs ++ ys)
all_append test [] ys a b = b
all_append test (x ∷ xs) ys a b = (a.0, all_append test xs ys a.1 b)

module _ {T : Type 0} where
  pub swap_moved : (side : Side) (before : M T) (found : ℕ) (after : M T) → Swaps side before found after → (place : PassPlace) × (after.0 ≡ moves before.0 place (done HeadSwap head_at found))
  swap_moved side before found after told = by (eqb found 0) told.is
    where
      by : (b : Rattle.std.proofs.Common.Bool) → MatchBool b ((side ≡ Unlocking) × Is after (moves before.0 (OnDuty side Nobody) (done HeadSwap head_at found), before.1)) ((left : List ℕ) × Is after (moves before.0 (OnDuty side (Walking found left [])) (done HeadSwap head_at found), before.1)) → (place : PassPlace) × (after.0 ≡ moves before.0 place (done HeadSwap head_at found))
      by true is = (OnDuty side Nobody, ap (λ (z : M T). z.0) is.1)
      by false is = (OnDuty side (Walking found is.0 []), ap (λ (z : M T). z.0) is.1)

  -- a grant over steps that only looked
  pub granted_over : (side : Side) (q who : ℕ) (v w : Known T) (place : PassPlace) (steps : List Done) (after : M T) → w ≡ advances v place steps → Granted side q who w after → Granted side q who (advances v v.place steps) after
  granted_over side q who v w place steps after e g =
      let t = subst (λ (z : Known T). Granted side q who z after) e g in
      (t.0, record { is = t.1.is; goes = t.1.goes; legal = t.1.legal }, t.2)

  pub woke : (v : Known T) (taken swapped walked after : M T) (side2 : Side) (place : PassPlace) (waiting : List ℕ) (head q who : ℕ) → taken.0 ≡ v → swapped.0 ≡ moves taken.0 place (done HeadSwap head_at head) → WalkedPasses side2 swapped.0 waiting walked → Granted Locking q who walked.0 after → WokePass q who v after
  woke v taken swapped walked after side2 place waiting head q who same swap w g =
      let steps = w.steps ++ done HeadSwap head_at head ∷ [] in
      let is : walked.0 ≡ advances v (OnDuty side2 (ToPop waiting)) (w.steps ++ done HeadSwap head_at head ∷ []) = ap (λ (z : M T). z.0) w.is ∙ ap (λ (z : Known T). advances z (OnDuty side2 (ToPop waiting)) w.steps) (swap ∙ ap (λ (z : Known T). moves z place (done HeadSwap head_at head)) same) ∙ ap (λ (l : List Done). record v { place = OnDuty side2 (ToPop waiting); did = l }) (sym (Rattle.std.proofs.Common.append_assoc w.steps (done HeadSwap head_at head ∷ []) v.did)) in
      record { steps = steps; kinds = all_append walks w.steps (done HeadSwap head_at head ∷ []) w.kinds (refl, tt); granted = granted_over Locking q who v walked.0 (OnDuty side2 (ToPop waiting)) steps after is g }

  -- the side stays through the swap and the walk
  pub walked_side : (side : Side) (before : M T) (found : ℕ) (after : M T) → Swaps side before found after → (side2 : Side) (waiting : List ℕ) (walked : M T) → side2 ≡ side_of after.0.place → WalkedPasses side2 after.0 waiting walked → side_of walked.0.place ≡ side
  walked_side side before found after told side2 waiting walked e w =
      ap (λ (z : M T). side_of z.0.place) w.is ∙ e ∙ by (eqb found 0) told.is
    where
      by : (b : Rattle.std.proofs.Common.Bool) → MatchBool b ((side ≡ Unlocking) × Is after (moves before.0 (OnDuty side Nobody) (done HeadSwap head_at found), before.1)) ((left : List ℕ) × Is after (moves before.0 (OnDuty side (Walking found left [])) (done HeadSwap head_at found), before.1)) → side_of after.0.place ≡ side
      by true is = ap (λ (z : M T). side_of z.0.place) is.1
      by false is = ap (λ (z : M T). side_of z.0.place) is.1

  pub swapped_side : (side : Side) (before : M T) (found : ℕ) (after : M T) → Swaps side before found after → side_of after.0.place ≡ side
  swapped_side side before found after told = by (eqb found 0) told.is
    where
      by : (b : Rattle.std.proofs.Common.Bool) → MatchBool b ((side ≡ Unlocking) × Is after (moves before.0 (OnDuty side Nobody) (done HeadSwap head_at found), before.1)) ((left : List ℕ) × Is after (moves before.0 (OnDuty side (Walking found left [])) (done HeadSwap head_at found), before.1)) → side_of after.0.place ≡ side
      by true is = ap (λ (z : M T). side_of z.0.place) is.1
      by false is = ap (λ (z : M T). side_of z.0.place) is.1
