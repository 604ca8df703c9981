-- What each cut of a seat leaves, and gives.
use Rattle.std.proofs.Common.{◌≡◌, ℕ, suc, ◌+◌, ◌-◌, ◌<◌, ◌≤◌, Some, Option, ⊎_elim, List, [], ◌∷◌, ◌++◌, length, sym, ap, ◌∙◌, subst, arith}
use mathlib.Core.Option.{some}
use lib.ListN.{get_elem?}
use Rattle.atomic_table.specs.Table.{Splits}
use Rattle.co_mutex.specs.declared.lock.CoMutex.{CoMutex}
use Rattle.co_mutex.specs.declared.lock.Pass.{Pass}
use Rattle.co_mutex.specs.Known.{Known, new_known}
use Rattle.co_mutex.specs.Seats.{Kept}
use Rattle.co_mutex.specs.Opening.{new_parts, front, behind}
use Rattle.co_mutex.specs.Passes.{built_of, passes_of, IsNew}
use Rattle.co_mutex.proofs.Codes.{M}
use Rattle.co_mutex.proofs.Deals.{at_snoc_index, splits}

module _ {A : Type 0} where
  pub each_more : (F : ℕ → A → Type 0) (old new : List A) (x : A) → new ≡ old ++ x ∷ [] → ((k : ℕ) (a : A) → get_elem? old k ≡ some a → F k a) → F (length old) x → (k : ℕ) (a : A) → get_elem? new k ≡ some a → F k a
  each_more F old new x e each last k a at =
      ⊎_elim (λ t. each k a t) (λ t. subst (λ z. F z a) (sym t.0) (subst (F (length old)) t.1 last)) (at_snoc_index old x a k (subst (λ (l : List A). get_elem? l k ≡ some a) e at))

module _ {T : Type 0} (o : Option T) (size number count : ℕ) (me : M T) (is : me ≡ (new_known o size (number - 1) (new_parts number (count - number)), [])) where
  module _ (some_one : 1 ≤ number) (more : number < count) where
    known_is : me.0 ≡ new_known o size (number - 1) (new_parts (suc (number - 1)) (suc (count - number - 1)))
    known_is =
        let a : number ≡ suc (number - 1) = omega (arith, some_one) in
        let b : count - number ≡ suc (count - number - 1) = omega (arith, more) in
        ap (λ (z : M T). z.0) is ∙ ap (λ k. new_known o size (number - 1) (new_parts k (count - number))) a ∙ ap (λ k. new_known o size (number - 1) (new_parts (suc (number - 1)) k)) b

    pub deals : {N : Type 0} (note : T → ℕ → N) (n : ℕ) (built : T) (id : ℕ) → Splits (Kept note n built) id me.0 (behind me.0) (front me.0)
    deals note n built id =
        subst (λ z. Splits (Kept note n built) id z (behind z) (front z)) (sym known_is) (splits note n built id (number - 1) (count - number - 1) size o)

    pub dealt_left : (after : M T) → after ≡ (behind me.0, me.1) → after ≡ (new_known o size (number + 1 - 1) (new_parts (number + 1) (count - (number + 1))), [])
    dealt_left after e =
        let a : suc (number - 1) ≡ number + 1 - 1 = omega (arith, some_one) in
        let b : suc (suc (number - 1)) ≡ number + 1 = omega (arith, some_one) in
        let c : count - number - 1 ≡ count - (number + 1) = omega arith in
        e ∙ ap (λ (z : M T). (behind z.0, z.1)) is ∙ ap (λ (z : Known T). (behind z, [])) (sym (ap (λ (z : M T). z.0) is) ∙ known_is) ∙ ap (λ k. (new_known o size k (new_parts (suc (suc (number - 1))) (count - number - 1)), [])) a ∙ ap (λ k. (new_known o size (number + 1 - 1) (new_parts k (count - number - 1)), [])) b ∙ ap (λ k. (new_known o size (number + 1 - 1) (new_parts (number + 1) k), [])) c

    pub dealt_one : (one : M T) → one ≡ (front me.0, []) → one ≡ (new_known o size (number - 1) [], [])
    dealt_one one e = e ∙ ap (λ (z : Known T). (front z, [])) known_is

  pub dealt_last : count ≡ number → me ≡ (new_known o size (number - 1) [], [])
  dealt_last e =
      let none_left : count - number ≡ 0 = omega (arith, e) in
      is ∙ ap (λ k. (new_known o size (number - 1) (new_parts number k), [])) none_left

module _ {P T N : Type 0} where
  pub new_pass : (m : CoMutex P T N) (p : Pass P T N) (k : ℕ) → p.seat.table_id ≡ m.table.shared.table_id → p.seat.me ≡ (new_known (Some (built_of m)) (passes_of m) k [], []) → p.number ≡ k → k < passes_of m → IsNew m k p
  new_pass m p k table me number below =
      record { is = record { of = record { table = table; opens = ap (λ (z : M T). z.0.opened) me; passes = ap (λ (z : M T). z.0.passes) me; live = ap (λ (z : M T). z.0.live) me; number = number ∙ sym (ap (λ (z : M T). z.0.number) me); below = subst (λ z. z < passes_of m) (sym number) below }; hand = ap (λ (z : M T). z.1) me ∙ sym (ap (λ (z : M T). Rattle.co_mutex.specs.Passes.hand_of z.0.place) me) }; known_is = ap (λ (z : M T). z.0) me }
