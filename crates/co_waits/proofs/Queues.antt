-- Taking the first of a list of waiters, and all of them.
use Rattle.std.proofs.Common.{◌≡◌, ◌≢◌, ℕ, ◌+◌, ◌<◌, ◌≤◌, true, false, eqb, set, List, [], ◌∷◌, ◌++◌, length, take, drop, Option, Some, refl, sym, ap, subst, ◌∙◌, arith, append_assoc}
use Rattle.std.proofs.lemmas.Bool.{eq-eqb}
use Rattle.std.proofs.lemmas.List.{length-set, take_more_set, drop-set-lt, drop-drop}
use Rattle.aio_chain.specs.LinkList.{LinkList, contains, first_of, without, IsEachOnce, IsLinked}
use Rattle.aio_chain.proofs.Steps.{without-absent, length-without_first}
use Rattle.aio_chain.proofs.Contained.{length-le_room}

-- a list without its first
pub first_gone : (who : ℕ) (items : List ℕ) → first_of items ≡ Some who → IsEachOnce items → without who items ≡ drop 1 items
first_gone who [] first once = refl
first_gone who (x ∷ rest) first once =
    let same : x ≡ who = cc first in
    let here : eqb who x ≡ true = eq-eqb who x (sym same) in
    rw here (without-absent who rest (subst (λ k. contains k rest ≡ false) same once.0))

pub first_parts : (who : ℕ) (items : List ℕ) → first_of items ≡ Some who → items ≡ who ∷ drop 1 items
first_parts who [] e = absurd (cc e)
first_parts who (x ∷ rest) e = let same : x ≡ who = cc e in ap (λ k. k ∷ rest) same

-- so many were taken, in order
pub record TakesAll (old now : LinkList) (first : Option ℕ) (taken : ℕ) (before out : List ℕ) : Type 0 where
  pub is_first : first ≡ first_of now.items
  pub linked : IsLinked now
  pub room : now.room ≡ old.room
  pub fits : taken + length now.items ≤ 64
  pub sized : length out ≡ 64
  pub all : take taken out ++ now.items ≡ old.items
  pub rest : drop taken out ≡ drop taken before

pub takes_none : (old : LinkList) (first : Option ℕ) (out : List ℕ) → IsLinked old → first ≡ first_of old.items → old.room ≤ 64 → length out ≡ 64 → TakesAll old old first 0 out out
takes_none old first out linked is room sized = record {
  is_first = is;
  linked = linked;
  room = refl;
  fits = omega (arith, length-le_room old.items old.room linked.each_once linked.below);
  sized = sized;
  all = refl;
  rest = refl;
}

behind_one : (taken : ℕ) (xs ys : List ℕ) → drop taken xs ≡ drop taken ys → drop (taken + 1) xs ≡ drop (taken + 1) ys
behind_one taken xs ys e = sym (drop-drop 1 taken xs) ∙ ap (drop 1) e ∙ drop-drop 1 taken ys

taken_more : (taken who : ℕ) (out items : List ℕ) → taken < length out → take (taken + 1) (set out taken who) ++ items ≡ take taken out ++ who ∷ items
taken_more taken who out items within =
    ap (λ xs. xs ++ items) (take_more_set out taken who within) ∙ append_assoc (take taken out) (who ∷ []) items

pub takes_more : (old now new : LinkList) (first next : Option ℕ) (who taken : ℕ) (before out : List ℕ) → TakesAll old now first taken before out → first ≡ Some who → new.items ≡ without who now.items → new.room ≡ now.room → next ≡ first_of new.items → IsLinked new → TakesAll old new next (taken + 1) before (set out taken who)
takes_more old now new first next who taken before out so is items room following linked =
    let gone : new.items ≡ drop 1 now.items = items ∙ first_gone who now.items (sym so.is_first ∙ is) so.linked.each_once in
    let parts : now.items ≡ who ∷ new.items = first_parts who now.items (sym so.is_first ∙ is) ∙ ap (λ xs. who ∷ xs) (sym gone) in
    let shorter : length now.items ≡ length new.items + 1 = ap length parts ∙ omega arith in
    record {
      is_first = following;
      linked = linked;
      room = room ∙ so.room;
      fits = omega (arith, so.fits);
      sized = length-set out taken who ∙ so.sized;
      all = taken_more taken who out new.items (omega (arith, so.fits, so.sized)) ∙ ap (λ xs. take taken out ++ xs) (sym parts) ∙ so.all;
      rest = drop-set-lt (taken + 1) out taken who (omega arith) ∙ behind_one taken out before so.rest;
    }

pub takes_fewer : (old now new : LinkList) (first : Option ℕ) (who taken : ℕ) (before out : List ℕ) → TakesAll old now first taken before out → first ≡ Some who → new.items ≡ without who now.items → length new.items < length now.items
takes_fewer old now new first who taken before out so is items =
    subst (λ xs. length xs < length now.items) (sym items) (length-without_first who now.items (sym so.is_first ∙ is))
