-- How seats are dealt and gathered, and what the last state tells.
use Rattle.std.proofs.Common.{◌≡◌, ◌≢◌, ℕ, zero, suc, ◌+◌, ◌<◌, ◌≤◌, eqb, true, false, cond, Some, Option, ◌⊎◌, inl, inr, ⊎_elim, List, [], ◌∷◌, ◌++◌, length, replicate, set, slice_index, refl, sym, ap, ◌∙◌, subst, length-set, arith, pred}
use Rattle.std.proofs.lemmas.Bool.{ne_eqb, eq-eqb}
use mathlib.Core.Option.{some, some-injective, some-ne-none}
use lib.ListN.{get_elem?}
use Rattle.atomic_table.specs.Table.{State, opening, Splits}
use Rattle.atomic_table.proofs.Lists.{at_set}
use Rattle.aio_model.specs.Lock.History.{LockEntry, made_by}
use Rattle.co_mutex.specs.declared.slot.Slot.{Slot}
use Rattle.co_mutex.specs.declared.slot.Slot.TheVariants.{Value}
use Rattle.co_mutex.specs.declared.rule.Opened.{Opened}
use Rattle.co_mutex.specs.Places.{PassPlace, AtRest, is_owning}
use Rattle.co_mutex.specs.LockWords.{word_count}
use Rattle.co_mutex.specs.Rule.{Popped, Free}
use Rattle.co_mutex.specs.Known.{OtherPart, Known, new_known}
use Rattle.co_mutex.specs.Seats.{IsPassPart, IsSeat, SeatsStand, Kept}
use Rattle.co_mutex.specs.Closing.{In}
use Rattle.co_mutex.specs.Opening.{new_parts, first_view_of}
use Rattle.co_mutex.proofs.Ends.{start_stands}

module _ {A : Type 0} where
  pub at_append : (xs ys : List A) (k : ℕ) (a : A) → get_elem? (xs ++ ys) k ≡ some a → In a xs ⊎ In a ys
  at_append [] ys k a e = inr (k, e)
  at_append (x ∷ xs) ys zero a e = inl (0, e)
  at_append (x ∷ xs) ys (suc k) a e =
      ⊎_elim (λ (t : In a xs). inl (suc t.0, t.1)) (λ (t : In a ys). inr t) (at_append xs ys k a e)

  pub at_snoc_index : (l : List A) (a b : A) (j : ℕ) → get_elem? (l ++ a ∷ []) j ≡ some b → (get_elem? l j ≡ some b) ⊎ ((j ≡ length l) × (a ≡ b))
  at_snoc_index [] a b zero e = inr (refl, some-injective a b e)
  at_snoc_index [] a b (suc j) e = absurd (some-ne-none b (sym e))
  at_snoc_index (x ∷ xs) a b zero e = inl e
  at_snoc_index (x ∷ xs) a b (suc j) e =
      ⊎_elim (λ (t : get_elem? xs j ≡ some b). inl t) (λ (t : (j ≡ length xs) × (a ≡ b)). inr (ap suc t.0, t.1)) (at_snoc_index xs a b j e)

owning_rest : {X : Type 0} → is_owning AtRest ≡ true → X
owning_rest e = (let bad : false ≡ true = e in absurd cc)

pub all_rest_at : (n : ℕ) (p : ℕ) (place : PassPlace) → get_elem? (replicate n AtRest) p ≡ some place → place ≡ AtRest
all_rest_at zero p place e = absurd (some-ne-none place (sym e))
all_rest_at (suc n) zero place e = sym (some-injective AtRest place e)
all_rest_at (suc n) (suc p) place e = all_rest_at n p place e

pub rest_at : (n : ℕ) (p : ℕ) → p < n → get_elem? (replicate n AtRest) p ≡ some AtRest
rest_at zero p low = absurd (omega (arith, low))
rest_at (suc n) zero low = refl
rest_at (suc n) (suc p) low = rest_at n p (omega (arith, low))

pub rest_long : (n : ℕ) → length (replicate n AtRest) ≡ n
rest_long zero = refl
rest_long (suc n) = ap suc (rest_long n)

module _ {T : Type 0} where
  new_at : (p n k : ℕ) (x : OtherPart T) → get_elem? (new_parts p n) k ≡ some x → (x ≡ record { number = p + k; seen = []; mine = [] }) × (k < n)
  new_at p zero k x e = absurd (some-ne-none x (sym e))
  new_at p (suc n) zero x e =
      (let same : p ≡ p + 0 = omega arith in sym (some-injective _ x e) ∙ ap (λ k. record { number = k; seen = []; mine = [] }) same, omega arith)
  new_at p (suc n) (suc k) x e =
      let t = new_at (suc p) n k x e in
      let same : suc p + k ≡ p + suc k = omega arith in
      let less = t.1 in
      (t.0 ∙ ap (λ z. record { number = z; seen = []; mine = [] }) same, omega (arith, less))

  pub reseat : (h : List (LockEntry T)) (seat other : ℕ → ℕ) (j k number : ℕ) (seen mine : List (LockEntry T)) → IsPassPart h seat j number seen mine → other number ≡ k → IsPassPart h other k number seen mine
  reseat h seat other j k number seen mine is e =
      record { sits = e; seen_of = is.seen_of }

  -- a seat whose parts all sit elsewhere now
  pub moved_seat : (built : T) (h : List (LockEntry T)) (places : List PassPlace) (seat other : ℕ → ℕ) (j k : ℕ) (u : Known T) → ((number : ℕ) → seat number ≡ j → (number ≡ u.number) ⊎ (number ≢ u.number) → other number ≡ k) → IsSeat built h places seat j u → IsSeat built h places other k u
  moved_seat built h places seat other j k u same is =
      record { opens = is.opens; sized = is.sized; placed = is.placed; part = reseat h seat other j k u.number u.seen u.mine is.part (same u.number is.part.sits (inl refl)); value = is.value; others = λ i x atx. (let t = is.others i x atx in (reseat h seat other j k x.number x.seen x.mine t.0 (same x.number t.0.sits (inr t.2)), t.1, t.2)) }

module _ {T N : Type 0} (note : T → ℕ → N) (n : ℕ) (built : T) where
  abbrev St : Type 0
  St = State (Slot T) (Known T)

  -- the first pass of a seat that has made no call goes to a seat of its own
  pub splits : (id p m size : ℕ) (o : Option T) → Splits (Kept note n built) id (new_known o size p (new_parts (suc p) (suc m))) (new_known o size (suc p) (new_parts (suc (suc p)) m)) (new_known o size p [])
  splits id p m size o s r at =
      record { history = r.history; places = r.places; baton = r.baton; stack = r.stack; seat = seat; lock = r.lock; seats = seats; noted = r.noted; makers = r.makers; few = r.few }
    where
      v : Known T
      v = new_known o size p (new_parts (suc p) (suc m))

      left : Known T
      left = new_known o size (suc p) (new_parts (suc (suc p)) m)

      mine : IsSeat built r.history r.places r.seat id (new_known o size p (new_parts (suc p) (suc m)))
      mine = r.seats id (new_known o size p (new_parts (suc p) (suc m))) at refl

      seat : ℕ → ℕ
      seat k = cond (eqb k p) (length s.views) (r.seat k)

      far : (number : ℕ) → number ≢ p → cond (eqb number p) (length s.views) (r.seat number) ≡ r.seat number
      far number ne = ap (λ b. cond b (length s.views) (r.seat number)) (ne_eqb number p ne)

      near : cond (eqb p p) (length s.views) (r.seat p) ≡ length s.views
      near = ap (λ b. cond b (length s.views) (r.seat p)) (eq-eqb p p refl)

      left_seat : IsSeat built r.history r.places seat id (new_known o size (suc p) (new_parts (suc (suc p)) m))
      left_seat =
          let first = mine.others 0 (record { number = suc p; seen = []; mine = [] }) refl in
          record { opens = mine.opens; sized = mine.sized; placed = first.1; part = reseat r.history r.seat seat id id (suc p) [] [] first.0 (far (suc p) (λ e. omega (arith, e)) ∙ first.0.sits); value = λ owns. owning_rest owns; others = λ k x atx. (let t = mine.others (suc k) x atx in let e = (new_at (suc (suc p)) m k x atx).0 in let number : x.number ≡ suc (suc p) + k = ap (λ (z : OtherPart T). z.number) e in (reseat r.history r.seat seat id id x.number x.seen x.mine t.0 (far x.number (λ q. omega (arith, number, q)) ∙ t.0.sits), t.1, λ q. omega (arith, number, q))) }

      front_seat : IsSeat built r.history r.places seat (length s.views) (new_known o size p [])
      front_seat =
          record { opens = mine.opens; sized = mine.sized; placed = mine.placed; part = reseat r.history r.seat seat id (length s.views) p [] [] mine.part near; value = λ owns. owning_rest owns; others = λ k x atx. absurd (some-ne-none x (sym atx)) }

      old : (j : ℕ) (u : Known T) → j ≢ id → get_elem? s.views j ≡ some u → u.live ≡ true → IsSeat built r.history r.places seat j u
      old j u ne atu lives =
          moved_seat built r.history r.places r.seat seat j j u (λ number sits which. far number (λ e. ne (sym sits ∙ ap r.seat e ∙ mine.part.sits)) ∙ sits) (r.seats j u atu lives)

      seats : SeatsStand built r.history r.places seat (set s.views id left ++ new_known o size p [] ∷ [])
      seats j u atj lives =
          ⊎_elim
          (λ a. ⊎_elim
          (λ b. subst (λ z. IsSeat built r.history r.places seat z u) (sym b.0) (subst (IsSeat built r.history r.places seat id) b.1 left_seat))
          (λ b. old j u b.0 b.1 lives)
          (at_set s.views id j left u a))
          (λ a. subst (λ z. IsSeat built r.history r.places seat z u) (sym (a.0 ∙ length-set s.views id left)) (subst (IsSeat built r.history r.places seat (length s.views)) a.1 front_seat))
          (at_snoc_index (set s.views id left) (new_known o size p []) u j atj)

  -- a new lock
  pub opens : (key : Opened T) (words : List ℕ) (last : ℕ) → 0 < key.passes → key.passes ≤ 64 → n ≡ key.passes → built ≡ key.value.value → length words ≡ word_count key.passes → ((k : ℕ) → slice_index words k ≡ 0) → Kept note n built (opening words (Value built ∷ Popped [] last ∷ []) (first_view_of key))
  opens key words last some_pass few size value long zeros =
      record { history = []; places = replicate n AtRest; baton = Free; stack = []; seat = λ k. 0; lock = start_stands n last built words (replicate n AtRest) (long ∙ ap word_count (sym size)) zeros (rest_long n) (λ p place e. all_rest_at n p place e); seats = seats; noted = tt; makers = tt; few = subst (λ z. z ≤ 64) (sym size) few }
    where
      first : IsSeat built [] (replicate n AtRest) (λ k. 0) 0 (first_view_of key)
      first =
          record { opens = ap Some (sym value); sized = sym size ∙ sym (rest_long n); placed = rest_at n 0 (subst (λ z. 0 < z) (sym size) some_pass); part = record { sits = refl; seen_of = record { rest = []; longer = refl; none_missed = refl; mine_is = refl } }; value = λ owns. owning_rest owns; others = λ k x atx. (let t = new_at 1 (pred key.passes) k x atx in let number : x.number ≡ 1 + k = ap (λ (z : OtherPart T). z.number) t.0 in let seen : x.seen ≡ [] = ap (λ (z : OtherPart T). z.seen) t.0 in let made : x.mine ≡ [] = ap (λ (z : OtherPart T). z.mine) t.0 in let less = t.1 in let low : x.number < n = omega (arith, number, less, size) in (record { sits = refl; seen_of = record { rest = []; longer = sym seen; none_missed = refl; mine_is = made ∙ sym (ap (made_by x.number) seen) } }, rest_at n x.number low, λ q. omega (arith, number, q))) }

      seats : SeatsStand built [] (replicate n AtRest) (λ k. 0) (first_view_of key ∷ [])
      seats zero u e lives = subst (IsSeat built [] (replicate n AtRest) (λ k. 0) 0) (some-injective (first_view_of key) u e) first
      seats (suc j) u e lives = absurd (some-ne-none u (sym e))
