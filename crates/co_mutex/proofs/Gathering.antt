-- How seats come together, and what the last state tells.
use Rattle.std.proofs.Common.{◌≡◌, ◌≢◌, ℕ, zero, suc, ◌<◌, eqb, true, false, cond, ◌⊎◌, inl, inr, ⊎_elim, List, [], ◌∷◌, ◌++◌, length, set, refl, sym, ap, ◌∙◌, subst, arith}
use Rattle.std.proofs.lemmas.Bool.{ne_eqb, eq-eqb}
use mathlib.Core.Option.{some, some-injective, some-ne-none}
use lib.ListN.{get_elem?}
use Rattle.atomic_table.specs.Table.{State, Joins, Final, Seen}
use Rattle.atomic_table.proofs.Lists.{at_set, at_longer}
use Rattle.aio_model.specs.Lock.History.{LockEntry, made_by, value_of, IsLegalLock, AreBelow}
use Rattle.aio_model.specs.Lock.Notes.{IsNoted}
use Rattle.co_mutex.specs.declared.slot.Slot.{Slot}
use Rattle.co_mutex.specs.declared.slot.Slot.TheVariants.{Value}
use Rattle.co_mutex.specs.Places.{PassPlace, AtRest}
use Rattle.co_mutex.specs.Rule.{Popped}
use Rattle.co_mutex.specs.Known.{OtherPart, Known, spent_known}
use Rattle.co_mutex.specs.Seats.{IsPassPart, IsSeat, SeatsStand, Kept}
use Rattle.co_mutex.specs.Closing.{In}
use Rattle.co_mutex.specs.Opening.{part_of, parts_of, joined}
use Rattle.co_mutex.proofs.Ends.{all_rest}
use Rattle.co_mutex.proofs.QuietSteps.{at_low}
use Rattle.co_mutex.proofs.SeatSteps.{made_whole}
use Rattle.co_mutex.proofs.Deals.{at_append, reseat, moved_seat}

module _ {T N : Type 0} (note : T → ℕ → N) (n : ℕ) (built : T) where
  -- a seat takes in another's passes, which are at rest
  pub joins : (id other : ℕ) (v w : Known T) → v.live ≡ true → w.live ≡ true → w.place ≡ AtRest → Joins (Kept note n built) id v other w (joined v w) spent_known
  joins id other v w lives live resting s r at apart at_other =
      record { history = r.history; places = r.places; baton = r.baton; stack = r.stack; seat = seat; lock = r.lock; seats = seats; noted = r.noted; makers = r.makers; few = r.few }
    where
      seat : ℕ → ℕ
      seat k = cond (eqb (r.seat k) other) id (r.seat k)

      stays : (k j : ℕ) → j ≢ other → r.seat k ≡ j → cond (eqb (r.seat k) other) id (r.seat k) ≡ j
      stays k j ne e = ap (λ b. cond b id (r.seat k)) (ne_eqb (r.seat k) other (λ h. ne (sym e ∙ h))) ∙ e

      comes : (k : ℕ) → r.seat k ≡ other → cond (eqb (r.seat k) other) id (r.seat k) ≡ id
      comes k e = ap (λ b. cond b id (r.seat k)) (eq-eqb (r.seat k) other e)

      was : get_elem? s.views other ≡ some w
      was =
          ⊎_elim (λ (a : (other ≡ id) × (joined v w ≡ w)). absurd (apart a.0)) (λ (a : (other ≢ id) × (get_elem? s.views other ≡ some w)). a.1) (at_set s.views id other (joined v w) w at_other)

      mine : IsSeat built r.history r.places r.seat id v
      mine = r.seats id v at lives

      theirs : IsSeat built r.history r.places r.seat other w
      theirs = r.seats other w was live

      Good : OtherPart T → Type 0
      Good x = IsPassPart r.history seat id x.number x.seen x.mine × (get_elem? r.places x.number ≡ some AtRest) × (x.number ≢ v.number)

      far : (number : ℕ) → r.seat number ≡ other → number ≢ v.number
      far number e q = apart (sym e ∙ ap r.seat q ∙ mine.part.sits)

      from_mine : (k : ℕ) (x : OtherPart T) → get_elem? v.others k ≡ some x → Good x
      from_mine k x atx =
          let t = mine.others k x atx in
          (reseat r.history r.seat seat id id x.number x.seen x.mine t.0 (stays x.number id (λ h. apart (sym h)) t.0.sits), t.1, t.2)

      from_theirs : (k : ℕ) (x : OtherPart T) → get_elem? (parts_of w) k ≡ some x → Good x
      from_theirs zero x atx =
          subst Good (some-injective (part_of w) x atx) (reseat r.history r.seat seat other id w.number w.seen w.mine theirs.part (comes w.number theirs.part.sits), theirs.placed ∙ ap some resting, far w.number theirs.part.sits)
      from_theirs (suc k) x atx =
          let t = theirs.others k x atx in
          (reseat r.history r.seat seat other id x.number x.seen x.mine t.0 (comes x.number t.0.sits), t.1, far x.number t.0.sits)

      both : IsSeat built r.history r.places seat id (joined v w)
      both =
          record { opens = mine.opens; sized = mine.sized; placed = mine.placed; part = reseat r.history r.seat seat id id v.number v.seen v.mine mine.part (stays v.number id (λ h. apart (sym h)) mine.part.sits); value = mine.value; others = λ k x atx. ⊎_elim (λ (t : In x v.others). from_mine t.0 x t.1) (λ (t : In x (parts_of w)). from_theirs t.0 x t.1) (at_append v.others (parts_of w) k x atx) }

      seats : SeatsStand built r.history r.places seat (set (set s.views id (joined v w)) other spent_known)
      seats j u atj living =
          ⊎_elim
          (λ a. absurd (let dead : false ≡ true = ap (λ (z : Known T). z.live) a.1 ∙ living in cc))
          (λ a. ⊎_elim
          (λ b. subst (λ z. IsSeat built r.history r.places seat z u) (sym b.0) (subst (IsSeat built r.history r.places seat id) b.1 both))
          (λ b. moved_seat built r.history r.places r.seat seat j j u (λ number sits which. stays number j a.0 sits) (r.seats j u b.1 living))
          (at_set s.views id j (joined v w) u a.1))
          (at_set (set s.views id (joined v w)) other j spent_known u atj)

  -- what the rule tells at the end of all passes of one seat
  pub record Ended (view : Known T) (xs : List (Slot T)) : Type 0 where
    pub history : List (LockEntry T)
    pub legal : IsLegalLock history
    pub noted : IsNoted note built history
    pub below : AreBelow n history
    pub each : (x : OtherPart T) → In x (parts_of view) → ((rest : List (LockEntry T)) × (history ≡ rest ++ x.seen)) × (made_by x.number history ≡ x.mine)
    pub value : get_elem? xs 0 ≡ some (Value (value_of built history))
    pub list : (popped : List ℕ) × (last : ℕ) × (get_elem? xs 1 ≡ some (Popped popped last))

  pub ends : (id : ℕ) (view : Known T) (ws : List ℕ) (xs : List (Slot T)) → Final (Seen (Kept note n built) id view) ws xs → view.live ≡ true → view.place ≡ AtRest → ((k : ℕ) → k < n → (x : OtherPart T) × In x (parts_of view) × (x.number ≡ k)) → Ended view xs
  ends id view ws xs final lives resting all =
      record { history = r.history; legal = r.lock.legal; noted = r.noted; below = r.makers; each = each; value = final.4 0 (Value (value_of built r.history)) rests.2; list = (list.0, list.1, final.4 1 (Popped list.0 list.1) list.2) }
    where
      s : State (Slot T) (Known T)
      s = final.0

      r : Kept note n built final.0
      r = final.1.0

      mine : IsSeat built r.history r.places r.seat id view
      mine = r.seats id view final.1.1 lives

      Good : OtherPart T → Type 0
      Good x = IsPassPart r.history r.seat id x.number x.seen x.mine × (get_elem? r.places x.number ≡ some AtRest)

      good : (k : ℕ) (x : OtherPart T) → get_elem? (parts_of view) k ≡ some x → Good x
      good zero x atx =
          subst Good (some-injective (part_of view) x atx) (mine.part, mine.placed ∙ ap some resting)
      good (suc k) x atx = let t = mine.others k x atx in (t.0, t.1)

      each : (x : OtherPart T) → In x (parts_of view) → ((rest : List (LockEntry T)) × (r.history ≡ rest ++ x.seen)) × (made_by x.number r.history ≡ x.mine)
      each x t =
          let p = (good t.0 x t.1).0 in
          ((p.seen_of.rest, p.seen_of.longer), made_whole r.history r.seat id x.number x.seen x.mine p)

      resting_all : (p : ℕ) (place : PassPlace) → get_elem? r.places p ≡ some place → place ≡ AtRest
      resting_all p place e =
          let low = at_low r.places p place e in
          let size = r.lock.each in
          let one = all p (subst (λ z. p < z) size low) in
          let g : get_elem? r.places p ≡ some AtRest = subst (λ z. get_elem? r.places z ≡ some AtRest) one.2 (good one.1.0 one.0 one.1.1).1 in
          some-injective place AtRest (sym e ∙ g)

      rests : (Rattle.aio_model.specs.Lock.History.owner_of r.history ≡ Rattle.std.proofs.Common.None) × (Rattle.aio_model.specs.Lock.History.waiters_of r.history ≡ []) × (get_elem? s.homes 0 ≡ some (some (Value (value_of built r.history))))
      rests = all_rest n built r.history s.words s.homes r.places r.baton r.stack r.lock resting_all

      list : (popped : List ℕ) × (last : ℕ) × (get_elem? s.homes 1 ≡ some (some (Popped popped last)))
      list = Rattle.co_mutex.proofs.Ends.list_rests n built r.history s.words s.homes r.places r.baton r.stack r.lock resting_all

module _ {A : Type 0} where
  only_one : (b a : A) (k : ℕ) → get_elem? (b ∷ []) k ≡ some a → b ≡ a
  only_one b a zero e = some-injective b a e
  only_one b a (suc k) e = absurd (some-ne-none a (sym e))

  pub nil_of : (xs : List A) → length xs ≡ 0 → xs ≡ []
  nil_of [] e = refl
  nil_of (x ∷ xs) e = absurd (omega (arith, e))

  in_behind : (xs ys : List A) (k : ℕ) (a : A) → get_elem? ys k ≡ some a → In a (xs ++ ys)
  in_behind [] ys k a e = (k, e)
  in_behind (x ∷ xs) ys k a e = let t = in_behind xs ys k a e in (suc t.0, t.1)

  in_snoc : (xs : List A) (b a : A) → In a (xs ++ b ∷ []) → In a xs ⊎ (b ≡ a)
  in_snoc xs b a t =
      ⊎_elim (λ (u : In a xs). inl u) (λ (u : In a (b ∷ [])). inr (only_one b a u.0 u.1)) (at_append xs (b ∷ []) t.0 a t.1)

  pub in_last : (xs : List A) (b : A) → In b (xs ++ b ∷ [])
  in_last xs b = in_behind xs (b ∷ []) 0 b refl

  pub sub_step : (all items rest : List A) (x : A) → items ≡ rest ++ x ∷ [] → ((p : A) → In p items → In p all) → (p : A) → In p rest → In p all
  sub_step all items rest x e sub p t =
      sub p (subst (λ (z : List A). In p z) (sym e) (t.0, at_longer rest (x ∷ []) t.0 p t.1))

  module _ {B : Type 0} (f : A → B) where
    pub kept_first : (items rest : List A) (x : A) (parts : List B) → items ≡ rest ++ x ∷ [] → get_elem? parts 0 ≡ some (f x) → (p : A) → In p items → In p rest ⊎ In (f p) parts
    kept_first items rest x parts e one p t =
        ⊎_elim (λ (d : In p rest). inl d) (λ (d : x ≡ p). inr (0, one ∙ ap (λ z. some (f z)) d)) (in_snoc rest x p (subst (λ (z : List A). In p z) e t))

    pub kept_step : (all items rest : List A) (x : A) (before after : List B) → items ≡ rest ++ x ∷ [] → ((b : B) → In b before → In b after) → In (f x) after → ((p : A) → In p all → In p items ⊎ In (f p) before) → (p : A) → In p all → In p rest ⊎ In (f p) after
    kept_step all items rest x before after e wider there kept p t =
        ⊎_elim
        (λ (u : In p items). ⊎_elim (λ (d : In p rest). inl d) (λ (d : x ≡ p). inr (subst (λ z. In (f z) after) d there)) (in_snoc rest x p (subst (λ (z : List A). In p z) e u)))
        (λ (u : In (f p) before). inr (wider (f p) u))
        (kept p t)

    pub kept_last : (all items : List A) (parts : List B) → items ≡ [] → ((p : A) → In p all → In p items ⊎ In (f p) parts) → (p : A) → In p all → In (f p) parts
    kept_last all items parts none_left kept p t =
        ⊎_elim (λ (u : In p items). absurd (some-ne-none p (sym (subst (λ (z : List A). get_elem? z u.0 ≡ some p) none_left u.1)))) (λ (u : In (f p) parts). u) (kept p t)

module _ {T : Type 0} where
  pub joined_wider : (v w : Known T) (x : OtherPart T) → In x (parts_of v) → In x (parts_of (joined v w))
  joined_wider v w x t = (t.0, at_longer (parts_of v) (parts_of w) t.0 x t.1)

  pub joined_other : (v w : Known T) → In (part_of w) (parts_of (joined v w))
  joined_other v w = in_behind (parts_of v) (parts_of w) 0 (part_of w) refl
