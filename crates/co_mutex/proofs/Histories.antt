-- Entries of a pass in histories that are put together, and notes in them.
use Rattle.std.proofs.Common.{◌≡◌, ◌≢◌, ℕ, eqb, Bool, true, false, cond, List, [], ◌∷◌, ◌++◌, refl, sym, ap, ◌∙◌, subst, ⊎_elim}
use Rattle.std.proofs.lemmas.Bool.{cases_eq, ne_eqb, eq-eqb}
use Rattle.table_seats.proofs.Entries.{by-append}
use Rattle.aio_model.specs.Lock.History.{LockEntry, Got, Wait, Grant, Release, maker_of, made_by, value_of, IsLegalLock}
use Rattle.aio_model.specs.Lock.Notes.{IsNoted}

module _ {T : Type 0} where
  pub made_by-append : (p : ℕ) (xs ys : List (LockEntry T)) → made_by p (xs ++ ys) ≡ made_by p xs ++ made_by p ys
  made_by-append p xs ys = by-append maker_of (λ n. eqb n p) xs ys

  -- one more entry, by the pass or by another
  pub made_more : (p : ℕ) (e : LockEntry T) (h : List (LockEntry T)) → maker_of e ≡ p → made_by p (e ∷ h) ≡ e ∷ made_by p h
  made_more p e h by_it = ap (λ k. cond k (e ∷ made_by p h) (made_by p h)) (eq-eqb (maker_of e) p by_it)

  pub made_else : (p : ℕ) (e : LockEntry T) (h : List (LockEntry T)) → maker_of e ≢ p → made_by p (e ∷ h) ≡ made_by p h
  made_else p e h ne = ap (λ k. cond k (e ∷ made_by p h) (made_by p h)) (ne_eqb (maker_of e) p ne)

  pub legal_rest : (xs ys : List (LockEntry T)) → IsLegalLock (xs ++ ys) → IsLegalLock ys
  legal_rest [] ys l = l
  legal_rest (x ∷ xs) ys l = legal_rest xs ys l.1

module _ {T N : Type 0} (note : T → ℕ → N) where
  pub noted_rest : (built : T) (xs ys : List (LockEntry T)) → IsNoted note built (xs ++ ys) → IsNoted note built ys
  noted_rest built [] ys l = l
  noted_rest built (Got p ∷ xs) ys l = noted_rest built xs ys l
  noted_rest built (Wait p co ∷ xs) ys l = noted_rest built xs ys l
  noted_rest built (Grant p q ∷ xs) ys l = noted_rest built xs ys l
  noted_rest built (Release p x ∷ xs) ys l = noted_rest built xs ys l.1

  -- the note of a number is as its own last release left it
  pub note_kept : (built : T) (p : ℕ) (h : List (LockEntry T)) → IsNoted note built h → note (value_of built h) p ≡ note (value_of built (made_by p h)) p
  note_kept built p [] l = refl
  note_kept built p (Got q ∷ h) l = by (eqb q p) (note_kept built p h l)
    where
      by : (b : Bool) → note (value_of built h) p ≡ note (value_of built (made_by p h)) p → note (value_of built h) p ≡ note (value_of built (cond b (Got q ∷ made_by p h) (made_by p h))) p
      by true e = e
      by false e = e
  note_kept built p (Wait q co ∷ h) l = by (eqb q p) (note_kept built p h l)
    where
      by : (b : Bool) → note (value_of built h) p ≡ note (value_of built (made_by p h)) p → note (value_of built h) p ≡ note (value_of built (cond b (Wait q co ∷ made_by p h) (made_by p h))) p
      by true e = e
      by false e = e
  note_kept built p (Grant q r ∷ h) l = by (eqb q p) (note_kept built p h l)
    where
      by : (b : Bool) → note (value_of built h) p ≡ note (value_of built (made_by p h)) p → note (value_of built h) p ≡ note (value_of built (cond b (Grant q r ∷ made_by p h) (made_by p h))) p
      by true e = e
      by false e = e
  note_kept built p (Release q x ∷ h) l =
      ⊎_elim
      (λ e. subst (λ b. note x p ≡ note (value_of built (cond b (Release q x ∷ made_by p h) (made_by p h))) p) (sym (eq-eqb q p e)) refl)
      (λ ne. subst (λ b. note x p ≡ note (value_of built (cond b (Release q x ∷ made_by p h) (made_by p h))) p) (sym (ne_eqb q p ne)) (l.0 p (λ e. ne (sym e)) ∙ note_kept built p h l.1))
      (cases_eq q p)
