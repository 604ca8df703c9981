-- The coroutines by number, seen as a map, after a slot is written, filled or emptied.
use Rattle.std.proofs.Common.{◌≡◌, inl, inr, ℕ, suc, ◌+◌, Bool, true, false, cond, ◌||◌, nat_cmp, List, [], ◌∷◌, length, Option, Some, None, is_some, IsSome, refl, sym, ap, ◌∙◌, subst, arith, ne_eqb, eq-eqb, eqb}
use Rattle.std.proofs.lemmas.Bool.{cases_eq, cases_Bool, eqb-true, or_left, or_right}
use Rattle.std.specs.Cmp.{nat_cmp_total, unsigned_tied}
use Rattle.std.specs.FinMap.{nat_cmp-IsAntisymmetric}
use Rattle.std.specs.FinMap as map
use Rattle.slab.specs.Slab.{Slab}
use Rattle.co_state.specs.Coroutines.{AllOf}
use Rattle.co_state.specs.Lookup.{Table, shape, is_among, AreOnce, AreListed}
use Rattle.co_state.specs.Kept.{coroutine_in, under, with_this, collected, key_for, ids_of, held_in, AreKept}
use Rattle.co_state.specs.declared.store.Slot.{Slot}
use Rattle.co_state.proofs.Trees.{no_key, key_of_one}

-- maps of numbers
module _ {C : Type 0} where
  pub get_inserted : (held : map.FinMap nat_cmp C) (id : ℕ) (co : C) (q : ℕ) → map.get (map.insert held id co) q ≡ cond (eqb q id) (Some co) (map.get held q)
  get_inserted held id co q = map.get-insert nat_cmp_total held id co q ∙ ap (λ b. cond b (Some co) (map.get held q)) (unsigned_tied q id)

  pub get_removed : (held : map.FinMap nat_cmp C) (id q : ℕ) → map.get (map.remove held id) q ≡ cond (eqb q id) None (map.get held q)
  get_removed held id q = map.get-remove nat_cmp_total held id q ∙ ap (λ b. cond b None (map.get held q)) (unsigned_tied q id)

  pub same_held : (m n : map.FinMap nat_cmp C) → ((q : ℕ) → map.get m q ≡ map.get n q) → m ≡ n
  same_held m n same = map.same_map nat_cmp_total nat_cmp-IsAntisymmetric m n same

  at_once : (b : Bool) (x : Option C) (y z : Option C) → cond b x z ≡ cond b x (cond b y z)
  at_once true x y z = refl
  at_once false x y z = refl

  pub remove-insert : (held : map.FinMap nat_cmp C) (id : ℕ) (co : C) → map.remove (map.insert held id co) id ≡ map.remove held id
  remove-insert held id co = same_held _ _ (λ q. get_removed (map.insert held id co) id q ∙ ap (cond (eqb q id) None) (get_inserted held id co q) ∙ sym (at_once (eqb q id) None (Some co) (map.get held q)) ∙ sym (get_removed held id q))

  chosen_by : (P : C → Type 0) (b : Bool) (x y : Option C) (co : C) → ((c : C) → b ≡ true → x ≡ Some c → P c) → ((c : C) → y ≡ Some c → P c) → cond b x y ≡ Some co → P co
  chosen_by P true x y co first other found = first co refl found
  chosen_by P false x y co first other found = other co found

  pub all_of-insert : {O : Type 0} (is_of : ℕ → C → O → Type 0) (o : O) (held : map.FinMap nat_cmp C) (id : ℕ) (co : C) → is_of id co o → AllOf is_of held o → AllOf is_of (map.insert held id co) o
  all_of-insert {O} is_of o held id co here all q c found =
      chosen_by (λ d. is_of q d o) (eqb q id) (Some co) (map.get held q) c
      (λ d yes e.
      let same : co ≡ d = cc in
      let at : id ≡ q = sym (eqb-true q id yes) in
      subst (λ x. is_of q x o) same (subst (λ n. is_of n co o) at here))
      (λ d e. all q d e)
      (sym (get_inserted held id co q) ∙ found)

  pub all_of-remove : {O : Type 0} (is_of : ℕ → C → O → Type 0) (o : O) (held : map.FinMap nat_cmp C) (id : ℕ) → AllOf is_of held o → AllOf is_of (map.remove held id) o
  all_of-remove {O} is_of o held id all q c found =
      chosen_by (λ d. is_of q d o) (eqb q id) None (map.get held q) c
      (λ d yes e. absurd (cc))
      (λ d e. all q d e)
      (sym (get_removed held id q) ∙ found)

-- what was collected at each number is found there
module _ {C : Type 0} where
  abbrev rather : Option C → Option C → Option C
  rather None other = other
  rather (Some co) other = Some co

  found_first : (q id : ℕ) (o : Option C) (rest : List (ℕ × C)) → map.find nat_cmp q (with_this id o rest) ≡ cond (eqb q id) (rather o (map.find nat_cmp q rest)) (map.find nat_cmp q rest)
  found_first q id None rest = elim (eqb q id) as (λ b. map.find nat_cmp q rest ≡ cond b (map.find nat_cmp q rest) (map.find nat_cmp q rest)) [ true ↦ refl | false ↦ refl ]
  found_first q id (Some co) rest = ap (λ b. cond b (Some co) (map.find nat_cmp q rest)) (unsigned_tied q id)

  rather_same : (o : Option C) (b : Bool) → rather o (cond b o None) ≡ o
  rather_same None true = refl
  rather_same None false = refl
  rather_same (Some co) b = refl

  pub find-collected : (at : ℕ → Option C) (ids : List ℕ) (q : ℕ) → map.find nat_cmp q (collected at ids) ≡ cond (is_among q ids) (at q) None
  find-collected at [] q = refl
  find-collected at (id ∷ ids) q =
      let later = find-collected at ids q in
      elim (cases_eq q id) [
        | inl same ↦
            let here : eqb q id ≡ true = eq-eqb q id same in
            found_first q id (at id) (collected at ids)
            ∙ ap (λ b. cond b (rather (at id) (map.find nat_cmp q (collected at ids))) (map.find nat_cmp q (collected at ids))) here
            ∙ ap (λ n. rather (at n) (map.find nat_cmp q (collected at ids))) (sym same)
            ∙ ap (rather (at q)) later
            ∙ rather_same (at q) (is_among q ids)
            ∙ ap (λ b. cond (b || is_among q ids) (at q) None) (sym here)
        | inr differs ↦
            let here : eqb q id ≡ false = ne_eqb q id differs in
            found_first q id (at id) (collected at ids)
            ∙ ap (λ b. cond b (rather (at id) (map.find nat_cmp q (collected at ids))) (map.find nat_cmp q (collected at ids))) here
            ∙ later
            ∙ ap (λ b. cond (b || is_among q ids) (at q) None) (sym here)
      ]

  pub get-held : (d : Table) (s : Slab (Slot C)) (q : ℕ) → map.get (held_in d s) q ≡ under s (key_for d q)
  get-held d s q =
      let at = λ (id : ℕ). under s (key_for d id) in
      map.get-from_entries nat_cmp_total (collected at (ids_of d)) q
      ∙ find-collected at (ids_of d) q
      ∙ elim (cases_Bool (is_among q (ids_of d))) [
        | inl among ↦ ap (λ b. cond b (at q) None) among
        | inr none ↦
            ap (λ b. cond b (at q) None) none
            ∙ sym (ap (under s) (no_key (shape d.tree) q none))
      ]

  -- as many as there are numbers
  one_more : (at : ℕ → Option C) (id : ℕ) (ids : List ℕ) (o : Option C) → IsSome o → map.get (map.from_entries {R = nat_cmp} (collected at ids)) id ≡ None → map.len (map.from_entries {R = nat_cmp} (collected at ids)) ≡ length ids → map.len (map.from_entries {R = nat_cmp} (with_this id o (collected at ids))) ≡ suc (length ids)
  one_more at id ids None some none later = absurd (cc)
  one_more at id ids (Some co) some none later =
      let before = map.from_entries {R = nat_cmp} (collected at ids) in
      map.len-insert nat_cmp_total before id co
      ∙ ap (λ o. cond (is_some o) (map.len before) (map.len before + 1)) none
      ∙ omega (arith, later)

  len-collected : (at : ℕ → Option C) (ids : List ℕ) → AreOnce ids → ((q : ℕ) → is_among q ids ≡ true → IsSome (at q)) → map.len (map.from_entries {R = nat_cmp} (collected at ids)) ≡ length ids
  len-collected at [] once some = map.len-empty nat_cmp C
  len-collected at (id ∷ ids) once some =
      let later = len-collected at ids once.1 (λ q among. some q (or_right (eqb q id) (is_among q ids) among)) in
      let none = map.get-from_entries nat_cmp_total (collected at ids) id ∙ find-collected at ids id ∙ ap (λ b. cond b (at id) None) once.0 in
      let mine : eqb id id ≡ true = eq-eqb id id refl in
      one_more at id ids (at id) (some id (or_left (eqb id id) (is_among id ids) mine)) none later

  pub len-held : (room : ℕ) (d : Table) (s : Slab (Slot C)) → AreKept room d s → AreListed (shape d.tree) → map.len (held_in d s) ≡ length (ids_of d)
  len-held room d s kept listed =
      len-collected (λ id. under s (key_for d id)) (ids_of d) listed.once (λ q among.
      let at = key_of_one (shape d.tree) q listed among in
      let there = kept.numbered q at.0 at.1 in
      subst IsSome (sym (ap (under s) at.1 ∙ ap coroutine_in there.1)) refl)
