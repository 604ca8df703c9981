-- What keeps the facts of all seats when one view changes.
use Rattle.std.proofs.Common.{◌≡◌, ◌≢◌, ℕ, ◌<◌, ◌≤◌, Bool, true, false, cond, length-append, Option, Some, None, List, [], ◌∷◌, ◌++◌, length, set, refl, sym, ap, ◌∙◌, subst, ⊎_elim, arith}
use mathlib.Core.Option.{some}
use lib.ListN.{get_elem?}
use Rattle.atomic_table.proofs.Lists.{at_set}
use Rattle.table_seats.specs.Seats.{Told, Part, numbers_in, owns, everyone, own_entries, EachView, OwnApart, AreParts, IsSeat, SeatsStand, Makes}
use Rattle.table_seats.proofs.Entries.{own-append, own-here, own-other, own_of_seen, owned_below, owns_everyone}

-- a fact of every view, once one has changed
pub each_set : {V : Type 0} (P Q : V → Type 0) (views : List V) (id : ℕ) (w : V) → EachView P views → Q w → ((other : ℕ) (u : V) → other ≢ id → get_elem? views other ≡ some u → P u → Q u) → EachView Q (set views id w)
each_set P Q views id w h new keep other u at =
    ⊎_elim (λ t. subst Q t.1 new) (λ t. keep other u t.0 t.1 (h other u t.1)) (at_set views id other w u at)

-- what the view that makes a step becomes: it has the same numbers
pub record IsSame {E : Type 0} (v w : Part E) : Type 0 where
  pub numbers_are : numbers_in w ≡ numbers_in v
  pub told_is : w.told ≡ v.told

module _ {E : Type 0} (seat_of : E → ℕ) where
  -- parts of a history are parts of a longer one
  pub parts_grow : (h : List E) (e : E) (told : Option (Told E)) → AreParts seat_of h told → AreParts seat_of (e ∷ h) told
  parts_grow h e None parts = tt
  parts_grow h e (Some told) parts =
      ((e ∷ parts.0.0, ap (λ (l : List E). e ∷ l) parts.0.1), (e ∷ parts.1.0, ap (λ (l : List E). e ∷ l) parts.1.1), parts.2)

  -- another's entry is behind nothing that a seat has seen
  pub seat_beside : (h : List E) (e : E) (u : Part E) → IsSeat seat_of h u → owns (numbers_in u) (seat_of e) ≡ false → IsSeat seat_of (e ∷ h) u
  seat_beside h e u is other =
      record {
        seen_of = record {
          rest = e ∷ is.seen_of.rest;
          longer = ap (λ (l : List E). e ∷ l) is.seen_of.longer;
          none_missed = own-other seat_of (numbers_in u) e is.seen_of.rest other ∙ is.seen_of.none_missed;
          mine_is = is.seen_of.mine_is;
        };
        below = is.below;
        told_of = parts_grow h e u.told is.told_of;
      }

  -- the seat that makes the entry has seen all
  pub seat_ahead : (h : List E) (e : E) (v w : Part E) → IsSeat seat_of h v → IsSame v w → owns (numbers_in v) (seat_of e) ≡ true → w.seen ≡ e ∷ h → w.mine ≡ e ∷ v.mine → IsSeat seat_of (e ∷ h) w
  seat_ahead h e v w is same own seen mine =
      let counts : w.count ≡ v.count = ap (λ n. n.count) same.numbers_are in
      let firsts : w.first ≡ v.first = ap (λ n. n.first) same.numbers_are in
      let below = is.below in
      let all : own_entries seat_of (numbers_in w) w.seen ≡ e ∷ v.mine = ap (λ n. own_entries seat_of n w.seen) same.numbers_are ∙ ap (own_entries seat_of (numbers_in v)) seen ∙ own-here seat_of (numbers_in v) e h own ∙ ap (λ (l : List E). e ∷ l) (own_of_seen seat_of h (numbers_in v) v.seen v.mine is.seen_of) in
      record {
        seen_of = record { rest = []; longer = sym seen; none_missed = refl; mine_is = mine ∙ sym all };
        below = omega arith;
        told_of = subst (AreParts seat_of (e ∷ h)) (sym same.told_is) (parts_grow h e v.told is.told_of);
      }

  -- what was seen stays
  pub seat_still : (h : List E) (v w : Part E) → IsSeat seat_of h v → IsSame v w → w.seen ≡ v.seen → w.mine ≡ v.mine → IsSeat seat_of h w
  seat_still h v w is same seen mine =
      let counts : w.count ≡ v.count = ap (λ n. n.count) same.numbers_are in
      let firsts : w.first ≡ v.first = ap (λ n. n.first) same.numbers_are in
      let below = is.below in
      let all : own_entries seat_of (numbers_in w) w.seen ≡ own_entries seat_of (numbers_in v) v.seen = ap (λ n. own_entries seat_of n w.seen) same.numbers_are ∙ ap (own_entries seat_of (numbers_in v)) seen in
      record {
        seen_of = record {
          rest = is.seen_of.rest;
          longer = is.seen_of.longer ∙ ap (λ (l : List E). is.seen_of.rest ++ l) (sym seen);
          none_missed = ap (λ n. own_entries seat_of n is.seen_of.rest) same.numbers_are ∙ is.seen_of.none_missed;
          mine_is = mine ∙ is.seen_of.mine_is ∙ sym all;
        };
        below = omega arith;
        told_of = subst (AreParts seat_of h) (sym same.told_is) is.told_of;
      }

  -- what was seen is now all
  pub seat_sees : (h : List E) (v w : Part E) → IsSeat seat_of h v → IsSame v w → w.seen ≡ h → w.mine ≡ v.mine → IsSeat seat_of h w
  seat_sees h v w is same seen mine =
      let counts : w.count ≡ v.count = ap (λ n. n.count) same.numbers_are in
      let firsts : w.first ≡ v.first = ap (λ n. n.first) same.numbers_are in
      let below = is.below in
      let all : own_entries seat_of (numbers_in w) w.seen ≡ v.mine = ap (λ n. own_entries seat_of n w.seen) same.numbers_are ∙ ap (own_entries seat_of (numbers_in v)) seen ∙ own_of_seen seat_of h (numbers_in v) v.seen v.mine is.seen_of in
      record {
        seen_of = record { rest = []; longer = sym seen; none_missed = refl; mine_is = mine ∙ sym all };
        below = omega arith;
        told_of = subst (AreParts seat_of h) (sym same.told_is) is.told_of;
      }

  -- the entry that a seat has just made, behind all that it had not seen
  pub makes_of : (IsLegal : List E → Type 0) (h : List E) (e : E) (v w : Part E) → IsSeat seat_of h v → 0 < v.count → w.seen ≡ e ∷ h → w.mine ≡ e ∷ v.mine → IsLegal (e ∷ h) → Makes seat_of IsLegal e v w
  makes_of IsLegal h e v w is numbered seen mine legal =
      record {
        numbered = numbered;
        others = is.seen_of.rest;
        not_own = is.seen_of.none_missed;
        seen = seen ∙ ap (λ (l : List E). e ∷ l) is.seen_of.longer;
        mine = mine;
        legal = subst IsLegal (sym seen) legal;
      }

  -- who owns all numbers has seen all
  pub all_seen : (h : List E) (v : Part E) → IsSeat seat_of h v → numbers_in v ≡ everyone → own_entries seat_of everyone h ≡ h → v.seen ≡ h
  all_seen h v is all owned =
      let none : own_entries seat_of everyone is.seen_of.rest ≡ [] = ap (λ n. own_entries seat_of n is.seen_of.rest) (sym all) ∙ is.seen_of.none_missed in
      sym (is.seen_of.longer ∙ ap (λ (l : List E). l ++ v.seen) (nothing is.seen_of.rest v.seen h is.seen_of.longer owned none))
    where
      all_own : (xs ys : List E) → own_entries seat_of everyone (xs ++ ys) ≡ xs ++ ys → own_entries seat_of everyone xs ≡ [] → own_entries seat_of everyone ys ≡ xs ++ ys
      all_own xs ys e none = ap (λ (l : List E). l ++ own_entries seat_of everyone ys) (sym none) ∙ sym (own-append seat_of everyone xs ys) ∙ e

      shorter : (xs : List E) → length (own_entries seat_of everyone xs) ≤ length xs
      shorter [] = omega arith
      shorter (e ∷ xs) = one (owns everyone (seat_of e)) (shorter xs)
        where
          one : (b : Bool) → length (own_entries seat_of everyone xs) ≤ length xs → length (cond b (e ∷ own_entries seat_of everyone xs) (own_entries seat_of everyone xs)) ≤ length (e ∷ xs)
          one true h = omega arith
          one false h = omega arith

      empty : (xs : List E) → length xs ≡ 0 → xs ≡ []
      empty [] e = refl
      empty (x ∷ xs) e = absurd (omega arith)

      nothing : (xs ys whole : List E) → whole ≡ xs ++ ys → own_entries seat_of everyone whole ≡ whole → own_entries seat_of everyone xs ≡ [] → xs ≡ []
      nothing xs ys whole is_whole owned none =
          let e = all_own xs ys (ap (own_entries seat_of everyone) (sym is_whole) ∙ owned ∙ is_whole) none in
          let short = shorter ys in
          let lens : length (own_entries seat_of everyone ys) ≡ length (xs ++ ys) = ap length e in
          let sum = length-append xs ys in
          empty xs (omega arith)

  module _ {V : Type 0} (part_of : V → Part E) where
    pub apart_set : (views : List V) (id : ℕ) (v w : V) → OwnApart seat_of part_of views → get_elem? views id ≡ some v → numbers_in (part_of w) ≡ numbers_in (part_of v) → OwnApart seat_of part_of (set views id w)
    apart_set views id v w h at e i j u x ati atj ne n own =
        ⊎_elim (λ a. ⊎_elim (λ b. absurd (ne (a.0 ∙ sym b.0))) (λ b. h id j v x at b.1 (λ q. ne (a.0 ∙ q)) n (subst (λ m. owns m n ≡ true) (ap (λ k. numbers_in (part_of k)) (sym a.1) ∙ e) own)) (at_set views id j w x atj)) (λ a. ⊎_elim (λ b. subst (λ m. owns m n ≡ false) (sym e ∙ ap (λ k. numbers_in (part_of k)) b.1) (h i id u v a.1 at a.0 n own)) (λ b. h i j u x a.1 b.1 ne n own) (at_set views id j w x atj)) (at_set views id i w u ati)

    -- one entry more, by the seat whose view changes
    pub seats_make : (h : List E) (views : List V) (id : ℕ) (e : E) (v w : V) → SeatsStand seat_of part_of h views → get_elem? views id ≡ some v → IsSame (part_of v) (part_of w) → owns (numbers_in (part_of v)) (seat_of e) ≡ true → (part_of w).seen ≡ e ∷ h → (part_of w).mine ≡ e ∷ (part_of v).mine → SeatsStand seat_of part_of (e ∷ h) (set views id w)
    seats_make h views id e v w stand at same own seen mine =
        let mover = stand.each id v at in
        let low = owned_below (numbers_in (part_of v)) (seat_of e) own in
        let high = mover.below in
        record {
          each = each_set (λ u. IsSeat seat_of h (part_of u)) (λ u. IsSeat seat_of (e ∷ h) (part_of u)) views id w stand.each (seat_ahead h e (part_of v) (part_of w) mover same own seen mine) (λ other u ne atu is. seat_beside h e (part_of u) is (stand.apart id other v u at atu (λ q. ne (sym q)) (seat_of e) own));
          apart = apart_set views id v w stand.apart at same.numbers_are;
          all_owned = own-here seat_of everyone e h (owns_everyone (seat_of e) (omega arith)) ∙ ap (λ (l : List E). e ∷ l) stand.all_owned;
        }

    -- no entry: what the seat has seen stays
    pub seats_keep : (h : List E) (views : List V) (id : ℕ) (v w : V) → SeatsStand seat_of part_of h views → get_elem? views id ≡ some v → IsSame (part_of v) (part_of w) → (part_of w).seen ≡ (part_of v).seen → (part_of w).mine ≡ (part_of v).mine → SeatsStand seat_of part_of h (set views id w)
    seats_keep h views id v w stand at same seen mine =
        record {
          each = each_set (λ u. IsSeat seat_of h (part_of u)) (λ u. IsSeat seat_of h (part_of u)) views id w stand.each
              (seat_still h (part_of v) (part_of w) (stand.each id v at) same seen mine)
              (λ other u ne atu old. old);
          apart = apart_set views id v w stand.apart at same.numbers_are;
          all_owned = stand.all_owned;
        }

    -- no entry, but the seat now sees all
    pub seats_see : (h : List E) (views : List V) (id : ℕ) (v w : V) → SeatsStand seat_of part_of h views → get_elem? views id ≡ some v → IsSame (part_of v) (part_of w) → (part_of w).seen ≡ h → (part_of w).mine ≡ (part_of v).mine → SeatsStand seat_of part_of h (set views id w)
    seats_see h views id v w stand at same seen mine =
        record {
          each = each_set (λ u. IsSeat seat_of h (part_of u)) (λ u. IsSeat seat_of h (part_of u)) views id w stand.each
              (seat_sees h (part_of v) (part_of w) (stand.each id v at) same seen mine)
              (λ other u ne atu old. old);
          apart = apart_set views id v w stand.apart at same.numbers_are;
          all_owned = stand.all_owned;
        }
