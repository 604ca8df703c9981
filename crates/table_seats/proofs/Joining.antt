-- Two seats that are joined keep the facts of all seats, and what each had seen is a part of the one history.
use Rattle.std.proofs.Common.{◌≡◌, ◌≢◌, ℕ, ◌+◌, ◌≤◌, Bool, true, false, cond, ltb, Some, List, [], ◌∷◌, ◌++◌, length, set, inl, inr, refl, sym, ap, ◌∙◌, subst, ⊎_elim, ◌⊎◌, arith, append-nil, length-append}
use Rattle.std.proofs.lemmas.Bool.{and_parts, and_from, not_from_false, not-true, lt-ltb, le-ltb, ltb-true, ltb-false, false_from_ne_true, cases_lt, cond-false}
use mathlib.Core.Option.{some}
use lib.ListN.{get_elem?}
use Rattle.atomic_table.proofs.Lists.{at_set}
use Rattle.table_seats.specs.Seats.{Numbers, Part, Told, numbers_in, owns, longer_of, own_entries, EachView, OwnApart, IsPart, NoneMissed, AreParts, IsSeat, SeatsStand}
use Rattle.table_seats.specs.Calls.{IsJoined}
use Rattle.table_seats.specs.Dividing.{both_numbers, told_of, joined_part, spent_part}
use Rattle.table_seats.proofs.Entries.{own-append}
use Rattle.table_seats.proofs.Seats.{each_set}

-- Two ends of one list.

tail_same : {E : Type 0} (x y : E) (xs ys : List E) → x ∷ xs ≡ y ∷ ys → xs ≡ ys
tail_same x y xs ys e = cc

head_same : {E : Type 0} (x y : E) (xs ys : List E) → x ∷ xs ≡ y ∷ ys → x ≡ y
head_same x y xs ys e = cc

-- the shorter of two ends of a list is an end of the longer
pub shorter_end : {E : Type 0} (a x b y : List E) → a ++ x ≡ b ++ y → length x ≤ length y → (mid : List E) × (a ≡ b ++ mid) × (y ≡ mid ++ x)
shorter_end a x [] y e le = (a, refl, sym e)
shorter_end [] x (k ∷ b) y e le =
    absurd (let long : length x ≡ length ((k ∷ b) ++ y) = ap length e in let count = length-append (k ∷ b) y in omega arith)
shorter_end (j ∷ a) x (k ∷ b) y e le =
    let rest = shorter_end a x b y (tail_same j k (a ++ x) (b ++ y) e) le in
    let same = head_same j k (a ++ x) (b ++ y) e in
    (rest.0, (λ i. same i ∷ rest.1 i), rest.2)

-- of two parts of one history each is a part of the longer
pub parts_of_longer : {E : Type 0} (h x y : List E) → IsPart x h → IsPart y h → IsPart x (longer_of x y) × IsPart y (longer_of x y) × IsPart (longer_of x y) h
parts_of_longer h x y px py = by (ltb (length x) (length y)) refl
  where
    by : (b : Bool) → ltb (length x) (length y) ≡ b → IsPart x (longer_of x y) × IsPart y (longer_of x y) × IsPart (longer_of x y) h
    by true is =
        let less = ltb-true (length x) (length y) is in
        let mid = shorter_end px.0 x py.0 y (sym px.1 ∙ py.1) (omega arith) in
        rw is ((mid.0, mid.2), ([], refl), py)
    by false is =
        let less = ltb-false (length x) (length y) is in
        let mid = shorter_end py.0 y px.0 x (sym py.1 ∙ px.1) less in
        rw is (([], refl), (mid.0, mid.2), px)

-- Numbers.

pub both_owned : (v w : Numbers) (n : ℕ) → w.first ≡ v.first + v.count → owns (both_numbers v w) n ≡ true → (owns v n ≡ true) ⊎ (owns w n ≡ true)
both_owned v w n next is =
    let parts = and_parts _ _ is in
    let low = ltb-false n v.first (not-true _ parts.0) in
    let high = ltb-true n (v.first + (v.count + w.count)) parts.1 in
    ⊎_elim (λ lt. inl (and_from _ _ parts.0 (lt-ltb n (v.first + v.count) lt))) (λ ge. inr (and_from _ _ (not_from_false _ (le-ltb n w.first (omega arith))) (lt-ltb n (w.first + w.count) (omega arith)))) (cases_lt n (v.first + v.count))

abbrev no_numbers : Numbers
no_numbers = record { first = 0; count = 0 }

pub none_owned : (n : ℕ) → owns no_numbers n ≡ false
none_owned n = false_from_ne_true _ (λ is. let high = ltb-true n (0 + 0) (and_parts _ _ is).1 in omega arith)

gone : {E : Type 0} (b c d : Bool) (e : E) (ns ms ls : List E) → (b ≡ true → (c ≡ true) ⊎ (d ≡ true)) → (ms ≡ [] → ls ≡ [] → ns ≡ []) → cond c (e ∷ ms) ms ≡ [] → cond d (e ∷ ls) ls ≡ [] → cond b (e ∷ ns) ns ≡ []
gone b true d e ns ms ls k l p q = absurd cc
gone b false true e ns ms ls k l p q = absurd cc
gone true false false e ns ms ls k l p q = absurd (⊎_elim (λ t. cc) (λ t. cc) (k refl))
gone false false false e ns ms ls k l p q = l p q

module _ {E : Type 0} (seat_of : E → ℕ) where
  -- what neither made neither makes together
  own_both : (v w : Numbers) (xs : List E) → w.first ≡ v.first + v.count → own_entries seat_of v xs ≡ [] → own_entries seat_of w xs ≡ [] → own_entries seat_of (both_numbers v w) xs ≡ []
  own_both v w [] next p q = refl
  own_both v w (e ∷ xs) next p q =
      gone (owns (both_numbers v w) (seat_of e)) (owns v (seat_of e)) (owns w (seat_of e)) e (own_entries seat_of (both_numbers v w) xs) (own_entries seat_of v xs) (own_entries seat_of w xs) (both_owned v w (seat_of e) next) (own_both v w xs next) p q

  none_own : (xs : List E) → own_entries seat_of no_numbers xs ≡ []
  none_own [] = refl
  none_own (e ∷ xs) =
      cond-false (owns no_numbers (seat_of e)) (e ∷ own_entries seat_of no_numbers xs) (own_entries seat_of no_numbers xs) (none_owned (seat_of e)) ∙ none_own xs

  front_none : (n : Numbers) (xs ys : List E) → own_entries seat_of n (xs ++ ys) ≡ [] → own_entries seat_of n xs ≡ []
  front_none n xs ys h = front (own_entries seat_of n xs) (own_entries seat_of n ys) (sym (own-append seat_of n xs ys) ∙ h)
    where
      front : (a b : List E) → a ++ b ≡ [] → a ≡ []
      front [] b e = refl
      front (k ∷ a) b e = absurd cc

  back_none : (n : Numbers) (xs ys : List E) → own_entries seat_of n (xs ++ ys) ≡ [] → own_entries seat_of n ys ≡ []
  back_none n xs ys h = back (own_entries seat_of n xs) (own_entries seat_of n ys) (sym (own-append seat_of n xs ys) ∙ h)
    where
      back : (a b : List E) → a ++ b ≡ [] → b ≡ []
      back [] b e = e
      back (k ∷ a) b e = absurd cc

  -- what is behind none of its entries has them all
  own_behind : (n : Numbers) (rest mid seen longer mine : List E) → own_entries seat_of n (rest ++ mid) ≡ [] → longer ≡ mid ++ seen → mine ≡ own_entries seat_of n seen → own_entries seat_of n longer ≡ mine
  own_behind n rest mid seen longer mine empty is mine_is =
      ap (own_entries seat_of n) is ∙ own-append seat_of n mid seen ∙ ap (λ (l : List E). l ++ own_entries seat_of n seen) (back_none n rest mid empty) ∙ sym mine_is

  -- in the longer one each of the two has just the entries that it made
  none_missed : (h : List E) (v w : Part E) → IsSeat seat_of h v → IsSeat seat_of h w → NoneMissed seat_of (told_of v w)
  none_missed h v w is theirs = by (ltb (length v.seen) (length w.seen)) refl
    where
      by : (b : Bool) → ltb (length v.seen) (length w.seen) ≡ b → NoneMissed seat_of (told_of v w)
      by true less =
          let a = is.seen_of in
          let b = theirs.seen_of in
          let low = ltb-true (length v.seen) (length w.seen) less in
          let mid = shorter_end a.rest v.seen b.rest w.seen (sym a.longer ∙ b.longer) (omega arith) in
          record {
            by_staying = rw less (own_behind (numbers_in v) b.rest mid.0 v.seen w.seen v.mine (subst (λ l. own_entries seat_of (numbers_in v) l ≡ []) mid.1 a.none_missed) mid.2 a.mine_is);
            by_joining = rw less (sym b.mine_is);
          }
      by false less =
          let a = is.seen_of in
          let b = theirs.seen_of in
          let mid = shorter_end b.rest w.seen a.rest v.seen (sym b.longer ∙ a.longer) (ltb-false (length v.seen) (length w.seen) less) in
          record {
            by_staying = rw less (sym a.mine_is);
            by_joining = rw less (own_behind (numbers_in w) a.rest mid.0 w.seen v.seen w.mine (subst (λ l. own_entries seat_of (numbers_in w) l ≡ []) mid.1 b.none_missed) mid.2 b.mine_is);
          }

  -- the longer one's rest has no entry of the two
  joined_seen : (h : List E) (v w : Part E) → w.first ≡ v.first + v.count → IsSeat seat_of h v → IsSeat seat_of h w → (rest : List E) × (h ≡ rest ++ longer_of v.seen w.seen) × (own_entries seat_of (both_numbers (numbers_in v) (numbers_in w)) rest ≡ [])
  joined_seen h v w next is theirs = by (ltb (length v.seen) (length w.seen)) refl
    where
      by : (b : Bool) → ltb (length v.seen) (length w.seen) ≡ b → (rest : List E) × (h ≡ rest ++ longer_of v.seen w.seen) × (own_entries seat_of (both_numbers (numbers_in v) (numbers_in w)) rest ≡ [])
      by true less =
          let a = is.seen_of in
          let b = theirs.seen_of in
          let low = ltb-true (length v.seen) (length w.seen) less in
          let mid = shorter_end a.rest v.seen b.rest w.seen (sym a.longer ∙ b.longer) (omega arith) in
          let mine : own_entries seat_of (numbers_in v) b.rest ≡ [] = front_none (numbers_in v) b.rest mid.0 (subst (λ l. own_entries seat_of (numbers_in v) l ≡ []) mid.1 a.none_missed) in
          rw less (b.rest, b.longer, own_both (numbers_in v) (numbers_in w) b.rest next mine b.none_missed)
      by false less =
          let a = is.seen_of in
          let b = theirs.seen_of in
          let mid = shorter_end b.rest w.seen a.rest v.seen (sym b.longer ∙ a.longer) (ltb-false (length v.seen) (length w.seen) less) in
          let their : own_entries seat_of (numbers_in w) a.rest ≡ [] = front_none (numbers_in w) a.rest mid.0 (subst (λ l. own_entries seat_of (numbers_in w) l ≡ []) mid.1 b.none_missed) in
          rw less (a.rest, a.longer, own_both (numbers_in v) (numbers_in w) a.rest next a.none_missed their)

  joined_is_seat : (h : List E) (v w : Part E) → w.first ≡ v.first + v.count → IsSeat seat_of h v → IsSeat seat_of h w → IsSeat seat_of h (joined_part seat_of v w)
  joined_is_seat h v w next is theirs =
      let below = theirs.below in
      let all = joined_seen h v w next is theirs in
      record {
        seen_of = record { rest = all.0; longer = all.1; none_missed = all.2; mine_is = refl };
        below = omega arith;
        told_of = ((is.seen_of.rest, is.seen_of.longer), (theirs.seen_of.rest, theirs.seen_of.longer), none_missed h v w is theirs);
      }

  spent_is_seat : (h : List E) → IsSeat seat_of h spent_part
  spent_is_seat h =
      record {
        seen_of = record { rest = h; longer = sym (append-nil h); none_missed = none_own h; mine_is = refl };
        below = omega arith;
        told_of = tt;
      }

  module _ {V : Type 0} (part_of : V → Part E) (views : List V) (id other : ℕ) (v w both spent : V) (next : (part_of w).first ≡ (part_of v).first + (part_of v).count) (is_both : part_of both ≡ joined_part seat_of (part_of v) (part_of w)) (is_spent : part_of spent ≡ spent_part) (at : get_elem? views id ≡ some v) (atw : get_elem? views other ≡ some w) (away : other ≢ id) where
    abbrev after_join : List V
    after_join = set (set views id both) other spent

    abbrev united : Numbers
    united = both_numbers (numbers_in (part_of v)) (numbers_in (part_of w))

    -- a fact of every view, after a join
    pub each_joined : (P : V → Type 0) → EachView P views → P both → P spent → EachView P after_join
    each_joined P all b s = each_set P P (set views id both) other spent (each_set P P views id both all b (λ i u ne e old. old)) s (λ i u ne e old. old)

    -- which view a place has: the spent one, the joined one, or another
    abbrev Place : ℕ → V → Type 0
    Place i u =
        ((i ≡ other) × (spent ≡ u)) ⊎ (((i ≡ id) × (both ≡ u)) ⊎ ((i ≢ other) × (i ≢ id) × (get_elem? views i ≡ some u)))

    place_of : (i : ℕ) (u : V) → get_elem? after_join i ≡ some u → Place i u
    place_of i u e =
        ⊎_elim (λ t. inl t) (λ t. ⊎_elim (λ q. inr (inl q)) (λ q. inr (inr (t.0, q.0, q.1))) (at_set views id i both u t.1)) (at_set (set views id both) other i spent u e)

    none_of_spent : (u : V) (n : ℕ) → spent ≡ u → owns (numbers_in (part_of u)) n ≡ false
    none_of_spent u n is = subst (λ k. owns (numbers_in (part_of k)) n ≡ false) is (subst (λ p. owns (numbers_in p) n ≡ false) (sym is_spent) (none_owned n))

    pub both_owns : (n : ℕ) → owns (numbers_in (part_of both)) n ≡ true → (owns (numbers_in (part_of v)) n ≡ true) ⊎ (owns (numbers_in (part_of w)) n ≡ true)
    both_owns n own = both_owned (numbers_in (part_of v)) (numbers_in (part_of w)) n next (subst (λ p. owns (numbers_in p) n ≡ true) is_both own)

    module _ (h : OwnApart seat_of part_of views) where
      -- another view owns nothing of what the two own
      beside_both : (i : ℕ) (u : V) (n : ℕ) → i ≢ other → i ≢ id → get_elem? views i ≡ some u → owns (numbers_in (part_of both)) n ≡ true → owns (numbers_in (part_of u)) n ≡ false
      beside_both i u n no_w no_v ati own =
          ⊎_elim (λ q. h id i v u at ati (λ k. no_v (sym k)) n q) (λ q. h other i w u atw ati (λ k. no_w (sym k)) n q) (both_owns n own)

      apart_joined : OwnApart seat_of part_of after_join
      apart_joined i j u x ati atj ne n own =
          ⊎_elim
          (λ t. absurd (let none = none_of_spent u n t.1 in cc))
          (λ t. ⊎_elim
          (λ q. joined_first i j u x q.0 q.1 (place_of j x atj) ne n own)
          (λ q. other_first i j u x q (place_of j x atj) ne n own)
          t)
          (place_of i u ati)
        where
          joined_first : (i j : ℕ) (u x : V) → i ≡ id → both ≡ u → Place j x → i ≢ j → (n : ℕ) → owns (numbers_in (part_of u)) n ≡ true → owns (numbers_in (part_of x)) n ≡ false
          joined_first i j u x is same place ne n own =
              let own' : owns (numbers_in (part_of both)) n ≡ true = subst (λ k. owns (numbers_in (part_of k)) n ≡ true) (sym same) own in
              ⊎_elim (λ t. none_of_spent x n t.1) (λ t. ⊎_elim (λ q. absurd (ne (is ∙ sym q.0))) (λ q. beside_both j x n q.0 q.1 q.2 own') t) place

          other_first : (i j : ℕ) (u x : V) → (i ≢ other) × (i ≢ id) × (get_elem? views i ≡ some u) → Place j x → i ≢ j → (n : ℕ) → owns (numbers_in (part_of u)) n ≡ true → owns (numbers_in (part_of x)) n ≡ false
          other_first i j u x a place ne n own =
              ⊎_elim (λ t. none_of_spent x n t.1) (λ t. ⊎_elim (λ q. subst (λ k. owns (numbers_in (part_of k)) n ≡ false) q.1 (false_from_ne_true (owns (numbers_in (part_of both)) n) (λ b. let none = beside_both i u n a.0 a.1 a.2 b in cc))) (λ q. h i j u x a.2 q.2 ne n own) t) place

    pub seats_join : (h : List E) → SeatsStand seat_of part_of h views → SeatsStand seat_of part_of h after_join
    seats_join h stand =
        record {
          each = each_joined (λ u. IsSeat seat_of h (part_of u)) stand.each (subst (IsSeat seat_of h) (sym is_both) (joined_is_seat h (part_of v) (part_of w) next (stand.each id v at) (stand.each other w atw))) (subst (IsSeat seat_of h) (sym is_spent) (spent_is_seat h));
          apart = apart_joined stand.apart;
          all_owned = stand.all_owned;
        }

-- what a join remembers tells, where the history is legal and so is each part of it
pub joined_of : {E : Type 0} (seat_of : E → ℕ) (IsLegal : List E → Type 0) (h : List E) (told : Told E) → ((newer older : List E) → IsLegal (newer ++ older) → IsLegal older) → IsLegal h → AreParts seat_of h (Some told) → IsJoined seat_of IsLegal told (longer_of told.staying told.joining)
joined_of seat_of IsLegal h told cut legal parts =
    let all = parts_of_longer h told.staying told.joining parts.0 parts.1 in
    record {
      stayed = all.0;
      joined = all.1;
      legal = cut all.2.0 (longer_of told.staying told.joining) (subst IsLegal all.2.1 legal);
      made_by_staying = parts.2.by_staying;
      made_by_joining = parts.2.by_joining;
    }
