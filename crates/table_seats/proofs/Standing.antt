-- A call that made entries stands in the history.
use Rattle.std.proofs.Common.{◌≡◌, ℕ, ◌<◌, Bool, true, false, cond, eqb, List, [], ◌∷◌, ◌++◌, refl, sym, ap, ◌∙◌, subst, append_assoc}
use Rattle.std.proofs.lemmas.Bool.{cond-true, eq-eqb, eqb-true}
use Rattle.table_seats.specs.Seats.{Numbers, Part, numbers_in, owns, entries_of, own_entries, Makes}
use Rattle.table_seats.specs.Calls.{newest_of, EndsWith, StandsInHistory, StandsAtTheEnd}
use Rattle.table_seats.proofs.Entries.{owns_first}

module _ {E : Type 0} (seat_of : E → ℕ) where
  -- what has no entry of a seat has none of a number that it owns
  fewer : (b c : Bool) (e : E) (ns ms : List E) → (b ≡ true → c ≡ true) → (ms ≡ [] → ns ≡ []) → cond c (e ∷ ms) ms ≡ [] → cond b (e ∷ ns) ns ≡ []
  fewer b true e ns ms k l h = absurd cc
  fewer true false e ns ms k l h = absurd (let no : false ≡ true = k refl in cc)
  fewer false false e ns ms k l h = l h

  pub none_of : (numbers : Numbers) (number : ℕ) (xs : List E) → owns numbers number ≡ true → own_entries seat_of numbers xs ≡ [] → entries_of seat_of number xs ≡ []
  none_of numbers number [] own h = refl
  none_of numbers number (e ∷ xs) own h =
      fewer (eqb (seat_of e) number) (owns numbers (seat_of e)) e (entries_of seat_of number xs) (own_entries seat_of numbers xs) (λ same. subst (λ k. owns numbers k ≡ true) (sym (eqb-true (seat_of e) number same)) own) (none_of numbers number xs own) h

  appended : (b : Bool) (e : E) (xs ys zs : List E) → zs ≡ xs ++ ys → cond b (e ∷ zs) zs ≡ cond b (e ∷ xs) xs ++ ys
  appended true e xs ys zs h = ap (λ (l : List E). e ∷ l) h
  appended false e xs ys zs h = h

  pub entries-append : (number : ℕ) (xs ys : List E) → entries_of seat_of number (xs ++ ys) ≡ entries_of seat_of number xs ++ entries_of seat_of number ys
  entries-append number [] ys = refl
  entries-append number (e ∷ xs) ys =
      appended (eqb (seat_of e) number) e (entries_of seat_of number xs) (entries_of seat_of number ys) (entries_of seat_of number (xs ++ ys)) (entries-append number xs ys)

  here : (number : ℕ) (e : E) (xs : List E) → seat_of e ≡ number → entries_of seat_of number (e ∷ xs) ≡ e ∷ entries_of seat_of number xs
  here number e xs is = cond-true (eqb (seat_of e) number) (e ∷ entries_of seat_of number xs) (entries_of seat_of number xs) (eq-eqb (seat_of e) number is)

  -- a run of steps under this number made just these entries
  pub record HasGrown (number : ℕ) (entries seen mine seen_after mine_after : List E) : Type 0 where
    pub rest : List E
    pub longer : seen_after ≡ rest ++ seen
    pub just_these : entries_of seat_of number rest ≡ entries
    pub mine_grows : mine_after ≡ entries ++ mine

  pub grown_by_none : (number : ℕ) (seen mine : List E) → HasGrown number [] seen mine seen mine
  grown_by_none number seen mine =
      record { rest = []; longer = refl; just_these = refl; mine_grows = refl }

  -- only others made entries
  pub grown_by_others : (others : List E) (v w : Part E) → 0 < v.count → own_entries seat_of (numbers_in v) others ≡ [] → w.seen ≡ others ++ v.seen → w.mine ≡ v.mine → HasGrown v.first [] v.seen v.mine w.seen w.mine
  grown_by_others others v w numbered not_own seen mine =
      record { rest = others; longer = seen; just_these = none_of (numbers_in v) v.first others (owns_first (numbers_in v) numbered) not_own; mine_grows = mine }

  -- one entry more, by the seat's own number
  pub grown_by_one : (IsLegal : List E → Type 0) (entries seen mine : List E) (e : E) (v w : Part E) → HasGrown v.first entries seen mine v.seen v.mine → Makes seat_of IsLegal e v w → seat_of e ≡ v.first → HasGrown v.first (e ∷ entries) seen mine w.seen w.mine
  grown_by_one IsLegal entries seen mine e v w so_far makes own =
      let none : entries_of seat_of v.first makes.others ≡ [] = none_of (numbers_in v) v.first makes.others (owns_first (numbers_in v) makes.numbered) makes.not_own in
      record {
        rest = e ∷ (makes.others ++ so_far.rest);
        longer = makes.seen ∙ ap (λ (l : List E). e ∷ (makes.others ++ l)) so_far.longer ∙ ap (λ (l : List E). e ∷ l) (sym (append_assoc makes.others so_far.rest seen));
        just_these = here v.first e (makes.others ++ so_far.rest) own ∙ ap (λ (l : List E). e ∷ l) (entries-append v.first makes.others so_far.rest ∙ ap (λ (l : List E). l ++ entries_of seat_of v.first so_far.rest) none ∙ so_far.just_these);
        mine_grows = makes.mine ∙ ap (λ (l : List E). e ∷ l) so_far.mine_grows;
      }

  -- what was seen then is legal, and ends with the last of these
  pub stands_of : (IsLegal : List E → Type 0) (number : ℕ) (entries seen mine seen_after mine_after : List E) → HasGrown number entries seen mine seen_after mine_after → IsLegal seen_after → EndsWith entries seen_after → StandsAtTheEnd seat_of IsLegal number entries seen mine seen_after mine_after
  stands_of IsLegal number entries seen mine seen_after mine_after grown legal ends =
      record { stands = record { rest = grown.rest; longer = grown.longer; legal = legal; just_these = grown.just_these; mine_grows = grown.mine_grows }; ends = ends }

  -- one entry, by the seat's own number
  pub makes_stand : (IsLegal : List E → Type 0) (e : E) (v w : Part E) → Makes seat_of IsLegal e v w → seat_of e ≡ v.first → StandsAtTheEnd seat_of IsLegal v.first (e ∷ []) v.seen v.mine w.seen w.mine
  makes_stand IsLegal e v w makes own =
      stands_of IsLegal v.first (e ∷ []) v.seen v.mine w.seen w.mine (grown_by_one IsLegal [] v.seen v.mine e v w (grown_by_none v.first v.seen v.mine) makes own) makes.legal (ap newest_of makes.seen)

  -- more entries behind those of a call
  pub stands_append : (IsLegal : List E → Type 0) (number : ℕ) (es fs a ma b mb c mc : List E) → StandsInHistory seat_of IsLegal number es a ma b mb → StandsInHistory seat_of IsLegal number fs b mb c mc → StandsInHistory seat_of IsLegal number (fs ++ es) a ma c mc
  stands_append IsLegal number es fs a ma b mb c mc h k =
      record {
        rest = k.rest ++ h.rest;
        longer = k.longer ∙ ap (λ (l : List E). k.rest ++ l) h.longer ∙ sym (append_assoc k.rest h.rest a);
        legal = k.legal;
        just_these = entries-append number k.rest h.rest ∙ ap (λ (l : List E). l ++ entries_of seat_of number h.rest) k.just_these ∙ ap (λ (l : List E). fs ++ l) h.just_these;
        mine_grows = k.mine_grows ∙ ap (λ (l : List E). fs ++ l) h.mine_grows ∙ sym (append_assoc fs es ma);
      }
