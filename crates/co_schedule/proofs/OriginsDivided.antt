-- A split and a join that keep the rule on what seats know keep it with the origin beside.
use Rattle.std.proofs.Common.{◌≡◌, ℕ, ◌<◌, Some, None, [], ◌∷◌, ◌++◌, map, set, sym, ap, ◌∙◌, subst, arith}
use Rattle.std.proofs.lemmas.List.{map-append, map-set}
use mathlib.Core.Option.{some}
use lib.ListN.{get_elem?}
use Rattle.atomic_table.specs.Table.{State, Splits, Joins}
use Rattle.atomic_table.proofs.Lists.{at_map}
use Rattle.table_seats.proofs.Seats.{each_set}
use Rattle.table_seats.proofs.Splitting.{each_split}
use Rattle.co_schedule.specs.Known.{Known}
use Rattle.co_schedule.specs.Held.{Held, known_in, state_known, IsOfTable, AllOfOrigin}

abbrev pub with_known : {O : Type 0} → Held O → Known → Held O
with_known held known = record held { known = known }

-- what is left of a seat that was joined into another
abbrev pub spent_of : {O : Type 0} → Known → Held O
spent_of known = record { known = known; origin = None }

module _ {S O : Type 0} (kept : State S Known → Type 0) (origin : O) where
  pub splits_of : (id : ℕ) (v : Held O) (left right : Known) → 0 < v.known.count → Splits kept id v.known left right → Splits (AllOfOrigin kept origin) id v (with_known v left) (with_known v right)
  splits_of id v left right numbered splits s all at =
      let of : v.origin ≡ Some origin = all.1 id v at numbered in
      let whole = splits (state_known s) all.0 (at_map known_in s.views id v at) in
      let views : map known_in (set s.views id (with_known v left) ++ with_known v right ∷ []) ≡ set (map known_in s.views) id left ++ right ∷ [] = map-append known_in (set s.views id (with_known v left)) (with_known v right ∷ []) ∙ ap (λ l. l ++ right ∷ []) (map-set known_in s.views id (with_known v left)) in
      (subst (λ vs. kept record { words = s.words; homes = s.homes; views = vs }) (sym views) whole, each_split (IsOfTable origin) s.views id (with_known v left) (with_known v right) all.1 (λ _. of) (λ _. of))

  pub joins_of : (id other : ℕ) (v w : Held O) (both spent : Known) → 0 < v.known.count → spent.count ≡ 0 → Joins kept id v.known other w.known both spent → Joins (AllOfOrigin kept origin) id v other w (with_known v both) (spent_of spent)
  joins_of id other v w both spent numbered none joins s all at away at_later =
      let of : v.origin ≡ Some origin = all.1 id v at numbered in
      let once : map known_in (set s.views id (with_known v both)) ≡ set (map known_in s.views) id both = map-set known_in s.views id (with_known v both) in
      let later : get_elem? (set (map known_in s.views) id both) other ≡ some w.known = subst (λ l. get_elem? l other ≡ some w.known) once (at_map known_in (set s.views id (with_known v both)) other w at_later) in
      let whole = joins (state_known s) all.0 (at_map known_in s.views id v at) away later in
      let views : map known_in (set (set s.views id (with_known v both)) other (spent_of spent)) ≡ set (set (map known_in s.views) id both) other spent = map-set known_in (set s.views id (with_known v both)) other (spent_of spent) ∙ ap (λ l. set l other spent) once in
      let nobody : IsOfTable origin (spent_of spent) = λ some_left. absurd (omega arith) in (
        subst (λ vs. kept record { words = s.words; homes = s.homes; views = vs }) (sym views) whole,
        each_set (IsOfTable origin) (IsOfTable origin) (set s.views id (with_known v both)) other (spent_of spent) (each_set (IsOfTable origin) (IsOfTable origin) s.views id (with_known v both) all.1 (λ _. of) (λ i u ne atu old. old)) nobody (λ i u ne atu old. old),
      )
