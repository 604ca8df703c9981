-- Seats that are split and joined keep the rule.
use Rattle.std.proofs.Common.{◌≡◌, ℕ, ◌+◌, ◌<◌, ◌≤◌, Bool, true, false, cond, List, refl, sym, ◌∙◌, ⊎_elim, arith}
use mathlib.Core.Option.{some}
use lib.ListN.{get_elem?}
use Rattle.atomic_table.specs.Table.{Splits, Joins}
use Rattle.atomic_table.proofs.Lists.{set_else}
use Rattle.table_seats.specs.Seats.{owns, home}
use Rattle.table_seats.proofs.Splitting.{front_owned, back_owned, each_split, seats_split}
use Rattle.table_seats.proofs.Joining.{both_owned, none_owned, each_joined, seats_join}
use Rattle.aio_model.specs.Coroutines.History.{seat_of}
use Rattle.co_schedule.specs.Known.{Known, part_of, numbers_of}
use Rattle.co_schedule.specs.Rule.{WalkStands, Knows}
use Rattle.co_schedule.specs.Slots.{Holds, HoldsAll, Kept}
use Rattle.co_schedule.specs.Seating.{front_known, back_known, joined_known, spent_known}

module _ {S : Type 0} (given_in : S → Bool) (IsOf : ℕ → S → Type 0) where
  pub split_allowed : (n id cut : ℕ) (v : Known) → 0 < cut → cut ≤ v.count → Splits (Kept given_in IsOf n) id v (front_known cut v) (back_known cut v)
  split_allowed n id cut v full low s kept at =
      let h = kept.0 in
      let stand = kept.1 in
      let was = stand.knows id v at in
      let left = front_known cut v in
      let right = back_known cut v in (
        h,
        record {
          long = stand.long;
          legal = stand.legal;
          seats = seats_split seat_of part_of s.views id cut v left right low refl refl h stand.seats at;
          marks = stand.marks;
          taken = stand.taken;
          stack = stand.stack;
          queue = stand.queue;
          chain = stand.chain;
          knows = each_split (Knows n h s.words stand.taken) s.views id left right stand.knows
              (record { coroutines_are = λ _. was.coroutines_are (omega arith); active = λ _. full; owes = was.owes; walks = λ own. was.walks (front_owned (numbers_of v) cut home low own) })
              (record { coroutines_are = λ _. was.coroutines_are (omega arith); active = λ q. absurd cc; owes = tt; walks = λ own. was.walks (back_owned (numbers_of v) cut home low own) });
        },
        record {
          vacant = kept.2.vacant;
          full = each_split (HoldsAll given_in IsOf n h s.homes) s.views id left right kept.2.full
              (λ own. kept.2.full id v at (front_owned (numbers_of v) cut home low own))
              (λ own. kept.2.full id v at (back_owned (numbers_of v) cut home low own));
        },
      )

  pub join_allowed : (n id other : ℕ) (v w : Known) → w.first ≡ v.first + v.count → 0 < v.count → Joins (Kept given_in IsOf n) id v other w (joined_known v w) spent_known
  join_allowed n id other v w next numbered s kept at away at_later =
      let atw : get_elem? s.views other ≡ some w = sym (set_else s.views id other (joined_known v w) away) ∙ at_later in
      let h = kept.0 in
      let stand = kept.1 in
      let was = stand.knows id v at in
      let theirs = stand.knows other w atw in
      let both = joined_known v w in (
        h,
        record {
          long = stand.long;
          legal = stand.legal;
          seats = seats_join seat_of part_of s.views id other v w both spent_known next refl refl at atw away h stand.seats;
          marks = stand.marks;
          taken = stand.taken;
          stack = stand.stack;
          queue = stand.queue;
          chain = stand.chain;
          knows = each_joined seat_of part_of s.views id other v w both spent_known next refl refl at atw away (Knows n h s.words stand.taken) stand.knows
              (record {
                coroutines_are = λ _. was.coroutines_are numbered;
                active = λ _. omega arith;
                owes = was.owes;
                walks = λ own. walks_by (owns (numbers_of w) home) refl stand.taken own was.walks theirs.walks;
              })
              (record { coroutines_are = λ none_left. absurd (omega arith); active = λ q. absurd cc; owes = tt; walks = λ own. absurd (let nobody = none_owned home in cc) });
        },
        record {
          vacant = kept.2.vacant;
          full = each_joined seat_of part_of s.views id other v w both spent_known next refl refl at atw away (HoldsAll given_in IsOf n h s.homes) kept.2.full
              (λ own c small t given is. holds_by (owns (numbers_of w) home) refl own c t given (λ mine. kept.2.full id v at mine c small t given is) (λ its. kept.2.full other w atw its c small t given is))
              (λ own. absurd (let nobody = none_owned home in cc));
        },
      )
    where
      not_its : owns (numbers_of w) home ≡ false → owns (numbers_of (joined_known v w)) home ≡ true → owns (numbers_of v) home ≡ true
      not_its isnt own = ⊎_elim (λ q. q) (λ q. absurd cc) (both_owned (numbers_of v) (numbers_of w) home next own)

      walks_by : (b : Bool) → owns (numbers_of w) home ≡ b → (taken : List ℕ) → owns (numbers_of (joined_known v w)) home ≡ true → (owns (numbers_of v) home ≡ true → WalkStands s.words taken v.stage) → (owns (numbers_of w) home ≡ true → WalkStands s.words taken w.stage) → WalkStands s.words taken (cond b w.stage v.stage)
      walks_by true is taken own mine its = its is
      walks_by false is taken own mine its = mine (not_its is own)

      holds_by : (b : Bool) → owns (numbers_of w) home ≡ b → owns (numbers_of (joined_known v w)) home ≡ true → (c t : ℕ) (given : Bool) → (owns (numbers_of v) home ≡ true → Holds given_in IsOf c v.stage given (get_elem? s.homes c)) → (owns (numbers_of w) home ≡ true → Holds given_in IsOf c w.stage given (get_elem? s.homes c)) → Holds given_in IsOf c (cond b w.stage v.stage) given (get_elem? s.homes c)
      holds_by true is own c t given mine its = its is
      holds_by false is own c t given mine its = mine (not_its is own)
