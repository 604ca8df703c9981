use Rattle.std.proofs.Common.{◌≡◌, ◌<◌, ◌≤◌, ◌+◌, ◌∙◌, ap, sym, subst, refl, arith, length, ℕ, vec_len, List, ◌∷◌, [], slice_index_or}
use Rattle.std.proofs.lemmas.Bool.{cases_eq}
use mathlib.Core.Logic.{⊎_elim}
use Rattle.std.proofs.lemmas.List.{get_or_append_left, get_or_default}
use Rattle.aio_bh.specs.OneShots.{ServesHome}
use Rattle.aio_loop.specs.Homes.{IsHomeFree}
use Rattle.co_schedule.specs.Calls.{IsSeatOf as IsCoSeatOf}
use Rattle.co_loop.specs.Working.{CanWork}
use Rattle.loop_rows.specs.declared.rows.Row.{Row}
use Rattle.loop_threads.specs.declared.parts.Part.{Part}
use Rattle.loop_threads.specs.declared.members.Member.{Member}
use Rattle.loop_threads.specs.Parts.{IsLoopPart}
use Rattle.loop_threads.specs.Members.{IsOfPart, IsMemberOf}
use Rattle.loop_rows.proofs.Places.{at_push, longer, some_of}
use Rattle.loop_threads.specs.Within.{IsSeenWithin}
use Rattle.loop_threads.proofs.Holding.{just_joined, stayed_within, united_own, within_still}
use Rattle.loop_threads.proofs.Membership.{taken_last, member_more}
use Rattle.loop_threads.proofs.members.join_all.Goals as goal

pub join-requires-clause-other : goal.join-requires-clause-other
join-requires-clause-other g c =
    let was = c.loop-part.invariant in
    let all = c.loop-part.parts in
    let rest = c.pop.new.self in
    let v = c.in-Some.part in
    let e = c.in-Some.ensures.items in
    let n = longer all.items rest.items v e in
    let at = taken_last c.args.parts.items all.items rest.items v e (was.2 (length rest.items) v (omega (arith, n, all.ok.0))) in
    let is = subst (IsLoopPart (CanWork g.C.Origin.is_of) c.args.shared.now) (sym at) (c.requires.parts.0 (length rest.items) v (omega (arith, n, all.ok.0, was.0, c.requires.parts.2, c.args.parts.ok.0))) in
    is.station.row

pub join-requires-clause-next : goal.join-requires-clause-next
join-requires-clause-next g c =
    let was = c.loop-part.invariant in
    let all = c.loop-part.parts in
    let rest = c.pop.new.self in
    let v = c.in-Some.part in
    let e = c.in-Some.ensures.items in
    let n = longer all.items rest.items v e in
    let at = taken_last c.args.parts.items all.items rest.items v e (was.2 (length rest.items) v (omega (arith, n, all.ok.0))) in
    let is = subst (IsLoopPart (CanWork g.C.Origin.is_of) c.args.shared.now) (sym at) (c.requires.parts.0 (length rest.items) v (omega (arith, n, all.ok.0, was.0, c.requires.parts.2, c.args.parts.ok.0))) in
    let number = subst (λ (x : Part _ _ _). x.number + length rest.items + 1 ≡ length c.args.parts.items) (sym at) (c.requires.parts.1 (length rest.items) v (omega (arith, n, all.ok.0, was.0, c.requires.parts.2, c.args.parts.ok.0))) in
    (omega (arith, is.numbers.first_is, number, was.0, n, all.ok.0, c.requires.parts.2, c.args.parts.ok.0, was.4.first_is, was.4.count_is), omega (arith, is.numbers.count_is))

pub loop-part-preserved : goal.loop-part-preserved
loop-part-preserved g c =
    let was = c.loop-part.invariant in
    let T = c.args.shared.now in
    let all = c.loop-part.parts in
    let rest = c.pop.new.self in
    let v = c.in-Some.part in
    let e = c.in-Some.ensures.items in
    let n = longer all.items rest.items v e in
    let orig = c.args.parts in
    let same = was.2 (length rest.items) v (omega (arith, n, all.ok.0)) in
    let at = taken_last orig.items all.items rest.items v e same in
    let is = subst (IsLoopPart (CanWork g.C.Origin.is_of) c.args.shared.now) (sym at) (c.requires.parts.0 (length rest.items) v (omega (arith, n, all.ok.0, was.0, c.requires.parts.2, orig.ok.0))) in
    let done = c.loop-part.members in
    let pushed = c.push_reserved.ensures in
    let number = subst (λ (x : Part _ _ _). x.number + length rest.items + 1 ≡ length orig.items) (sym at) (c.requires.parts.1 (length rest.items) v (omega (arith, n, all.ok.0, was.0, c.requires.parts.2, orig.ok.0))) in
    let here : v.number ≡ length c.loop-part.members.items = omega (arith, number, was.0, n, all.ok.0, c.requires.parts.2, orig.ok.0, c.loop-part.members.ok.0) in
    let made : Member _ _ _ = record { home = v.home; side = v.side; lot_pass = v.lot_pass; coroutines = v.coroutines; work = v.work } in (
      omega (arith, was.0, n, all.ok.0, rest.ok.0, pushed.len),
      (pushed.capacity ∙ was.1),
      (λ k p lt. sym (ap (λ l. slice_index_or l k p) e ∙ get_or_append_left rest.items (v ∷ []) p k (omega (arith, lt, rest.ok.0))) ∙ was.2 k p (omega (arith, lt, n, all.ok.0, rest.ok.0))),
      c.join.ensures.is_row,
      record { first_is = c.join.ensures.numbers.first_is ∙ was.4.first_is; count_is = omega (arith, c.join.ensures.numbers.count_is, was.4.count_is, is.numbers.count_is, pushed.len) },
      (λ k t m lt. subst (λ (xs : List (Member _ _ _)). IsMemberOf (slice_index_or c.args.shared.now k t) (slice_index_or xs k m)) (sym pushed.items)
          (at_push (λ (i : ℕ) (y : Member _ _ _). IsMemberOf (slice_index_or c.args.shared.now i t) y) done.items (length done.items) made refl
          (record {
            home = subst (λ (i : ℕ). IsHomeFree (slice_index_or c.args.shared.now i t).bottoms v.home.seat) here (is.station.home t);
            lots = subst (λ (i : ℕ). ServesHome (slice_index_or c.args.shared.now i t).bottoms.sizes (slice_index_or c.args.shared.now i t).pool v.lot_pass) here (is.station.lots t);
            coroutines = subst (λ (i : ℕ). IsCoSeatOf (slice_index_or c.args.shared.now i t).coroutines v.coroutines) here (is.station.coroutines t);
          })
          k m (omega (arith, lt, pushed.len, done.ok.0)) (λ low. was.5 k t m (omega (arith, low, done.ok.0))))),
      (λ some t s lt. united_own (c.join.ensures.each t (some_of T t lt) s s s (omega arith) lt)),
      (λ j p low high t s w lt. ⊎_elim
          (λ (is : j ≡ length rest.items). subst (λ (x : Part _ _ _). IsSeenWithin (slice_index_or x.row.seats.items t s) (slice_index_or c.join.new.self.seats.items t w)) (at ∙ get_or_default orig.items (length rest.items) v p (omega (arith, n, all.ok.0, was.0, c.requires.parts.2, orig.ok.0)) ∙ ap (λ (i : ℕ). slice_index_or orig.items i p) (sym is))
          (just_joined (c.join.ensures.each t (some_of T t lt) w s w (omega arith) lt)))
          (λ (ne : j ≡ length rest.items → ⊥).
          let less : vec_len all ≤ j = grind (arith, low, ne, n, all.ok.0, rest.ok.0) in
          let before = c.requires.parts.0 j p (omega (arith, high, c.requires.parts.2, orig.ok.0)) in
          let order = c.requires.parts.1 j p (omega (arith, high, c.requires.parts.2, orig.ok.0)) in
          within_still _ _ _ _ (slice_index_or T t (some_of T t lt)) (before.station.row.each t (some_of T t lt) s lt) (was.3.each t (some_of T t lt) w lt)
          (omega (arith, was.4.first_is)) (omega (arith, was.4.first_is, was.4.count_is, before.numbers.first_is, before.numbers.count_is, order, less, was.0, c.requires.parts.2, orig.ok.0, c.requires.few))
          (was.7 j p less high t s w lt) (was.6 (omega (arith, less, high, was.0)) t w lt) (c.join.ensures.each t (some_of T t lt) w (slice_index_or v.row.seats.items t s) w (omega arith) lt))
          (cases_eq j (length rest.items))),
      (λ k j p m h lt. subst (λ (xs : List (Member _ _ _)). IsOfPart (slice_index_or orig.items j p) (slice_index_or xs k m)) (sym pushed.items)
          (member_more (λ (x : Part _ _ _) (y : Member _ _ _). IsOfPart x y) orig.items all.items rest.items done.items v made (length c.args.shared.now) e (omega (arith, was.0, all.ok.0, done.ok.0)) (omega (arith, c.requires.parts.2, orig.ok.0)) same
          (record { home_is = refl; side_is = refl; lots_are = refl; coroutines_are = refl; work_is = refl })
          (λ a b x y f low. was.8 a b x y f (omega (arith, low, done.ok.0))) k j p m h (omega (arith, lt, pushed.len, done.ok.0)))),
      (λ none. absurd (omega (arith, none, pushed.len))),
      (λ some t s w lt. ⊎_elim
          (λ (first : vec_len done ≡ 0). subst (λ (x : Row _ _). IsSeenWithin (slice_index_or x.seats.items t s) (slice_index_or c.join.new.self.seats.items t w)) (was.9 first) (stayed_within (c.join.ensures.each t (some_of T t lt) s w w (omega arith) lt)))
          (λ (ne : vec_len done ≡ 0 → ⊥).
          let more : 0 < vec_len done = grind (arith, ne) in
          within_still _ _ _ _ (slice_index_or T t (some_of T t lt)) (c.requires.mine.0.each t (some_of T t lt) s lt) (was.3.each t (some_of T t lt) w lt)
          (omega (arith, was.4.first_is)) (omega (arith, was.4.first_is, was.4.count_is, c.requires.mine.1.first_is, c.requires.mine.1.count_is))
          (was.10 more t s w lt) (was.6 more t w lt) (c.join.ensures.each t (some_of T t lt) w (slice_index_or v.row.seats.items t s) w (omega arith) lt))
          (cases_eq (vec_len done) 0)),
    )

pub returns-clause-members : goal.returns-clause-members
returns-clause-members g c =
    let was = c.loop-part.invariant in
    let none : vec_len c.loop-part.parts ≡ 0 = c.in_default.ensures.cases.0 in
    (omega (arith, was.0, none, c.requires.parts.2), (λ k j p m h. was.8 k j p m (omega (arith, h, c.requires.parts.2)) (omega (arith, h, was.0, none, c.requires.parts.2))))

pub returns-clause-homes : goal.returns-clause-homes
returns-clause-homes g c k t m lt =
    let was = c.loop-part.invariant in
    let none : vec_len c.loop-part.parts ≡ 0 = c.in_default.ensures.cases.0 in
    was.5 k t m (omega (arith, lt, was.0, none))

pub returns-clause-rows : goal.returns-clause-rows
returns-clause-rows g c j p low high t s w lt =
    let was = c.loop-part.invariant in
    let none : vec_len c.loop-part.parts ≡ 0 = c.in_default.ensures.cases.0 in
    was.7 j p (omega (arith, none)) high t s w lt

pub returns-clause-own : goal.returns-clause-own
returns-clause-own g c t s lt =
    let was = c.loop-part.invariant in
    let none : vec_len c.loop-part.parts ≡ 0 = c.in_default.ensures.cases.0 in
    was.6 (omega (arith, lt, was.0, none)) t s lt

pub returns-clause-mine : goal.returns-clause-mine
returns-clause-mine g c some =
    let was = c.loop-part.invariant in
    let none : vec_len c.loop-part.parts ≡ 0 = c.in_default.ensures.cases.0 in
    was.10 (omega (arith, some, was.0, none))
