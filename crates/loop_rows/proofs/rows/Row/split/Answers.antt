use Rattle.std.proofs.Common.{◌≡◌, ◌<◌, ◌+◌, ◌∙◌, ap, sym, length, ℕ, arith, refl, subst, slice_index_or, slice_set, rules, length-set, List}
use Rattle.std.proofs.lemmas.List.{get_or-set_other}
use Rattle.loop_rows.specs.declared.shared.LoopShared.{LoopShared}
use Rattle.loop_rows.specs.declared.seats.Seats.{Seats}
use Rattle.loop_rows.specs.Rows.{AreSeatsOf, Divides, DividesEach}
use Rattle.loop_rows.proofs.Places.{at_both, of_read, as_read}
use Rattle.loop_rows.proofs.Rowing.{renumbered, stay_each, go_each}
use Rattle.loop_rows.proofs.rows.Row.split.Goals as goal

pub divide-requires-clause-seats : goal.divide-requires-clause-seats
divide-requires-clause-seats g c =
    let was = c.loop-t.invariant in
    let t : ℕ = c.loop-t.t in
    let old = c.index_mut.result.now in
    let lt : t < length c.args.shared.now = c.loop-t-test.true in
    let at = as_read (λ (x : LoopShared _ _) (y : Seats _ _). AreSeatsOf c.args.self.now.first c.args.self.now.count x y) c.args.shared.now c.args.self.now.seats.items t c.index-shared-t.result old c.index-shared-t.is (c.index_mut.ensures.value ∙ was.4 t old (omega arith)) (c.requires.row.each t c.index-shared-t.result old lt) in
    renumbered (sym at.first_is) c.requires.half.1 at

pub loop-t-preserved : goal.loop-t-preserved
loop-t-preserved g c =
    let was = c.loop-t.invariant in
    let T = c.args.shared.now in
    let olds = c.args.self.now.seats.items in
    let news = c.loop-t.self.seats.items in
    let t : ℕ = c.loop-t.t in
    let old = c.index_mut.result.now in
    let v = c.divide.new.seats in
    let lt : t < length T = c.loop-t-test.true in
    let long : length c.loop-t.seats.items ≡ t = omega (arith, was.2, c.loop-t.seats.ok.0) in (
      (length-set news t v ∙ was.0),
      was.1,
      (c.push_reserved.ensures.len ∙ ap (λ (k : ℕ). k + 1) was.2),
      omega (arith, was.3, c.push_reserved.ensures.capacity),
      (λ k d low. get_or-set_other news t k v d (λ e. absurd (omega (arith, low, e))) ∙ was.4 k d (omega (arith, low))),
      subst (λ (xs : List (Seats _ _)). DividesEach (t + 1) c.args.half T olds (slice_set news t v) xs) (sym c.push_reserved.ensures.items)
          (λ k x b a o below. at_both (λ (j : ℕ) (y z : Seats _ _). Divides c.args.half (slice_index_or T j x) (slice_index_or olds j b) y z) news c.loop-t.seats.items t v c.divide.result long (omega (arith, lt, was.0))
          (of_read (λ (y : LoopShared _ _) (z : Seats _ _). Divides c.args.half y z v c.divide.result) T olds t c.index-shared-t.result old lt (omega (arith, lt, c.requires.row.long)) c.index-shared-t.is (c.index_mut.ensures.value ∙ was.4 t old (omega arith)) c.divide.ensures x b)
          k a o below (λ low. was.5 k x b a o low)),
    )

pub returns : goal.returns
returns g c =
    let was = c.loop-t.invariant in
    let row = c.requires.row in
    let n : c.loop-t.t ≡ length c.args.shared.now = search rules in
    let each = subst (λ (m : ℕ). DividesEach m c.args.half c.args.shared.now c.args.self.now.seats.items c.loop-t.self.seats.items c.loop-t.seats.items) n was.5 in
    record {
      stays = record {
        long = was.0;
        below = omega (arith, was.1, row.below, c.requires.half.1);
        each = λ k x s low. renumbered (sym was.1) refl (stay_each c.args.shared.now c.args.self.now.seats.items c.loop-t.self.seats.items c.loop-t.seats.items (length c.args.shared.now) c.args.self.now.first c.args.self.now.count c.args.half row.each each k x s low);
      };
      stay = record { first_is = was.1; count_is = refl };
      goes = record {
        long = omega (arith, was.2, n, c.loop-t.seats.ok.0);
        below = omega (arith, was.1, row.below, c.requires.half.1);
        each = λ k x s low. renumbered (ap (λ (m : ℕ). m + c.args.half) (sym was.1)) refl (go_each c.args.shared.now c.args.self.now.seats.items c.loop-t.self.seats.items c.loop-t.seats.items (length c.args.shared.now) c.args.self.now.first c.args.self.now.count c.args.half row.each each k x s low);
      };
      go = record { first_is = ap (λ (m : ℕ). m + c.args.half) was.1; count_is = refl };
      each = each;
    }
