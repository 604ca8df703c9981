use Rattle.std.proofs.Common.{rules, ◌≡◌, ◌<◌, ◌+◌, ◌∙◌, ap, sym, subst, refl, arith, length, ℕ, [], ◌∷◌, vec_len, slice_index_or, length-set}
use Rattle.std.proofs.lemmas.List.{get_or-set_other, get_or_append_left, get_or_at}
use Rattle.loop_rows.specs.declared.shared.LoopShared.{LoopShared}
use Rattle.loop_rows.specs.declared.seats.Seats.{Seats}
use Rattle.loop_rows.specs.Rows.{AreSeatsOf, UnitesEach}
use Rattle.loop_rows.proofs.Places.{as_read, longer}
use Rattle.loop_rows.proofs.Rowing.{renumbered, unite_each, popped_seat, united_more}
use Rattle.loop_rows.proofs.rows.Row.join.Goals as goal

pub loop-seat-init : goal.loop-seat-init
loop-seat-init g c =
    let this = c.requires.row in let other = c.requires.other in (
      this.long,
      omega (arith, other.long, c.args.other.seats.ok.0),
      refl,
      refl,
      refl,
      (λ k d lt. refl),
      (λ k d lt. refl),
      (λ k t b o a l h. absurd (omega (arith, l, h, other.long, c.args.other.seats.ok.0))),
    )

pub unite-requires-clause-seats : goal.unite-requires-clause-seats
unite-requires-clause-seats g c =
    let was = c.loop-seat.invariant in
    let T = c.args.shared.now in
    let n : ℕ = c.len-t.result in
    let nl : n ≡ vec_len c.pop.new.self = search rules in
    let more : vec_len c.loop-seat.seats ≡ n + 1 = omega (arith, longer c.loop-seat.seats.items c.pop.new.self.items c.in-Some.seat c.in-Some.ensures.items, c.loop-seat.seats.ok.0, c.pop.new.self.ok.0, nl) in
    let lt : n < length T = omega (arith, more, was.1) in
    let old = c.index_mut.result.now in
    let at = as_read (λ (x : LoopShared _ _) (y : Seats _ _). AreSeatsOf c.args.self.now.first c.args.self.now.count x y) T c.args.self.now.seats.items n c.index-shared-t.result old c.index-shared-t.is (c.index_mut.ensures.value ∙ was.5 n old (omega (arith, more))) (c.requires.row.each n c.index-shared-t.result old lt) in
    renumbered (sym at.first_is) (sym at.count_is) at

pub unite-requires-clause-other : goal.unite-requires-clause-other
unite-requires-clause-other g c =
    let was = c.loop-seat.invariant in
    let T = c.args.shared.now in
    let n : ℕ = c.len-t.result in
    let nl : n ≡ vec_len c.pop.new.self = search rules in
    let more : vec_len c.loop-seat.seats ≡ n + 1 = omega (arith, longer c.loop-seat.seats.items c.pop.new.self.items c.in-Some.seat c.in-Some.ensures.items, c.loop-seat.seats.ok.0, c.pop.new.self.ok.0, nl) in
    let lt : n < length T = omega (arith, more, was.1) in
    let old = c.index_mut.result.now in
    let at = as_read (λ (x : LoopShared _ _) (y : Seats _ _). AreSeatsOf c.args.self.now.first c.args.self.now.count x y) T c.args.self.now.seats.items n c.index-shared-t.result old c.index-shared-t.is (c.index_mut.ensures.value ∙ was.5 n old (omega (arith, more))) (c.requires.row.each n c.index-shared-t.result old lt) in
    let o = popped_seat T c.args.other.seats.items c.loop-seat.seats.items c.pop.new.self.items n c.args.other.first c.args.other.count c.index-shared-t.result c.in-Some.seat c.in-Some.ensures.items (omega (arith, c.pop.new.self.ok.0, nl)) (λ d. was.6 n d (omega (arith, more))) lt c.index-shared-t.is c.requires.other.each in
    renumbered (c.requires.next.0 ∙ omega (arith, at.first_is, at.count_is)) (sym o.count_is) o

pub unite-requires-clause-below : goal.unite-requires-clause-below
unite-requires-clause-below g c =
    let was = c.loop-seat.invariant in
    let T = c.args.shared.now in
    let n : ℕ = c.len-t.result in
    let nl : n ≡ vec_len c.pop.new.self = search rules in
    let more : vec_len c.loop-seat.seats ≡ n + 1 = omega (arith, longer c.loop-seat.seats.items c.pop.new.self.items c.in-Some.seat c.in-Some.ensures.items, c.loop-seat.seats.ok.0, c.pop.new.self.ok.0, nl) in
    let lt : n < length T = omega (arith, more, was.1) in
    let o = popped_seat T c.args.other.seats.items c.loop-seat.seats.items c.pop.new.self.items n c.args.other.first c.args.other.count c.index-shared-t.result c.in-Some.seat c.in-Some.ensures.items (omega (arith, c.pop.new.self.ok.0, nl)) (λ d. was.6 n d (omega (arith, more))) lt c.index-shared-t.is c.requires.other.each in
    omega (arith, o.first_is, c.requires.next.1, c.requires.other.below)

pub loop-seat-preserved : goal.loop-seat-preserved
loop-seat-preserved g c =
    let was = c.loop-seat.invariant in
    let T = c.args.shared.now in
    let olds = c.args.self.now.seats.items in
    let news = c.loop-seat.self.seats.items in
    let v = c.unite.new.seats in
    let n : ℕ = c.len-t.result in
    let nl : n ≡ vec_len c.pop.new.self = search rules in
    let short : length c.pop.new.self.items ≡ n = omega (arith, c.pop.new.self.ok.0, nl) in
    let more : vec_len c.loop-seat.seats ≡ n + 1 = omega (arith, longer c.loop-seat.seats.items c.pop.new.self.items c.in-Some.seat c.in-Some.ensures.items, c.loop-seat.seats.ok.0, short) in
    let lt : n < length T = omega (arith, more, was.1) in
    let old = c.index_mut.result.now in (
      length-set news n v ∙ was.0,
      omega (arith, more, was.1, nl),
      was.2,
      was.3,
      was.4,
      (λ k d low. get_or-set_other news n k v d (λ e. absurd (omega (arith, low, e, nl))) ∙ was.5 k d (omega (arith, low, more, nl))),
      (λ k d low. sym (ap (λ l. slice_index_or l k d) c.in-Some.ensures.items ∙ get_or_append_left c.pop.new.self.items (c.in-Some.seat ∷ []) d k (omega (arith, low, short, nl))) ∙ was.6 k d (omega (arith, low, more, nl))),
      united_more T olds c.args.other.seats.items news (vec_len c.pop.new.self) n (vec_len c.loop-seat.seats) c.index-shared-t.result old c.in-Some.seat v (sym nl) more lt (omega (arith, lt, was.0)) (omega (arith, lt, c.requires.row.long)) (omega (arith, lt, c.requires.other.long))
          c.index-shared-t.is (c.index_mut.ensures.value ∙ was.5 n old (omega (arith, more)))
          (sym (ap (λ l. slice_index_or l n c.in-Some.seat) c.in-Some.ensures.items ∙ get_or_at c.pop.new.self.items c.in-Some.seat [] c.in-Some.seat n short) ∙ was.6 n c.in-Some.seat (omega (arith, more)))
          c.unite.ensures was.7,
    )

pub returns : goal.returns
returns g c =
    let was = c.loop-seat.invariant in
    let row = c.requires.row in
    let other = c.requires.other in
    let T = c.args.shared.now in
    let none : vec_len c.loop-seat.seats ≡ 0 = c.in_default.ensures.cases.0 in
    let each = subst (λ (m : ℕ). UnitesEach m (length T) T c.args.self.now.seats.items c.args.other.seats.items c.loop-seat.self.seats.items) none was.7 in
    record {
      is_row = record {
        long = was.0;
        below = omega (arith, was.2, was.3, was.4, c.requires.next.0, other.below);
        each = λ k x s low. renumbered (sym was.2) (omega (arith, was.3, was.4)) (unite_each T c.args.self.now.seats.items c.args.other.seats.items c.loop-seat.self.seats.items (length T) c.args.self.now.first c.args.self.now.count c.args.other.first c.args.other.count row.each other.each each k x s low);
      };
      numbers = record { first_is = was.2; count_is = omega (arith, was.3, was.4) };
      each = each;
    }
