use Rattle.std.proofs.Common.{rules, ◌≡◌, ◌+◌, ◌∷◌, [], ◌++◌, sym, subst, refl, arith, length, ℕ, List}
use Rattle.loop_rows.specs.declared.shared.LoopShared.{LoopShared}
use Rattle.loop_rows.specs.declared.seats.Seats.{Seats}
use Rattle.loop_rows.specs.declared.opening.Homes.{Homes}
use Rattle.loop_rows.specs.Rows.{AreSeatsOf, EachAt}
use Rattle.loop_rows.specs.Opening.{IsNewLoop, NewEach, AreHomesOf, HomesEach}
use Rattle.loop_rows.proofs.Places.{both_pushed}
use Rattle.loop_rows.proofs.Building.{three_pushed}
use Rattle.loop_rows.proofs.opening.open.Goals as goal

pub loop-preserved : goal.loop-preserved
loop-preserved g c =
    let was = c.loop.invariant in
    let n : ℕ = c.loop.counter in
    let made = c.in_ok-made.made in
    let t = c.push_reserved.ensures in
    let h = c.push_reserved-in-loop.ensures in
    let s = c.push_reserved-in-loop-2.ensures in
    let ls : length c.loop.shared.items ≡ n = omega (arith, was.0, c.loop.shared.ok.0) in
    let lh : length c.loop.homes.items ≡ n = omega (arith, was.1, c.loop.homes.ok.0) in
    let lz : length c.loop.seats.items ≡ n = omega (arith, was.2, c.loop.seats.ok.0) in (
      omega (arith, was.0, t.len),
      omega (arith, was.1, h.len),
      omega (arith, was.2, s.len),
      omega (arith, was.3, t.capacity),
      omega (arith, was.4, h.capacity),
      omega (arith, was.5, s.capacity),
      subst (λ (xs : List (LoopShared _ _)). EachAt (n + 1) 0 64 xs c.push_reserved-in-loop-2.new.self.items) (sym t.items)
          (subst (λ (zs : List (Seats _ _)). EachAt (n + 1) 0 64 (c.loop.shared.items ++ made.shared ∷ []) zs) (sym s.items)
          (both_pushed (λ (x : LoopShared _ _) (z : Seats _ _). AreSeatsOf 0 64 x z) c.loop.shared.items c.loop.seats.items n made.shared made.seats ls lz was.6 c.in_ok-made.ensures.seats)),
      subst (λ (xs : List (LoopShared _ _)). HomesEach (n + 1) xs c.push_reserved-in-loop.new.self.items) (sym t.items)
          (subst (λ (ys : List (Homes _ _)). HomesEach (n + 1) (c.loop.shared.items ++ made.shared ∷ []) ys) (sym h.items)
          (both_pushed (λ (x : LoopShared _ _) (y : Homes _ _). AreHomesOf x y) c.loop.shared.items c.loop.homes.items n made.shared made.homes ls lh was.7 c.in_ok-made.ensures.homes)),
      subst (λ (xs : List (LoopShared _ _)). NewEach (n + 1) c.args.coroutines g.origin xs c.push_reserved-in-loop.new.self.items c.push_reserved-in-loop-2.new.self.items) (sym t.items)
          (subst (λ (ys : List (Homes _ _)). NewEach (n + 1) c.args.coroutines g.origin (c.loop.shared.items ++ made.shared ∷ []) ys c.push_reserved-in-loop-2.new.self.items) (sym h.items)
          (subst (λ (zs : List (Seats _ _)). NewEach (n + 1) c.args.coroutines g.origin (c.loop.shared.items ++ made.shared ∷ []) (c.loop.homes.items ++ made.homes ∷ []) zs) (sym s.items)
          (three_pushed (λ (x : LoopShared _ _) (y : Homes _ _) (z : Seats _ _). IsNewLoop c.args.coroutines g.origin x y z) c.loop.shared.items c.loop.homes.items c.loop.seats.items n made.shared made.homes made.seats
          ls lh lz was.8 c.in_ok-made.ensures.made))),
    )

pub returns : goal.returns
returns g c =
    let was = c.loop.invariant in
    let n : c.loop.counter ≡ c.args.loops = search rules in
    let long : length c.loop.shared.items ≡ c.args.loops = omega (arith, was.0, c.loop.shared.ok.0, n) in
    let each = subst (λ (m : ℕ). NewEach m c.args.coroutines g.origin c.loop.shared.items c.loop.homes.items c.loop.seats.items) n was.8 in
    record {
      long = long;
      homes_long = omega (arith, was.1, c.loop.homes.ok.0, n);
      each = each;
      homes_each = λ k t h lt. was.7 k t h (omega (arith, lt, n));
      is_row = record { long = omega (arith, was.2, c.loop.seats.ok.0, long, n); below = omega arith; each = λ k t s lt. was.6 k t s (omega (arith, lt, long, n)) };
      numbers = record { first_is = refl; count_is = refl };
    }
