use Rattle.std.proofs.Common.{arith, ap, sym, refl, subst, ◌∙◌, ◌≡◌, ◌-◌, ◌<◌, Some, [], length}
use Rattle.co_mutex.specs.Passes.{built_of, passes_of, IsNew}
use Rattle.co_mutex.proofs.Dealing.{each_more, deals, dealt_left, dealt_one, dealt_last, new_pass}
use Rattle.co_mutex.proofs.lock.CoMutex.deal.Goals as goal

pub split_seat-one-requires : goal.split_seat-one-requires
split_seat-one-requires g c =
    (c.loop-number.invariant.0, (let a = c.args.self.now.sized.0 in omega (arith, a)), deals (Some (built_of c.args.self.now)) (passes_of c.args.self.now) c.loop-number.number c.args.coroutines c.loop-number.seat.me c.loop-number.invariant.1 c.loop-number.auto.number c.loop-number-test.true g.P.LockRule.note _ _ c.loop-number.seat.id)

pub loop-number-preserved : goal.loop-number-preserved
loop-number-preserved g c =
    let e = c.split_seat-one.ensures in
    let long = c.loop-number.invariant.2 in
    let at : c.loop-number.number - 1 ≡ length c.loop-number.passes.items = (let ok = c.loop-number.passes.ok.0 in omega (arith, long, ok)) in
    let low : c.loop-number.number - 1 < passes_of c.args.self.now = (let m = c.loop-number-test.true in let n = c.requires.count.1 in omega (arith, m, n)) in (
      e.0 ∙ c.loop-number.invariant.0,
      dealt_left (Some (built_of c.args.self.now)) (passes_of c.args.self.now) c.loop-number.number c.args.coroutines c.loop-number.seat.me c.loop-number.invariant.1 c.loop-number.auto.number c.loop-number-test.true c.split_seat-one.new.seat.me e.2,
      omega (arith, c.push_reserved.ensures.len, c.loop-number.invariant.2),
      omega (arith, c.push_reserved.ensures.capacity, c.loop-number.invariant.3),
      each_more (IsNew c.args.self.now) c.loop-number.passes.items _ _ c.push_reserved.ensures.items c.loop-number.invariant.4 (subst (λ k. IsNew c.args.self.now k (record { seat = c.split_seat-one.result; number = c.loop-number.number - 1 })) at (new_pass c.args.self.now (record { seat = c.split_seat-one.result; number = c.loop-number.number - 1 }) (c.loop-number.number - 1) (e.3 ∙ c.loop-number.invariant.0) (dealt_one (Some (built_of c.args.self.now)) (passes_of c.args.self.now) c.loop-number.number c.args.coroutines c.loop-number.seat.me c.loop-number.invariant.1 c.loop-number.auto.number c.loop-number-test.true c.split_seat-one.result.me e.4) refl low)),
    )

pub returns-clause-each : goal.returns-clause-each
returns-clause-each g c =
    let long = c.loop-number.invariant.2 in
    let done = c.loop-number-test.false in
    let some_one = c.loop-number.auto.number in
    let count = c.requires.count.1 in
    let ok = c.loop-number.passes.ok.0 in
    let end = c.loop-number.auto.number-end in
    let last : c.args.coroutines ≡ c.loop-number.number = omega (arith, done, end) in
    let at : c.args.coroutines - 1 ≡ length c.loop-number.passes.items = omega (arith, long, ok, last) in
    let low : c.args.coroutines - 1 < passes_of c.args.self.now = omega (arith, count, last, some_one) in
    let me = dealt_last (Some (built_of c.args.self.now)) (passes_of c.args.self.now) c.loop-number.number c.args.coroutines c.loop-number.seat.me c.loop-number.invariant.1 last in
    each_more (IsNew c.args.self.now) c.loop-number.passes.items _ _ c.push_reserved-2.ensures.items c.loop-number.invariant.4 (subst (λ k. IsNew c.args.self.now k (record { seat = c.loop-number.seat; number = c.args.coroutines - 1 })) at (new_pass c.args.self.now (record { seat = c.loop-number.seat; number = c.args.coroutines - 1 }) (c.args.coroutines - 1) c.loop-number.invariant.0 (me ∙ ap (λ k. (Rattle.co_mutex.specs.Known.new_known (Some (built_of c.args.self.now)) (passes_of c.args.self.now) (k - 1) [], [])) (sym last)) refl low))
