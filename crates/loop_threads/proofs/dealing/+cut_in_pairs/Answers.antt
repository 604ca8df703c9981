use Rattle.std.proofs.Common.{rules, ◌≡◌, ◌-◌, ◌∙◌, subst, arith, length, vec_len, ℕ}
use Rattle.loop_rows.proofs.Places.{longer}
use Rattle.loop_threads.specs.Dealing.{IsDoubled}
use Rattle.loop_threads.proofs.Dealt.{halved, some_doubled, not_doubled, pairs_pushed, spares_popped}
use Rattle.loop_threads.proofs.Seeing.{split_sees, only_seen, own_seen, pushed_sees}
use Rattle.loop_threads.proofs.dealing.+cut_in_pairs.Goals as goal

pub returns-then-times-eq0-clause-pairs : goal.returns-then-times-eq0-clause-pairs
returns-then-times-eq0-clause-pairs g t c =
    let two = not_doubled c.args.times c.args.row.count c.if-times-eq0.true c.requires.count in (
      pairs_pushed c.args.shared.now c.push_reserved.new.self.items c.args.pairs.now.items c.args.row c.push_reserved.ensures.items c.requires.pairs c.requires.row (record { first_is = omega (arith, c.requires.even, c.args.pairs.now.ok.0); count_is = two }),
      omega (arith, c.push_reserved.ensures.len, two),
    )

pub split-other-requires-clause-half : goal.split-other-requires-clause-half
split-other-requires-clause-half g t c =
    let half = halved c.args.times c.args.row.count (grind (arith, c.if-times-eq0.false)) c.requires.count in
    let some = some_doubled c.args.times c.args.row.count c.requires.count in
    (omega (arith, some), omega (arith, half.is))

pub unreachable-requires : goal.unreachable-requires
unreachable-requires g t c =
    let half = halved c.args.times c.args.row.count (grind (arith, c.if-times-eq0.false)) c.requires.count in
    let some = some_doubled (c.args.times - 1) half.half half.doubled in
    let none : vec_len c.args.spares.now ≡ 0 = c.in_default.ensures.cases.0 in omega (arith, half.is, some, none, c.requires.spares.1)

pub cut_in_pairs-requires : goal.cut_in_pairs-requires
cut_in_pairs-requires g t c κs within =
    let half = halved c.args.times c.args.row.count (grind (arith, c.if-times-eq0.false)) c.requires.count in
    let stay = c.split-other.ensures.stay in
    let e : half.half ≡ c.split-other.new.self.count = omega (arith, half.is, stay.count_is) in
    let n = longer c.args.spares.now.items c.pop.new.self.items c.in-Some.spare c.in-Some.ensures.items in
    (grind (arith, c.if-times-eq0.false, c.decreases), (search (rules, within), (search (rules, within), (c.split-other.ensures.stays, (subst (λ (m : ℕ). IsDoubled (c.args.times - 1) m) e half.doubled, (stay.first_is ∙ c.requires.even, (c.requires.pairs, (omega (arith, e, half.is, c.requires.room), (spares_popped (length c.args.shared.now) c.args.spares.now.items c.pop.new.self.items c.in-Some.spare c.in-Some.ensures.items c.requires.spares.0, omega (arith, e, half.is, n, c.args.spares.now.ok.0, c.pop.new.self.ok.0, c.requires.spares.1))))))))))

pub cut_in_pairs-requires-2 : goal.cut_in_pairs-requires-2
cut_in_pairs-requires-2 g t c κs within =
    let half = halved c.args.times c.args.row.count (grind (arith, c.if-times-eq0.false)) c.requires.count in
    let stay = c.split-other.ensures.stay in
    let go = c.split-other.ensures.go in
    let first = c.cut_in_pairs.ensures in
    let e : half.half ≡ c.split-other.result.count = omega (arith, half.is, go.count_is) in
    let n = longer c.args.spares.now.items c.pop.new.self.items c.in-Some.spare c.in-Some.ensures.items in
    (grind (arith, c.if-times-eq0.false, c.decreases), (search (rules, within), (search (rules, within), (c.split-other.ensures.goes, (subst (λ (m : ℕ). IsDoubled (c.args.times - 1) m) e half.doubled, (omega (arith, go.first_is, stay.count_is, first.pairs.1, c.requires.even), (first.pairs.0, (omega (arith, e, half.is, stay.count_is, first.pairs.1, first.room, c.requires.room), (first.spares.0, omega (arith, e, half.is, n, stay.count_is, first.spares.1, c.args.spares.now.ok.0, c.pop.new.self.ok.0, c.requires.spares.1))))))))))

pub returns-clause-pairs : goal.returns-clause-pairs
returns-clause-pairs g t c =
    let half = halved c.args.times c.args.row.count (grind (arith, c.if-times-eq0.false)) c.requires.count in
    let first = c.cut_in_pairs.ensures.pairs in
    let second = c.cut_in_pairs-2.ensures.pairs in
    (second.0, omega (arith, second.1, first.1, half.is, c.split-other.ensures.stay.count_is, c.split-other.ensures.go.count_is))

pub returns-clause-spares : goal.returns-clause-spares
returns-clause-spares g t c =
    let half = halved c.args.times c.args.row.count (grind (arith, c.if-times-eq0.false)) c.requires.count in
    let n = longer c.args.spares.now.items c.pop.new.self.items c.in-Some.spare c.in-Some.ensures.items in
    let first = c.cut_in_pairs.ensures.spares in
    let second = c.cut_in_pairs-2.ensures.spares in (
      second.0,
      omega (arith, second.1, first.1, half.is, n, c.split-other.ensures.stay.count_is, c.split-other.ensures.go.count_is, c.args.spares.now.ok.0, c.pop.new.self.ok.0),
    )

pub returns-then-times-eq0-clause-sees : goal.returns-then-times-eq0-clause-sees
returns-then-times-eq0-clause-sees g t c whole seen own was =
    pushed_sees (length c.args.shared.now) whole c.push_reserved.new.self.items c.args.pairs.now.items c.args.row c.push_reserved.ensures.items was (own_seen (length c.args.shared.now) whole c.args.row.seats.items seen (own c.if-times-eq0.true))

pub returns-clause-sees : goal.returns-clause-sees
returns-clause-sees g t c whole seen own was =
    let n = length c.args.shared.now in
    let first = c.split-other.new.self in
    let last = c.split-other.result in
    let sees = split_sees _ c.args.shared.now whole c.args.row first last c.split-other.ensures seen in
    c.cut_in_pairs-2.ensures.sees whole (only_seen n whole last.seats.items sees.1) (λ _ k s lt. (sees.1 k s s lt).own)
    (c.cut_in_pairs.ensures.sees whole (only_seen n whole first.seats.items sees.0) (λ _ k s lt. (sees.0 k s s lt).own) was)
