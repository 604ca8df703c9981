use Rattle.std.proofs.Common.{length, arith}
use Rattle.loop_rows.proofs.Places.{longer}
use Rattle.loop_threads.proofs.Dealt.{pairs_popped}
use Rattle.loop_threads.proofs.Seeing.{join_sees, popped_sees}
use Rattle.loop_threads.proofs.dealing.join_pairs.Goals as goal

pub loop-pair-init : goal.loop-pair-init
loop-pair-init g c =
    let first = pairs_popped c.args.shared.now c.args.pairs.items c.pop.new.self.items c.in-Some.row c.in-Some.ensures.items c.requires.pairs in
    let n = longer c.args.pairs.items c.pop.new.self.items c.in-Some.row c.in-Some.ensures.items in
    record {
      pairs = first.0;
      is_row = first.1.0;
      first = omega (arith, first.1.1.first_is, c.pop.new.self.ok.0);
      some = omega (arith, first.1.1.count_is);
      all = omega (arith, first.1.1.first_is, first.1.1.count_is, n, c.args.pairs.ok.0);
      sees = λ whole see. popped_sees (length c.args.shared.now) whole c.args.pairs.items c.pop.new.self.items c.in-Some.row c.in-Some.ensures.items see;
    }

pub loop-pair-preserved : goal.loop-pair-preserved
loop-pair-preserved g c =
    let was = c.loop-pair.invariant in
    let T = c.args.shared.now in
    let all = c.loop-pair.pairs in
    let rest = c.pop-in-loop-pair.new.self in
    let next = c.in-Some-pop.pair in
    let e = c.in-Some-pop.ensures.items in
    let n = longer all.items rest.items next e in
    let popped = pairs_popped T all.items rest.items next e was.pairs in
    let united = c.join.ensures in
    record {
      pairs = popped.0;
      is_row = united.is_row;
      first = omega (arith, united.numbers.first_is, popped.1.1.first_is, rest.ok.0);
      some = omega (arith, united.numbers.count_is, popped.1.1.count_is);
      all = omega (arith, united.numbers.first_is, united.numbers.count_is, popped.1.1.first_is, popped.1.1.count_is, was.first, was.all, n, all.ok.0);
      sees = λ whole see.
          let seen = was.sees whole see in
          let split = popped_sees (length T) whole all.items rest.items next e seen.0 in
          (split.0, join_sees T whole next c.loop-pair.row c.join.new.self united split.1 seen.1);
    }

pub returns-clause-sees : goal.returns-clause-sees
returns-clause-sees g c whole see = (c.loop-pair.invariant.sees whole see).1
