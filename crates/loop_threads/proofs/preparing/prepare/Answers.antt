use Rattle.std.proofs.Common.{refl, arith, length}
use Rattle.loop_threads.specs.Dealing.{RowsSee}
use Rattle.loop_threads.proofs.Seeing.{seen_itself}
use Rattle.loop_threads.proofs.preparing.prepare.Goals as goal

pub cut_in_pairs-requires-clause-count : goal.cut_in_pairs-requires-clause-count
cut_in_pairs-requires-clause-count g c =
    (32, (16, (8, (4, (2, refl, refl), refl), refl), refl), c.requires.row.1.count_is)

pub returns-clause-prepared : goal.returns-clause-prepared
returns-clause-prepared g c =
    let dealt = c.deal_parts.ensures in
    let mine = c.join_pairs.ensures.row in
    let room = c.requires.reserved in
    record {
      few = c.requires.few;
      count = omega (arith, dealt.parts.0, c.deal_parts.result.ok.0);
      parts = dealt.parts.1;
      reversed = dealt.parts.2;
      mine = (mine.0, record { first_is = mine.1.first_is; count_is = omega (arith, mine.1.count_is, dealt.pairs.0, c.requires.few) });
      room = record {
        flags = room.flags;
        left = room.left;
        other = room.other;
        late = room.late;
        done = room.done;
        members = room.members;
        ends = room.ends;
      };
    }

pub returns-clause-mine : goal.returns-clause-mine
returns-clause-mine g c =
    let whole = c.args.row.seats.items in
    let pairs : RowsSee (length c.args.shared.now) whole c.cut_in_pairs.new.pairs.items = c.cut_in_pairs.ensures.sees whole (seen_itself (length c.args.shared.now) whole (omega (arith, c.requires.row.0.long))) (λ none. absurd (omega (arith, none))) (λ k r lt. absurd (omega (arith, lt, c.requires.reserved.pairs.0, c.args.reserved.pairs.ok.0))) in
    c.join_pairs.ensures.sees whole (c.deal_parts.ensures.sees whole pairs).0

pub returns-clause-parts : goal.returns-clause-parts
returns-clause-parts g c j p lt =
    let whole = c.args.row.seats.items in
    let pairs : RowsSee (length c.args.shared.now) whole c.cut_in_pairs.new.pairs.items = c.cut_in_pairs.ensures.sees whole (seen_itself (length c.args.shared.now) whole (omega (arith, c.requires.row.0.long))) (λ none. absurd (omega (arith, none))) (λ k r lt. absurd (omega (arith, lt, c.requires.reserved.pairs.0, c.args.reserved.pairs.ok.0))) in
    (c.deal_parts.ensures.sees whole pairs).1 j p (omega (arith, lt, c.deal_parts.ensures.parts.0))
