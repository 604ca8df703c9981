use Rattle.std.proofs.Common.{rules, of_calls, nat_lt, length, sym, ◌∙◌, arith}
use Rattle.std.proofs.lemmas.List.{get_or_default, get_or_past}
use Rattle.std.proofs.lemmas.Fn.{always_returns_same}
use Rattle.img_streams.proofs.LinesAlong.{line_inside}
use Rattle.img_streams.proofs.OwnPlaces.{parted, next_found}
use Rattle.img_streams.proofs.lines.next_line.Goals as goal

pub returns-in-Some-clause-next : goal.returns-in-Some-clause-next
returns-in-Some-clause-next c =
    let places = c.args.places.now in
    let i = c.partition_point-index.result in
    let point = c.partition_point-index.ensures.partitioned (λ place. nat_lt place c.args.from) (always_returns_same _ _ _ (λ a r f k. search (rules, of_calls)))
    (parted c.args.id c.args.lines.now places c.args.from c.requires.places) in
    let found = next_found c.args.id c.args.lines.now places c.args.from c.requires.places i c.requires.from point in
    let read = c.in-Some.ensures.lookup in
    read.1 ∙ get_or_default places i c.in-Some.place.now (length c.args.lines.now) read.3.0 ∙ found

pub returns-in-Some-clause-inside : goal.returns-in-Some-clause-inside
returns-in-Some-clause-inside c =
    let same = returns-in-Some-clause-next c in
    omega (arith, same, line_inside c.args.id c.args.lines.now c.args.from c.requires.from)

pub returns-in-None-clause-next : goal.returns-in-None-clause-next
returns-in-None-clause-next c =
    let places = c.args.places.now in
    let i = c.partition_point-index.result in
    let point = c.partition_point-index.ensures.partitioned (λ place. nat_lt place c.args.from) (always_returns_same _ _ _ (λ a r f k. search (rules, of_calls)))
    (parted c.args.id c.args.lines.now places c.args.from c.requires.places) in
    sym (get_or_past places i (length c.args.lines.now) c.in-None.ensures.lookup.3)
    ∙ next_found c.args.id c.args.lines.now places c.args.from c.requires.places i c.requires.from point
