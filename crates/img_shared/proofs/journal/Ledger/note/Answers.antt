use Rattle.std.proofs.Common.{◌<◌, ◌∙◌, length, arith}
use Rattle.std.proofs.lemmas.List.{get_or_default}
use Rattle.img_shared.proofs.Counting.{IsCounted-room, IsCounted-pushed}
use Rattle.img_shared.proofs.journal.Ledger.note.Goals as goal

pub overflow_cast-place : goal.overflow_cast-place
overflow_cast-place g c =
    let known = rw (← c.self.view_is) at c.requires.known in
    let due = rw (← c.self.view_is) at c.requires.due in
    omega (arith, IsCounted-room c.self.invariant c.args.stream known due, c.self.invariant.few, c.len-place.ensures, c.self.inside.entries.ok.0)

pub push_reserved-requires : goal.push_reserved-requires
push_reserved-requires g c =
    let known = rw (← c.self.view_is) at c.requires.known in
    let due = rw (← c.self.view_is) at c.requires.due in
    omega (arith, IsCounted-room c.self.invariant c.args.stream known due, c.self.invariant.room, c.self.inside.entries.ok.0)

pub invariant_of-self : goal.invariant_of-self
invariant_of-self g c =
    let known = rw (← c.self.view_is) at c.requires.known in
    let due = rw (← c.self.view_is) at c.requires.due in
    let below : c.args.stream < length c.self.inside.replied.items = omega (arith, known, c.self.invariant.streams) in
    IsCounted-pushed c.self.invariant c.args.stream known due c.index-index.result.now _ _ c.args.mark c.args.before c.args.after
    (c.index-index.ensures ∙ get_or_default c.self.inside.replied.items c.args.stream _ 0 below)
    c.push_reserved.ensures.capacity c.push_reserved.ensures.items
