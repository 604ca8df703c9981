use Rattle.std.proofs.Common.{◌≡◌, ℕ, ◌+◌, ◌<◌, length, slice_index, sym, ◌∙◌, ap, subst, arith}
use Rattle.std.proofs.lemmas.List.{get_or_default}
use Rattle.served_check.specs.Cursors.{CursorStands}
use Rattle.served_check.proofs.Finding.{is_due, none_left, inside, never, named_next, at_behind}
use Rattle.served_check.proofs.cursors.Cursors.find.Goals as goal

pub returns-then-cursor-lines : goal.returns-then-cursor-lines
returns-then-cursor-lines c =
    none_left c.args.lines.now c.args.self.now c.requires.at c.args.placed.now c.at-cursor.result c.at-cursor.ensures c.if-placed-cursor.false
    c.if-cursor-lines.true

pub returns-in_default : goal.returns-in_default
returns-in_default c =
    never c.args.lines.now c.args.self.now c.requires.at c.args.placed.now c.at-cursor.result c.at-cursor.ensures c.if-placed-cursor.false
    c.if-cursor-lines.false c.index-lines-cursor.result c.index-lines-cursor.is c.in_default.ensures

pub returns : goal.returns
returns c =
    let lines = c.args.lines.now in
    let cursors = c.args.self.now in
    let placed = c.args.placed.now in
    let cursor = c.at-cursor.result in
    let due = c.if-placed-cursor.false in
    let step = c.index-lines-cursor.result in
    let below = inside lines cursors c.requires.at placed cursor c.at-cursor.ensures due c.if-cursor-lines.false in
    let named = named_next lines cursors c.requires.at placed cursor c.at-cursor.ensures due c.if-cursor-lines.false step c.index-lines-cursor.is
    c.in-Some.request.now c.in-Some.ensures.0 c.in-Some.ensures.1 in
    let behind = at_behind lines cursors c.requires.at placed cursor c.at-cursor.ensures due c.if-cursor-lines.false step c.index-lines-cursor.is
    c.in-Some.request.now c.in-Some.ensures.0 c.in-Some.ensures.1 in
    let room : cursor.line < length cursors.next.items = omega (arith, below, c.requires.at.linked.long) in
    let next : slice_index cursors.next.items cursor.line ≡ c.index.result.now =
    get_or_default cursors.next.items cursor.line 0 c.index.result.now room ∙ sym c.index.ensures in (
      is_due lines cursors c.requires.at placed cursor c.at-cursor.ensures due,
      named,
      subst (λ (line : ℕ). CursorStands lines placed.stream (record { line = line; done = cursor.done + 1 })) next behind,
      ap (λ (n : ℕ). n + 1) (sym due),
    )
