use Rattle.std.proofs.Common.{◌≡◌, ◌+◌, ◌-◌, ◌<◌, ℕ, length, sym, subst, arith}
use Rattle.served_check.proofs.Linking.{Linking, Linking-next}
use Rattle.served_check.proofs.cursors.Cursors.begin.Goals as goal

pub loop-passed-preserved : goal.loop-passed-preserved
loop-passed-preserved c =
    let lines = c.args.lines.now in
    let passed = c.loop-passed.passed in
    let line : ℕ = length lines - 1 - passed in
    let before : length lines - passed ≡ line + 1 = omega arith in
    let after : line ≡ length lines - (passed + 1) = omega arith in
    let inside : line < length lines = omega arith in
    subst (λ (n : ℕ). Linking lines n c.note.new.self) after
    (Linking-next lines line c.index-lines-line.result inside (sym c.index-lines-line.is) c.loop-passed.cursors c.note.new.self
    (subst (λ (n : ℕ). Linking lines n c.loop-passed.cursors) before c.loop-passed.invariant) c.in_ok-note.ensures)
