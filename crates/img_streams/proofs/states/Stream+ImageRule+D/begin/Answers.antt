use Rattle.std.proofs.Common.{◌≡◌, ◌∙◌, ◌+◌, length, ap, refl, sym, subst, arith}
use Rattle.img_streams.specs.declared.progress.At.TheVariants as at
use Rattle.img_streams.specs.Lines.{line_from}
use Rattle.img_streams.specs.Streams.{source, IsStreamOf, Resumes}
use Rattle.img_streams.proofs.Beginning.{past_is, entering_is, retiring_is, entering_resumes, retiring_resumes, read_there}
use Rattle.img_streams.proofs.states.Stream+ImageRule+D.begin.Goals as goal

pub retire-requires-clause-of : goal.retire-requires-clause-of
retire-requires-clause-of g c =
    let old = c.args.self.now in
    let of = source c.args.env.now.lock.now c.args.env.now.script.now in
    let e : c.next_line-at.result ≡ line_from old.id of.1.lines old.line = c.next_line-at.ensures.next ∙ ap (λ l. line_from old.id l old.line) c.as_slice-lines.ensures in
    subst (λ n. IsStreamOf g.D.Device.bytes (record old { line = n; at = at.Retiring }) of) (sym e)
    (retiring_is g.D.Device.bytes old of c.requires.of c.requires.at (sym e ∙ c.if-at-lines.true ∙ ap (λ l. length l) c.as_slice-lines.ensures))

pub returns-then-at-lines-clause-resumes : goal.returns-then-at-lines-clause-resumes
returns-then-at-lines-clause-resumes g c =
    let old = c.args.self.now in
    let of = source c.args.env.now.lock.now c.args.env.now.script.now in
    let e : c.next_line-at.result ≡ line_from old.id of.1.lines old.line = c.next_line-at.ensures.next ∙ ap (λ l. line_from old.id l old.line) c.as_slice-lines.ensures in
    retiring_resumes g.D.Device.bytes old of c.requires.of c.requires.at c.retire.new.cx c.retire.new.self c.retire.result
    (subst (λ n. Resumes g.D.Device.bytes (record old { line = n; at = at.Retiring }) of c.retire.new.cx c.retire.result c.retire.new.self) e c.retire.ensures.resumes)

pub enter-requires-clause-of : goal.enter-requires-clause-of
enter-requires-clause-of g c =
    let old = c.args.self.now in
    let of = source c.args.env.now.lock.now c.args.env.now.script.now in
    let e : c.next_line-at.result ≡ line_from old.id of.1.lines old.line = c.next_line-at.ensures.next ∙ ap (λ l. line_from old.id l old.line) c.as_slice-lines.ensures in
    let line = read_there of.1.lines c.as_slice-lines.result.now old.id old.line c.next_line-at.result c.index-lines-at.result _ c.as_slice-lines.ensures c.next_line-at.ensures.next (omega (arith, c.next_line-at.ensures.inside, c.if-at-lines.false)) c.index-lines-at.is c.in-Ask.is in
    subst (λ n. IsStreamOf g.D.Device.bytes (record old { line = n; at = at.Entering c.through-passed.result }) of) (sym e)
    (entering_is g.D.Device.bytes old of c.requires.of c.requires.at c.through-passed.result c.through-passed.ensures.passed (c.in-Ask.field-0, line))

pub returns-in-Ask-clause-resumes : goal.returns-in-Ask-clause-resumes
returns-in-Ask-clause-resumes g c =
    let old = c.args.self.now in
    let of = source c.args.env.now.lock.now c.args.env.now.script.now in
    let e : c.next_line-at.result ≡ line_from old.id of.1.lines old.line = c.next_line-at.ensures.next ∙ ap (λ l. line_from old.id l old.line) c.as_slice-lines.ensures in
    entering_resumes g.D.Device.bytes old of c.requires.of c.requires.at c.through-passed.result c.enter.new.cx c.enter.new.self c.enter.result
    (subst (λ n. Resumes g.D.Device.bytes (record old { line = n; at = at.Entering c.through-passed.result }) of c.enter.new.cx c.enter.result c.enter.new.self) e c.enter.ensures.resumes)

pub returns-in-Delay-clause-of : goal.returns-in-Delay-clause-of
returns-in-Delay-clause-of g c =
    let old = c.args.self.now in
    let of = source c.args.env.now.lock.now c.args.env.now.script.now in
    let e : c.next_line-at.result ≡ line_from old.id of.1.lines old.line = c.next_line-at.ensures.next ∙ ap (λ l. line_from old.id l old.line) c.as_slice-lines.ensures in
    let line = read_there of.1.lines c.as_slice-lines.result.now old.id old.line c.next_line-at.result c.index-lines-at.result _ c.as_slice-lines.ensures c.next_line-at.ensures.next (omega (arith, c.next_line-at.ensures.inside, c.if-at-lines.false)) c.index-lines-at.is c.in-Delay.is in
    subst (λ n. IsStreamOf g.D.Device.bytes (record old { line = n + 1 }) of) (sym e)
    (past_is g.D.Device.bytes old of c.requires.of c.requires.at _ old.co.home line refl)

pub returns-in-Delay-clause-resumes : goal.returns-in-Delay-clause-resumes
returns-in-Delay-clause-resumes g c =
    let old = c.args.self.now in
    let of = source c.args.env.now.lock.now c.args.env.now.script.now in
    let e : c.next_line-at.result ≡ line_from old.id of.1.lines old.line = c.next_line-at.ensures.next ∙ ap (λ l. line_from old.id l old.line) c.as_slice-lines.ensures in
    let line = read_there of.1.lines c.as_slice-lines.result.now old.id old.line c.next_line-at.result c.index-lines-at.result _ c.as_slice-lines.ensures c.next_line-at.ensures.next (omega (arith, c.next_line-at.ensures.inside, c.if-at-lines.false)) c.index-lines-at.is c.in-Delay.is in
    (c.requires.at, line, ap (λ n. record old { line = n + 1 }) e, c.requires.fresh)

pub returns-in-Move-clause-of : goal.returns-in-Move-clause-of
returns-in-Move-clause-of g c =
    let old = c.args.self.now in
    let of = source c.args.env.now.lock.now c.args.env.now.script.now in
    let e : c.next_line-at.result ≡ line_from old.id of.1.lines old.line = c.next_line-at.ensures.next ∙ ap (λ l. line_from old.id l old.line) c.as_slice-lines.ensures in
    let line = read_there of.1.lines c.as_slice-lines.result.now old.id old.line c.next_line-at.result c.index-lines-at.result _ c.as_slice-lines.ensures c.next_line-at.ensures.next (omega (arith, c.next_line-at.ensures.inside, c.if-at-lines.false)) c.index-lines-at.is c.in-Move.is in
    subst (λ n. IsStreamOf g.D.Device.bytes (record old { line = n + 1; co = record { co = old.co.co; home = c.in-Move.home } }) of) (sym e)
    (past_is g.D.Device.bytes old of c.requires.of c.requires.at _ c.in-Move.home line refl)

pub returns-in-Move-clause-resumes : goal.returns-in-Move-clause-resumes
returns-in-Move-clause-resumes g c =
    let old = c.args.self.now in
    let of = source c.args.env.now.lock.now c.args.env.now.script.now in
    let e : c.next_line-at.result ≡ line_from old.id of.1.lines old.line = c.next_line-at.ensures.next ∙ ap (λ l. line_from old.id l old.line) c.as_slice-lines.ensures in
    let line = read_there of.1.lines c.as_slice-lines.result.now old.id old.line c.next_line-at.result c.index-lines-at.result _ c.as_slice-lines.ensures c.next_line-at.ensures.next (omega (arith, c.next_line-at.ensures.inside, c.if-at-lines.false)) c.index-lines-at.is c.in-Move.is in
    (c.requires.at, line, ap (λ n. record old { line = n + 1; co = record { co = old.co.co; home = c.in-Move.home } }) e, c.requires.fresh)
