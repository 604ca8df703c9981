use Rattle.std.proofs.Common.{◌≡◌, ◌∙◌, sym, arith, rules, true, false}
use Rattle.std.proofs.lemmas.List.{get_or_read}
use Rattle.aio_model.specs.declared.holds.Wish.TheVariants as wish
use Rattle.aio_chain.specs.LinkList.{contains}
use Rattle.co_waits.proofs.Kept.{waits_not, waits_for}
use Rattle.co_waits.proofs.register.Register.waiting.Goals as goal

pub returns-then-not-has : goal.returns-then-not-has
returns-then-not-has c =
    let inside = c.self.inside in
    rw (← c.self.view_is) (waits_not c.args.who inside.wishes.items inside.tickets.items (search (rules, c.if-not-has.true, c.has.ensures.has)))

pub returns-in-Read : goal.returns-in-Read
returns-in-Read c =
    let inside = c.self.inside in
    let present : contains c.args.who inside.tickets.items ≡ true = search (rules, c.if-not-has.false, c.has.ensures.has) in
    let read = get_or_read inside.wishes.items c.args.who c.index.result.now (omega (arith, c.has.ensures.linked.below c.args.who present, c.self.invariant.sized)) c.index.ensures wish.Read in
    rw (← c.self.view_is) (waits_for c.args.who inside.wishes.items inside.tickets.items wish.Read present (sym read ∙ c.in-Read.is))

pub returns-in-Write : goal.returns-in-Write
returns-in-Write c =
    let inside = c.self.inside in
    let present : contains c.args.who inside.tickets.items ≡ true = search (rules, c.if-not-has.false, c.has.ensures.has) in
    let read = get_or_read inside.wishes.items c.args.who c.index.result.now (omega (arith, c.has.ensures.linked.below c.args.who present, c.self.invariant.sized)) c.index.ensures wish.Read in
    rw (← c.self.view_is) (waits_for c.args.who inside.wishes.items inside.tickets.items wish.Write present (sym read ∙ c.in-Write.is))
