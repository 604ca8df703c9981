use Rattle.std.proofs.Common.{◌≡◌, ◌∙◌, sym, ap, subst}
use Rattle.aio_model.specs.Holds.WhoHolds.{ReadersWriter, hold_of}
use Rattle.aio_model.specs.Holds.{answered, IsSettled}
use Rattle.aio_model.specs.Holds.Table.{write_locked}
use Rattle.aio_model.specs.declared.holds.Hold.TheVariants.{Writes, WaitsWrite}
use Rattle.aio_model.proofs.Settling.{write_locked_settles}
use Rattle.aio_model.proofs.Holding.{write_locked-own, write_locked-others}
use Rattle.co_waits.proofs.Tables.{fills}
use Rattle.co_waits.proofs.rw_state.RwState.wrlock.Goals as goal

pub invariant_of-self-else-is_vacant : goal.invariant_of-self-else-is_vacant
invariant_of-self-else-is_vacant c =
    let state = c.self.inside.register in
    let filled = fills c.args.who state (sym c.is_vacant.ensures.vacant ∙ c.if-is_vacant.false) in
    let left : c.queue.new.self ≡ (write_locked c.args.who state).state = c.queue.ensures.queued ∙ sym (ap (λ l. l.state) filled) in
    subst IsSettled (sym left) (write_locked_settles state c.args.who c.self.invariant.orderly (rw (← c.self.view_is) at c.requires.below) (rw (← c.self.view_is) at c.requires.free))

pub returns-else-is_vacant-clause-own : goal.returns-else-is_vacant-clause-own
returns-else-is_vacant-clause-own c =
    let state = c.self.inside.register in
    let filled = fills c.args.who state (sym c.is_vacant.ensures.vacant ∙ c.if-is_vacant.false) in
    let left : c.queue.new.self ≡ (write_locked c.args.who state).state = c.queue.ensures.queued ∙ sym (ap (λ l. l.state) filled) in
    ap (λ (s : ReadersWriter). hold_of s c.args.who) left
    ∙ write_locked-own state c.args.who (rw (← c.self.view_is) at c.requires.free)
    ∙ ap (λ l. answered l.answer Writes WaitsWrite) filled

pub returns-else-is_vacant-clause-others : goal.returns-else-is_vacant-clause-others
returns-else-is_vacant-clause-others c other ne =
    let state = c.self.inside.register in
    let filled = fills c.args.who state (sym c.is_vacant.ensures.vacant ∙ c.if-is_vacant.false) in
    let left : c.queue.new.self ≡ (write_locked c.args.who state).state = c.queue.ensures.queued ∙ sym (ap (λ l. l.state) filled) in
    ap (λ (s : ReadersWriter). hold_of s other) left ∙ write_locked-others state c.args.who other ne ∙ ap (λ (s : ReadersWriter). hold_of s other) c.self.view_is
