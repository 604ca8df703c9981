use Rattle.std.proofs.Common.{◌≡◌, ◌∙◌, sym, ap, subst, true, false}
use Rattle.aio_model.specs.Holds.WhoHolds.{ReadersWriter, hold_of}
use Rattle.aio_model.specs.Holds.{answered, IsSettled}
use Rattle.aio_model.specs.Holds.Table.{read_locked}
use Rattle.aio_model.specs.declared.holds.Hold.TheVariants.{Reads, WaitsRead}
use Rattle.aio_model.proofs.Settling.{read_locked_settles}
use Rattle.aio_model.proofs.Holding.{read_locked-own, read_locked-others}
use Rattle.co_waits.proofs.Tables.{opens, closes}
use Rattle.co_waits.proofs.rw_state.RwState.rdlock.Goals as goal

pub invariant_of-self : goal.invariant_of-self
invariant_of-self c =
    let state = c.self.inside.register in
    let opened = opens c.args.who state (sym c.is_open.ensures.open ∙ c.if-is_open.true) in
    let left : c.read.new.self ≡ (read_locked c.args.who state).state = c.read.ensures.read ∙ sym (ap (λ l. l.state) opened) in
    subst IsSettled (sym left) (read_locked_settles state c.args.who c.self.invariant.orderly (rw (← c.self.view_is) at c.requires.below) (rw (← c.self.view_is) at c.requires.free))

pub invariant_of-self-else-is_open : goal.invariant_of-self-else-is_open
invariant_of-self-else-is_open c =
    let state = c.self.inside.register in
    let closed = closes c.args.who state (sym c.is_open.ensures.open ∙ c.if-is_open.false) in
    let left : c.queue.new.self ≡ (read_locked c.args.who state).state = c.queue.ensures.queued ∙ sym (ap (λ l. l.state) closed) in
    subst IsSettled (sym left) (read_locked_settles state c.args.who c.self.invariant.orderly (rw (← c.self.view_is) at c.requires.below) (rw (← c.self.view_is) at c.requires.free))

pub returns-else-is_open-clause-own : goal.returns-else-is_open-clause-own
returns-else-is_open-clause-own c =
    let state = c.self.inside.register in
    let closed = closes c.args.who state (sym c.is_open.ensures.open ∙ c.if-is_open.false) in
    let left : c.queue.new.self ≡ (read_locked c.args.who state).state = c.queue.ensures.queued ∙ sym (ap (λ l. l.state) closed) in
    ap (λ (s : ReadersWriter). hold_of s c.args.who) left
    ∙ read_locked-own state c.args.who (rw (← c.self.view_is) at c.requires.free)
    ∙ ap (λ l. answered l.answer Reads WaitsRead) closed

pub returns-else-is_open-clause-others : goal.returns-else-is_open-clause-others
returns-else-is_open-clause-others c other ne =
    let state = c.self.inside.register in
    let closed = closes c.args.who state (sym c.is_open.ensures.open ∙ c.if-is_open.false) in
    let left : c.queue.new.self ≡ (read_locked c.args.who state).state = c.queue.ensures.queued ∙ sym (ap (λ l. l.state) closed) in
    ap (λ (s : ReadersWriter). hold_of s other) left ∙ read_locked-others state c.args.who other ne ∙ ap (λ (s : ReadersWriter). hold_of s other) c.self.view_is
