use Rattle.std.proofs.Common.{◌∙◌, refl, sym, ap}
use Rattle.aio_model.specs.Loop.Lists.{is_set}
use Rattle.bell_loop.specs.Machines.{machine_state_of}
use Rattle.bell_loop.proofs.Ended.{Leads-cleared, Leads-unset}
use Rattle.bell_loop.proofs.machine.Machine.clear_if_set.Goals as goal

pub returns-then-is_marked-clause-leads : goal.returns-then-is_marked-clause-leads
returns-then-is_marked-clause-leads g c =
    Leads-cleared c.args.event c.clear.result c.is_marked.result (machine_state_of c.args.self.now) _ c.requires.none c.if-is_marked.true c.clear.ensures.answers
    (λ log stands. c.is_marked.ensures ∙ stands.events c.args.event ∙ ap (is_set c.args.event) (sym stands.history))

pub returns-else-is_marked-clause-leads : goal.returns-else-is_marked-clause-leads
returns-else-is_marked-clause-leads g c =
    Leads-unset c.args.event c.is_marked.result (machine_state_of c.args.self.now) _ refl c.if-is_marked.false
    (λ log stands. c.is_marked.ensures ∙ stands.events c.args.event ∙ ap (is_set c.args.event) (sym stands.history))
