use Rattle.std.proofs.Common.{◌≡◌, ◌+◌, suc, arith, subst}
use Rattle.bell_loop.specs.Machines.{machine_state_of}
use Rattle.bell_loop.specs.Ending.{clearings, Leads}
use Rattle.bell_loop.proofs.Ended.{Leads-next}
use Rattle.bell_loop.proofs.machine.Machine.clear_all.Goals as goal

pub loop-event-preserved : goal.loop-event-preserved
loop-event-preserved g c =
    let start = machine_state_of c.args.self.now in
    let after = machine_state_of c.clear_if_set.new.self in
    let next : suc c.loop-event.event ≡ c.loop-event.event + 1 = omega arith in
    record {
      ready = c.clear_if_set.ensures.ready;
      leads = subst (λ n. Leads (clearings n) start after) next (Leads-next c.loop-event.event start (machine_state_of c.loop-event.self) after c.loop-event.invariant.leads c.clear_if_set.ensures.leads);
    }
