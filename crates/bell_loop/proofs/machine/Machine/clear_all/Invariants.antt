use Rattle.bell_loop.specs.Machines.{Ready, machine_state_of}
use Rattle.bell_loop.specs.Ending.{clearings, Leads}
use Rattle.bell_loop.proofs.machine.Machine.clear_all.Given as goal

abbrev pub invariant-loop-event : goal.invariant-loop-event
invariant-loop-event g l = record {
  ready : Ready l.self;
  leads : Leads (clearings l.event) (machine_state_of l.initial.self) (machine_state_of l.self);
}
