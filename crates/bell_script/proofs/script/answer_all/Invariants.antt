use Rattle.std.proofs.Common.{take}
use Rattle.bell_loop.specs.Machines.{Ready, machine_state_of}
use Rattle.bell_script.specs.Scripts.{Collects}
use Rattle.bell_script.proofs.script.answer_all.Given as goal

abbrev pub invariant-loop-command : goal.invariant-loop-command
invariant-loop-command g l = record {
  ready : Ready l.machine;
  collects : Collects (take l.command-index l.script.commands) (machine_state_of l.initial.machine) (machine_state_of l.machine) l.initial.page l.page
      (g.K.Sink.held l.initial.sink) (g.K.Sink.held l.sink) (g.K.Sink.faults l.initial.sink) (g.K.Sink.faults l.sink) l.written;
}
