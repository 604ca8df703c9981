use Rattle.bell_loop.specs.Machines.{machine_state_of}
use Rattle.bell_script.proofs.Scripted.{stands_after, RunTells-of}
use Rattle.bell_script.proofs.script.run_on.Goals as goal

pub end-end-requires-clause-stands : goal.end-end-requires-clause-stands
end-end-requires-clause-stands g c alone =
    let begun = machine_state_of c.args.machine in
    let writes = c.print_all-written.ensures.writes in
    stands_after c.args.script.now begun.lists writes.replies begun (machine_state_of c.print_all-written.new.machine) c.requires.new c.requires.of writes.answers alone

pub returns : goal.returns
returns g c =
    let begun = machine_state_of c.args.machine in
    RunTells-of c.args.script.now begun.lists begun (machine_state_of c.print_all-written.new.machine) c.end-end.result.known.seen _ _ _ _ c.print_all-written.result c.requires.new c.requires.of c.print_all-written.ensures.writes c.end-end.ensures.ends
