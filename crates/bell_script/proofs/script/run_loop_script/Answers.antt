use Rattle.std.proofs.Common.{◌∙◌, length, map, sym, subst}
use Rattle.std.proofs.lemmas.List.{length-map}
use Rattle.bell_loop.specs.Entering.{AreListsOf}
use Rattle.bell_loop.specs.Machines.{machine_state_of}
use Rattle.bell_script.proofs.Scripted.{can_run, IsNew-script, IsScriptOf-script, within_script}
use Rattle.bell_script.proofs.script.run_loop_script.Goals as goal

pub build-requires-clause-can : goal.build-requires-clause-can
build-requires-clause-can g c =
    let script = c.args.script.now in
    let given = c.as_slice.result.now in
    let are = subst (λ l. AreListsOf script.handles script.acts (map (λ list. list.items) l)) (sym c.as_slice.ensures.value) c.in_ok-lists.ensures.lists in
    can_run script (map (λ list. list.items) given) (length given) c.requires.bounded.each_act are (sym (length-map given (λ list. list.items)))

pub run_on-requires-clause-within : goal.run_on-requires-clause-within
run_on-requires-clause-within g c =
    let script = c.args.script.now in
    let given = c.as_slice.result.now in
    let are = subst (λ l. AreListsOf script.handles script.acts (map (λ list. list.items) l)) (sym c.as_slice.ensures.value) c.in_ok-lists.ensures.lists in
    let count = sym (length-map given (λ list. list.items)) ∙ are.each in
    let machine = machine_state_of c.in_ok-machine.machine in
    let new = IsNew-script script _ machine (length given) count c.in_ok-machine.ensures.new in
    within_script script machine new.sizes_are c.requires.bounded.each_command

pub run_on-requires-clause-of : goal.run_on-requires-clause-of
run_on-requires-clause-of g c =
    let script = c.args.script.now in
    let given = c.as_slice.result.now in
    let are = subst (λ l. AreListsOf script.handles script.acts (map (λ list. list.items) l)) (sym c.as_slice.ensures.value) c.in_ok-lists.ensures.lists in
    IsScriptOf-script script (map (λ list. list.items) given) (machine_state_of c.in_ok-machine.machine) _ c.requires.bounded.each_act are c.in_ok-machine.ensures.new
