use Rattle.std.proofs.Common.{◌≡◌, ◌+◌, ◌<◌, length, take, get_or, ◌++◌, ◌∷◌, [], sym, subst, ◌∙◌, ap, arith}
use Rattle.std.proofs.lemmas.List.{take_more, take_all}
use Rattle.aio_model.specs.declared.scripts.loop_scripts.Command.TheVariants.{Schedule}
use Rattle.aio_model.specs.Loop.History.{Sizes}
use Rattle.aio_script.specs.Loop.Bounds.{IsCommandWithin}
use Rattle.bell_loop.specs.Machines.{machine_state_of}
use Rattle.bell_script.specs.Scripts.{Collects}
use Rattle.bell_script.proofs.Scripted.{Collects-none, Collects-more, each_at}
use Rattle.bell_script.proofs.script.answer_all.Goals as goal

pub loop-command-init : goal.loop-command-init
loop-command-init g c = record {
  ready = c.requires.ready;
  collects = Collects-none (machine_state_of c.args.machine.now) c.args.page.now (g.K.Sink.held c.args.sink.now) (g.K.Sink.faults c.args.sink.now);
}

pub loop-command-preserved : goal.loop-command-preserved
loop-command-preserved g c =
    let commands = c.args.script.now.commands in
    let k = c.loop-command.command-index in
    let told = c.as_slice-command-items.ensures in
    let inside : k < length commands = omega (arith, ap length told) in
    let command = get_or c.as_slice-command-items.result.now k (Schedule 0) in
    let here : command ≡ get_or commands k (Schedule 0) = ap (λ l. get_or l k (Schedule 0)) told in
    let more : take (k + 1) commands ≡ take k commands ++ command ∷ [] = take_more commands k (Schedule 0) inside ∙ ap (λ x. take k commands ++ x ∷ []) (sym here) in
    record {
      ready = c.ring-written.ensures.ready;
      collects = subst (λ l. Collects l (machine_state_of c.args.machine.now) (machine_state_of c.ring-written.new.machine) c.args.page.now c.ring-written.new.page (g.K.Sink.held c.args.sink.now) (g.K.Sink.held c.ring-written.new.sink) (g.K.Sink.faults c.args.sink.now) (g.K.Sink.faults c.ring-written.new.sink) c.ring-written.result) (sym more)
          (Collects-more c.loop-command.invariant.collects c.ring-written.ensures.rings);
    }

pub ring-written-requires-clause-within : goal.ring-written-requires-clause-within
ring-written-requires-clause-within g c =
    let k = c.loop-command.command-index in
    let told = c.as_slice-command-items.ensures in
    let sizes = (machine_state_of c.args.machine.now).sizes in
    subst (λ (s : Sizes). IsCommandWithin s.handles s.events (get_or c.as_slice-command-items.result.now k (Schedule 0))) (sym c.loop-command.invariant.collects.answers.same.0)
    (each_at (IsCommandWithin sizes.handles sizes.events) c.as_slice-command-items.result.now k (Schedule 0) c.loop-command-test.true (rw told c.requires.within))

pub returns-clause-collects : goal.returns-clause-collects
returns-clause-collects g c =
    let commands = c.args.script.now.commands in
    let k = c.loop-command.command-index in
    let all : take k commands ≡ commands = take_all k commands (omega (arith, ap length c.as_slice-command-items.ensures, c.loop-command-test.false)) in
    rw all at c.loop-command.invariant.collects
