-- The callback's actions so far.
use Rattle.std.proofs.Common.{◌≡◌, ◌≤◌, take}
use Rattle.aio_script.specs.Loop.Grammar.{act_count_of}
use Rattle.aio_script.proofs.loops.lines.act_count_of.Given as goal

abbrev pub invariant-loop-act : goal.invariant-loop-act
invariant-loop-act l = record {
  counted : l.count ≡ act_count_of l.bh (take l.act-index l.acts);
  few : l.count ≤ l.act-index;
}
