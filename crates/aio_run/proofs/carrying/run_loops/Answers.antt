use Rattle.aio_run.proofs.carrying.run_loops.Goals as goal

pub returns-clause-carried : goal.returns-clause-carried
returns-clause-carried g c = record {
  parts = c.prepare.result.parts.items;
  many = c.prepare.ensures.prepared.count;
  begins = c.prepare.ensures.begins;
  parts_are = c.prepare.ensures.prepared.parts;
  reversed = c.prepare.ensures.prepared.reversed;
  parts_see = c.prepare.ensures.parts;
  mine = c.prepare.result.mine;
  mine_is = c.prepare.ensures.prepared.mine;
  mine_sees = c.prepare.ensures.mine;
  mine_stands = c.run.ensures.mine;
  runs = c.run.ensures.members.1;
}
