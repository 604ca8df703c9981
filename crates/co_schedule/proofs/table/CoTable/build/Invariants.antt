use Rattle.co_schedule.proofs.table.CoTable.build.Given as goal

abbrev pub ghost-lay : goal.ghost-lay
ghost-lay g a = g.origin
