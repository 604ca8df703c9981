use Rattle.co_schedule.proofs.orders.try_order.Given as goal

abbrev pub ghost-build : goal.ghost-build
ghost-build g a = tt
