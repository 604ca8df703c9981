use Rattle.loop_threads.proofs.hands.new_hand.Given as goal

abbrev pub ghost-new_work : goal.ghost-new_work
ghost-new_work g a = g.origin
