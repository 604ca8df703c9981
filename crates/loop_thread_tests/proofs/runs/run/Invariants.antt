use Rattle.loop_thread_tests.proofs.runs.run.Given as goal

abbrev pub ghost-open : goal.ghost-open
ghost-open g a = tt

abbrev pub ghost-new_hands : goal.ghost-new_hands
ghost-new_hands g a = tt
