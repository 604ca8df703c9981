use Rattle.loop_threads.proofs.dealing.+cut_in_pairs.Given as goal

abbrev pub decreases-cut_in_pairs : goal.decreases-cut_in_pairs
decreases-cut_in_pairs g l = l.times
