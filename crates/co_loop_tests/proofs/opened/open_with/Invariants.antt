use Rattle.co_loop_tests.specs.Loops.{IsOpened}
use Rattle.co_loop_tests.proofs.opened.open_with.Given as goal

abbrev pub invariant-loop-co : goal.invariant-loop-co
invariant-loop-co g l =
    IsOpened l.opened.shared l.opened.seats l.opened.others l.opened.ends.home.seat l.opened.ends.lot_pass l.opened.ends.co_home l.opened.ends.run
