use Rattle.served_check.proofs.Finding.{AreAt-set, counts_set}
use Rattle.served_check.proofs.judging.replay_one.Goals as goal

pub returns-clause-at : goal.returns-clause-at
returns-clause-at c =
    AreAt-set c.args.lines.now c.args.cursors.now c.set.new.self c.args.placed.now.stream c.in-Some.found.behind c.set.ensures.next c.in_ok-set.ensures.cursors
    c.in-Some.ensures.2 c.requires.at

pub returns-clause-served : goal.returns-clause-served
returns-clause-served c = record {
  next = record {
    due = c.in-Some.ensures.0;
    request = c.in-Some.found.request.now;
    named = c.in-Some.ensures.1;
    fits = c.fits.ensures.0 c.if-not-fits.false;
  };
  counts = counts_set c.args.cursors.now c.set.new.self c.args.placed.now.stream c.args.placed.now.index c.in-Some.found.behind c.in-Some.ensures.0
      c.in-Some.ensures.3 c.in_ok-set.ensures.cursors;
  after = c.apply.ensures;
}
