use Rattle.std.proofs.Common.{◌≤◌, length}
use Rattle.img_streams.specs.Links.{LeadFrom}
use Rattle.img_streams.proofs.links.LineLinks.link.Given as goal

abbrev pub invariant-loop-at : goal.invariant-loop-at
invariant-loop-at l = record {
  lead : LeadFrom l.lines l.at l.self.first l.self.next.items;
  inside : l.at ≤ length l.lines;
}

abbrev pub decreases-loop-at : goal.decreases-loop-at
decreases-loop-at l = l.at
