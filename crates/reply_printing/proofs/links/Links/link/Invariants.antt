use Rattle.std.proofs.Common.{◌≡◌, ◌≤◌, length}
use Rattle.reply_printing.proofs.LinkedPlaces.{AreLinked}
use Rattle.reply_printing.proofs.links.Links.link.Given as goal

abbrev pub invariant-loop-place : goal.invariant-loop-place
invariant-loop-place l = record {
  within : l.place ≤ length l.served;
  sized : length l.self.next ≡ 64;
  room : length l.self.behind.items ≡ length l.initial.self.behind.items;
  linked : AreLinked l.served l.self.next l.self.behind.items l.place;
}

abbrev pub decreases-loop-place : goal.decreases-loop-place
decreases-loop-place l = l.place
