use Rattle.std.proofs.Common.{◌≤◌, length, vec_capacity}
use Rattle.stream_ends.proofs.Starting.{Deals}
use Rattle.stream_ends.proofs.beginning.deal.Given as goal

abbrev pub invariant-loop-number : goal.invariant-loop-number
invariant-loop-number g l = record {
  deals : Deals g.D.Device.bytes l.script l.lock l.number l.passes.items l.rooms.items l.streams.items;
  room : length l.script.streams ≤ vec_capacity l.streams;
}
