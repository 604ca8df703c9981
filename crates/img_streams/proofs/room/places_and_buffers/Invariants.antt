use Rattle.std.proofs.Common.{◌-◌, length, map}
use Rattle.img_streams.proofs.Gathering.{IsAlong}
use Rattle.img_streams.proofs.room.places_and_buffers.Given as goal

abbrev pub invariant-loop-at : goal.invariant-loop-at
invariant-loop-at l = IsAlong l.lines l.id l.at l.places.items (map (λ buffer. buffer.items) l.buffers.items)

abbrev pub decreases-loop-at : goal.decreases-loop-at
decreases-loop-at l = length l.lines - l.at
