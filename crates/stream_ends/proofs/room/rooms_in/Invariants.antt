use Rattle.std.proofs.Common.{◌≡◌, ◌≤◌, length, slice_index, take, vec_capacity}
use Rattle.img_streams.specs.Rooms.{IsRoomFor}
use Rattle.stream_ends.specs.Images.{counts_for}
use Rattle.stream_ends.specs.Starts.{AllAt}
use Rattle.stream_ends.proofs.room.rooms_in.Given as goal

abbrev pub invariant-loop-id : goal.invariant-loop-id
invariant-loop-id l = record {
  many : length l.rooms.items ≡ l.id-index;
  each : AllAt (λ k room. IsRoomFor l.script.lines (slice_index l.ids k) room) l.rooms.items;
  counted : l.counts.items ≡ counts_for l.script.lines (take l.id-index l.ids);
  room : length l.ids ≤ vec_capacity l.rooms;
  count_room : length l.ids ≤ vec_capacity l.counts;
}
