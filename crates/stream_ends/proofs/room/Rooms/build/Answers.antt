use Rattle.std.proofs.Common.{◌∙◌}
use Rattle.stream_ends.proofs.Scripts.{few_lines, ids_low}
use Rattle.stream_ends.proofs.room.Rooms.build.Goals as goal

pub rooms_in-requires-clause-low : goal.rooms_in-requires-clause-low
rooms_in-requires-clause-low g c = ids_low c.args.script.now c.as_slice.result.now c.requires (c.as_slice.ensures.value ∙ c.in-Ok.ensures)

pub rooms_in-requires-clause-few : goal.rooms_in-requires-clause-few
rooms_in-requires-clause-few g c = few_lines c.args.script.now c.requires
