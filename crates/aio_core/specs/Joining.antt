-- How what two seats know is put together.
use Rattle.std.specs.Prelude.{if◌then◌else◌, None, []}
use Rattle.table_seats.specs.Seats.{Told, owns, home}
use Rattle.table_seats.specs.Dividing.{told_of as told_of_parts, joined_part}
use Rattle.table_seats.specs.Calls as calls
use Rattle.aio_model.specs.Loop.History.{Sizes, Entry, History}
use Rattle.aio_model.specs.Loop.Lists.{seat_of}
use Rattle.aio_model.specs.Loop.Legal.{IsLegal}
use Rattle.aio_model.specs.Loop.InFlight.{AtRest}
use Rattle.aio_core.specs.Known.{empty_stage, calmed, Running, Known, part_of, numbers_of}

abbrev pub told_of : Known → Known → Told Entry
told_of known other = told_of_parts (part_of known) (part_of other)

-- the seat that stays has seen the longer of the two, and has all numbers; what is the home's stays with the home's number
abbrev pub joined_known : Known → Known → Known
joined_known known other =
    let part = joined_part seat_of (part_of known) (part_of other) in
    record known {
      seen = part.seen;
      mine = part.mine;
      count = part.count;
      stage = (if owns (numbers_of other) home then other.stage else known.stage);
      sleep = (if owns (numbers_of other) home then calmed other.sleep else known.sleep);
      told = part.told;
    }

-- what is left of the other: it owns no number, and has seen nothing
abbrev pub spent_known : Known
spent_known =
    record { sizes = record { handles = 0; lots = 0; events = 0 }; seen = []; mine = []; did = []; first = 0; count = 0; phase = AtRest; stage = empty_stage; sleep = Running; told = None }

-- each of the two lists is a part of the longer one, which is legal, and in which each of the two has just the entries that it made
abbrev pub IsJoined : Sizes → Told Entry → History → Type 0
IsJoined sizes told seen = calls.IsJoined seat_of (IsLegal sizes) told seen
