-- How what a seat knows is cut in two and put together.
use Rattle.std.specs.Prelude.{◌+◌, ◌-◌, ℕ, if◌then◌else◌, None, []}
use Rattle.table_seats.specs.Seats.{Told, owns, home}
use Rattle.table_seats.specs.Dividing.{front_part, back_part, joined_part, half_as_many, told_of}
use Rattle.aio_model.specs.Coroutines.History.{Entry, seat_of}
use Rattle.co_schedule.specs.Known.{AtRest, empty_stage, Known, part_of, numbers_of}

abbrev pub front_known : ℕ → Known → Known
front_known cut known =
    record known { mine = (front_part seat_of cut (part_of known)).mine; count = cut }

-- the new one has the others and has done nothing yet
abbrev pub back_known : ℕ → Known → Known
back_known cut known =
    record known { mine = (back_part seat_of cut (part_of known)).mine; did = []; first = known.first + cut; count = known.count - cut; phase = AtRest; told = None }

abbrev pub joined_known : Known → Known → Known
joined_known known other =
    let part = joined_part seat_of (part_of known) (part_of other) in
    record known { seen = part.seen; mine = part.mine; count = part.count; stage = (if owns (numbers_of other) home then other.stage else known.stage); told = part.told }

abbrev pub spent_known : Known
spent_known =
    record { coroutines = 0; seen = []; mine = []; did = []; first = 0; count = 0; phase = AtRest; stage = empty_stage; told = None }

-- how many numbers stay where a seat is split
abbrev pub half_cut : Known → ℕ
half_cut known = known.count - half_as_many known.count

-- what a join of two remembers
abbrev pub told_by : Known → Known → Told Entry
told_by known other = told_of (part_of known) (part_of other)
