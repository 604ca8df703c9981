-- How what a seat knows is cut in two.
use Rattle.std.specs.Prelude.{ℕ, ◌+◌, ◌-◌, [], None}
use Rattle.table_seats.specs.Dividing.{front_part, back_part, half_as_many}
use Rattle.aio_model.specs.Loop.Lists.{seat_of}
use Rattle.aio_model.specs.Loop.InFlight.{AtRest}
use Rattle.aio_core.specs.Known.{Known, calmed, part_of}

-- the seat that stays has the first numbers
abbrev pub front_known : ℕ → Known → Known
front_known cut known =
    record known { mine = (front_part seat_of cut (part_of known)).mine; count = cut }

-- the new one has the others and has done nothing yet
abbrev pub back_known : ℕ → Known → Known
back_known cut known =
    record known { mine = (back_part seat_of cut (part_of known)).mine; did = []; first = known.first + cut; count = known.count - cut; phase = AtRest; sleep = calmed known.sleep; told = None }

-- the home's number is cut off when a table is built
abbrev pub seats_known : Known → Known
seats_known = front_known 64

abbrev pub home_known : Known → Known
home_known = back_known 64

abbrev pub first_half : Known → Known
first_half known = front_known (known.count - half_as_many known.count) known

abbrev pub last_half : Known → Known
last_half known = back_known (known.count - half_as_many known.count) known
