use Rattle.std.proofs.Common.{◌≡◌, drop, length}
use Rattle.loop_rows.specs.Rows.{IsRow, HasNumbers}
use Rattle.stream_ends.specs.Images.{homes_of}
use Rattle.aio_run.specs.Posting.{HaveBegun, AllHaveOwn}
use Rattle.aio_run.proofs.posting.post_each.Given as goal

abbrev pub invariant-loop-number : goal.invariant-loop-number
invariant-loop-number g l =
    (l.streams.items ≡ drop l.number l.fn.streams.items)
    × IsRow l.shared l.row
    × HasNumbers 0 64 l.row
    × HaveBegun l.number (homes_of l.script.streams) (length l.shared) l.row.seats.items
    × (AllHaveOwn (length l.shared) l.fn.row.seats.items → AllHaveOwn (length l.shared) l.row.seats.items)
