use Rattle.std.proofs.Common.{◌≡◌, vec_len, vec_capacity}
use Rattle.stream_ends.specs.Starts.{AllAt}
use Rattle.stream_ends.specs.Stops.{HasStopped}
use Rattle.aio_run.specs.Berths.{AreBerthed}
use Rattle.aio_run.proofs.returning.all_back.Given as goal

abbrev pub invariant-loop-number : goal.invariant-loop-number
invariant-loop-number g l =
    AreBerthed g.D.Device.bytes l.script l.lock l.berths.items
    × (vec_len l.streams ≡ l.number)
    × (vec_capacity l.streams ≡ vec_capacity l.fn.room)
    × AllAt (HasStopped g.D.Device.bytes l.script l.lock) l.streams.items
