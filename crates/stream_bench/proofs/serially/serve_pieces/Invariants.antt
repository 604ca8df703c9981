use Rattle.std.proofs.Common.{◌-◌}
use Rattle.aio_model.specs.Serving.{length_of}
use Rattle.img_requests.specs.Presents.{done_of}
use Rattle.img_requests.specs.Progress.{UnderWay}
use Rattle.stream_bench.proofs.serially.serve_pieces.Given as goal

abbrev pub invariant-loop : goal.invariant-loop
invariant-loop g l =
    UnderWay g.D.Device.bytes 0 l.request l.initial.image l.image l.buffer

abbrev pub decreases-loop : goal.decreases-loop
decreases-loop g l = length_of l.request - done_of l.image.present
