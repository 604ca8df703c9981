use Rattle.std.proofs.Common.{◌-◌}
use Rattle.aio_model.specs.Serving.{length_of}
use Rattle.img_requests.specs.Presents.{done_of}
use Rattle.img_requests.specs.Progress.{UnderWay}
use Rattle.image_tests.proofs.requests.serve_pieces.Given as goal

abbrev pub invariant-loop-pieces : goal.invariant-loop-pieces
invariant-loop-pieces g l = UnderWay g.D.Device.bytes l.stream l.request l.initial.image l.image l.buf

abbrev pub decreases-loop-pieces : goal.decreases-loop-pieces
decreases-loop-pieces g l = length_of l.request - done_of l.image.present
