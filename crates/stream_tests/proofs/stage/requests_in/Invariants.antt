use Rattle.std.proofs.Common.{◌≡◌, take}
use Rattle.aio_model.specs.Serving.Asked.{requests_of}
use Rattle.stream_tests.proofs.stage.requests_in.Given as goal

abbrev pub invariant-loop-line : goal.invariant-loop-line
invariant-loop-line l = l.count ≡ requests_of l.id (take l.line-index l.lines)
