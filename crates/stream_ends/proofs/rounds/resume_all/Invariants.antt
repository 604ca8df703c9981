use Rattle.std.proofs.Common.{◌≡◌, ◌<◌, true}
use Rattle.img_streams.specs.Streams.{HasGone}
use Rattle.stream_ends.specs.Starts.{AllAt}
use Rattle.stream_ends.specs.Stops.{AreGoing}
use Rattle.stream_ends.proofs.rounds.resume_all.Given as goal

abbrev pub invariant-loop-place : goal.invariant-loop-place
invariant-loop-place g l = record {
  going : AreGoing g.D.Device.bytes l.env.script.now l.env.lock.now l.streams.items;
  gone : l.all ≡ true → AllAt (λ k co. k < l.place → HasGone co.at) l.streams.items;
}
