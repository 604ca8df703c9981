use Rattle.std.proofs.Common.{inl, inr, refl}
use Rattle.img_requests.proofs.Served.{UnderWay-more, IsServedThrough-last}
use Rattle.stream_bench.proofs.serially.serve_pieces.Goals as goal

pub loop-preserved : goal.loop-preserved
loop-preserved g c = UnderWay-more c.loop.invariant c.in-More.ensures.served

pub returns-in-Whole : goal.returns-in-Whole
returns-in-Whole g c = IsServedThrough-last c.loop.invariant c.in-Whole.ensures.served (inl refl)

pub returns-in-Failed : goal.returns-in-Failed
returns-in-Failed g c = IsServedThrough-last c.loop.invariant c.in-Failed.ensures.served (inr refl)
