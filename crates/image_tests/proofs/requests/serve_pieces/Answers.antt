use Rattle.img_requests.proofs.Served.{UnderWay-begun, UnderWay-more, IsServedThrough-last}
use Rattle.image_tests.proofs.requests.serve_pieces.Goals as goal

pub loop-pieces-init : goal.loop-pieces-init
loop-pieces-init g c = UnderWay-begun _ _ _ _ _ c.requires.begun c.requires.within c.requires.inside c.requires.room

pub loop-pieces-preserved : goal.loop-pieces-preserved
loop-pieces-preserved g c = UnderWay-more c.loop-pieces.invariant c.in-More.ensures.served

pub returns-in-Whole : goal.returns-in-Whole
returns-in-Whole g c = IsServedThrough-last c.loop-pieces.invariant c.piece.ensures.served c.in-Whole.is
