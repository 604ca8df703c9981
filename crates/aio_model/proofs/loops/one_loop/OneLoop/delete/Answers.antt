use Rattle.std.proofs.Common.{refl, ◌∙◌}
use Rattle.aio_model.specs.Loop.History.{ToDelete}
use Rattle.aio_model.specs.Loop.Log.{history_of}
use Rattle.aio_model.proofs.LoopFollows.{enqueue_follows, handle_lives}
use Rattle.aio_model.proofs.loops.one_loop.OneLoop.delete.Goals as goal

pub returns-clause-follows : goal.returns-clause-follows
returns-clause-follows c seat log stands =
    let st = c.args.self.now in
    let f = enqueue_follows st c.args.bh ToDelete seat log stands c.enqueue.ensures.in_range (handle_lives st.sizes c.args.bh (history_of log) c.requires, refl, c.requires) in
    (c.enqueue.ensures.was ∙ f.0, rw c.enqueue.ensures.state f.1)
