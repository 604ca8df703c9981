use Rattle.std.proofs.Common.{true, inr, refl}
use Rattle.img_streams.specs.Streams.{source}
use Rattle.img_streams.proofs.Entering.{waits_resumes}
use Rattle.img_streams.proofs.Retiring.{none_now, retired_is}
use Rattle.img_streams.proofs.states.Stream+ImageRule+D.retire.Goals as goal

pub returns-in-Waits-clause-resumes : goal.returns-in-Waits-clause-resumes
returns-in-Waits-clause-resumes g c =
    let old = c.args.self.now in
    let of = source c.args.env.now.lock.now c.args.env.now.script.now in
    waits_resumes g.D.Device.bytes old of (record old { pass = c.retire.new.pass; queued = true }) c.in-Waits.named c.ask.new.cx
    (inr (none_now g.D.Device.bytes old of c.requires.of c.requires.at))
    c.in-Waits.ensures.turn c.ask.ensures refl refl refl

pub returns-in-Did-clause-of : goal.returns-in-Did-clause-of
returns-in-Did-clause-of g c =
    let old = c.args.self.now in
    let of = source c.args.env.now.lock.now c.args.env.now.script.now in
    retired_is g.D.Device.bytes old of c.requires.of c.requires.at c.retire.new.pass c.in-Did.ensures.turn.of c.in-Did.ensures.retired
