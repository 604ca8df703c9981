use Rattle.std.proofs.Common.{◌∙◌, ◌++◌, true, false, Some, ap, inl, refl}
use Rattle.img_streams.specs.Deeds.{listed, wants_wakes}
use Rattle.img_streams.specs.Streams.{source}
use Rattle.img_streams.proofs.Entering.{waits_resumes, hand_asks}
use Rattle.img_streams.proofs.Leaving.{asks_ended, can_leave_line, left_is, left_resumes}
use Rattle.img_streams.proofs.states.Stream+ImageRule+D.leave.Goals as goal

pub get_reply-requires : goal.get_reply-requires
get_reply-requires g c =
    let old = c.args.self.now in
    let of = source c.args.env.now.lock.now c.args.env.now.script.now in
    record { can = can_leave_line g.D.Device.bytes old of c.requires.of c.requires.at c.leave.new.pass }

pub returns-in-Waits-clause-resumes : goal.returns-in-Waits-clause-resumes
returns-in-Waits-clause-resumes g c =
    let old = c.args.self.now in
    let of = source c.args.env.now.lock.now c.args.env.now.script.now in
    waits_resumes g.D.Device.bytes old of (record old { pass = c.leave.new.pass; queued = true }) c.in-Waits.named c.ask.new.cx
    (inl (hand_asks g.D.Device.bytes old of c.requires.of (asks_ended g.D.Device.bytes old of c.requires.of c.requires.at)))
    c.in-Waits.ensures.turn c.ask.ensures refl refl refl

pub returns-in-Did-clause-of : goal.returns-in-Did-clause-of
returns-in-Did-clause-of g c =
    let old = c.args.self.now in
    let of = source c.args.env.now.lock.now c.args.env.now.script.now in
    left_is g.D.Device.bytes old of c.requires.of c.requires.at c.get_reply.new.self c.leave.new.pass c.get_reply.ensures.gets c.in-Did.ensures.turn.of c.in-Did.ensures.left

pub returns-in-Did-clause-resumes : goal.returns-in-Did-clause-resumes
returns-in-Did-clause-resumes g c =
    let old = c.args.self.now in
    let of = source c.args.env.now.lock.now c.args.env.now.script.now in
    left_resumes g.D.Device.bytes old of c.requires.of c.requires.at c.get_reply.new.self c.leave.new.pass c.get_reply.ensures.gets c.in-Did.woken c.in-Did.named c.ask-in-Did.new.cx c.in-Did.ensures.turn
    (c.ask-in-Did.ensures ∙ ap (λ (who : _). wants_wakes (listed c.in-Did.named ++ listed c.in-Did.woken ++ listed (Some who)) false) (ap (λ (co : _). co.co) c.get_reply.ensures.gets.is))
