use Rattle.std.proofs.Common.{◌∙◌, rules, subst, sym}
use Rattle.img_shared.specs.Images.{ImageState}
use Rattle.img_shared.specs.Phases.{phase_at}
use Rattle.img_streams.specs.declared.answers.Grant.TheVariants.{Granted}
use Rattle.img_streams.specs.ImageCalls.{IsWaitingFor, TakesUp}
use Rattle.img_streams.proofs.Granted.{gets_hold}
use Rattle.img_streams.proofs.image_calls.take_up.Goals as goal

pub returns-clause-taken : goal.returns-clause-taken
returns-clause-taken g c =
    let same = c.deref_mut-shared.ensures.value ∙ c.image.view_is in
    let waits = subst (λ (i : ImageState _). IsWaitingFor (phase_at i.phases c.args.co.co) c.args.co.co c.args.request.now) (sym same) c.requires.waits in
    subst (λ (i : ImageState _). TakesUp g.D.Device.bytes c.args.co c.args.request.now c.args.buffer.now c.piece-first.new.buf (Granted c.named_in-woken.result c.piece-first.result) i c.piece-first.new.self) same
    (gets_hold g.D.Device.bytes c.args.co c.deref_mut-shared.result.now c.args.request.now c.come.new.self c.granted-next.new.self c.piece-first.new.self
    waits c.come.ensures.noted c.granted-next.ensures.taken
    c.granted-next.result c.named_in-woken.result c.piece-first.result c.args.buffer.now c.piece-first.new.buf
    (search rules) c.granted-next.ensures.woken c.named_in-woken.ensures c.piece-first.ensures.served)
