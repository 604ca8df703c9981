use Rattle.std.proofs.Common.{◌∙◌, None, sym, subst, slice_set}
use Rattle.std.proofs.lemmas.List.{get_or_default}
use Rattle.aio_run.specs.Berths.{AreBerthed}
use Rattle.aio_run.proofs.Berthed.{berthed_unset}
use Rattle.aio_run.proofs.returning.back.Goals as goal

pub returns-clause-berths : goal.returns-clause-berths
returns-clause-berths g c =
    subst (λ v. AreBerthed g.D.Device.bytes c.args.script.now c.args.lock.now (slice_set c.args.berths.now.items c.args.number v)) (sym c.take.ensures.after)
    (berthed_unset g.D.Device.bytes c.args.script.now c.args.lock.now c.args.berths.now.items c.args.number c.requires.number c.requires.berths)

pub returns-clause-stopped : goal.returns-clause-stopped
returns-clause-stopped g c =
    c.requires.berths.each c.args.number c.in-Some.stream
    (get_or_default c.args.berths.now.items c.args.number None c.index_mut.result.now c.requires.number ∙ sym c.index_mut.ensures.value ∙ sym c.take.ensures.value ∙ c.in-Some.is)
