use Rattle.std.proofs.Common.{◌∙◌, None, sym, subst, slice_set, length-set}
use Rattle.std.proofs.lemmas.List.{get_or_default}
use Rattle.aio_run.specs.Berths.{BerthsAreOf}
use Rattle.aio_run.proofs.Berthed.{of_unset}
use Rattle.aio_run.proofs.returning.take_one.Goals as goal

pub berth-requires-clause-of : goal.berth-requires-clause-of
berth-requires-clause-of g c =
    (c.requires.ended c.args.at c.in-Some.stream
    (get_or_default c.args.ended.now.items c.args.at None c.index_mut.result.now c.requires.at ∙ sym c.index_mut.ensures.value ∙ sym c.take.ensures.value ∙ c.in-Some.is)).0

pub returns-in-Some-clause-ended : goal.returns-in-Some-clause-ended
returns-in-Some-clause-ended g c = (
  subst (λ v. BerthsAreOf g.D.Device.bytes c.args.script.now c.args.lock.now (slice_set c.args.ended.now.items c.args.at v)) (sym c.take.ensures.after)
      (of_unset g.D.Device.bytes c.args.script.now c.args.lock.now c.args.ended.now.items c.args.at c.requires.at c.requires.ended),
  length-set c.args.ended.now.items c.args.at c.take.new.self,
)

pub returns-in_default-clause-ended : goal.returns-in_default-clause-ended
returns-in_default-clause-ended g c = (
  subst (λ v. BerthsAreOf g.D.Device.bytes c.args.script.now c.args.lock.now (slice_set c.args.ended.now.items c.args.at v)) (sym c.take.ensures.after)
      (of_unset g.D.Device.bytes c.args.script.now c.args.lock.now c.args.ended.now.items c.args.at c.requires.at c.requires.ended),
  length-set c.args.ended.now.items c.args.at c.take.new.self,
)
