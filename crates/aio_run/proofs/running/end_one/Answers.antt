use Rattle.std.proofs.Common.{◌∙◌, None, sym, ap, slice_index_or}
use Rattle.aio_run.proofs.running.end_one.Goals as goal

pub take_back-requires-clause-ended : goal.take_back-requires-clause-ended
take_back-requires-clause-ended g c k co there =
    c.requires.ended k co (sym (ap (λ v. slice_index_or v.items k None) c.ended_in.ensures) ∙ there)
