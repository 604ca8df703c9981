use Rattle.std.proofs.Common.{ap, eqb, w64}
use Rattle.std.proofs.lemmas.Nat.Bits.{bit_at_set_same, bit_at_set_other}
use Rattle.aio_handlers.proofs.watch.with_event.Goals as goal

pub returns-clause-set : goal.returns-clause-set
returns-clause-set c =
    ap (λ b. eqb b 1) (bit_at_set_same w64 c.args.events c.args.event c.requires)

pub returns-clause-others : goal.returns-clause-others
returns-clause-others c = λ other low differs.
    ap (λ b. eqb b 1) (bit_at_set_other w64 c.args.events c.args.event c.requires other differs)
