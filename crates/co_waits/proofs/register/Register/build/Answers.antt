use Rattle.std.proofs.Common.{rules}
use Rattle.co_waits.proofs.Kept.{begins}
use Rattle.co_waits.proofs.register.Register.build.Goals as goal

pub invariant_of-result : goal.invariant_of-result
invariant_of-result c =
    begins c.in_ok-readers.readers c.in_ok-tickets.tickets c.in-Ok.wishes.items c.args.room c.in_ok-readers.ensures.empty c.in_ok-tickets.ensures.empty c.in_ok-readers.ensures.room c.in_ok-tickets.ensures.room (search (rules, c.in-Ok.ensures.len, c.in-Ok.ensures.items))
