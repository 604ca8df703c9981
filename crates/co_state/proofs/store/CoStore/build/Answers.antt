use Rattle.std.proofs.Common.{ap, nat_cmp}
use Rattle.std.specs.FinMap as map
use Rattle.co_state.specs.Lookup.{key_in, ids_in}
use Rattle.co_state.proofs.Standing.{starts}
use Rattle.co_state.proofs.store.CoStore.build.Goals as goal

pub invariant_of-result : goal.invariant_of-result
invariant_of-result g c =
    let e = starts c.args.room c.in-Ok.directory c.in-Ok-with_capacity.slots (λ q. ap (λ t. key_in t q) c.in-Ok.ensures.empty) (ap ids_in c.in-Ok.ensures.empty) c.in-Ok-with_capacity.ensures.empty c.in-Ok-with_capacity.ensures.capacity c.in-Ok.ensures.room in
    (e.kept, λ id co found. absurd (cc (ap (λ m. map.get m id) e.is, map.get-empty nat_cmp id, found)))
