use Rattle.std.proofs.Common.{◌≡◌, ◌+◌, ◌*◌, ◌<◌, length, length-set, sym, ◌∙◌, ap, subst, arith, w64}
use Rattle.std.proofs.lemmas.Grind.{common_steps}
use Rattle.std.proofs.lemmas.Int.{to_z-of_z}
use Rattle.aio_model.specs.Timers.Calls.{from_zero}
use Rattle.aio_timers.specs.Keys.{none, stamps, joint, key_at}
use Rattle.aio_timers.specs.StandsFor.{StandsFor}
use Rattle.aio_timers.proofs.Rows.{of_rows, stamped_put}
use Rattle.aio_timers.proofs.Standing.{tell_from}
use Rattle.aio_timers.proofs.RowCalls.{apart_anew, tell_anew, put_here, put_others, put_apart, stands_armed}
use Rattle.aio_timers.proofs.timers.Timers.arm.Goals as goal

pub invariant_of-self : goal.invariant_of-self
invariant_of-self c =
    let h = c.self.inside in
    let kept = c.self.invariant in
    let timer = c.args.id.number in
    let due = c.fresh_stamp-stamp.new.due in
    let waiting = c.fresh_stamp-stamp.new.waiting in
    let due' = c.clear.new.self in
    let waiting' = c.set.new.self in
    let fresh = c.fresh_stamp-stamp.ensures in
    let made = ap (λ timers. timers.made) c.self.view_is in
    let low : timer < h.made = omega (arith, c.requires, made) in
    let in_due : timer < length due = omega (arith, low, kept.made_fits, kept.due_sized, fresh.restamps.due_sized) in
    let in_waiting : timer < length waiting = omega (arith, low, kept.made_fits, kept.waiting_sized, fresh.restamps.waiting_sized) in
    let stamped = fresh.stamped h.made kept.stamped in
    let here = put_here due waiting due' waiting' timer c.key_of.result in_due in_waiting c.clear.ensures c.set.ensures in
    record {
      due_sized = ap length c.clear.ensures ∙ length-set due timer none ∙ fresh.restamps.due_sized ∙ kept.due_sized;
      waiting_sized = ap length c.set.ensures ∙ length-set waiting timer c.key_of.result ∙ fresh.restamps.waiting_sized ∙ kept.waiting_sized;
      ranks_sized = grind (arith, common_steps, kept.ranks_sized, c.deref_mut.ensures.value, c.deref_mut.ensures.len, c.fresh_stamp-stamp.auto.ranks);
      made_fits = kept.made_fits;
      apart = put_apart due waiting due' waiting' timer c.key_of.result in_due in_waiting c.clear.ensures c.set.ensures (apart_anew h.due h.waiting due waiting fresh.restamps kept.apart);
      stamped = stamped_put (joint due waiting) (joint due' waiting') h.made c.fresh_stamp-stamp.result timer c.from_zero.result stamped low (omega (arith, fresh.more)) (here ∙ c.key_of.ensures) (put_others due waiting due' waiting' timer c.key_of.result in_due in_waiting c.clear.ensures c.set.ensures);
    }

pub returns-clause-stands : goal.returns-clause-stands
returns-clause-stands c = λ calls stands.
    let h = c.self.inside in
    let kept = c.self.invariant in
    let timer = c.args.id.number in
    let due = c.fresh_stamp-stamp.new.due in
    let waiting = c.fresh_stamp-stamp.new.waiting in
    let stamp = c.fresh_stamp-stamp.result in
    let fresh = c.fresh_stamp-stamp.ensures in
    let made = ap (λ timers. timers.made) c.self.view_is in
    let low : timer < h.made = omega (arith, c.requires, made) in
    let in_due : timer < length due = omega (arith, low, kept.made_fits, kept.due_sized, fresh.restamps.due_sized) in
    let in_waiting : timer < length waiting = omega (arith, low, kept.made_fits, kept.waiting_sized, fresh.restamps.waiting_sized) in
    let stood = subst (λ timers. StandsFor timers calls) (sym c.self.view_is) stands in
    let tell = tell_from (joint h.due h.waiting) (key_at h.due) h.room h.made h.next kept.stamped kept.made_fits (of_rows h.due h.waiting) calls stood in
    let told = tell_anew h.due h.waiting due waiting fresh.restamps h.made calls tell in
    let expire : c.from_zero.result ≡ from_zero c.args.expire = c.from_zero.ensures.is ∙ ap from_zero (to_z-of_z w64 c.args.expire c.ranges.expire) in
    let key : c.key_of.result ≡ from_zero c.args.expire * stamps + stamp = c.key_of.ensures ∙ ap (λ e. e * stamps + stamp) expire in
    let early : from_zero c.args.expire < 9223372036854775808 = omega (arith, expire, c.from_zero.ensures.low) in
    stands_armed due waiting c.clear.new.self c.set.new.self timer c.key_of.result in_due in_waiting c.clear.ensures c.set.ensures h.room h.made stamp c.args.expire calls told (fresh.stamped h.made kept.stamped) kept.made_fits low (omega (arith, fresh.more)) key early
