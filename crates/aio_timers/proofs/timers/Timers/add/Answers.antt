use Rattle.std.proofs.Common.{◌+◌, ◌∷◌, sym, subst, arith}
use Rattle.aio_model.specs.declared.timers.calls.TimerCall.TheVariants.{Add}
use Rattle.aio_timers.specs.Keys.{joint, key_at}
use Rattle.aio_timers.specs.StandsFor.{StandsFor}
use Rattle.aio_timers.proofs.Rows.{of_rows, stamped_more}
use Rattle.aio_timers.proofs.Standing.{tell_from, stands_from, tell_added}
use Rattle.aio_timers.proofs.timers.Timers.add.Goals as goal

pub returns-clause-stands : goal.returns-clause-stands
returns-clause-stands c = λ calls stands.
    let h = c.self.inside in
    let keys = joint h.due h.waiting in
    let due = key_at h.due in
    let of = of_rows h.due h.waiting in
    let stood = subst (λ timers. StandsFor timers calls) (sym c.self.view_is) stands in
    let tell = tell_from keys due h.room h.made h.next c.self.invariant.stamped c.self.invariant.made_fits of calls stood in
    let fits = c.self.invariant.made_fits in
    stands_from keys due h.room (h.made + 1) h.next (stamped_more keys h.made h.next c.self.invariant.stamped) (omega arith) of (Add ∷ calls) (tell_added keys due h.made calls tell)
