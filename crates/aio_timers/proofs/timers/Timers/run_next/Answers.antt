use Rattle.std.proofs.Common.{sym, subst, rules}
use Rattle.aio_model.specs.Timers.Calls.{is_marked, IsNone}
use Rattle.aio_timers.specs.Keys.{joint, key_at}
use Rattle.aio_timers.specs.StandsFor.{StandsFor}
use Rattle.aio_timers.proofs.Rows.{of_rows}
use Rattle.aio_timers.proofs.Standing.{tell_from, first_marked, none_marked}
use Rattle.aio_timers.proofs.RowCalls.{stands_given}
use Rattle.aio_timers.proofs.timers.Timers.run_next.Goals as goal

pub returns-in_err-place-clause-next : goal.returns-in_err-place-clause-next
returns-in_err-place-clause-next c = λ calls stands.
    let h = c.self.inside in
    let kept = c.self.invariant in
    let stood = subst (λ timers. StandsFor timers calls) (sym c.self.view_is) stands in
    let tell = tell_from (joint h.due h.waiting) (key_at h.due) h.room h.made h.next kept.stamped kept.made_fits (of_rows h.due h.waiting) calls stood in
    let fact : IsNone is_marked calls = none_marked (joint h.due h.waiting) (key_at h.due) h.room h.made h.next kept.stamped kept.made_fits (of_rows h.due h.waiting) calls tell c.in_err-place.ensures.none in
    search (rules, fact)

pub returns-clause-next : goal.returns-clause-next
returns-clause-next c = λ calls stands.
    let h = c.self.inside in
    let kept = c.self.invariant in
    let stood = subst (λ timers. StandsFor timers calls) (sym c.self.view_is) stands in
    let tell = tell_from (joint h.due h.waiting) (key_at h.due) h.room h.made h.next kept.stamped kept.made_fits (of_rows h.due h.waiting) calls stood in
    let holder = c.in_ok-place.ensures.some in
    first_marked (joint h.due h.waiting) (key_at h.due) h.room h.made h.next kept.stamped kept.made_fits (of_rows h.due h.waiting) calls tell c.in_ok-place.place holder.has_key holder.least

pub returns-clause-stands : goal.returns-clause-stands
returns-clause-stands c = λ calls stands.
    let h = c.self.inside in
    let kept = c.self.invariant in
    let stood = subst (λ timers. StandsFor timers calls) (sym c.self.view_is) stands in
    let tell = tell_from (joint h.due h.waiting) (key_at h.due) h.room h.made h.next kept.stamped kept.made_fits (of_rows h.due h.waiting) calls stood in
    let holder = c.in_ok-place.ensures.some in
    stands_given h.due h.waiting c.set.new.self c.in_ok-place.place kept.apart holder.within holder.has_key c.set.ensures h.made h.next kept.stamped h.room calls tell kept.made_fits
