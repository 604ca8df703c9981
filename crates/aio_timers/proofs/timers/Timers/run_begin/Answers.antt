use Rattle.std.proofs.Common.{sym, subst}
use Rattle.aio_timers.specs.Keys.{joint, key_at}
use Rattle.aio_timers.specs.StandsFor.{StandsFor}
use Rattle.aio_timers.proofs.Rows.{of_rows}
use Rattle.aio_timers.proofs.Standing.{tell_from}
use Rattle.aio_timers.proofs.RowCalls.{stands_begun}
use Rattle.aio_timers.proofs.timers.Timers.run_begin.Goals as goal

pub returns-clause-stands : goal.returns-clause-stands
returns-clause-stands c = λ calls stands.
    let h = c.self.inside in
    let kept = c.self.invariant in
    let stood = subst (λ timers. StandsFor timers calls) (sym c.self.view_is) stands in
    let tell = tell_from (joint h.due h.waiting) (key_at h.due) h.room h.made h.next kept.stamped kept.made_fits (of_rows h.due h.waiting) calls stood in
    stands_begun h.due h.waiting c.move_keys.new.from c.move_keys.new.to c.move_keys-2.new.to c.move_keys-2.new.from c.args.now c.key_of.result c.key_of.ensures c.move_keys.ensures c.move_keys-2.ensures h.room h.made h.next calls tell kept.stamped kept.made_fits
