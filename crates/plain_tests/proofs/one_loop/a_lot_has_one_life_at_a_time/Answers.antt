use Rattle.std.proofs.Common.{◌≡◌, [], true, false, ap, refl, sym, ◌∙◌, subst}
use Rattle.aio_model.specs.declared.loops.bottom_halves.BottomHalf.{BottomHalf}
use Rattle.aio_model.specs.Loop.History.{Sizes}
use Rattle.aio_model.specs.Loop.Log.{history_of, once_log, taken_log, dequeued_log}
use Rattle.aio_model.specs.Loop.State.{half_of}
use Rattle.plain_tests.proofs.one_loop.a_lot_has_one_life_at_a_time.Goals as goal

abbrev one_lot : Sizes
one_lot = record { handles = 1; lots = 1; events = 0 }

abbrev called : BottomHalf
called =
    record { flags = record { pending = false; scheduled = false; deleted = false; oneshot = true; idle = false }; lives = true; dequeued = true }

abbrev half_after : Sizes → Sizes → BottomHalf
half_after first then =
    half_of 1 (history_of (dequeued_log (taken_log (once_log then 0 8 (once_log first 0 7 [])))))

was_called : (first then : Sizes) → first ≡ one_lot → then ≡ one_lot → half_after first then ≡ called
was_called first then e f =
    subst (λ s. half_after s then ≡ called) (sym e) (subst (λ s. half_after one_lot s ≡ called) (sym f) refl)

pub free-requires-clause-done : goal.free-requires-clause-done
free-requires-clause-done g c =
    let sizes = c.in_ok-run.ensures.sizes in
    let first = c.once.ensures.follows 0 [] c.in_ok-run.ensures.empty in
    let then = c.once-2.ensures.follows 0 _ first.1 in
    let taken = c.take.ensures.follows _ then.1 in
    let after = c.dequeue.ensures.follows _ taken.1 in
    let half = after.1.halves 1 ∙ was_called _ _ sizes (c.once.ensures.sizes ∙ sizes) in
    record {
      lives = ap (λ (h : BottomHalf). h.lives) half;
      dequeued = ap (λ (h : BottomHalf). h.dequeued) half;
      idle = ap (λ (h : BottomHalf). h.flags.pending) half;
    }
