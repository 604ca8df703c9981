-- From the steps of an enqueue to what its call says.
use Rattle.std.proofs.Common.{◌≡◌, ℕ, zero, suc, Bool, true, false, MatchBool, refl, sym, subst}
use Rattle.aio_model.specs.declared.loops.flags.Flags.{Flags}
use Rattle.aio_model.specs.Loop.History.{EnqueueAsks}
use Rattle.aio_core.specs.Known.{Known}
use Rattle.aio_core.specs.Standing.{Enqueues}
use Rattle.aio_bh.specs.Enqueuing.{MissesOnce, PushesOnce, Tries, PushesAtLast, PushesInTheEnd, InsertsAtOnce, Schedules, SchedulesAtOnce, SchedulesLater}

module _ (i : ℕ) (asked : EnqueueAsks) (flags : Flags) (v a : Known) (enqueues : Enqueues i asked flags v a) where
  pub pushed_at_once : (owed : ℕ) (w : Known) → (flags.pending ≡ false) × (owed ≡ i) → PushesOnce owed a w → InsertsAtOnce i asked flags v w
  pushed_at_once owed w h pushes =
      record { announced = a; enqueues = enqueues; pushes = subst (λ b. MatchBool b (w ≡ a) (PushesOnce i a w)) (sym h.0) (subst (λ k. PushesOnce k a w) h.1 pushes) }

  pub pushed_later : (owed : ℕ) (w : Known) → (flags.pending ≡ false) × (owed ≡ i) → MissesOnce owed a w → SchedulesLater i asked flags v w
  pushed_later owed w h missed =
      record { announced = a; enqueues = enqueues; not_pending = h.0; missed = subst (λ k. MissesOnce k a w) h.1 missed }

  pub nothing_to_push_at_once : flags.pending ≡ true → InsertsAtOnce i asked flags v a
  nothing_to_push_at_once pending =
      record { announced = a; enqueues = enqueues; pushes = subst (λ b. MatchBool b (a ≡ a) (PushesOnce i a a)) (sym pending) refl }

-- A schedule is one that tried once, and went on where it had missed.

once_at_last : (i : ℕ) (a w : Known) → PushesOnce i a w → PushesAtLast i a w
once_at_last i a w pushes =
    record { misses = 0; last = a; tries = refl; pushes = pushes }

by_pending : (b : Bool) (i : ℕ) (a w : Known) → MatchBool b (w ≡ a) (PushesOnce i a w) → MatchBool b (w ≡ a) (PushesAtLast i a w)
by_pending true i a w same = same
by_pending false i a w pushes = once_at_last i a w pushes

pub at_once : (i : ℕ) (asked : EnqueueAsks) (flags : Flags) (v w : Known) → SchedulesAtOnce i asked flags v w → Schedules i asked flags v w
at_once i asked flags v w run =
    let inserts = run.inserts in
    record {
      inserted = run.inserted;
      inserts = record { announced = inserts.announced; enqueues = inserts.enqueues; pushes = by_pending flags.pending i inserts.announced run.inserted inserts.pushes };
      notifies = run.notifies;
    }

-- one more miss before the others
missed_first : (i misses : ℕ) (a b c : Known) → MissesOnce i a b → Tries i misses b c → Tries i (suc misses) a c
missed_first i zero a b c miss same = (a, refl, subst (MissesOnce i a) (sym same) miss)
missed_first i (suc misses) a b c miss tries =
    (tries.0, missed_first i misses a b tries.0 miss tries.1, tries.2)

pub later : (i : ℕ) (asked : EnqueueAsks) (flags : Flags) (v a w : Known) → SchedulesLater i asked flags v a → PushesInTheEnd i a w → Schedules i asked flags v w
later i asked flags v a w run pushed =
    let push : PushesAtLast i run.announced pushed.pushed = record {
      misses = suc pushed.pushes.misses;
      last = pushed.pushes.last;
      tries = missed_first i pushed.pushes.misses run.announced a pushed.pushes.last run.missed pushed.pushes.tries;
      pushes = pushed.pushes.pushes;
    } in
    record {
      inserted = pushed.pushed;
      inserts = record { announced = run.announced; enqueues = run.enqueues; pushes = subst (λ b. MatchBool b (pushed.pushed ≡ run.announced) (PushesAtLast i run.announced pushed.pushed)) (sym run.not_pending) push };
      notifies = pushed.notifies;
    }
