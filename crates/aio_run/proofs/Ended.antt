-- What comes back of a run: the coroutines that have ended on each loop are of the lock and the script, and each loop is over.
use Rattle.std.proofs.Common.{◌≡◌, ℕ, suc, ◌-◌, ◌<◌, Bool, None, Some, List, [], ◌∷◌, length, slice_index_or, sym, ap, ◌∙◌, subst, arith}
use Rattle.std.specs.List.{AllByRecursion}
use Rattle.aio_core.specs.Known.{Known}
use Rattle.aio_model.specs.Coroutines.History.{IsLegal}
use Rattle.co_schedule.specs.Calls.{AreFree}
use Rattle.co_loop.specs.declared.working.CoWork.{CoWork}
use Rattle.co_loop.specs.Rows.{AreOfOrigin}
use Rattle.co_loop.specs.Working.{CanWork}
use Rattle.loop_rows.specs.declared.shared.LoopShared.{LoopShared}
use Rattle.loop_rows.specs.declared.opening.Homes.{Homes}
use Rattle.loop_rows.specs.declared.rows.Row.{Row}
use Rattle.loop_rows.specs.LoopStates.{LoopState}
use Rattle.loop_threads.specs.declared.ending.LoopRun.{LoopRun}
use Rattle.loop_threads.specs.declared.hands.Hand.{Hand}
use Rattle.loop_threads.specs.declared.members.Member.{Member}
use Rattle.loop_threads.specs.declared.parts.Part.{Part}
use Rattle.loop_threads.specs.Running.{Runs}
use Rattle.aio_run.specs.Ends.{IsOver}
use Rattle.aio_run.specs.Posting.{HaveCoroutines, HaveSizes}
use Rattle.aio_run.specs.Runs.{AreRun}
use Rattle.aio_run.proofs.Begun.{at_place}

-- a fact of each place is one of all
pub all_of_places : {A : Type 0} (P : A → Type 0) (xs : List A) → ((k : ℕ) (d : A) → k < length xs → P (slice_index_or xs k d)) → AllByRecursion P xs
all_of_places P [] each = tt
all_of_places P (x ∷ xs) each =
    (each 0 x (omega arith), all_of_places P xs (λ k d below. each (suc k) d (omega arith)))

module _ {C K O : Type 0} (is_of : ℕ → C → O → Type 0) (does : List (LoopShared C O) → CoWork C K O → LoopState C O → Bool → CoWork C K O → LoopState C O → Type 0)
    (origin : O) (shared : List (LoopShared C O)) (of : AreOfOrigin origin shared) where
  -- the coroutines that have ended on a loop that was carried are of the loops' origin
  pub ended_of : (row : Row C O) (part : Part C (CoWork C K O) O) (member : Member C (CoWork C K O) O) → Runs (CanWork is_of) does shared row part member → (k : ℕ) (co : C) → slice_index_or member.work.crew.ended.items k None ≡ Some co → is_of k co origin
  ended_of row part member runs k co there =
      let last = runs.last in
      let can = runs.carried.comes.part.ready in
      let crew = can.fits.is_crew in
      let same : last.work.crew.store.origin ≡ origin = sym (crew.of last.work.crew.own (at_place shared last.work.crew.own crew.own) crew.own) ∙ of last.work.crew.own (at_place shared last.work.crew.own crew.own) crew.own in
      subst (is_of k co) same (crew.ended_of k co (sym (ap (λ (w : CoWork C K O). slice_index_or w.crew.ended.items k None) runs.is.work_is) ∙ there))

  module _ (homes : List (Homes C O)) (hands : List (Hand (CoWork C K O))) (began : Row C O) (ends : List (LoopRun C (CoWork C K O) O)) (are : AreRun (CanWork is_of) does shared homes hands began ends) where
    pub all_ended_of : AllByRecursion (λ run. (k : ℕ) (co : C) → slice_index_or run.work.crew.ended.items k None ≡ Some co → is_of k co origin) ends
    all_ended_of =
        all_of_places (λ (run : LoopRun C (CoWork C K O) O). (k : ℕ) (co : C) → slice_index_or run.work.crew.ended.items k None ≡ Some co → is_of k co origin) ends
        (λ k r below j co there.
        let n = length shared in
        let parts = are.carried.parts in
        let members = are.joined.members.items in
        let t = at_place shared k (omega (arith, below, are.many)) in
        let m = at_place members k (omega (arith, below, are.many, are.members)) in
        let s = at_place are.joined.row.seats.items k (omega (arith, below, are.many, are.is_row.long)) in
        let p = at_place parts (n - k - 1) (omega (arith, below, are.many, are.carried.many)) in
        let is = are.ends k t m s r (omega (arith, below, are.many)) in
        ended_of are.joined.row (slice_index_or parts (n - k - 1) p) (slice_index_or members k m) (are.carried.runs k (n - k - 1) p m (omega (arith, below, are.many))) j co
        (sym (ap (λ (w : CoWork C K O). slice_index_or w.crew.ended.items j None) is.work_is) ∙ there))

    pub all_over : (coroutines : ℕ) → HaveCoroutines coroutines shared → HaveSizes shared → AllByRecursion (λ run. IsOver coroutines run.calls.known run.coroutines) ends
    all_over coroutines tables sized =
        all_of_places (λ (run : LoopRun C (CoWork C K O) O). IsOver coroutines run.calls.known run.coroutines) ends
        (λ k r below.
        let low : k < length shared = omega (arith, below, are.many) in
        let t = at_place shared k low in
        let m = at_place are.joined.members.items k (omega (arith, low, are.members)) in
        let s = at_place are.joined.row.seats.items k (omega (arith, low, are.is_row.long)) in
        let is = are.ends k t m s r low in
        let many_here = tables k t low in
        record {
          loop = is.calls.is_end;
          sizes = ap (λ (v : Known). v.sizes) is.calls.same ∙ ap (λ (v : Known). v.sizes) is.calls.is_whole.loads.rest ∙ (are.is_row.each k t s low).bottoms.of.sizes ∙ sized k t low;
          legal = subst (λ m. IsLegal m (slice_index_or ends k r).coroutines.history) many_here is.coroutines.whole.legal;
          none_left = subst (λ m. AreFree m (slice_index_or ends k r).coroutines.history) many_here is.coroutines.nothing_left;
        })
