-- A new crew is a crew.
use Rattle.std.proofs.Common.{◌≡◌, ℕ, zero, suc, ◌<◌, List, length, Option, None, Some, replicate, slice_index_or, refl, sym, ap, ◌∙◌}
use Rattle.std.proofs.lemmas.List.{length-replicate}
use Rattle.co_state.specs.Coroutines.{Coroutines}
use Rattle.co_schedule.specs.Calls.{are_within}
use Rattle.loop_rows.specs.declared.shared.LoopShared.{LoopShared}
use Rattle.co_loop.specs.declared.crew.Crew.{Crew}
use Rattle.co_loop.specs.Rows.{AreSeatsOfLoops, AreOfOrigin}
use Rattle.co_loop.specs.Crews.{IsCrew}
use Rattle.co_loop.specs.Building.{IsNewCrew}

same_at : {X : Type 0} (n k : ℕ) (x : X) → slice_index_or (replicate n x) k x ≡ x
same_at zero k x = refl
same_at (suc n) zero x = refl
same_at (suc n) (suc k) x = same_at n k x

none_there : {A : Type 0} (n : ℕ) (places : List (Option A)) (k : ℕ) (x : A) → places ≡ replicate n None → slice_index_or places k None ≡ Some x → ⊥
none_there n places k x is found =
    let none = ap (λ l. slice_index_or l k None) is ∙ same_at n k None in
    absurd (cc (none, found))

pub crew_of_nobody : {C O : Type 0} (is_of : ℕ → C → O → Type 0) (shared : List (LoopShared C O)) (origin : O) (crew : Crew C O) → IsNewCrew origin crew → AreSeatsOfLoops crew.coroutines shared crew.seats.items → AreOfOrigin origin shared → crew.own < length shared → IsCrew is_of shared crew
crew_of_nobody {C} {O} is_of shared origin crew new row of own =
    let origin_is = ap (λ (s : Coroutines C O). s.origin) new.store in
    record {
      own = own;
      row = row;
      of = λ k t h. of k t h ∙ sym origin_is;
      room = ap (λ w. w.room) new.woken;
      within = ap (λ w. are_within crew.coroutines w.items) new.woken;
      naps = ap length new.naps ∙ length-replicate crew.coroutines _;
      leaving = ap length new.leaving ∙ length-replicate crew.coroutines _;
      ended = ap length new.ended ∙ length-replicate crew.coroutines _;
      kept = record {
        of = λ k left h. absurd (none_there crew.coroutines crew.leaving.items k left new.leaving h);
        to = λ k left h. absurd (none_there crew.coroutines crew.leaving.items k left new.leaving h);
        apart = λ k left h. absurd (none_there crew.coroutines crew.leaving.items k left new.leaving h);
      };
      ended_of = λ k co h. absurd (none_there crew.coroutines crew.ended.items k co new.ended h);
    }
