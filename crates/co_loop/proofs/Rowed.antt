-- A row stays one as the seats of one loop change.
use Rattle.std.proofs.Common.{◌≡◌, ℕ, ◌<◌, List, length, slice_index_or, slice_set, subst, sym, ◌∙◌, length-set}
use Rattle.std.proofs.lemmas.Bool.{cases_eq}
use Rattle.std.proofs.lemmas.List.{get_or-set_same, get_or-set_other, get_or_default}
use mathlib.Core.Logic.{⊎_elim}
use Rattle.loop_rows.specs.declared.shared.LoopShared.{LoopShared}
use Rattle.loop_rows.specs.declared.seats.Seats.{Seats}
use Rattle.loop_rows.specs.Posts.{IsSeated}
use Rattle.co_loop.specs.Rows.{AreSeatsOfLoops}

-- what holds of each place but one, and of what is put there
pub at_set : {X : Type 0} (P : ℕ → X → Type 0) (xs : List X) (i : ℕ) (v : X) → i < length xs → P i v → (k : ℕ) (d : X) → ((k ≡ i → ⊥) → P k (slice_index_or xs k d)) → P k (slice_index_or (slice_set xs i v) k d)
at_set {X} P xs i v lt here k d there =
    ⊎_elim (λ (e : k ≡ i). subst (λ (j : ℕ). P j (slice_index_or (slice_set xs i v) j d)) (sym e) (subst (P i) (sym (get_or-set_same xs i v d lt)) here))
    (λ (ne : k ≡ i → ⊥). subst (P k) (sym (get_or-set_other xs i k v d ne)) (there ne)) (cases_eq k i)

pub row_set : {C O : Type 0} (n : ℕ) (shared : List (LoopShared C O)) (seats : List (Seats C O)) (i : ℕ) (v : Seats C O) (at : LoopShared C O) → i < length shared → at ≡ slice_index_or shared i at → IsSeated at v → AreSeatsOfLoops n shared seats → AreSeatsOfLoops n shared (slice_set seats i v)
row_set {C} {O} n shared seats i v at lt is seated row =
    record {
      long = length-set seats i v ∙ row.long;
      loops = row.loops;
      each = λ k t s h. at_set (λ (j : ℕ) (x : Seats C O). IsSeated (slice_index_or shared j t) x) seats i v (subst (λ (l : ℕ). i < l) (sym row.long) lt)
          (subst (λ (x : LoopShared C O). IsSeated x v) (is ∙ get_or_default shared i at t lt) seated) k s (λ _. row.each k t s h);
    }
