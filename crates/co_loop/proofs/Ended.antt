-- The events of the loops, one after another.
use Rattle.std.proofs.Common.{◌≡◌, ℕ, ◌<◌, ◌+◌, List, length, slice_index_or, slice_set, subst, sym, ◌∙◌, length-set, arith}
use Rattle.std.proofs.lemmas.Bool.{cases_eq}
use Rattle.std.proofs.lemmas.List.{get_or-set_same, get_or-set_other, get_or_default}
use mathlib.Core.Logic.{⊎_elim}
use Rattle.loop_rows.specs.declared.seats.Seats.{Seats}
use Rattle.co_loop.specs.Quits.{SetsEnd, SetsEnds}

module _ {C O : Type 0} where
  pub sets_one_more : (at : ℕ) (before mid : List (Seats C O)) (d is : Seats C O) → SetsEnds at before mid → at < length mid → SetsEnd (slice_index_or mid at d) is → SetsEnds (at + 1) before (slice_set mid at is)
  sets_one_more at before mid d is so_far lt sets =
      record {
        long = length-set mid at is ∙ so_far.long;
        set = λ k s h. ⊎_elim
            (λ (e : k ≡ at). subst (λ (j : ℕ). SetsEnd (slice_index_or before j s) (slice_index_or (slice_set mid at is) j s)) (sym e)
            (subst (λ (x : Seats C O). SetsEnd (slice_index_or before at s) x) (sym (get_or-set_same mid at is s lt))
            (subst (λ (x : Seats C O). SetsEnd x is) (get_or_default mid at d s lt ∙ so_far.rest at s (omega arith)) sets)))
            (λ (ne : k ≡ at → ⊥). subst (λ (x : Seats C O). SetsEnd (slice_index_or before k s) x) (sym (get_or-set_other mid at k is s ne)) (so_far.set k s (grind (arith, h, ne))))
            (cases_eq k at);
        rest = λ k s h. get_or-set_other mid at k is s (λ e. absurd (omega (arith, e, h))) ∙ so_far.rest k s (omega (arith, h));
      }
