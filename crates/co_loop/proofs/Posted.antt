-- How far the posting of those that are kept has come.
use Rattle.std.proofs.Common.{◌≡◌, ℕ, zero, suc, ◌+◌, false, List, [], ◌∷◌, Option, None, Some, slice_index_or, refl, subst, arith}
use Rattle.co_loop.specs.declared.leaving.Leaving.{Leaving}
use Rattle.co_loop.proofs.Choices.{when_none}
use Rattle.co_loop.specs.Crews.{Far}
use Rattle.co_loop.specs.Again.{is_kept, PostsAgain, PostsEachAgain}

pub one_more_posted : {C O : Type 0} (co : ℕ) (start now next : Far C O) → PostsEachAgain co start now → PostsAgain co now next → PostsEachAgain (co + 1) start next
one_more_posted co start now next so_far one =
    let next_is : suc co ≡ co + 1 = omega arith in
    subst (λ k. PostsEachAgain k start next) next_is (now, so_far, one)

none_at : {C : Type 0} (leaving : List (Option (Leaving C))) (k : ℕ) → is_kept leaving ≡ false → slice_index_or leaving k None ≡ None
none_at [] k none = refl
none_at (None ∷ rest) zero none = refl
none_at (None ∷ rest) (suc k) none = none_at rest k none
none_at (Some left ∷ rest) k none = absurd (cc)

-- where nothing is kept there is nothing to post
pub none_to_post : {C O : Type 0} (n : ℕ) (here : Far C O) → is_kept here.leaving ≡ false → PostsEachAgain n here here
none_to_post zero here none = refl
none_to_post (suc n) here none =
    (here, none_to_post n here none, when_none (slice_index_or here.leaving n None) _ _ (none_at here.leaving n none) refl)
