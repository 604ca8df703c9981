-- Those that are kept are posted again.
use Rattle.std.specs.Prelude.{◌≡◌, ℕ, zero, suc, Bool, is_some, MatchOption, Option, None, List, slice_index_or, slice_set}
use Rattle.std.specs.List.{list_any}
use Rattle.co_loop.specs.declared.leaving.Leaving.{Leaving}
use Rattle.co_loop.specs.Crews.{Far, SendsOn}

-- some place has one
abbrev pub is_kept : {C : Type 0} → List (Option (Leaving C)) → Bool
is_kept leaving = list_any is_some leaving

module _ {C O : Type 0} where
  -- the one of this number, if it is kept, was taken out and posted; where it has a mark still, it is kept again
  abbrev pub PostsAgain : ℕ → Far C O → Far C O → Type 0
  PostsAgain co before after =
      MatchOption (slice_index_or before.leaving co None) (after ≡ before) (λ left. SendsOn left.to co left.state (record before { leaving = slice_set before.leaving co None }) after)

  -- so many, in rising order
  abbrev pub PostsEachAgain : ℕ → Far C O → Far C O → Type 0
  PostsEachAgain zero before after = after ≡ before
  PostsEachAgain (suc co) before after =
      (mid : Far C O) × PostsEachAgain co before mid × PostsAgain co mid after
