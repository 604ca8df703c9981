-- Callbacks that have no actions make nothing.
use Rattle.std.proofs.Common.{◌≡◌, ℕ, Bool, true, false, MatchBool, Option, None, Some, List, [], ◌∷◌, length, arith, refl, ap, ◌∙◌, subst}
use Rattle.aio_model.specs.declared.scripts.loop_scripts.ActKind.{ActKind}
use Rattle.aio_model.specs.Loop.Frame.{Entered, DoesEntries}
use Rattle.aio_model.specs.Scripts.LoopActs.{Waiting, DoesActs, Add, acts_called, before_nest, behind_nest, waiting_after}
use Rattle.bell_loop.proofs.Holding.{MadeNone}

module _ (acts : ℕ → List ActKind) (none : (bh : ℕ) → acts bh ≡ []) where
  called_none : (bh : ℕ) (job : Option ℕ) → acts_called acts bh job ≡ []
  called_none bh None = none bh
  called_none bh (Some job) = refl

  -- nothing waits, so the entry is a first one, and has nothing to do
  todo_none : (first : Bool) (bh : ℕ) (job : Option ℕ) (todo : List ActKind) (below before : Waiting) → before ≡ [] → MatchBool first ((todo ≡ acts_called acts bh job) × (below ≡ before)) (before ≡ todo ∷ below) → (todo ≡ []) × (below ≡ [])
  todo_none true bh job todo below before empty finds =
      (finds.0 ∙ called_none bh job, finds.1 ∙ empty)
  todo_none false bh job todo below before empty finds = let e : length before ≡ length (todo ∷ below) = ap length finds in let z : length before ≡ 0 = ap length empty in absurd (omega (arith, e, z))

  entry_none : (before : Waiting) (entered : Entered) (after : Waiting) → before ≡ [] → DoesActs acts before entered after → (entered.made ≡ []) × (after ≡ [])
  entry_none before entered after empty does =
      let is = todo_none entered.lent.first entered.lent.bh entered.lent.job does.todo does.below before empty does.finds in
      let made : Add [] entered.made = subst (λ t. Add (before_nest t) entered.made) is.0 does.adds in
      (made, does.leaves ∙ ap (λ t. waiting_after (behind_nest t) entered.lent.nests_left does.below) is.0 ∙ is.1)

  pub runs_none : (log : List Entered) (after : Waiting) → DoesEntries (DoesActs acts) [] log after → MadeNone log × (after ≡ [])
  runs_none [] after same = (tt, same)
  runs_none (e ∷ older) after runs =
      let before = runs_none older runs.0 runs.1 in
      let entry = entry_none runs.0 e after before.1 runs.2 in
      ((entry.0, before.0), entry.1)
