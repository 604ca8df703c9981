-- Polls, part by part.
use Rattle.std.proofs.Common.{ℕ, zero, suc, List, [], ◌∷◌, ◌++◌, refl, sym, subst}
use Rattle.aio_model.specs.Loop.History.{Sizes}
use Rattle.aio_model.specs.Loop.Frame.{PollPlace, Entered, Turn, Turns, TakesAndTurns, nests_above, Frame, DoesEntries}

-- what a runner does in one part of a log and then in the next
pub DoesEntries-append : {R : Type 0} (does : R → Entered → R → Type 0) (before mid after : R) (newer older : List Entered) → DoesEntries does before older mid → DoesEntries does mid newer after → DoesEntries does before (newer ++ older) after
DoesEntries-append {R} does before mid after [] older first then =
    subst (λ r. DoesEntries does before older r) (sym then) first
DoesEntries-append does before mid after (e ∷ newer) older first then =
    (then.0, DoesEntries-append does before mid then.0 newer older first then.1, then.2)

-- turns, and then one more
pub Turns-more : (sizes : Sizes) (frame : PollPlace → PollPlace → Type 0) (nests count : ℕ) (before mid after : PollPlace) → Turns sizes frame nests count before mid → Turn sizes frame nests mid after → Turns sizes frame nests (suc count) before after
Turns-more sizes frame nests zero before mid after run turn =
    (after, subst (λ p. Turn sizes frame nests p after) run turn, refl)
Turns-more sizes frame nests (suc count) before mid after run turn =
    (run.0, run.1, Turns-more sizes frame nests count run.0 mid after run.2 turn)

-- a frame of any depth is made of its take and its turns
pub Frame-from : (sizes : Sizes) (deeper : ℕ) (before after : PollPlace) → TakesAndTurns sizes (Frame sizes deeper) (nests_above deeper) before after → Frame sizes (suc deeper) before after
unfolding Frame
Frame-from sizes deeper before after parts = parts
