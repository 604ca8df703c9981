-- A poll with a runner and a side in one.
use Rattle.std.proofs.Common.{◌≡◌, List, [], ◌∷◌, ap, ◌∙◌}
use Rattle.aio_model.specs.Loop.Frame.{Entered, DoesEntries}
use Rattle.aio_core.specs.Known.{Known}
use Rattle.aio_bh.specs.declared.polled.Polled.{Polled}
use Rattle.aio_bh.specs.Polling.{Polls}
use Rattle.aio_loop.specs.declared.side.Side.{Side}
use Rattle.aio_loop.specs.Entering.{LoopEntered, ForBottom, EntersFor, with_side, does_bottom}

module _ {B R : Type 0} (D : B → Entered → B → Type 0) (does : R → LoopEntered → R → Type 0) (runner : B → R) (side : B → Side)
    (step : (x y : B) (e : Entered) → D x e y → EntersFor does (ForBottom e.lent e.answer) e.made (runner x) (side x) (runner y) (side y)) where
  runs_with : (log : List Entered) (x y : B) → DoesEntries D x log y → DoesEntries (does_bottom does) (with_side (runner x) (side x)) log (with_side (runner y) (side y))
  runs_with [] x y runs = ap (λ b. with_side (runner b) (side b)) runs
  runs_with (e ∷ log) x y runs =
      (with_side (runner runs.0) (side runs.0), runs_with log x runs.0 runs.1, step runs.0 y e runs.2)

  pub walking_same : (log : List Entered) (x y : B) → DoesEntries D x log y → (side y).handlers.walking ≡ (side x).handlers.walking
  walking_same [] x y runs = ap (λ b. (side b).handlers.walking) runs
  walking_same (e ∷ log) x y runs =
      (step runs.0 y e runs.2).changes.walking ∙ walking_same log x runs.0 runs.1

  pub polls_with : (polled : Polled) (x y : B) (a b : Known) → Polls D polled x a y b → Polls (does_bottom does) polled (with_side (runner x) (side x)) a (with_side (runner y) (side y)) b
  polls_with polled x y a b polls = record {
    end = polls.end;
    frame = polls.frame;
    seen = polls.seen;
    runs = runs_with polls.end.log x y polls.runs;
    ran = polls.ran;
    progress = polls.progress;
    cut_nests = polls.cut_nests;
    dequeues = polls.dequeues;
    none_out = polls.none_out;
    goes_on = polls.goes_on;
    stage = polls.stage;
  }

-- what each entry leaves, they all leave
pub kept_same : {B N : Type 0} (D : B → Entered → B → Type 0) (name : B → N) → ((x y : B) (e : Entered) → D x e y → name y ≡ name x) → (log : List Entered) (x y : B) → DoesEntries D x log y → name y ≡ name x
kept_same D name step [] x y runs = ap name runs
kept_same D name step (e ∷ log) x y runs =
    step runs.0 y e runs.2 ∙ kept_same D name step log x runs.0 runs.1
