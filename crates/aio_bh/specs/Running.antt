-- One entry into a runner, and the seat that it was lent.
use Rattle.std.specs.Prelude.{◌≡◌, true, ◌++◌}
use Rattle.aio_model.specs.Loop.History.{History}
use Rattle.aio_model.specs.Loop.Legal.{IsLegal}
use Rattle.aio_model.specs.Loop.Seats.{entries_of}
use Rattle.aio_model.specs.Loop.Frame.{Lent, Answer, Ended, Nests, Entered, are_of_callback}
use Rattle.aio_core.specs.Known.{Known}
use Rattle.aio_bh.specs.HomeSteps.{home_steps}
use Rattle.aio_bh.specs.declared.turn.Turn.{Turn}
use Rattle.aio_bh.specs.declared.turn.Turn.TheVariants.{Done, Nest}

abbrev pub answer_by : Turn → Answer
answer_by Done = Ended
answer_by Nest = Nests

-- The seat that was lent came back with these entries more, which a callback may make, and with what others did in between. Its
-- numbers, phase, stage and sleep are as before, and no step that is the home's alone was made.
pub record SeatComesBack (made : History) (before after : Known) : Type 0 where
  pub between : History
  pub just_these : entries_of before.first between ≡ made
  pub of_callback : are_of_callback made ≡ true
  pub seen : after.seen ≡ between ++ before.seen
  pub mine : after.mine ≡ made ++ before.mine
  pub legal : IsLegal before.sizes after.seen
  pub rest : after ≡ record before { seen = after.seen; mine = after.mine; did = after.did; told = after.told }
  pub steps : home_steps after.did ≡ home_steps before.did

-- the runner was entered once with this, and answered this
pub record RunsOnce {R : Type 0} (does : R → Entered → R → Type 0) (lent : Lent) (answer : Answer) (runner : R) (before : Known) (runner_after : R) (after : Known) : Type 0 where
  pub made : History
  pub back : SeatComesBack made before after
  pub did : does runner (record { lent = lent; answer = answer; made = made }) runner_after
