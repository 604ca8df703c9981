-- What an enter does to the coroutine that is there.
use Rattle.std.specs.Prelude.{◌≡◌, ℕ}
use Rattle.std.specs.Ordering.{nat_cmp}
use Rattle.std.specs.FinMap as map
use Rattle.co_state.specs.Wants.{Wants}
use Rattle.co_state.specs.Coroutines.{Coroutines}
use Rattle.co_state.specs.declared.co.CoStep.{CoStep}
use Rattle.co_state.specs.declared.co.CoStep.TheVariants as step
use Rattle.co_state.specs.declared.store.Entered.{Entered}
use Rattle.co_state.specs.declared.store.Entered.TheVariants as entered

module _ {C : Type 0} where
  -- the answer to a step, after which the coroutine is this one
  abbrev pub answer_of : CoStep → C → Entered C
  answer_of step.Done co = entered.Done co
  answer_of step.Yield co = entered.Yielded
  answer_of (step.Sleep ns) co = entered.Slept ns
  answer_of (step.Move home) co = entered.Moving co home

  -- what is there after a step
  abbrev pub left_by : CoStep → map.FinMap nat_cmp C → ℕ → C → map.FinMap nat_cmp C
  left_by step.Done held id co = map.remove held id
  left_by step.Yield held id co = map.insert held id co
  left_by (step.Sleep ns) held id co = map.insert held id co
  left_by (step.Move home) held id co = map.remove held id

-- the coroutine of the number was resumed once, and nothing else changed
pub record ResumesOne {C O : Type 0} (is_of : ℕ → C → O → Type 0) (resumes : C → O → Wants → CoStep → C → Type 0) (old new : Coroutines C O) (id : ℕ) (co : C) (asked : Wants) (answer : Entered C) : Type 0 where
  pub step : CoStep
  pub after : C
  pub of : is_of id after old.origin
  pub resumed : resumes co old.origin asked step after
  pub answers : answer ≡ answer_of step after
  pub left : new ≡ record old { held = left_by step old.held id after }
