-- How far the entering of those that were woken has come.
use Rattle.std.proofs.Common.{◌≡◌, ℕ, suc, subst}
use Rattle.co_state.specs.Wants.{Wants}
use Rattle.co_state.specs.declared.co.CoStep.{CoStep}
use Rattle.co_loop.specs.Crews.{Far, EntersOne}
use Rattle.co_loop.specs.Drains.{EntersFirst, DrainsSome, DrainsAll, EntersAndDrains}

module _ {C O : Type 0} (is_of : ℕ → C → O → Type 0) (resumes : C → O → Wants → CoStep → C → Type 0) (own n loops : ℕ) where
  -- one more, where the loop's number and the number of coroutines are the same
  pub one_more_entered : (own' n' : ℕ) (start now next : Far C O) → own' ≡ own → n' ≡ n → DrainsSome is_of resumes own n loops start now → EntersFirst is_of resumes own' n' loops now next → DrainsSome is_of resumes own n loops start next
  one_more_entered own' n' start now next same_own same_n so_far one =
      record {
        count = suc so_far.count;
        drains = (now, so_far.drains, subst (λ k. EntersFirst is_of resumes own k loops now next) same_n (subst (λ k. EntersFirst is_of resumes k n' loops now next) same_own one));
      }

  pub entered_and_drained : (own' n' co : ℕ) (start entered end : Far C O) → own' ≡ own → n' ≡ n → EntersOne is_of resumes own n loops co start entered → DrainsAll is_of resumes own' n' loops entered end → EntersAndDrains is_of resumes own n loops co start end
  entered_and_drained own' n' co start entered end same_own same_n one drains =
      record {
        entered = entered;
        enters = one;
        drains = subst (λ k. DrainsAll is_of resumes own k loops entered end) same_n (subst (λ k. DrainsAll is_of resumes k n' loops entered end) same_own drains);
      }
