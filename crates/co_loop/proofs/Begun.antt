-- How far the beginning of those that were taken has come.
use Rattle.std.proofs.Common.{◌≡◌, ℕ, refl, sym, subst, Option}
use Rattle.co_state.specs.Wants.{Wants}
use Rattle.co_state.specs.declared.co.CoStep.{CoStep}
use Rattle.co_schedule.specs.Known.{Known}
use Rattle.co_schedule.specs.Parcels.{has_some}
use Rattle.co_schedule.specs.Calls.{HasBegunFirst}
use Rattle.co_loop.specs.Crews.{Far}
use Rattle.co_loop.specs.Drains.{EntersAndDrains}
use Rattle.co_loop.specs.Begins.{HomeFar, home_far, AdmitsGiven, BeginsOne, BeginsThese}

module _ {C O : Type 0} (is_of : ℕ → C → O → Type 0) (resumes : C → O → Wants → CoStep → C → Type 0) (own n loops : ℕ) where
  -- one was begun, and then these
  pub begins_more : (own' n' : ℕ) (now next end : HomeFar C O) → own' ≡ own → n' ≡ n → BeginsOne is_of resumes own' n' loops now next → BeginsThese is_of resumes own n loops next.known.stage.taken next end → BeginsThese is_of resumes own n loops now.known.stage.taken now end
  begins_more own' n' now next end same_own same_n one more =
      let here : BeginsOne is_of resumes own n loops now next = subst (λ k. BeginsOne is_of resumes own k loops now next) same_n (subst (λ k. BeginsOne is_of resumes k n' loops now next) same_own one) in
      subst (λ l. BeginsThese is_of resumes own n loops l now end) (sym here.begun.first) (next, here, refl, more)

  pub begins_one : (own' n' co : ℕ) (given : Option C) (before admitted after : Far C O) (known known' : Known) → own' ≡ own → n' ≡ n → HasBegunFirst co (has_some given) known known' → AdmitsGiven co given before admitted → EntersAndDrains is_of resumes own' n' loops co admitted after → BeginsOne is_of resumes own n loops (home_far before known) (home_far after known')
  begins_one own' n' co given before admitted after known known' same_own same_n begun admits enters =
      record {
        co = co;
        given = given;
        begun = begun;
        admitted = admitted;
        admits = admits;
        enters = subst (λ k. EntersAndDrains is_of resumes own k loops co admitted after) same_n (subst (λ k. EntersAndDrains is_of resumes k n' loops co admitted after) same_own enters);
      }
