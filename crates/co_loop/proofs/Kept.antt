-- What a resume does to what is kept and to what the store has.
use Rattle.std.proofs.Common.{◌≡◌, ℕ, ◌<◌, Bool, true, false, cond, List, Option, Some, None, refl, sym, ap, ◌∙◌, subst, eq-eqb, eqb, arith, nat_cmp, slice_set, length, MatchOption, MatchBool}
use Rattle.std.proofs.lemmas.Bool.{cases_Bool}
use mathlib.Core.Logic.{⊎_elim}
use Rattle.std.specs.FinMap as map
use Rattle.co_state.specs.Wants.{Wants}
use Rattle.co_state.specs.Coroutines.{Coroutines}
use Rattle.co_state.specs.Entering.{ResumesOne, answer_of, left_by}
use Rattle.co_state.specs.declared.co.CoStep.{CoStep}
use Rattle.co_state.specs.declared.co.CoStep.TheVariants as step
use Rattle.co_state.specs.declared.store.Entered.{Entered}
use Rattle.co_state.specs.declared.store.Entered.TheVariants as entered
use Rattle.co_state.proofs.Held.{get_inserted, get_removed}
use Rattle.co_loop.specs.declared.leaving.Leaving.{Leaving}
use Rattle.co_loop.specs.Crews.{Far, LeavingAreSound, FollowsEntered, CarriesOut}
use Rattle.co_loop.specs.Quits.{SetsEnds}
use Rattle.co_loop.proofs.Rowed.{at_set}
use Rattle.co_loop.specs.Answers.{IsFollowable}

module _ {C : Type 0} where
  -- an answer other than Absent tells which one was there
  pub was_there : (found : Option C) (answer : Entered C) (X Y : Type 0) (P : C → Type 0) → MatchOption found ((answer ≡ entered.Absent) × X × Y) P → (answer ≡ entered.Absent → ⊥) → (was : C) × (found ≡ Some was) × P was
  was_there None answer X Y P is other = absurd (other is.0)
  was_there (Some was) answer X Y P is other = (was, refl, is)

  still_none : (b : Bool) (x y : Option C) → b ≡ false → y ≡ None → cond b x y ≡ None
  still_none true x y e h = absurd (cc)
  still_none false x y e h = h

  none_or_none : (b : Bool) (y : Option C) → y ≡ None → cond b None y ≡ None
  none_or_none true y h = refl
  none_or_none false y h = h

  -- a number that isn't there, where another one is resumed, isn't there after it
  left_none : (s : CoStep) (held : map.FinMap nat_cmp C) (id : ℕ) (was after : C) (q : ℕ) → map.get held id ≡ Some was → map.get held q ≡ None → map.get (left_by s held id after) q ≡ None
  left_none s held id was after q there none = by s
    where
      other : eqb q id ≡ false
      other = ⊎_elim (λ (e : eqb q id ≡ true). absurd (let same : q ≡ id = grind (arith, e) in let x : map.get held id ≡ None = subst (λ k. map.get held k ≡ None) same none in cc)) (λ e. e) (cases_Bool (eqb q id))

      by : (s : CoStep) → map.get (left_by s held id after) q ≡ None
      by step.Done = get_removed held id q ∙ none_or_none (eqb q id) (map.get held q) none
      by step.Yield = get_inserted held id after q ∙ still_none (eqb q id) (Some after) (map.get held q) other none
      by (step.Sleep ns) = get_inserted held id after q ∙ still_none (eqb q id) (Some after) (map.get held q) other none
      by (step.Move home) = get_removed held id q ∙ none_or_none (eqb q id) (map.get held q) none

  -- what a post handed back is kept
  pub kept_is : (back : Option C) (to : ℕ) (state : C) (result : Option (Leaving C)) → back ≡ Some state → MatchOption back (result ≡ None) (λ co. result ≡ Some (record { to = to; state = co })) → result ≡ Some (record { to = to; state = state })
  kept_is back to state result is holds = subst (λ o. MatchOption o (result ≡ None) (λ co. result ≡ Some (record { to = to; state = co }))) is holds

module _ {C O : Type 0} where
  pub kept_entered : (is_of : ℕ → C → O → Type 0) (resumes : C → O → Wants → CoStep → C → Type 0) (loops : ℕ) (before after : Coroutines C O) (leaving : List (Option (Leaving C))) (id : ℕ) (was : C) (asked : Wants) (answer : Entered C) → map.get before.held id ≡ Some was → ResumesOne is_of resumes before after id was asked answer → LeavingAreSound is_of loops before leaving → LeavingAreSound is_of loops after leaving
  kept_entered is_of resumes loops before after leaving id was asked answer there enters kept =
      record {
        of = λ k left is. subst (is_of k left.state) (sym (ap (λ (s : Coroutines C O). s.origin) enters.left)) (kept.of k left is);
        to = kept.to;
        apart = λ k left is. ap (λ (s : Coroutines C O). map.get s.held k) enters.left ∙ left_none enters.step before.held id was enters.after k there (kept.apart k left is);
      }

  pub one_more_kept : (is_of : ℕ → C → O → Type 0) (loops : ℕ) (store : Coroutines C O) (leaving : List (Option (Leaving C))) (co to : ℕ) (state : C) (more : Option (Leaving C)) → co < length leaving → to < loops → is_of co state store.origin → map.get store.held co ≡ None → more ≡ Some (record { to = to; state = state }) → LeavingAreSound is_of loops store leaving → LeavingAreSound is_of loops store (slice_set leaving co more)
  one_more_kept is_of loops store leaving co to state more lt there of none is kept =
      record {
        of = λ k left e. at_set (λ (j : ℕ) (x : Option (Leaving C)). (l : Leaving C) → x ≡ Some l → is_of j l.state store.origin) leaving co more lt (λ l h. let same : record { to = to; state = state } ≡ l = cc in subst (λ (x : Leaving C). is_of co x.state store.origin) same of) k None (λ _. kept.of k) left e;
        to = λ k left e. at_set (λ (j : ℕ) (x : Option (Leaving C)). (l : Leaving C) → x ≡ Some l → l.to < loops) leaving co more lt (λ l h. let same : record { to = to; state = state } ≡ l = cc in subst (λ (x : Leaving C). x.to < loops) same there) k None (λ _. kept.to k) left e;
        apart = λ k left e. at_set (λ (j : ℕ) (x : Option (Leaving C)). (l : Leaving C) → x ≡ Some l → map.get store.held j ≡ None) leaving co more lt (λ l h. none) k None (λ _. kept.apart k) left e;
      }

  pub followable : (is_of : ℕ → C → O → Type 0) (resumes : C → O → Wants → CoStep → C → Type 0) (before after : Coroutines C O) (id : ℕ) (was : C) (asked : Wants) (answer : Entered C) → ResumesOne is_of resumes before after id was asked answer → IsFollowable is_of id after answer
  followable is_of resumes before after id was asked answer enters =
      subst (IsFollowable is_of id after) (sym enters.answers) (by enters.step (ap (λ (s : Coroutines C O). map.get s.held id) enters.left))
    where
      of : is_of id enters.after after.origin
      of = subst (is_of id enters.after) (sym (ap (λ (s : Coroutines C O). s.origin) enters.left)) enters.of

      gone : map.get (map.remove before.held id) id ≡ None
      gone = get_removed before.held id id ∙ ap (λ b. cond b None (map.get before.held id)) (eq-eqb id id refl)

      by : (s : CoStep) → map.get after.held id ≡ map.get (left_by s before.held id enters.after) id → IsFollowable is_of id after (answer_of s enters.after)
      by step.Done e = of
      by step.Yield e = tt
      by (step.Sleep ns) e = tt
      by (step.Move home) e = (of, e ∙ gone)

  -- what follows a resume leaves the store alone
  pub follows_store : (own loops co : ℕ) (answer : Entered C) (before after : Far C O) → FollowsEntered own loops co answer before after → after.store ≡ before.store
  follows_store own loops co (entered.Done state) before after is = ap (λ (f : Far C O). f.store) is
  follows_store own loops co entered.Yielded before after is = ap (λ (f : Far C O). f.store) is
  follows_store own loops co (entered.Slept ns) before after is = ap (λ (f : Far C O). f.store) is
  follows_store own loops co (entered.Moving state to) before after is =
      ⊎_elim (λ sent. ap (λ (f : Far C O). f.store) sent.1) (λ kept. ap (λ (f : Far C O). f.store) kept.2) is
  follows_store own loops co entered.Absent before after is = ap (λ (f : Far C O). f.store) is

  pub carries_store : (own n loops : ℕ) (asked : Wants) (before after : Far C O) → CarriesOut own n loops asked before after → after.store ≡ before.store
  carries_store own n loops asked before after is = by asked.quits is.quits ∙ ap (λ (f : Far C O). f.store) is.only
    where
      by : (b : Bool) → MatchBool b (SetsEnds loops is.woke.seats after.seats × (after ≡ record is.woke { quits = true; seats = after.seats })) (after ≡ is.woke) → after.store ≡ is.woke.store
      by true quits = ap (λ (f : Far C O). f.store) quits.1
      by false quits = ap (λ (f : Far C O). f.store) quits
