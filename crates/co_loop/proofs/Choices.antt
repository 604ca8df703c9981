-- Which of two holds, once the choice is known.
use Rattle.std.proofs.Common.{◌≡◌, Bool, true, false, sym, subst, MatchBool, MatchOption, Option, None, Some}

pub when_true : (b : Bool) (A B : Type 0) → b ≡ true → A → MatchBool b A B
when_true b A B is holds = subst (λ x. MatchBool x A B) (sym is) holds

pub when_false : (b : Bool) (A B : Type 0) → b ≡ false → B → MatchBool b A B
when_false b A B is holds = subst (λ x. MatchBool x A B) (sym is) holds

pub when_some : {X : Type 0} (o : Option X) (x : X) (A : Type 0) (P : X → Type 0) → o ≡ Some x → P x → MatchOption o A P
when_some o x A P is holds = subst (λ y. MatchOption y A P) (sym is) holds

pub when_none : {X : Type 0} (o : Option X) (A : Type 0) (P : X → Type 0) → o ≡ None → A → MatchOption o A P
when_none o A P is holds = subst (λ y. MatchOption y A P) (sym is) holds
