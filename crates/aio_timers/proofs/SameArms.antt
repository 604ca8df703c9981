-- What arms of timers have in common in two lists of calls.
use Rattle.std.proofs.Common.{◌≡◌, ℕ, ◌<◌, true, false, eqb, List, [], ◌∷◌, length, sym, ◌∙◌, inl, inr, arith}
use Rattle.std.proofs.lemmas.Bool.{false≢true, cases_Bool}
use Rattle.aio_model.specs.declared.timers.calls.TimerCall.{TimerCall}
use Rattle.aio_model.specs.declared.timers.calls.TimerCall.TheVariants.{Add, Arm, Disarm, RunBegin, Give}
use Rattle.aio_model.specs.Timers.Calls.{expiry, place, is_armed, StandsBefore}

-- an armed timer's arm stands among the calls
pub place_among : (timer : ℕ) (calls : List TimerCall) → is_armed timer calls ≡ true → place timer calls < length calls
place_among timer [] h = absurd (false≢true h)
place_among timer (Add ∷ calls) h = omega (arith, place_among timer calls h)
place_among timer (RunBegin now ∷ calls) h = omega (arith, place_among timer calls h)
place_among timer (Arm other expire ∷ calls) h = elim (cases_Bool (eqb other timer)) [
  | inl e ↦ rw e (omega arith)
  | inr ne ↦
      let before : is_armed timer calls ≡ true = rw ne at h in
      rw ne (omega (arith, place_among timer calls before))
]
place_among timer (Disarm other ∷ calls) h = elim (cases_Bool (eqb other timer)) [
  | inl e ↦ let gone : false ≡ true = rw e at h in absurd (false≢true gone)
  | inr ne ↦
      let before : is_armed timer calls ≡ true = rw ne at h in
      omega (arith, place_among timer calls before)
]
place_among timer (Give other ∷ calls) h = elim (cases_Bool (eqb other timer)) [
  | inl e ↦ let gone : false ≡ true = rw e at h in absurd (false≢true gone)
  | inr ne ↦
      let before : is_armed timer calls ≡ true = rw ne at h in
      omega (arith, place_among timer calls before)
]

-- a timer's arm is the same in two lists of calls
pub record SameArm (calls calls' : List TimerCall) (timer : ℕ) : Type 0 where
  pub same_expiry : expiry timer calls' ≡ expiry timer calls
  pub same_place : place timer calls' ≡ place timer calls

pub stands_same : (calls calls' : List TimerCall) (a b : ℕ) → SameArm calls calls' a → SameArm calls calls' b → StandsBefore calls a b → StandsBefore calls' a b
stands_same calls calls' a b sa sb s = record {
  no_later = omega (arith, sa.same_expiry, sb.same_expiry, s.no_later);
  of_equals = λ e.
      let before = s.of_equals (sym sa.same_expiry ∙ e ∙ sb.same_expiry) in
      omega (arith, sa.same_place, sb.same_place, before);
}
