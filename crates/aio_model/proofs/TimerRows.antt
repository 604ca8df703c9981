-- The definitions of timer calls at small lists of calls, computed: what stands here was worked out by hand.
use Rattle.std.proofs.Common.{◌≡◌, ℕ, zero, suc, pos, negsuc, true, false, List, [], ◌∷◌, map, ◌<◌, refl, sym, ◌∙◌, arith}
use Rattle.std.proofs.lemmas.Bool.{false≢true}
use Rattle.std.proofs.lemmas.Bool.Decides.{nat_tests}
use Rattle.aio_model.specs.declared.timers.calls.TimerCall.{TimerCall}
use Rattle.aio_model.specs.declared.timers.calls.TimerCall.TheVariants.{Add, Arm, RunBegin, Give}
use Rattle.aio_model.specs.Timers.Calls.{made, is_armed, expiry, place, is_marked, StandsBefore, IsFirstOfKind}

-- what the three timers have
abbrev of_three : {A : Type 0} → (ℕ → List TimerCall → A) → List TimerCall → List A
of_three what calls = map (λ timer. what timer calls) (0 ∷ 1 ∷ 2 ∷ [])

-- three timers, armed at 100, 100 and -5
abbrev three_armed : List TimerCall
three_armed = Arm 2 (negsuc 4) ∷ Arm 1 (pos 100) ∷ Arm 0 (pos 100) ∷ Add ∷ Add ∷ Add ∷ []

three_made : made three_armed ≡ 3
three_made = refl

three_expiries : of_three expiry three_armed ≡ 100 ∷ 100 ∷ 0 ∷ []
three_expiries = refl

three_places : of_three place three_armed ≡ 3 ∷ 4 ∷ 5 ∷ []
three_places = refl

-- a run marks them all and gives the third, then the first
abbrev two_given : List TimerCall
two_given = Give 0 ∷ Give 2 ∷ RunBegin 100 ∷ three_armed

begun_marks : of_three is_marked (RunBegin 100 ∷ three_armed) ≡ true ∷ true ∷ true ∷ []
begun_marks = refl

two_given_marks : of_three is_marked two_given ≡ false ∷ true ∷ false ∷ []
two_given_marks = refl

-- the first is armed anew, and isn't marked; the second is given, and none is left
abbrev three_given : List TimerCall
three_given = Give 1 ∷ Arm 0 (pos 50) ∷ two_given

anew_marks : of_three is_marked (Arm 0 (pos 50) ∷ two_given) ≡ false ∷ true ∷ false ∷ []
anew_marks = refl

three_given_marks : of_three is_marked three_given ≡ false ∷ false ∷ false ∷ []
three_given_marks = refl

three_given_armed : of_three is_armed three_given ≡ true ∷ false ∷ false ∷ []
three_given_armed = refl

-- a second run marks it
second_marks : of_three is_marked (RunBegin 100 ∷ three_given) ≡ true ∷ false ∷ false ∷ []
second_marks = refl

-- no timer above the third is marked
not_above : (other : ℕ) → 2 < other → is_marked other (RunBegin 100 ∷ three_armed) ≡ false
not_above other above = grind (arith, nat_tests)

-- the first that the run gives is the third timer
third_before : (other : ℕ) → is_marked other (RunBegin 100 ∷ three_armed) ≡ true → (other ≡ 2 → ⊥) → StandsBefore (RunBegin 100 ∷ three_armed) 2 other
third_before zero _ _ = record { no_later = omega arith; of_equals = λ e. omega arith }
third_before (suc zero) _ _ = record { no_later = omega arith; of_equals = λ e. omega arith }
third_before (suc (suc zero)) _ e = absurd (e refl)
third_before (suc (suc (suc n))) h _ =
    absurd (false≢true (sym (not_above (suc (suc (suc n))) (omega arith)) ∙ h))

third_is_first : IsFirstOfKind is_marked (RunBegin 100 ∷ three_armed) 2
third_is_first = record { of_kind = refl; before = third_before }
