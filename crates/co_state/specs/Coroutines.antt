-- What a contract sees of a store of coroutines.
use Rattle.std.specs.Prelude.{◌≡◌, ℕ, Some, refl}
use Rattle.std.specs.Ordering.{nat_cmp}
use Rattle.std.specs.FinMap as map
use Rattle.std.specs.Coded.{Coded, code_by, coded×, coded_ℕ}

-- how many there may be, the coroutine of each number, and the origin of all
pub record Coroutines (C O : Type 0) : Type 0 where
  pub room : ℕ
  pub held : map.FinMap nat_cmp C
  pub origin : O

abbrev pub coroutines_code : {C O : Type 0} → Coded C → Coded O → Coded (Coroutines C O)
coroutines_code {C} {O} coroutine origin =
    code_by
    (ℕ × (map.FinMap nat_cmp C × O))
    (coded× coded_ℕ (coded× (map.code coded_ℕ coroutine) origin))
    (λ s. (s.room, (s.held, s.origin)))
    (λ p. record { room = p.0; held = p.1.0; origin = p.1.1 })
    (λ _. refl)

-- each coroutine that is there is of the origin, as its number
abbrev pub AllOf : {C O : Type 0} → (ℕ → C → O → Type 0) → map.FinMap nat_cmp C → O → Type 0
AllOf {C} is_of held origin = (id : ℕ) (co : C) → map.get held id ≡ Some co → is_of id co origin
