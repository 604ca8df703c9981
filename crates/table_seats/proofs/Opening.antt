-- One view that has all numbers stands over a history with no entry.
use Rattle.std.proofs.Common.{◌≡◌, ℕ, zero, suc, None, [], ◌∷◌, refl, sym, subst, arith}
use mathlib.Core.Option.{some-injective, some-ne-none}
use Rattle.table_seats.specs.Seats.{Part, EachView, OwnApart, IsSeat, SeatsStand}

-- a fact of the one view that there is
pub each_alone : {V : Type 0} (P : V → Type 0) (v : V) → P v → EachView P (v ∷ [])
each_alone P v h zero u e = subst P (some-injective v u e) h
each_alone P v h (suc n) u e = absurd (some-ne-none u (sym e))

-- what the first view knows of numbers and of the history
abbrev pub first_part : {E : Type 0} → Part E
first_part = record { first = 0; count = 65; seen = []; mine = []; told = None }

module _ {E : Type 0} (seat_of : E → ℕ) {V : Type 0} (part_of : V → Part E) where
  apart_alone : (v : V) → OwnApart seat_of part_of (v ∷ [])
  apart_alone v zero zero u x e f ne n own = absurd (ne refl)
  apart_alone v zero (suc j) u x e f ne n own = absurd (some-ne-none x (sym f))
  apart_alone v (suc i) j u x e f ne n own = absurd (some-ne-none u (sym e))

  first_is_seat : IsSeat seat_of [] first_part
  first_is_seat =
      record { seen_of = record { rest = []; longer = refl; none_missed = refl; mine_is = refl }; below = omega arith; told_of = tt }

  pub seats_alone : (v : V) → part_of v ≡ first_part → SeatsStand seat_of part_of [] (v ∷ [])
  seats_alone v is =
      record { each = each_alone (λ u. IsSeat seat_of [] (part_of u)) v (subst (IsSeat seat_of []) (sym is) first_is_seat); apart = apart_alone v; all_owned = refl }
