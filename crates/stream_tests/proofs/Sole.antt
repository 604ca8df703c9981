-- The one element of a list.
use Rattle.std.proofs.Common.{◌≡◌, ◌∷◌, [], ◌++◌, List, length, ap, arith, length-append}
use mathlib.Core.Option.{some}
use lib.ListN.{get_elem?}

pub sole : {A : Type 0} → (items rest : List A) (x : A) → items ≡ rest ++ x ∷ [] → length items ≡ 1 → get_elem? items 0 ≡ some x
sole {A} items [] x is one = ap (λ (l : List A). get_elem? l 0) is
sole {A} items (y ∷ rest) x is one = absurd (omega (arith, one, ap (λ (l : List A). length l) is, length-append (y ∷ rest) (x ∷ [])))
