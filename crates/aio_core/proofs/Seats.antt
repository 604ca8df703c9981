-- The rule's part on seats: what keeps it when one view changes.
use Rattle.std.proofs.Common.{◌≡◌, ℕ, ◌<◌, true, List, ◌∷◌, set, sym, ap, ◌∙◌, subst, arith}
use mathlib.Core.Option.{some}
use lib.ListN.{get_elem?}
use Rattle.table_seats.specs.Seats.{owns, EachView, IsSeat}
use Rattle.table_seats.proofs.Seats.{each_set, IsSame as is_same_part, seats_make as parts_make, seats_keep as parts_keep, seats_see as parts_see, makes_of as part_makes}
use Rattle.aio_model.specs.Loop.History.{Sizes, Entry, History}
use Rattle.aio_model.specs.Loop.Lists.{seat_of}
use Rattle.aio_model.specs.Loop.Legal.{IsLegal}
use Rattle.aio_core.specs.Known.{Known, part_of, numbers_of}
use Rattle.aio_core.specs.Standing.{Makes}
use Rattle.aio_core.specs.Rule.{IsOfTable, SeatsStand}

-- what the view that makes a step becomes: it is of the same table and has the same numbers
pub record IsSame (v w : Known) : Type 0 where
  pub sizes_are : w.sizes ≡ v.sizes
  pub part : is_same_part (part_of v) (part_of w)

pub same_view : (v w : Known) → w.sizes ≡ v.sizes → numbers_of w ≡ numbers_of v → w.told ≡ v.told → IsSame v w
same_view v w sizes numbers told =
    record { sizes_are = sizes; part = record { numbers_are = numbers; told_is = told } }

-- all views are of the table, once one that has a number has changed
tables_keep : (sizes : Sizes) (views : List Known) (id : ℕ) (v w : Known) → EachView (IsOfTable sizes) views → get_elem? views id ≡ some v → IsSame v w → 0 < v.count → EachView (IsOfTable sizes) (set views id w)
tables_keep sizes views id v w tables at same numbered =
    let counts : w.count ≡ v.count = ap (λ n. n.count) same.part.numbers_are in
    each_set (IsOfTable sizes) (IsOfTable sizes) views id w tables
    (record { sizes_are = λ _. same.sizes_are ∙ (tables id v at).sizes_are numbered; active = λ _. omega arith })
    (λ other u ne atu old. old)

-- one entry more, by the seat whose view changes
pub seats_make : (sizes : Sizes) (h : History) (views : List Known) (id : ℕ) (e : Entry) (v w : Known) → SeatsStand sizes h views → get_elem? views id ≡ some v → IsSame v w → owns (numbers_of v) (seat_of e) ≡ true → w.seen ≡ e ∷ h → w.mine ≡ e ∷ v.mine → 0 < v.count → SeatsStand sizes (e ∷ h) (set views id w)
seats_make sizes h views id e v w stand at same own seen mine numbered =
    record { parts = parts_make seat_of part_of h views id e v w stand.parts at same.part own seen mine; tables = tables_keep sizes views id v w stand.tables at same numbered }

-- no entry: what the seat has seen stays
pub seats_keep : (sizes : Sizes) (h : History) (views : List Known) (id : ℕ) (v w : Known) → SeatsStand sizes h views → get_elem? views id ≡ some v → IsSame v w → w.seen ≡ v.seen → w.mine ≡ v.mine → 0 < v.count → SeatsStand sizes h (set views id w)
seats_keep sizes h views id v w stand at same seen mine numbered =
    record { parts = parts_keep seat_of part_of h views id v w stand.parts at same.part seen mine; tables = tables_keep sizes views id v w stand.tables at same numbered }

-- no entry: the seat has seen all
pub seats_learn : (sizes : Sizes) (h : History) (views : List Known) (id : ℕ) (v w : Known) → SeatsStand sizes h views → get_elem? views id ≡ some v → IsSame v w → w.seen ≡ h → w.mine ≡ v.mine → 0 < v.count → SeatsStand sizes h (set views id w)
seats_learn sizes h views id v w stand at same seen mine numbered =
    record { parts = parts_see seat_of part_of h views id v w stand.parts at same.part seen mine; tables = tables_keep sizes views id v w stand.tables at same numbered }

-- the entry that a seat has just made, behind all that it had not seen
pub makes_of : (sizes : Sizes) (h : History) (e : Entry) (v w : Known) → IsSeat seat_of h (part_of v) → IsOfTable sizes v → 0 < v.count → w.seen ≡ e ∷ h → w.mine ≡ e ∷ v.mine → IsLegal sizes (e ∷ h) → Makes e v w
makes_of sizes h e v w is table numbered seen mine legal =
    part_makes seat_of (IsLegal v.sizes) h e (part_of v) (part_of w) is numbered seen mine (subst (λ z. IsLegal z (e ∷ h)) (sym (table.sizes_are numbered)) legal)
