-- Rows that were cut or joined have seen what the first one had.
use Rattle.std.proofs.Common.{◌≡◌, ℕ, ◌≤◌, Bool, true, false, cond, ltb, List, [], ◌∷◌, ◌++◌, length, slice_index_or, refl, sym, ap, ◌∙◌, subst, arith}
use Rattle.std.proofs.lemmas.List.{get_or_default}
use Rattle.table_seats.specs.Seats.{longer_of, own_entries}
use Rattle.aio_model.specs.Loop.Lists.{seat_of}
use Rattle.aio_model.specs.Coroutines.History.{seat_of as co_seat_of}
use Rattle.aio_core.specs.Known.{Known, numbers_of}
use Rattle.co_schedule.specs.Known.{Known as CoKnown, numbers_of as co_numbers_of}
use Rattle.loop_rows.specs.declared.shared.LoopShared.{LoopShared}
use Rattle.loop_rows.specs.declared.seats.Seats.{Seats}
use Rattle.loop_rows.specs.declared.rows.Row.{Row}
use Rattle.loop_rows.specs.Rows.{Divides, Unites, DividesRow, UnitesRow}
use Rattle.loop_rows.proofs.Places.{at_push, at_last, at_front, longer, some_of}
use Rattle.loop_threads.specs.Dealing.{SeenAs, SeesAs, RowSeen, RowSees, RowsSee}
use Rattle.loop_threads.specs.Within.{OwnEach}
use Rattle.loop_threads.proofs.Holding.{united_own}

-- of two that are the same, the longer is that
longer_same : {E : Type 0} (xs ys w : List E) → xs ≡ w → ys ≡ w → longer_of xs ys ≡ w
longer_same {E} xs ys w e f = by (ltb (length xs) (length ys))
  where
    by : (b : Bool) → cond b ys xs ≡ w
    by true = f
    by false = e

module _ {C O : Type 0} where
  front_sees : (half : ℕ) (shared : LoopShared C O) (whole before after other : Seats C O) → Divides half shared before after other → SeenAs whole before → SeesAs whole after
  front_sees half shared whole before after other divides was =
      record {
        same = record { seen = ap (λ (k : Known). k.seen) divides.front ∙ was.seen; co_seen = ap (λ (k : CoKnown). k.seen) divides.co_front ∙ was.co_seen };
        own = record {
          own = subst (λ (k : Known). k.mine ≡ own_entries seat_of (numbers_of k) k.seen) (sym divides.front) refl;
          co_own = subst (λ (k : CoKnown). k.mine ≡ own_entries co_seat_of (co_numbers_of k) k.seen) (sym divides.co_front) refl;
        };
      }

  back_sees : (half : ℕ) (shared : LoopShared C O) (whole before after other : Seats C O) → Divides half shared before after other → SeenAs whole before → SeesAs whole other
  back_sees half shared whole before after other divides was =
      record {
        same = record { seen = ap (λ (k : Known). k.seen) divides.back ∙ was.seen; co_seen = ap (λ (k : CoKnown). k.seen) divides.co_back ∙ was.co_seen };
        own = record {
          own = subst (λ (k : Known). k.mine ≡ own_entries seat_of (numbers_of k) k.seen) (sym divides.back) refl;
          co_own = subst (λ (k : CoKnown). k.mine ≡ own_entries co_seat_of (co_numbers_of k) k.seen) (sym divides.co_back) refl;
        };
      }

  both_see : (shared : LoopShared C O) (whole before other after : Seats C O) → Unites shared before other after → SeesAs whole before → SeesAs whole other → SeesAs whole after
  both_see shared whole before other after unites was also =
      record {
        same = record {
          seen = ap (λ (k : Known). k.seen) unites.both ∙ longer_same before.bottoms.known.seen other.bottoms.known.seen whole.bottoms.known.seen was.same.seen also.same.seen;
          co_seen = ap (λ (k : CoKnown). k.seen) unites.co_both ∙ longer_same before.coroutines.known.seen other.coroutines.known.seen whole.coroutines.known.seen was.same.co_seen also.same.co_seen;
        };
        own = united_own unites;
      }

  -- both rows that a cut makes
  pub split_sees : (half : ℕ) (shared : List (LoopShared C O)) (whole : List (Seats C O)) (before after other : Row C O) → DividesRow half shared before after other → RowSeen (length shared) whole before.seats.items → RowSees (length shared) whole after.seats.items × RowSees (length shared) whole other.seats.items
  split_sees half shared whole before after other divides was = (
    (λ t w p lt. front_sees half _ _ _ _ _ (divides.each t (some_of shared t lt) p p p lt) (was t w p lt)),
    (λ t w p lt. back_sees half _ _ _ _ _ (divides.each t (some_of shared t lt) p p p lt) (was t w p lt)),
  )

  -- the row that a join makes
  pub join_sees : (shared : List (LoopShared C O)) (whole : List (Seats C O)) (before other after : Row C O) → UnitesRow shared before other after → RowSees (length shared) whole before.seats.items → RowSees (length shared) whole other.seats.items → RowSees (length shared) whole after.seats.items
  join_sees shared whole before other after unites was also t w p lt =
      both_see _ _ _ _ _ (unites.each t (some_of shared t lt) p p p (omega arith) lt) (was t w p lt) (also t w p lt)

  module _ (n : ℕ) (whole : List (Seats C O)) where
    -- what a row has seen is what it has seen, at any default
    pub seen_itself : n ≤ length whole → RowSeen n whole whole
    seen_itself long t w p lt =
        let e = get_or_default whole t p w (omega (arith, lt, long)) in
        record { seen = ap (λ (s : Seats C O). s.bottoms.known.seen) e; co_seen = ap (λ (s : Seats C O). s.coroutines.known.seen) e }

    pub only_seen : (part : List (Seats C O)) → RowSees n whole part → RowSeen n whole part
    only_seen part sees t w p lt = (sees t w p lt).same

    pub own_seen : (part : List (Seats C O)) → RowSeen n whole part → OwnEach n part → RowSees n whole part
    own_seen part seen own t w p lt = record { same = seen t w p lt; own = own t p lt }

    -- one more row at the end
    pub pushed_sees : (all rows : List (Row C O)) (row : Row C O) → all ≡ rows ++ row ∷ [] → RowsSee n whole rows → RowSees n whole row.seats.items → RowsSee n whole all
    pushed_sees all rows row e was is k r lt =
        subst (λ (l : List (Row C O)). RowSees n whole (slice_index_or l k r).seats.items) (sym e)
        (at_push (λ (j : ℕ) (x : Row C O). RowSees n whole x.seats.items) rows (length rows) row refl is k r (omega (arith, lt, longer all rows row e)) (λ low. was k r low))

    -- and the last one taken
    pub popped_sees : (all rows : List (Row C O)) (row : Row C O) → all ≡ rows ++ row ∷ [] → RowsSee n whole all → RowsSee n whole rows × RowSees n whole row.seats.items
    popped_sees all rows row e was =
        let long = longer all rows row e in (
          (λ k r lt. at_front (λ (j : ℕ) (x : Row C O). RowSees n whole x.seats.items) all rows row e k r lt (was k r (omega (arith, lt, long)))),
          at_last (λ (j : ℕ) (x : Row C O). RowSees n whole x.seats.items) all rows (length rows) row e refl (was (length rows) row (omega (arith, long))),
        )
