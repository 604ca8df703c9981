-- Who owns all numbers has seen all, so what a mark's load finds is where the coroutine stands in what was seen.
use Rattle.std.proofs.Common.{◌≡◌, ℕ, ◌<◌, Bool, ◌∷◌, slice_index, refl, sym, ap, ◌∙◌, subst, arith}
use mathlib.Core.Option.{none}
use Rattle.atomic_table.specs.Table.{Me, keeps, step, Allows}
use Rattle.table_seats.specs.Seats.{everyone}
use Rattle.table_seats.proofs.Seats.{all_seen}
use Rattle.aio_model.specs.Coroutines.History.{seat_of, co_place_of}
use Rattle.co_schedule.specs.Words.{mark_at, mark_of}
use Rattle.co_schedule.specs.Known.{MarkLoad, Known, part_of, numbers_of}
use Rattle.co_schedule.specs.Slots.{Kept}
use Rattle.co_schedule.specs.Standing.{done, Looks}
use Rattle.co_schedule.specs.Plays.{mark_seen}
use Rattle.co_schedule.proofs.Keeping.{load_stands, slots_kept}

abbrev pub after_mark_look : Known → ℕ → ℕ → Known
after_mark_look v word found = record v { did = done MarkLoad word found ∷ v.did }

module _ {S : Type 0} (given_in : S → Bool) (IsOf : ℕ → S → Type 0) where
  pub mark_look_allowed : (n slots id c : ℕ) (me : Me S Known) → c < n → numbers_of me.0 ≡ everyone → Allows (Kept given_in IsOf n) slots id me (mark_at c) (λ k. k) (mark_seen (step slots (mark_at c) 0 0 none) me)
  mark_look_allowed n slots id c me low all s kept long at fits =
      let h = kept.0 in
      let stand = kept.1 in
      let v = me.0 in
      let was = stand.knows id v at in
      let found = slice_index s.words (mark_at c) in
      let w = after_mark_look v (mark_at c) found in
      let seen : v.seen ≡ h = all_seen seat_of h (part_of v) (stand.seats.each id v at) all stand.seats.all_owned in
      (w, keeps, tt, (h, load_stands n h s.words s.views id (mark_at c) v w stand at (record { numbers_are = refl; told_is = refl }) refl refl (record { coroutines_are = was.coroutines_are; active = was.active; owes = was.owes; walks = was.walks }), slots_kept given_in IsOf n h s.homes s.views id v w kept.2 at refl refl refl), (refl, λ d is. subst (λ k. Looks MarkLoad (mark_at k) found v w × (found ≡ mark_of (co_place_of k v.seen))) (let same : c ≡ d = omega (arith, is) in same) (record { rest = refl }, stand.marks c low ∙ ap (λ l. mark_of (co_place_of c l)) (sym seen))))
