-- What new loops are to those that post to them.
use Rattle.std.proofs.Common.{◌≡◌, ℕ, zero, suc, ◌<◌, List, [], ◌∷◌, length, slice_index, slice_index_or, refl, sym, ap, subst, arith}
use Rattle.std.specs.List.{AllByRecursion}
use Rattle.aio_model.specs.declared.scripts.image_scripts.Stream.{Stream as StreamLine}
use Rattle.aio_script.specs.Image.Bounds.{IsAtHome}
use Rattle.co_loop.specs.Rows.{AreOfOrigin}
use Rattle.table_seats.specs.Seats.{own_entries}
use Rattle.aio_model.specs.Coroutines.History.{seat_of}
use Rattle.co_schedule.specs.Known.{Known, numbers_of}
use Rattle.loop_rows.specs.declared.opening.Opened.{Opened}
use Rattle.loop_rows.specs.Opening.{AreNewLoops, IsNewLoop}
use Rattle.stream_ends.specs.Images.{homes_of}
use Rattle.aio_run.specs.Posting.{HaveBegun, HaveCoroutines, AllHaveOwn, HaveSizes}
use Rattle.aio_run.specs.Readiness.{HaveEntered}
use Rattle.aio_run.proofs.Begun.{at_place}

-- each stream's home is one of the loops
pub homes_below : (loops : ℕ) (streams : List StreamLine) → AllByRecursion (IsAtHome loops) streams → (k : ℕ) → k < length streams → slice_index (homes_of streams) k < loops
homes_below loops [] each k below = absurd (omega arith)
homes_below loops (x ∷ streams) each zero below = each.0.home
homes_below loops (x ∷ streams) each (suc k) below = homes_below loops streams each.1 k (omega arith)

module _ {C O : Type 0} (loops n : ℕ) (origin : O) (opened : Opened C O) (is : AreNewLoops loops n origin opened) where
  new_at : (k : ℕ) → k < loops → (t : _) (h : _) (s : _) → IsNewLoop n origin (slice_index_or opened.shared.items k t) (slice_index_or opened.homes.items k h) (slice_index_or opened.row.seats.items k s)
  new_at k below t h s = is.each k t h s below

  pub new_tables : HaveCoroutines n opened.shared.items
  new_tables k t below =
      (new_at k (omega (arith, below, is.long)) t (at_place opened.homes.items k (omega (arith, below, is.long, is.homes_long))) (at_place opened.row.seats.items k (omega (arith, below, is.is_row.long)))).coroutines_are.coroutines

  pub new_of : AreOfOrigin origin opened.shared.items
  new_of k t below =
      (new_at k (omega (arith, below, is.long)) t (at_place opened.homes.items k (omega (arith, below, is.long, is.homes_long))) (at_place opened.row.seats.items k (omega (arith, below, is.is_row.long)))).coroutines_are.origins

  pub new_sizes : HaveSizes opened.shared.items
  new_sizes k t below =
      (new_at k (omega (arith, below, is.long)) t (at_place opened.homes.items k (omega (arith, below, is.long, is.homes_long))) (at_place opened.row.seats.items k (omega (arith, below, is.is_row.long)))).bottoms.sizes_are

  pub new_homes : HaveEntered loops n opened.homes.items
  new_homes k h below =
      (new_at k below (at_place opened.shared.items k (omega (arith, below, is.long))) h (at_place opened.row.seats.items k (omega (arith, below, is.long, is.is_row.long)))).coroutines_are.home_is

  pub none_begun : (homes : List ℕ) (many : ℕ) → many ≡ loops → HaveBegun 0 homes many opened.row.seats.items
  none_begun homes many same k s below =
      ap (λ (v : Known). v.mine) (new_at k (omega (arith, below, same)) (at_place opened.shared.items k (omega (arith, below, same, is.long))) (at_place opened.homes.items k (omega (arith, below, same, is.homes_long))) s).coroutines_are.seat_is

  pub own_new : AllHaveOwn loops opened.row.seats.items
  own_new k s below =
      subst (λ (v : Known). v.mine ≡ own_entries seat_of (numbers_of v) v.seen)
      (sym (new_at k below (at_place opened.shared.items k (omega (arith, below, is.long))) (at_place opened.homes.items k (omega (arith, below, is.homes_long))) s).coroutines_are.seat_is)
      refl
