-- The entries that posts make, post by post.
use Rattle.std.proofs.Common.{◌≡◌, ◌≢◌, ℕ, zero, suc, ◌<◌, ◌≤◌, Bool, true, false, cond, eqb, List, [], ◌∷◌, drop, length, slice_index, slice_index_or, refl, sym, ap, ◌∙◌, subst, arith}
use Rattle.std.proofs.lemmas.Bool.{eqb-true, eqb-false, ne_eqb}
use mathlib.Core.Option.{some}
use lib.ListN.{get_elem?}
use Rattle.aio_model.specs.declared.coroutines.causes.Cause.TheVariants.{Begin}
use Rattle.aio_model.specs.declared.scripts.image_scripts.Stream.{Stream as StreamLine}
use Rattle.aio_model.specs.Coroutines.History.{Schedule, Push, History}
use Rattle.co_schedule.specs.Standing.{was_scheduled_by}
use Rattle.loop_rows.specs.declared.seats.Seats.{Seats}
use Rattle.co_schedule.proofs.Unmarked.{unmarked}
use Rattle.loop_rows.specs.declared.shared.LoopShared.{LoopShared}
use Rattle.loop_rows.specs.declared.rows.Row.{Row}
use Rattle.loop_rows.specs.Posts.{Posts, FindsMarked, DoesAt}
use Rattle.loop_rows.specs.Rows.{IsRow, HasNumbers}
use Rattle.loop_rows.specs.Stepping.{OthersStay}
use Rattle.stream_ends.specs.Images.{homes_of}
use Rattle.aio_run.specs.Posting.{begun_on, HaveBegun}

-- those from this number on were never scheduled
pub never_yet : (many : ℕ) (homes : List ℕ) (loop c : ℕ) → many ≤ c → was_scheduled_by c (begun_on many homes loop) ≡ false
never_yet zero homes loop c le = refl
never_yet (suc k) homes loop c le =
    by (eqb (slice_index homes k) loop) (ne_eqb c k (λ e. omega (arith, le, e))) (never_yet k homes loop c (omega (arith, le)))
  where
    by : (b : Bool) → eqb c k ≡ false → was_scheduled_by c (begun_on k homes loop) ≡ false
        → was_scheduled_by c (cond b (Push k 0 ∷ Schedule k Begin true 0 ∷ begun_on k homes loop) (begun_on k homes loop)) ≡ false
    by true other older = rw other older
    by false other older = older

module _ {C O : Type 0} where
  -- the coroutine of this number was posted to its home
  pub begun_more : (number next : ℕ) (homes : List ℕ) (loops to : ℕ) (before after : List (Seats C O)) → next ≡ suc number → slice_index homes number ≡ to → HaveBegun number homes loops before → OthersStay to before after
      → ((b a : Seats C O) → (slice_index_or after to a).coroutines.known.mine ≡ Push number 0 ∷ Schedule number Begin true 0 ∷ (slice_index_or before to b).coroutines.known.mine) → HaveBegun next homes loops after
  begun_more number next homes loops to before after is home was others made t s below =
      subst (λ (n : ℕ). (slice_index_or after t s).coroutines.known.mine ≡ begun_on n homes t) (sym is) (by (eqb (slice_index homes number) t) refl)
    where
      by : (b : Bool) → eqb (slice_index homes number) t ≡ b
          → (slice_index_or after t s).coroutines.known.mine ≡ cond b (Push number 0 ∷ Schedule number Begin true 0 ∷ begun_on number homes t) (begun_on number homes t)
      by true e =
          let same : to ≡ t = sym home ∙ eqb-true (slice_index homes number) t e in
          subst (λ (n : ℕ). (slice_index_or after n s).coroutines.known.mine ≡ Push number 0 ∷ Schedule number Begin true 0 ∷ begun_on number homes t) same
          (made s s ∙ ap (λ (l : History). Push number 0 ∷ Schedule number Begin true 0 ∷ l) (subst (λ (n : ℕ). (slice_index_or before n s).coroutines.known.mine ≡ begun_on number homes t) (sym same) (was t s below)))
      by false e =
          let apart : t ≢ to = λ same. eqb-false (slice_index homes number) t e (home ∙ sym same) in
          ap (λ (x : Seats C O). x.coroutines.known.mine) (others t s apart) ∙ was t s below

-- what stands at a place
pub at_place : {A : Type 0} (xs : List A) (k : ℕ) → k < length xs → A
at_place [] k below = absurd (omega arith)
at_place (x ∷ xs) zero below = x
at_place (x ∷ xs) (suc k) below = at_place xs k (omega arith)

-- A post by the row of all numbers.
module _ {C O : Type 0} (shared : List (LoopShared C O)) (row : Row C O) (is : IsRow shared row) (has : HasNumbers 0 64 row) (to : ℕ) (below : to < length shared) where
  first_is : (s : Seats C O) → (slice_index_or row.seats.items to s).coroutines.known.first ≡ 0
  first_is s = (is.each to (at_place shared to below) s below).co_first_is ∙ has.first_is

  count_is : (s : Seats C O) → (slice_index_or row.seats.items to s).coroutines.known.count ≡ 64
  count_is s = (is.each to (at_place shared to below) s below).co_count_is ∙ has.count_is

  pub post_makes : (co : ℕ) (after : List (Seats C O)) → DoesAt to (Posts co Begin true) row.seats.items after → (b a : Seats C O)
      → (slice_index_or after to a).coroutines.known.mine ≡ Push co 0 ∷ Schedule co Begin true 0 ∷ (slice_index_or row.seats.items to b).coroutines.known.mine
  post_makes co after does b a =
      (does b a).scheduled.stands.stands.mine_grows ∙ ap (λ (n : ℕ). Push co n ∷ Schedule co Begin true n ∷ (slice_index_or row.seats.items to b).coroutines.known.mine) (first_is b)

  pub post_finds : (co mark : ℕ) (after : List (Seats C O)) → ((s : Seats C O) → was_scheduled_by co (slice_index_or row.seats.items to s).coroutines.known.mine ≡ false) → DoesAt to (FindsMarked co mark) row.seats.items after → ⊥
  post_finds co mark after never does =
      let s = at_place row.seats.items to (omega (arith, below, is.long)) in
      let finds = does s s in
      finds.marked (unmarked co mark (slice_index_or row.seats.items to s).coroutines.known (first_is s) (count_is s) (never s) finds.place)

-- The stream lines, one after another.

pub home_at : (lines streams : List StreamLine) (k : ℕ) (d : StreamLine) → lines ≡ streams → k < length lines → slice_index (homes_of streams) k ≡ (slice_index_or lines k d).home
home_at lines streams k d is below = ap (λ (l : List StreamLine). slice_index (homes_of l) k) (sym is) ∙ at lines k below
  where
    at : (l : List StreamLine) (n : ℕ) → n < length l → slice_index (homes_of l) n ≡ (slice_index_or l n d).home
    at [] n low = absurd (omega arith)
    at (x ∷ l) zero low = refl
    at (x ∷ l) (suc n) low = at l n (omega arith)

module _ {A : Type 0} where
  pub first_left : (xs : List A) (k : ℕ) (x : A) (rest : List A) → x ∷ rest ≡ drop k xs → get_elem? xs k ≡ some x
  first_left [] zero x rest e = cc
  first_left [] (suc k) x rest e = cc
  first_left (y ∷ xs) zero x rest e = ap some (let same : y ≡ x = cc in same)
  first_left (y ∷ xs) (suc k) x rest e = first_left xs k x rest e

  pub others_left : (xs : List A) (k next : ℕ) (x : A) (rest : List A) → next ≡ suc k → x ∷ rest ≡ drop k xs → rest ≡ drop next xs
  others_left xs k next x rest is e = subst (λ n. rest ≡ drop n xs) (sym is) (left xs k e)
    where
      left : (ys : List A) (n : ℕ) → x ∷ rest ≡ drop n ys → rest ≡ drop (suc n) ys
      left [] zero f = cc
      left [] (suc n) f = cc
      left (y ∷ ys) zero f = cc
      left (y ∷ ys) (suc n) f = left ys n f
