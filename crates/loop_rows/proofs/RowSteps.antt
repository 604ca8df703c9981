-- A row, where one seat of it stepped.
use Rattle.std.proofs.Common.{◌≡◌, ℕ, ◌<◌, List, length, slice_index_or, slice_set, refl, ap, subst, ◌∙◌, arith}
use Rattle.std.proofs.lemmas.List.{get_or_default}
use Rattle.loop_rows.specs.declared.shared.LoopShared.{LoopShared}
use Rattle.loop_rows.specs.declared.seats.Seats.{Seats}
use Rattle.loop_rows.specs.Rows.{AreSeatsOf, EachAt}
use Rattle.loop_rows.specs.Posts.{IsSeated, SameNumbers}
use Rattle.loop_rows.specs.Stepping.{CoroutinesStay}
use Rattle.loop_rows.proofs.Places.{at_set, as_read}
use Rattle.loop_rows.proofs.Rowing.{renumbered}

-- one seat stepped, and has its numbers still
pub each_set : {C O : Type 0} (shared : List (LoopShared C O)) (seats : List (Seats C O)) (first count to : ℕ) (t : LoopShared C O) (s v : Seats C O) → to < length shared → length seats ≡ length shared → t ≡ slice_index_or shared to t → s ≡ slice_index_or seats to s → EachAt (length shared) first count shared seats → AreSeatsOf s.bottoms.known.first s.bottoms.known.count t v
    → EachAt (length shared) first count shared (slice_set seats to v)
each_set shared seats first count to t s v lt long at also each now k x y low =
    let was = as_read (λ (p : LoopShared _ _) (q : Seats _ _). AreSeatsOf first count p q) shared seats to t s at also (each to t s lt) in
    at_set (λ (j : ℕ) (w : Seats _ _). AreSeatsOf first count (slice_index_or shared j x) w) seats to v (omega (arith, lt, long))
    (subst (λ (p : LoopShared _ _). AreSeatsOf first count p v) (at ∙ get_or_default shared to t x lt) (renumbered was.first_is was.count_is now)) k y (λ ne. each k x y low)

-- the same, by what a post says of the seat
pub each_posted : {C O : Type 0} (shared : List (LoopShared C O)) (seats : List (Seats C O)) (first count to : ℕ) (t : LoopShared C O) (s v : Seats C O) → to < length shared → length seats ≡ length shared → t ≡ slice_index_or shared to t → s ≡ slice_index_or seats to s → EachAt (length shared) first count shared seats → IsSeated t v → SameNumbers s v
    → EachAt (length shared) first count shared (slice_set seats to v)
each_posted shared seats first count to t s v lt long at also each seated same k x y low =
    let was = as_read (λ (p : LoopShared _ _) (q : Seats _ _). AreSeatsOf first count p q) shared seats to t s at also (each to t s lt) in
    at_set (λ (j : ℕ) (w : Seats _ _). AreSeatsOf first count (slice_index_or shared j x) w) seats to v (omega (arith, lt, long))
    (subst (λ (p : LoopShared _ _). AreSeatsOf first count p v) (at ∙ get_or_default shared to t x lt)
    (record { bottoms = seated.bottoms; coroutines = seated.coroutines; first_is = same.first ∙ was.first_is; count_is = same.count ∙ was.count_is; co_first_is = same.co_first ∙ was.co_first_is; co_count_is = same.co_count ∙ was.co_count_is }))
    k y (λ ne. each k x y low)

-- one seat stepped on its loop's bottom halves alone
pub coroutines_set : {C O : Type 0} (seats : List (Seats C O)) (to : ℕ) (s v : Seats C O) → to < length seats → s ≡ slice_index_or seats to s → v.coroutines ≡ s.coroutines → CoroutinesStay seats (slice_set seats to v)
coroutines_set {C} {O} seats to s v lt at same k d =
    at_set (λ (j : ℕ) (w : Seats C O). w.coroutines ≡ (slice_index_or seats j d).coroutines) seats to v lt
    (same ∙ ap (λ (w : Seats C O). w.coroutines) (at ∙ get_or_default seats to s d lt)) k d (λ ne. refl)
