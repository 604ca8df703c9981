-- Loops as they are built, one after another.
use Rattle.std.proofs.Common.{◌≡◌, ℕ, ◌<◌, ◌+◌, List, [], ◌∷◌, ◌++◌, length, slice_index_or, subst, sym, ap, ◌∙◌, arith}
use Rattle.std.proofs.lemmas.List.{get_or_at, get_or_append_left}
use Rattle.aio_model.specs.Loop.History.{Sizes}
use Rattle.lot_pool.specs.Pools.{PassState}
use Rattle.aio_core.specs.Known.{Known, is_running}
use Rattle.co_schedule.specs.Known.{Known as CoKnown}
use Rattle.loop_rows.specs.declared.shared.LoopShared.{LoopShared}
use Rattle.loop_rows.specs.declared.seats.Seats.{Seats}
use Rattle.loop_rows.specs.declared.opening.Homes.{Homes}
use Rattle.loop_rows.specs.Rows.{AreSeatsOf}
use Rattle.loop_rows.specs.Opening.{IsNewLoop, AreHomesOf}
use Rattle.loop_rows.proofs.Places.{at_push}

-- a fact of each three of three lists, as all grow
pub three_pushed : {X Y Z : Type 0} (P : X → Y → Z → Type 0) (xs : List X) (ys : List Y) (zs : List Z) (n : ℕ) (x : X) (y : Y) (z : Z) → length xs ≡ n → length ys ≡ n → length zs ≡ n
    → ((k : ℕ) (a : X) (b : Y) (c : Z) → k < n → P (slice_index_or xs k a) (slice_index_or ys k b) (slice_index_or zs k c)) → P x y z
    → (k : ℕ) (a : X) (b : Y) (c : Z) → k < n + 1 → P (slice_index_or (xs ++ x ∷ []) k a) (slice_index_or (ys ++ y ∷ []) k b) (slice_index_or (zs ++ z ∷ []) k c)
three_pushed {X} {Y} {Z} P xs ys zs n x y z lx ly lz was here k a b c h =
    at_push (λ (j : ℕ) (v : Z). P (slice_index_or (xs ++ x ∷ []) j a) (slice_index_or (ys ++ y ∷ []) j b) v) zs n z lz
    (subst (λ (u : X). P u (slice_index_or (ys ++ y ∷ []) n b) z) (sym (get_or_at xs x [] a n lx)) (subst (λ (v : Y). P x v z) (sym (get_or_at ys y [] b n ly)) here)) k c h
    (λ lt. subst (λ (u : X). P u (slice_index_or (ys ++ y ∷ []) k b) (slice_index_or zs k c)) (sym (get_or_append_left xs (x ∷ []) a k (omega (arith, lt, lx))))
    (subst (λ (v : Y). P (slice_index_or xs k a) v (slice_index_or zs k c)) (sym (get_or_append_left ys (y ∷ []) b k (omega (arith, lt, ly)))) (was k a b c lt)))

-- the seats of a new loop have all numbers but the home's
pub new_seats : {C O : Type 0} {coroutines : ℕ} {origin : O} {shared : LoopShared C O} {homes : Homes C O} {seats : Seats C O} → IsNewLoop coroutines origin shared homes seats → AreSeatsOf 0 64 shared seats
new_seats new = record {
  bottoms = record { of = record { tables = new.bottoms.seat_of; sizes = ap (λ (k : Known). k.sizes) new.bottoms.seat_is ∙ sym new.bottoms.sizes_are }; rest = ap (λ (k : Known). k.phase) new.bottoms.seat_is };
  coroutines = new.coroutines_are.seat_of_it;
  first_is = ap (λ (k : Known). k.first) new.bottoms.seat_is;
  count_is = ap (λ (k : Known). k.count) new.bottoms.seat_is;
  co_first_is = ap (λ (k : CoKnown). k.first) new.coroutines_are.seat_is;
  co_count_is = ap (λ (k : CoKnown). k.count) new.coroutines_are.seat_is;
}

-- and its homes are between two turns
pub new_homes : {C O : Type 0} {coroutines : ℕ} {origin : O} {shared : LoopShared C O} {homes : Homes C O} {seats : Seats C O} → IsNewLoop coroutines origin shared homes seats → AreHomesOf shared homes
new_homes new =
    let home = new.bottoms.home_is in
    let pool = new.pool in
    record {
      home = record {
        of_table = record { tables = new.bottoms.home_of; sizes = ap (λ (k : Known). k.sizes) home ∙ sym new.bottoms.sizes_are };
        rest = ap (λ (k : Known). k.phase) home;
        running = ap (λ (k : Known). is_running k.sleep) home;
        empty = ap (λ (k : Known). k.stage) home;
      };
      lots = record {
        built_for = record { handles = pool.sizes.0 ∙ sym (ap (λ (s : Sizes). s.handles) new.bottoms.sizes_are); lots = pool.sizes.1 ∙ sym (ap (λ (s : Sizes). s.lots) new.bottoms.sizes_are) };
        of_home = record {
          of = record { queues = ap (λ (p : PassState). p.queue) pool.new_home; filled = ap (λ (p : PassState). p.known.opening) pool.new_home; lots = ap (λ (p : PassState). p.known.lots) pool.new_home };
          number = (ap (λ (p : PassState). p.first) pool.new_home, ap (λ (p : PassState). p.count) pool.new_home);
          room = ap (λ (p : PassState). length p.keeps) pool.new_home ∙ sym pool.sizes.1;
        };
      };
      coroutines = new.coroutines_are.home_of;
    }
