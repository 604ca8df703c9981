-- A station and its work behind a turn.
use Rattle.std.proofs.Common.{◌≡◌, ℕ, ◌<◌, ◌≤◌, ◌+◌, Bool, List, [], ◌∷◌, length, slice_index_or, refl, sym, ap, ◌∙◌, subst, arith}
use Rattle.std.proofs.Math.ListN.{get_or-map}
use Rattle.lot_pool.specs.Pools.{PoolState, PassState}
use Rattle.aio_core.specs.Calls.{TableState, SeatState}
use Rattle.aio_bh.specs.OneShots.{ServesHome}
use Rattle.aio_loop.specs.Homes.{IsHomeFree}
use Rattle.co_schedule.specs.Calls.{SeatState as CoSeatState, RunState, IsSeatOf as IsCoSeatOf}
use Rattle.loop_rows.specs.LoopStates.{LoopState, TurnsOn}
use Rattle.aio_loop.specs.declared.turned.Turned.{Turned}
use Rattle.aio_loop.specs.Entering.{LoopEntered}
use Rattle.aio_loop.specs.Walks.{LoopFar}
use Rattle.loop_rows.specs.declared.shared.LoopShared.{LoopShared}
use Rattle.loop_rows.specs.declared.seats.Seats.{Seats}
use Rattle.loop_rows.specs.declared.rows.Row.{Row}
use Rattle.loop_rows.specs.Rows.{IsRow as IsRowOf}
use Rattle.co_loop.specs.Rows.{AreSeatsOfLoops, AreOfOrigin}
use Rattle.co_loop.specs.declared.crew.Crew.{Crew}
use Rattle.co_loop.specs.Crews.{Far}
use Rattle.co_loop.specs.Loops.{IsOnLoop}
use Rattle.co_loop.specs.Building.{IsNewCrew}
use Rattle.co_loop.specs.Working.{seated, CrewCanStart}
use Rattle.co_loop.proofs.Nobody.{crew_of_nobody}
use Rattle.co_loop.specs.Turning.{TurnsAndEnds}
use Rattle.co_loop.specs.Numbers.{LoopNumbers, numbers_at, numbers}
use Rattle.co_loop.proofs.Unchanged.{same_by_turn}
use Rattle.co_loop.proofs.Numbered.{posts_each_again}

first : {X : Type 0} (xs : List X) → 0 < length xs → X
first [] lt = absurd (omega (arith, lt))
first (x ∷ xs) lt = x

-- of some loops the coroutines have one origin
pub same_origin : {C O : Type 0} (a b : O) (shared : List (LoopShared C O)) (own : ℕ) → own < length shared → AreOfOrigin a shared → AreOfOrigin b shared → a ≡ b
same_origin a b [] own lt of_a of_b = absurd (omega (arith, lt))
same_origin a b (x ∷ shared) own lt of_a of_b =
    sym (of_a 0 x (omega arith)) ∙ of_b 0 x (omega arith)

same_at : {C O : Type 0} (before after : List (Seats C O)) (k : ℕ) (s : Seats C O) → numbers after ≡ numbers before → numbers_at (slice_index_or after k s) ≡ numbers_at (slice_index_or before k s)
same_at before after k s same =
    sym (get_or-map numbers_at after k s) ∙ ap (λ (l : List LoopNumbers). slice_index_or l k (numbers_at s)) same ∙ get_or-map numbers_at before k s

-- seats that own the numbers of the row's are a row with its numbers
pub row_again : {C O : Type 0} (shared : List (LoopShared C O)) (row after : Row C O) (n : ℕ) → IsRowOf shared row → AreSeatsOfLoops n shared after.seats.items → numbers after.seats.items ≡ numbers row.seats.items → after.first ≡ row.first → after.count ≡ row.count → IsRowOf shared after
row_again {C} {O} shared row after n was now same first count =
    record {
      long = now.long;
      below = subst (λ f. f + after.count ≤ 64) (sym first) (subst (λ c. row.first + c ≤ 64) (sym count) was.below);
      each = λ k t s lt.
          let b = was.each k t s lt in
          let a = now.each k t s lt in
          let e = same_at row.seats.items after.seats.items k s same in
          record {
            bottoms = a.bottoms;
            coroutines = a.coroutines;
            first_is = ap (λ (n : LoopNumbers). n.first) e ∙ b.first_is ∙ sym first;
            count_is = ap (λ (n : LoopNumbers). n.count) e ∙ b.count_is ∙ sym count;
            co_first_is = ap (λ (n : LoopNumbers). n.co_first) e ∙ b.co_first_is ∙ sym first;
            co_count_is = ap (λ (n : LoopNumbers). n.co_count) e ∙ b.co_count_is ∙ sym count;
          };
    }

-- a turn, with what is left to do behind it, leaves each seat its numbers where each entry of its runner does
pub numbers_by_turn : {R C O : Type 0} (does : R → LoopEntered → R → Type 0) (here : R → Far C O) (same : R → R → Type 0) (keeps : (a : R) (e : LoopEntered) (b : R) → does a e b → numbers (here b).seats ≡ numbers (here a).seats)
    (pool : PoolState) (block : Bool) (events n : ℕ) (turned : Turned) (time time_after : ℕ) (pass pass_after : PassState) (before after : LoopFar R) → TurnsAndEnds does here same pool block events n turned time time_after pass pass_after before after → numbers (here after.runner).seats ≡ numbers (here before.runner).seats
numbers_by_turn {R} does here same keeps pool block events n turned time time_after pass pass_after before after turns =
    posts_each_again n _ _ turns.ends.posts ∙ same_by_turn does (λ (r : R). numbers (here r).seats) keeps _ _ _ _ _ _ _ _ before turns.turned_to turns.turns

module _ {C O : Type 0} (is_of : ℕ → C → O → Type 0) (shared : List (LoopShared C O)) where
  -- the crew with the row's seats is on the loop, of the origin of what is lent
  pub fits_lent : (source : O) (crew crew_in : Crew C O) (row : Row C O) (home : CoSeatState O) (run : RunState) → AreOfOrigin source shared → crew_in ≡ seated crew row → IsOnLoop is_of crew.store.origin shared (seated crew row) home run → IsOnLoop is_of source shared crew_in home run
  fits_lent source crew crew_in row home run lent e fits =
      subst (λ (k : Crew C O). IsOnLoop is_of source shared k home run) (sym e)
      (record {
        is_crew = fits.is_crew;
        origin = same_origin source crew.store.origin shared crew.own fits.is_crew.own lent fits.is_crew.of;
        home_of = fits.home_of;
        idle = fits.idle;
      })

  pub lots_here : (number : ℕ) (table : TableState) (pool : PoolState) (lots : PassState) → number < length shared → TurnsOn shared number table pool → ((t : LoopShared C O) → ServesHome (slice_index_or shared number t).bottoms.sizes (slice_index_or shared number t).pool lots) → ServesHome table.sizes pool lots
  lots_here number table pool lots lt on serves =
      let t = first shared (omega (arith, lt)) in
      subst (λ (b : TableState). ServesHome b.sizes pool lots) (sym (on.table_is t)) (subst (λ (p : PoolState). ServesHome (slice_index_or shared number t).bottoms.sizes p lots) (sym (on.pool_is t)) (serves t))

  pub home_here : (number : ℕ) (table : TableState) (pool : PoolState) (home : SeatState) → number < length shared → TurnsOn shared number table pool → ((t : LoopShared C O) → IsHomeFree (slice_index_or shared number t).bottoms home) → IsHomeFree table home
  home_here number table pool home lt on free =
      let t = first shared (omega (arith, lt)) in
      subst (λ (b : TableState). IsHomeFree b home) (sym (on.table_is t)) (free t)

  pub lots_there : (number : ℕ) (table : TableState) (pool : PoolState) (lots : PassState) → TurnsOn shared number table pool → ServesHome table.sizes pool lots → (t : LoopShared C O) → ServesHome (slice_index_or shared number t).bottoms.sizes (slice_index_or shared number t).pool lots
  lots_there number table pool lots on serves t =
      subst (λ (b : TableState). ServesHome b.sizes (slice_index_or shared number t).pool lots) (on.table_is t) (subst (λ (p : PoolState). ServesHome table.sizes p lots) (on.pool_is t) serves)

  pub home_there : (number : ℕ) (table : TableState) (pool : PoolState) (home : SeatState) → TurnsOn shared number table pool → IsHomeFree table home → (t : LoopShared C O) → IsHomeFree (slice_index_or shared number t).bottoms home
  home_there number table pool home on free t =
      subst (λ (b : TableState). IsHomeFree b home) (on.table_is t) free

  -- once the seats are back in the row, crew and row together are what the turn left
  pub together : (crew_out crew_end : Crew C O) (row_mid row_end : Row C O) → crew_end ≡ record crew_out { seats = row_mid.seats } → row_end ≡ record row_mid { seats = crew_out.seats } → seated crew_end row_end ≡ crew_out
  together crew_out crew_end row_mid row_end e f = λ i. seated (e i) (f i)

  pub fits_again : (source : O) (crew_out crew_end : Crew C O) (row_end : Row C O) (home : CoSeatState O) (run : RunState) → seated crew_end row_end ≡ crew_out → IsOnLoop is_of source shared crew_out home run → IsOnLoop is_of crew_end.store.origin shared (seated crew_end row_end) home run
  fits_again source crew_out crew_end row_end home run e fits =
      subst (λ (k : Crew C O). IsOnLoop is_of k.store.origin shared k home run) (sym e)
      (record { is_crew = fits.is_crew; origin = refl; home_of = fits.home_of; idle = fits.idle })

pub turns_for : {R C O : Type 0} {does : R → LoopEntered → R → Type 0} {here : R → Far C O} {same : R → R → Type 0} {pool : PoolState} {block : Bool} {events n m : ℕ} {turned : Turned} {time time_after : ℕ} {pass pass_after : PassState} {before after : LoopFar R} → n ≡ m → TurnsAndEnds does here same pool block events n turned time time_after pass pass_after before after → TurnsAndEnds does here same pool block events m turned time time_after pass pass_after before after
turns_for {R} {C} {O} {does} {here} {same} {pool} {block} {events} {n} {m} {turned} {time} {time_after} {pass} {pass_after} {before} {after} e turns =
    subst (λ (k : ℕ). TurnsAndEnds does here same pool block events k turned time time_after pass pass_after before after) e turns

module _ {C O : Type 0} (is_of : ℕ → C → O → Type 0) (origin : O) (shared : List (LoopShared C O)) (loop : LoopState C O) (crew : Crew C O) (run : RunState) where
  row_of : CrewCanStart origin shared loop crew run → AreSeatsOfLoops crew.coroutines shared loop.row.seats.items
  row_of can =
      let row = can.station.row in
      record {
        long = row.long;
        loops = λ k t lt.
            let s = (slice_index_or shared k t).sizes in
            record { handles = omega (arith, s.0); events = omega (arith, s.2); coroutines = can.coroutines k t lt };
        each = λ k t s lt. record { bottoms = (row.each k t s lt).bottoms; coroutines = (row.each k t s lt).coroutines };
      }

  -- a crew of nobody, with the seats of its thread's row, is on its loop
  pub nobody_works : CrewCanStart origin shared loop crew run → IsOnLoop is_of crew.store.origin shared (seated crew loop.row) loop.coroutines run
  nobody_works can =
      let new = can.crew_is in
      let seated_new : IsNewCrew origin (seated crew loop.row) = record { store = new.store; woken = new.woken; naps = new.naps; leaving = new.leaving; ended = new.ended; done = new.done; quits = new.quits } in
      let own : crew.own < length shared = subst (λ k. k < length shared) (sym can.own) can.station.within in
      let cos : run.cos ≡ [] = ap (λ (r : RunState). r.cos) can.run_is in
      record {
        is_crew = crew_of_nobody is_of shared origin (seated crew loop.row) seated_new (row_of can) can.of own;
        origin = refl;
        home_of = λ t. record {
          home_of = subst (λ k. IsCoSeatOf (slice_index_or shared k t).coroutines loop.coroutines) (sym can.own) (can.station.coroutines t);
          is_taken = cos ∙ sym can.idle;
          room = subst (λ (r : RunState). (slice_index_or shared crew.own t).coroutines.coroutines ≤ r.room) (sym can.run_is) (omega (arith, can.coroutines crew.own t own));
        };
        idle = can.idle;
      }
