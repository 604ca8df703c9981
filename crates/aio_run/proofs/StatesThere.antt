-- Which schedules bring a state, in the history of the coroutines of a loop.
use Rattle.std.proofs.Common.{◌≡◌, ℕ, zero, suc, ◌+◌, ◌-◌, ◌*◌, ◌<◌, ◌≤◌, Bool, true, false, cond, eqb, List, [], ◌∷◌, length, map, slice_index, slice_index_or, refl, sym, ap, ◌∙◌, arith}
use Rattle.std.proofs.Math.ListN.{get_or-map}
use Rattle.std.proofs.lemmas.Bool.{cases_lt, and_parts, and_from}
use mathlib.Core.Logic.{⊎_elim}
use Rattle.table_seats.specs.Seats.{Numbers, owns, own_entries}
use Rattle.table_seats.proofs.Entries.{own-here}
use Rattle.aio_model.specs.declared.coroutines.causes.Cause.{Cause}
use Rattle.aio_model.specs.declared.coroutines.causes.Cause.TheVariants.{Begin, Wake, Move}
use Rattle.aio_model.specs.Coroutines.History.{Entry, Schedule, Push, Enter, History, seat_of, IsLegal}
use Rattle.co_state.specs.Wants.{Wants}
use Rattle.co_state.specs.declared.co.CoStep.{CoStep}
use Rattle.co_schedule.specs.Calls.{SeatState}
use Rattle.co_schedule.specs.Known.{Known}
use Rattle.loop_rows.specs.declared.opening.Homes.{Homes}
use Rattle.loop_rows.specs.declared.rows.Row.{Row}
use Rattle.loop_rows.specs.declared.seats.Seats.{Seats}
use Rattle.loop_rows.specs.declared.shared.LoopShared.{LoopShared}
use Rattle.loop_rows.specs.Posts.{Posts, FindsMarked}
use Rattle.co_loop.specs.declared.working.CoWork.{CoWork}
use Rattle.co_loop.specs.Quits.{SetsEnd}
use Rattle.co_loop.specs.Working.{CanWork, Works}
use Rattle.co_loop.proofs.SeatSteps.{turn_keeps}
use Rattle.loop_threads.proofs.Holding.{fewer}
use Rattle.loop_threads.specs.declared.ending.LoopRun.{LoopRun}
use Rattle.loop_threads.specs.declared.hands.Hand.{Hand}
use Rattle.loop_threads.specs.declared.parts.Part.{Part}
use Rattle.loop_threads.specs.Parts.{TakesTurns, loop_of}
use Rattle.aio_run.specs.Posting.{all_numbers, begun_on}
use Rattle.aio_run.specs.Runs.{AreRun}
use Rattle.aio_run.specs.Serving.{fits_cause, brings_states}
use Rattle.aio_run.proofs.Begun.{at_place}
use Rattle.aio_run.proofs.BegunOnce.{first_numbers, pair_numbers, pair_of, owned, not_owned, own_twice, begun_kept, begun_none}
use Rattle.aio_run.proofs.Served.{sees_own, stands_own, by_caller}

-- In any history.

rest_brings : (e : Entry) (xs : History) → brings_states (e ∷ xs) ≡ true → brings_states xs ≡ true
rest_brings (Schedule c cause given seat) xs is = (and_parts _ _ is).1
rest_brings (Push c seat) xs is = is
rest_brings (Enter c) xs is = is

less : (n : Numbers) (e : Entry) (xs : History) → brings_states (own_entries seat_of n (e ∷ xs)) ≡ true → brings_states (own_entries seat_of n xs) ≡ true
less n e xs = by (owns n (seat_of e))
  where
    by : (b : Bool) → brings_states (cond b (e ∷ own_entries seat_of n xs) (own_entries seat_of n xs)) ≡ true → brings_states (own_entries seat_of n xs) ≡ true
    by true is = rest_brings e (own_entries seat_of n xs) is
    by false is = is

-- a schedule that is one's own brings a state where it is to
first_brings : (n : Numbers) (c : ℕ) (cause : Cause) (given : Bool) (seat : ℕ) (xs : History) → owns n seat ≡ true → brings_states (own_entries seat_of n (Schedule c cause given seat ∷ xs)) ≡ true → fits_cause cause given ≡ true
first_brings n c cause given seat xs own is =
    (and_parts _ _ (sym (ap brings_states (own-here seat_of n (Schedule c cause given seat) xs own)) ∙ is)).0

-- where it is so for each pair's numbers and for those in front of them, it is so for all
all_bring : (n c m : ℕ) → 64 ≡ m + 2 * n → (h : History) → IsLegal c h → brings_states (own_entries seat_of (first_numbers m) h) ≡ true → ((p : ℕ) → p < n → brings_states (own_entries seat_of (pair_numbers m p) h) ≡ true) → brings_states h ≡ true
all_bring n c m all [] legal firsts pairs = refl
all_bring n c m all (Schedule d cause given seat ∷ older) legal firsts pairs =
    let more = all_bring n c m all older legal.1 (less (first_numbers m) (Schedule d cause given seat) older firsts) (λ p lt. less (pair_numbers m p) (Schedule d cause given seat) older (pairs p lt)) in
    and_from _ _
    (⊎_elim
    (λ (low : seat < m). first_brings (first_numbers m) d cause given seat older (owned (first_numbers m) seat (omega arith) (omega (arith, low))) firsts)
    (λ (high : m ≤ seat).
    let q = pair_of (seat - m) in
    let lt : q.0 < n = omega (arith, q.1, all, high, legal.0.2) in
    first_brings (pair_numbers m q.0) d cause given seat older (owned (pair_numbers m q.0) seat (omega (arith, q.1, high)) (omega (arith, q.2, high))) (pairs q.0 lt))
    (cases_lt seat m))
    more
all_bring n c m all (Push d seat ∷ older) legal firsts pairs =
    all_bring n c m all older legal.1 (less (first_numbers m) (Push d seat) older firsts) (λ p lt. less (pair_numbers m p) (Push d seat) older (pairs p lt))
all_bring n c m all (Enter d ∷ older) legal firsts pairs =
    all_bring n c m all older legal.1 (less (first_numbers m) (Enter d) older firsts) (λ p lt. less (pair_numbers m p) (Enter d) older (pairs p lt))

-- the posts of a script's streams bring states
begun_bring : (homes : List ℕ) (loop many : ℕ) → brings_states (begun_on many homes loop) ≡ true
begun_bring homes loop zero = refl
begun_bring homes loop (suc k) = by (eqb (slice_index homes k) loop) (begun_bring homes loop k)
  where
    by : (b : Bool) → brings_states (begun_on k homes loop) ≡ true → brings_states (cond b (Push k 0 ∷ Schedule k Begin true 0 ∷ begun_on k homes loop) (begun_on k homes loop)) ≡ true
    by true more = more
    by false more = more

-- whether the schedules of a seat bring states
abbrev brought_by : {C O : Type 0} → Seats C O → Bool
brought_by s = brings_states s.coroutines.known.mine

-- each step of a loop's thread does
module _ {C O : Type 0} where
  woken : (co : ℕ) (b a : Seats C O) → Posts co Wake false b a → brought_by a ≡ brought_by b
  woken co b a is = ap brings_states is.scheduled.stands.stands.mine_grows

  moved : (co : ℕ) (b a : Seats C O) → Posts co Move true b a → brought_by a ≡ brought_by b
  moved co b a is = ap brings_states is.scheduled.stands.stands.mine_grows

  marked : (co mark : ℕ) (b a : Seats C O) → FindsMarked co mark b a → brought_by a ≡ brought_by b
  marked co mark b a is = ap (λ (k : Known). brings_states k.mine) is.looks.rest

  ended : (b a : Seats C O) → SetsEnd b a → brought_by a ≡ brought_by b
  ended b a is = ap (λ (s : SeatState O). brings_states s.known.mine) is.same

module _ {C K O : Type 0} (E R : Type 0) (is_of : ℕ → C → O → Type 0) (resumes : C → O → Wants → CoStep → C → Type 0) (time : K → ℕ) (shared : List (LoopShared C O)) where
  turns_keep : (turns : List (Part C (CoWork C K O) O)) (before after : Part C (CoWork C K O) O) → TakesTurns (CanWork is_of) (Works E R is_of resumes time) shared turns before after → map brought_by after.row.seats.items ≡ map brought_by before.row.seats.items
  turns_keep [] before after same = ap (λ (p : Part C (CoWork C K O) O). map brought_by p.row.seats.items) same
  turns_keep (mid ∷ older) before after takes =
      turn_keeps brought_by woken moved marked ended is_of resumes time shared mid.work (loop_of mid) after.carried after.work (loop_of after) takes.1.did ∙ turns_keep older before mid takes.0

  as_before : (turns : List (Part C (CoWork C K O) O)) (before after : Part C (CoWork C K O) O) → TakesTurns (CanWork is_of) (Works E R is_of resumes time) shared turns before after → (k : ℕ) (s : Seats C O) → brought_by (slice_index_or after.row.seats.items k s) ≡ brought_by (slice_index_or before.row.seats.items k s)
  as_before turns before after takes k s =
      sym (get_or-map brought_by after.row.seats.items k s) ∙ ap (λ (l : List Bool). slice_index_or l k (brought_by s)) (turns_keep turns before after takes) ∙ get_or-map brought_by before.row.seats.items k s

  module _ (homes : List (Homes C O)) (hands : List (Hand (CoWork C K O))) (row : Row C O) (ends : List (LoopRun C (CoWork C K O) O)) (are : AreRun (CanWork is_of) (Works E R is_of resumes time) shared homes hands row ends) (some : 0 < length shared) (few : length shared ≤ 16) where
    -- the loop at this place, once it was ended
    module _ (k : ℕ) (r : LoopRun C (CoWork C K O) O) (low : k < length shared) (w : Seats C O) where
      abbrev history : History
      history = (slice_index_or ends k r).coroutines.history

      abbrev seen : History
      seen = (slice_index_or row.seats.items k w).coroutines.known.seen

      by_thread : (p : ℕ) → p < length shared → brings_states (own_entries seat_of (pair_numbers (64 - 2 * length shared) p) history) ≡ brings_states (own_entries seat_of (pair_numbers (64 - 2 * length shared) p) seen)
      by_thread p lt =
          let n = length shared in
          let j = n - p - 1 in
          let t = at_place shared k low in
          let s = at_place are.joined.row.seats.items k (omega (arith, low, are.is_row.long)) in
          let pd = at_place are.carried.parts j (omega (arith, lt, are.carried.many)) in
          let first = slice_index_or are.carried.parts j pd in
          let m = at_place are.joined.members.items p (omega (arith, lt, are.members)) in
          let runs = are.carried.runs p j pd m (omega (arith, lt)) in
          let last = runs.last in
          let comes = runs.carried.comes in
          let number : first.number ≡ p = omega (arith, are.carried.reversed j pd (omega (arith, lt, are.carried.many)), lt, are.carried.many) in
          let was = are.carried.parts_are j pd (omega (arith, lt, are.carried.many)) in
          let before = slice_index_or first.row.seats.items k w in
          let after = slice_index_or last.row.seats.items k w in
          let was_at = was.station.row.each k t w low in
          let is_at = comes.part.station.row.each k t w low in
          let was_first : before.coroutines.known.first ≡ (64 - 2 * n) + 2 * p = omega (arith, was_at.co_first_is, was.numbers.first_is, number) in
          let was_count : before.coroutines.known.count ≡ 2 = omega (arith, was_at.co_count_is, was.numbers.count_is) in
          let is_first : after.coroutines.known.first ≡ (64 - 2 * n) + 2 * p = omega (arith, is_at.co_first_is, comes.part.numbers.first_is, comes.number_is, number) in
          let is_count : after.coroutines.known.count ≡ 2 = omega (arith, is_at.co_count_is, comes.part.numbers.count_is) in
          let here = at_place are.joined.members.items k (omega (arith, low, are.members)) in
          let over = are.ends k t here s r low in
          let stands = over.keeps after last.row.first last.row.count is_at comes.part.station.row.below (runs.within k w s low) in
          ap brings_states (stands_own after history ((64 - 2 * n) + 2 * p) 2 is_first is_count stands.co_made)
          ∙ as_before comes.turns first last comes.takes k w
          ∙ ap brings_states (sees_own (slice_index_or row.seats.items k w) before ((64 - 2 * n) + 2 * p) 2 was_first was_count (are.carried.parts_see j pd (omega (arith, lt)) k w w low))

    -- a state came with each that was posted to a loop before the run or moved there, and with no other schedule
    pub states_there : (many : ℕ) (homes_are : List ℕ) (k : ℕ) (r : LoopRun C (CoWork C K O) O) (low : k < length shared) (w : Seats C O) → own_entries seat_of all_numbers (slice_index_or row.seats.items k w).coroutines.known.seen ≡ begun_on many homes_are k → brings_states (slice_index_or ends k r).coroutines.history ≡ true
    states_there many homes_are k r low w is =
        let t = at_place shared k low in
        let s = at_place are.joined.row.seats.items k (omega (arith, low, are.is_row.long)) in
        let here = at_place are.joined.members.items k (omega (arith, low, are.members)) in
        let m = 64 - 2 * length shared in
        let past : History = (slice_index_or row.seats.items k w).coroutines.known.seen in
        let at_first : own_entries seat_of (first_numbers m) past ≡ begun_on many homes_are k =
        sym (own_twice (first_numbers m) all_numbers (fewer (first_numbers m) all_numbers (omega arith) (omega arith)) past)
        ∙ ap (own_entries seat_of (first_numbers m)) is ∙ begun_kept homes_are k (first_numbers m) many (owned (first_numbers m) 0 (omega arith) (omega (arith, few))) in
        all_bring (length shared) (slice_index_or shared k t).coroutines.coroutines m (omega (arith, few)) (slice_index_or ends k r).coroutines.history
        (are.ends k t here s r low).coroutines.whole.legal
        (ap brings_states (by_caller E R is_of resumes time shared homes hands row ends are some few k r low w ∙ at_first) ∙ begun_bring homes_are k many)
        (λ p lt.
        by_thread k r low w p lt
        ∙ ap brings_states (sym (own_twice (pair_numbers m p) all_numbers (fewer (pair_numbers m p) all_numbers (omega arith) (omega (arith, few, lt))) past)
        ∙ ap (own_entries seat_of (pair_numbers m p)) is ∙ begun_none homes_are k (pair_numbers m p) many (not_owned (pair_numbers m p) 0 (omega (arith, few)))))
