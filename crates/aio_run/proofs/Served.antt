-- What the coroutines of a loop did in a run.
use Rattle.std.proofs.Common.{◌≡◌, ℕ, ◌+◌, ◌-◌, ◌*◌, ◌<◌, ◌≤◌, true, false, List, [], ◌∷◌, length, map, slice_index_or, sym, ap, ◌∙◌, arith}
use Rattle.std.proofs.Math.ListN.{get_or-map}
use Rattle.table_seats.specs.Seats.{Numbers, own_entries}
use Rattle.aio_model.specs.declared.coroutines.causes.Cause.TheVariants.{Wake, Move}
use Rattle.aio_model.specs.Coroutines.History.{History, seat_of}
use Rattle.co_state.specs.Wants.{Wants}
use Rattle.co_state.specs.declared.co.CoStep.{CoStep}
use Rattle.co_schedule.specs.Known.{Known, numbers_of}
use Rattle.co_schedule.specs.Calls.{SeatState}
use Rattle.loop_rows.specs.declared.opening.Homes.{Homes}
use Rattle.loop_rows.specs.declared.rows.Row.{Row}
use Rattle.loop_rows.specs.declared.seats.Seats.{Seats}
use Rattle.loop_rows.specs.declared.shared.LoopShared.{LoopShared}
use Rattle.loop_rows.specs.Posts.{Posts, FindsMarked}
use Rattle.loop_rows.specs.Rows.{IsRow, HasNumbers}
use Rattle.loop_rows.specs.Stepping.{CoroutinesStay}
use Rattle.co_loop.specs.declared.working.CoWork.{CoWork}
use Rattle.co_loop.specs.Quits.{SetsEnd}
use Rattle.co_loop.specs.Working.{CanWork, Works}
use Rattle.co_loop.proofs.SeatSteps.{turn_keeps}
use Rattle.loop_threads.specs.declared.ending.LoopRun.{LoopRun}
use Rattle.loop_threads.specs.declared.hands.Hand.{Hand}
use Rattle.loop_threads.specs.declared.parts.Part.{Part}
use Rattle.loop_threads.specs.Dealing.{SeesAs}
use Rattle.loop_threads.specs.Parts.{TakesTurns, loop_of}
use Rattle.loop_threads.specs.Running.{Runs}
use Rattle.aio_run.specs.Posting.{all_numbers, begun_on, HaveBegun, HaveBegunAlone, AllHaveOwn}
use Rattle.aio_run.specs.Runs.{AreRun}
use Rattle.aio_run.specs.Serving.{begins_of, beginning_on, entries_for, AreEntered}
use Rattle.aio_run.proofs.Begun.{at_place}
use Rattle.aio_run.proofs.BegunOnce.{first_numbers, pair_numbers, begun_once}
use Rattle.aio_run.proofs.Entering.{all_entered}

-- who was scheduled to begin by a seat
abbrev begun_by : {C O : Type 0} → Seats C O → List ℕ
begun_by s = begins_of s.coroutines.known.mine

-- no step of a loop's thread schedules anybody to begin
module _ {C O : Type 0} where
  woken : (co : ℕ) (b a : Seats C O) → Posts co Wake false b a → begun_by a ≡ begun_by b
  woken co b a is = ap begins_of is.scheduled.stands.stands.mine_grows

  moved : (co : ℕ) (b a : Seats C O) → Posts co Move true b a → begun_by a ≡ begun_by b
  moved co b a is = ap begins_of is.scheduled.stands.stands.mine_grows

  marked : (co mark : ℕ) (b a : Seats C O) → FindsMarked co mark b a → begun_by a ≡ begun_by b
  marked co mark b a is = ap (λ (k : Known). begins_of k.mine) is.looks.rest

  ended : (b a : Seats C O) → SetsEnd b a → begun_by a ≡ begun_by b
  ended b a is = ap (λ (s : SeatState O). begins_of s.known.mine) is.same

numbers_are : (known : Known) (first count : ℕ) → known.first ≡ first → known.count ≡ count → numbers_of known ≡ record { first = first; count = count }
numbers_are known first count e f = λ i. record { first = e i; count = f i }

-- what the row of all numbers posted is all that there is, also once events were set
pub begun_alone : {C O : Type 0} (shared : List (LoopShared C O)) (row : Row C O) (after : List (Seats C O)) (many : ℕ) (homes : List ℕ) → IsRow shared row → HasNumbers 0 64 row → HaveBegun many homes (length shared) row.seats.items → AllHaveOwn (length shared) row.seats.items → CoroutinesStay row.seats.items after → HaveBegunAlone many homes (length shared) after
begun_alone {C} {O} shared row after many homes is has begun own stay t s low =
    let seat = slice_index_or row.seats.items t s in
    let at = is.each t (at_place shared t low) s low in
    let numbers = numbers_are seat.coroutines.known 0 64 (at.co_first_is ∙ has.first_is) (at.co_count_is ∙ has.count_is) in
    ap (λ (x : SeatState O). own_entries seat_of all_numbers x.known.seen) (stay t s)
    ∙ sym (own t s low ∙ ap (λ (n : Numbers). own_entries seat_of n seat.coroutines.known.seen) numbers)
    ∙ begun t s low

module _ {C O : Type 0} where
  -- what a seat of these numbers made of what a whole one had seen
  pub sees_own : (whole part : Seats C O) (first count : ℕ) → part.coroutines.known.first ≡ first → part.coroutines.known.count ≡ count → SeesAs whole part → part.coroutines.known.mine ≡ own_entries seat_of (record { first = first; count = count }) whole.coroutines.known.seen
  sees_own whole part first count e f sees =
      sees.own.co_own ∙ ap (own_entries seat_of (numbers_of part.coroutines.known)) sees.same.co_seen ∙ ap (λ (n : Numbers). own_entries seat_of n whole.coroutines.known.seen) (numbers_are part.coroutines.known first count e f)

  pub stands_own : (part : Seats C O) (history : History) (first count : ℕ) → part.coroutines.known.first ≡ first → part.coroutines.known.count ≡ count → own_entries seat_of (numbers_of part.coroutines.known) history ≡ part.coroutines.known.mine → own_entries seat_of (record { first = first; count = count }) history ≡ part.coroutines.known.mine
  stands_own part history first count e f made =
      ap (λ (n : Numbers). own_entries seat_of n history) (sym (numbers_are part.coroutines.known first count e f)) ∙ made

module _ {C K O : Type 0} (E R : Type 0) (is_of : ℕ → C → O → Type 0) (resumes : C → O → Wants → CoStep → C → Type 0) (time : K → ℕ) (shared : List (LoopShared C O)) where
  turns_keep : (turns : List (Part C (CoWork C K O) O)) (before after : Part C (CoWork C K O) O) → TakesTurns (CanWork is_of) (Works E R is_of resumes time) shared turns before after → map begun_by after.row.seats.items ≡ map begun_by before.row.seats.items
  turns_keep [] before after same = ap (λ (p : Part C (CoWork C K O) O). map begun_by p.row.seats.items) same
  turns_keep (mid ∷ older) before after takes =
      turn_keeps begun_by woken moved marked ended is_of resumes time shared mid.work (loop_of mid) after.carried after.work (loop_of after) takes.1.did ∙ turns_keep older before mid takes.0

  none_more : (turns : List (Part C (CoWork C K O) O)) (before after : Part C (CoWork C K O) O) → TakesTurns (CanWork is_of) (Works E R is_of resumes time) shared turns before after → (k : ℕ) (s : Seats C O) → begun_by (slice_index_or after.row.seats.items k s) ≡ begun_by (slice_index_or before.row.seats.items k s)
  none_more turns before after takes k s =
      sym (get_or-map begun_by after.row.seats.items k s) ∙ ap (λ (l : List (List ℕ)). slice_index_or l k (begun_by s)) (turns_keep turns before after takes) ∙ get_or-map begun_by before.row.seats.items k s

  module _ (homes : List (Homes C O)) (hands : List (Hand (CoWork C K O))) (row : Row C O) (ends : List (LoopRun C (CoWork C K O) O)) (are : AreRun (CanWork is_of) (Works E R is_of resumes time) shared homes hands row ends) (some : 0 < length shared) (few : length shared ≤ 16) where
    -- the part of the loop at this place, when its run began, and how it was carried
    pub part_default : (p : ℕ) → p < length shared → Part C (CoWork C K O) O
    part_default p lt =
        at_place are.carried.parts (length shared - p - 1) (omega (arith, lt, are.carried.many))

    abbrev pub first_part : (p : ℕ) → p < length shared → Part C (CoWork C K O) O
    first_part p lt =
        slice_index_or are.carried.parts (length shared - p - 1) (part_default p lt)

    pub runs_part : (p : ℕ) (lt : p < length shared) → Runs (CanWork is_of) (Works E R is_of resumes time) shared are.joined.row (first_part p lt) (slice_index_or are.joined.members.items p (at_place are.joined.members.items p (omega (arith, lt, are.members))))
    runs_part p lt =
        are.carried.runs p (length shared - p - 1) (part_default p lt) (at_place are.joined.members.items p (omega (arith, lt, are.members))) (omega (arith, lt))

    -- the loop at this place, once it was ended
    module _ (k : ℕ) (r : LoopRun C (CoWork C K O) O) (low : k < length shared) (w : Seats C O) where
      t : LoopShared C O
      t = at_place shared k low

      s : Seats C O
      s = at_place are.joined.row.seats.items k (omega (arith, low, are.is_row.long))

      abbrev history : History
      history = (slice_index_or ends k r).coroutines.history

      abbrev seen : History
      seen = (slice_index_or row.seats.items k w).coroutines.known.seen

      pub by_caller : own_entries seat_of (first_numbers (64 - 2 * length shared)) history ≡ own_entries seat_of (first_numbers (64 - 2 * length shared)) seen
      by_caller =
          let m = at_place are.joined.members.items k (omega (arith, low, are.members)) in
          let over = are.ends k t m s r low in
          let mine = slice_index_or are.carried.mine.seats.items k w in
          let at = are.carried.mine_is.0.each k t w low in
          let first : mine.coroutines.known.first ≡ 0 = at.co_first_is ∙ are.carried.mine_is.1.first_is in
          let count : mine.coroutines.known.count ≡ 64 - 2 * length shared = at.co_count_is ∙ are.carried.mine_is.1.count_is in
          let stands = over.keeps mine are.carried.mine.first are.carried.mine.count at are.carried.mine_is.0.below (are.carried.mine_stands some k w s low) in
          stands_own mine history 0 (64 - 2 * length shared) first count stands.co_made ∙ sees_own (slice_index_or row.seats.items k w) mine 0 (64 - 2 * length shared) first count (are.carried.mine_sees k w w low)

      -- what the thread of a loop had made here when its run began
      pub made_first : (p : ℕ) (lt : p < length shared) → (slice_index_or (first_part p lt).row.seats.items k w).coroutines.known.mine ≡ own_entries seat_of (pair_numbers (64 - 2 * length shared) p) seen
      made_first p lt =
          let j = length shared - p - 1 in
          let pd = part_default p lt in
          let number : (first_part p lt).number ≡ p = omega (arith, are.carried.reversed j pd (omega (arith, lt, are.carried.many)), lt, are.carried.many) in
          let was = are.carried.parts_are j pd (omega (arith, lt, are.carried.many)) in
          let before = slice_index_or (first_part p lt).row.seats.items k w in
          let was_at = was.station.row.each k t w low in
          let was_first : before.coroutines.known.first ≡ (64 - 2 * length shared) + 2 * p = omega (arith, was_at.co_first_is, was.numbers.first_is, number) in
          let was_count : before.coroutines.known.count ≡ 2 = omega (arith, was_at.co_count_is, was.numbers.count_is) in
          sees_own (slice_index_or row.seats.items k w) before ((64 - 2 * length shared) + 2 * p) 2 was_first was_count (are.carried.parts_see j pd (omega (arith, lt)) k w w low)

      -- what it has made in the whole history is what it had made at the end of its run
      pub made_last : (p : ℕ) (lt : p < length shared) → own_entries seat_of (pair_numbers (64 - 2 * length shared) p) history ≡ (slice_index_or (runs_part p lt).last.row.seats.items k w).coroutines.known.mine
      made_last p lt =
          let runs = runs_part p lt in
          let last = runs.last in
          let comes = runs.carried.comes in
          let number : (first_part p lt).number ≡ p = omega (arith, are.carried.reversed (length shared - p - 1) (part_default p lt) (omega (arith, lt, are.carried.many)), lt, are.carried.many) in
          let after = slice_index_or last.row.seats.items k w in
          let is_at = comes.part.station.row.each k t w low in
          let is_first : after.coroutines.known.first ≡ (64 - 2 * length shared) + 2 * p = omega (arith, is_at.co_first_is, comes.part.numbers.first_is, comes.number_is, number) in
          let is_count : after.coroutines.known.count ≡ 2 = omega (arith, is_at.co_count_is, comes.part.numbers.count_is) in
          let here = at_place are.joined.members.items k (omega (arith, low, are.members)) in
          let over = are.ends k t here s r low in
          let stands = over.keeps after last.row.first last.row.count is_at comes.part.station.row.below (runs.within k w s low) in
          stands_own after history ((64 - 2 * length shared) + 2 * p) 2 is_first is_count stands.co_made

      by_thread : (p : ℕ) → p < length shared → begins_of (own_entries seat_of (pair_numbers (64 - 2 * length shared) p) history) ≡ begins_of (own_entries seat_of (pair_numbers (64 - 2 * length shared) p) seen)
      by_thread p lt =
          let runs = runs_part p lt in
          ap begins_of (made_last p lt) ∙ none_more runs.carried.comes.turns (first_part p lt) runs.last runs.carried.comes.takes k w ∙ ap begins_of (made_first p lt)

    -- those that were posted to a loop before the run began there once, and nobody else did
    pub began_there : (many : ℕ) (homes_are : List ℕ) (k : ℕ) (r : LoopRun C (CoWork C K O) O) (low : k < length shared) (w : Seats C O) → own_entries seat_of all_numbers (slice_index_or row.seats.items k w).coroutines.known.seen ≡ begun_on many homes_are k → begins_of (slice_index_or ends k r).coroutines.history ≡ beginning_on many homes_are k
    began_there many homes_are k r low w is =
        let t = at_place shared k low in
        let s = at_place are.joined.row.seats.items k (omega (arith, low, are.is_row.long)) in
        let m = at_place are.joined.members.items k (omega (arith, low, are.members)) in
        begun_once (slice_index_or shared k t).coroutines.coroutines many (length shared) (64 - 2 * length shared) k homes_are (slice_index_or ends k r).coroutines.history (slice_index_or row.seats.items k w).coroutines.known.seen
        (omega (arith, few)) (omega (arith, few)) (are.ends k t m s r low).coroutines.whole.legal is (by_caller k r low w) (by_thread k r low w)

    pub entered_there : (k : ℕ) (r : LoopRun C (CoWork C K O) O) (low : k < length shared) (c : ℕ) → AreEntered (entries_for c (slice_index_or ends k r).coroutines.history)
    entered_there k r low c =
        let t = at_place shared k low in
        let s = at_place are.joined.row.seats.items k (omega (arith, low, are.is_row.long)) in
        let m = at_place are.joined.members.items k (omega (arith, low, are.members)) in
        let end = (are.ends k t m s r low).coroutines in
        all_entered (slice_index_or shared k t).coroutines.coroutines (slice_index_or ends k r).coroutines.history end.whole.legal end.nothing_left c
