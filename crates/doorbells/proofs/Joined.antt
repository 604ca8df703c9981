-- Two seats rang at once, and were joined.
use Rattle.std.proofs.Common.{◌≡◌, Option, None, Some, MatchOption, ℕ, ◌<◌, ◌+◌, ◌-◌, ◌++◌, sym, ap, ◌∙◌, subst, append_assoc, arith}
use Rattle.std.proofs.lemmas.List.{append_cancel_right}
use Rattle.table_seats.specs.Dividing.{front_numbers, back_numbers, half_as_many}
use Rattle.table_seats.proofs.Entries.{own-append}
use Rattle.aio_model.specs.declared.loops.flags.Flags.{Flags}
use Rattle.aio_model.specs.Loop.History.{ToCall, History}
use Rattle.aio_model.specs.Loop.Lists.{seat_of}
use Rattle.aio_model.specs.Loop.Seats.{Numbers, owns, own_entries}
use Rattle.aio_model.specs.Loop.Calls.{dequeue_times, stops}
use Rattle.aio_model.proofs.Awaiting.{dequeue_times-append, some_entry-parts}
use Rattle.aio_core.specs.Known.{Known, numbers_of}
use Rattle.aio_core.specs.Calls.{TableState, SeatState, IsSeatOf}
use Rattle.aio_core.specs.Splitting.{front_known, back_known}
use Rattle.aio_core.specs.Joining.{joined_known, told_of, IsJoined}
use Rattle.aio_bh.specs.Enqueuing.{enqueue_entries}
use Rattle.doorbells.specs.Rings.{Rings, RingsTwice, AwaitsUnless}
use Rattle.doorbells.specs.Answering.{Counted, AnswersDoorbells, IsAnsweredIfFound, RingsAndAnswers}
use Rattle.doorbells.proofs.Rang.{awaits_unless}

-- what a seat made since is all that stands there of its numbers
own_since : (numbers : Numbers) (since seen joined mine mine_before entries : History) → joined ≡ since ++ seen → own_entries numbers joined ≡ mine → mine ≡ entries ++ mine_before → mine_before ≡ own_entries numbers seen → own_entries numbers since ≡ entries
own_since numbers since seen joined mine mine_before entries is whole grows was =
    append_cancel_right (own_entries numbers since) entries (own_entries numbers seen)
    (sym (own-append seat_of numbers since seen) ∙ sym (ap (own_entries numbers) is) ∙ whole ∙ grows ∙ ap (λ l. entries ++ l) was)

numbers_are : (k : Known) (numbers : Numbers) → k.first ≡ numbers.first → k.count ≡ numbers.count → numbers_of k ≡ numbers
numbers_are k numbers first count =
    ap (λ n. record { first = n; count = k.count }) first ∙ ap (λ n. record { first = numbers.first; count = n }) count

both_halves : (count half : ℕ) → (count - half) + (count - (count - half)) ≡ count
both_halves count half = omega arith

pub rings_twice : (table : TableState) (low high : ℕ) (found_low found_high : Flags) (seat a0 b0 a1 b1 joined : SeatState) → low < table.sizes.handles → high < table.sizes.handles → a0.known ≡ front_known (seat.known.count - half_as_many seat.known.count) seat.known → b0.known ≡ back_known (seat.known.count - half_as_many seat.known.count) seat.known → Rings table low found_low a0 a1 → Rings table high found_high b0 b1 → IsSeatOf table joined → joined.known ≡ joined_known a1.known b1.known → IsJoined table.sizes (told_of a1.known b1.known) joined.known.seen → RingsTwice table low high found_low found_high seat joined
rings_twice table low high found_low found_high seat a0 b0 a1 b1 joined low_handle high_handle is_front is_back first second of both parts =
    let cut = seat.known.count - half_as_many seat.known.count in
    let front = front_numbers (numbers_of seat.known) cut in
    let back = back_numbers (numbers_of seat.known) cut in
    let s = first.stands.stands.stands in
    let t = second.stands.stands.stands in
    let since : History = parts.stayed.0 ++ s.rest in
    let seen : joined.known.seen ≡ since ++ seat.known.seen = parts.stayed.1 ∙ ap (λ l. parts.stayed.0 ++ l) (s.longer ∙ ap (λ (k : Known). s.rest ++ k.seen) is_front) ∙ sym (append_assoc parts.stayed.0 s.rest seat.known.seen) in
    let first_a : a0.known.first ≡ seat.known.first = ap (λ (k : Known). k.first) is_front in
    let first_b : b0.known.first ≡ seat.known.first + cut = ap (λ (k : Known). k.first) is_back in
    let numbers_a : numbers_of a1.known ≡ front = numbers_are a1.known front (first.back.first ∙ first_a) (first.back.count ∙ ap (λ (k : Known). k.count) is_front) in
    let numbers_b : numbers_of b1.known ≡ back = numbers_are b1.known back (second.back.first ∙ first_b) (second.back.count ∙ ap (λ (k : Known). k.count) is_back) in
    let low_made : own_entries front since ≡ enqueue_entries low ToCall seat.known.first found_low = own_since front since seat.known.seen joined.known.seen a1.known.mine a0.known.mine (enqueue_entries low ToCall seat.known.first found_low) seen (subst (λ n. own_entries n joined.known.seen ≡ a1.known.mine) numbers_a parts.made_by_staying) (s.mine_grows ∙ ap (λ n. enqueue_entries low ToCall n found_low ++ a0.known.mine) first_a) (ap (λ (k : Known). k.mine) is_front) in
    let high_made : own_entries back since ≡ enqueue_entries high ToCall (seat.known.first + cut) found_high = own_since back since seat.known.seen joined.known.seen b1.known.mine b0.known.mine (enqueue_entries high ToCall (seat.known.first + cut) found_high) seen (subst (λ n. own_entries n joined.known.seen ≡ b1.known.mine) numbers_b parts.made_by_joining) (t.mine_grows ∙ ap (λ n. enqueue_entries high ToCall n found_high ++ b0.known.mine) first_b) (ap (λ (k : Known). k.mine) is_back) in
    record {
      back = record {
        ready = record { of = of; rest = ap (λ (k : Known). k.phase) both ∙ first.back.ready.rest };
        first = ap (λ (k : Known). k.first) both ∙ first.back.first ∙ first_a;
        count = ap (λ (k : Known). k.count) both ∙ ap (λ n. n + b1.known.count) (first.back.count ∙ ap (λ (k : Known). k.count) is_front) ∙ ap (λ n. cut + n) (second.back.count ∙ ap (λ (k : Known). k.count) is_back) ∙ both_halves seat.known.count (half_as_many seat.known.count);
      };
      since = since;
      seen = seen;
      legal = parts.legal;
      by_low = low_made;
      by_high = high_made;
      low_awaits = awaits_unless table low seat.known.first found_low (owns front) since seat.known.seen joined.known.seen low_handle seen parts.legal low_made;
      high_awaits = awaits_unless table high (seat.known.first + cut) found_high (owns back) since seat.known.seen joined.known.seen high_handle seen parts.legal high_made;
    }

-- of one of the two, and a poll
found_once : (table : TableState) (bell : ℕ) (found : Flags) (since seen_before seen : History) (to : ℕ) (home_before home_after : History) (counted counted_after : Counted) → bell < table.sizes.handles → seen ≡ since ++ seen_before → AwaitsUnless bell found since seen → (polls : AnswersDoorbells table.sizes to home_before home_after counted counted_after) → IsAnsweredIfFound bell found since seen (polls.others ++ home_before) polls.later counted counted_after
found_once table bell found since seen_before seen to home_before home_after counted counted_after handle is awaits polls newer new taken none still still_later =
    let calm = some_entry-parts (stops bell) newer since still in
    let none_since : dequeue_times bell since ≡ 0 = omega (arith, none, dequeue_times-append bell newer since) in
    let none_newer : dequeue_times bell newer ≡ 0 = omega (arith, none, dequeue_times-append bell newer since) in
    polls.once bell newer seen handle taken (awaits new calm.1 none_since) none_newer calm.0 still_later

pub rings_and_answers : (table : TableState) (low high : ℕ) (found_low found_high : Flags) (to : ℕ) (before after : SeatState) (home_before home_after : History) (counted counted_after : Counted) → low < table.sizes.handles → high < table.sizes.handles → RingsTwice table low high found_low found_high before after → AnswersDoorbells table.sizes to home_before home_after counted counted_after → RingsAndAnswers table low high found_low found_high to before after home_before home_after counted counted_after
rings_and_answers table low high found_low found_high to before after home_before home_after counted counted_after low_handle high_handle rings polls = record {
  rings = rings;
  answers = polls;
  low_once = found_once table low found_low rings.since before.known.seen after.known.seen to home_before home_after counted counted_after low_handle rings.seen rings.low_awaits polls;
  high_once = found_once table high found_high rings.since before.known.seen after.known.seen to home_before home_after counted counted_after high_handle rings.seen rings.high_awaits polls;
}

-- more is known of what is there
pub match_more : {X : Type 0} (o : Option X) (A : Type 0) (P Q : X → Type 0) → ((x : X) → P x → Q x) → MatchOption o A P → MatchOption o A Q
match_more None A P Q more h = h
match_more (Some x) A P Q more h = more x h
