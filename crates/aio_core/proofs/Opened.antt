-- What is known of a table and of a seat inside a call, and what a seat has to meet when the call gives it back.
use Rattle.std.proofs.Common.{◌≡◌, ℕ, ◌+◌, ◌<◌, ◌≤◌, true, [], sym, ap, ◌∙◌, subst, arith}
use Rattle.atomic_table.specs.Table.{Me}
use Rattle.atomic_table.specs.Seated.{TableId}
use Rattle.aio_model.specs.Loop.History.{Sizes}
use Rattle.aio_core.specs.Words.{event_at, flags_at, next_at, index_count, word_count}
use Rattle.aio_model.specs.Loop.Seats.{owns, home}
use Rattle.aio_core.specs.Known.{Known, numbers_of}
use Rattle.aio_core.specs.Calls.{TableState, SeatState, IsSeatOf}
use Rattle.table_seats.proofs.Entries.{owns_first}

abbrev pub seat_state : TableId → Known → SeatState
seat_state table known = record { table = table; known = known }

abbrev pub table_state : TableId → Sizes → TableState
table_state table sizes = record { table = table; sizes = sizes }

-- seat and table are of one table
pub same_table : (seat table : TableId) (known : Known) (sizes : Sizes) (s : SeatState) (t : TableState) → seat_state seat known ≡ s → table_state table sizes ≡ t → IsSeatOf t s → seat ≡ table
same_table seat table known sizes s t is_s is_t of =
    ap (λ (x : SeatState). x.table) is_s ∙ of.tables ∙ sym (ap (λ (x : TableState). x.table) is_t)

pub same_sizes : (seat table : TableId) (known : Known) (sizes : Sizes) (s : SeatState) (t : TableState) → seat_state seat known ≡ s → table_state table sizes ≡ t → IsSeatOf t s → known.sizes ≡ sizes
same_sizes seat table known sizes s t is_s is_t of =
    ap (λ (x : SeatState). x.known.sizes) is_s ∙ of.sizes ∙ sym (ap (λ (x : TableState). x.sizes) is_t)

-- the seat is still of the table
pub seat_still : (seat after : TableId) (known new : Known) (s : SeatState) (t : TableState) → seat_state seat known ≡ s → IsSeatOf t s → after ≡ seat → new.sizes ≡ known.sizes → IsSeatOf t (seat_state after new)
seat_still seat after known new s t is_s of tables sizes =
    record {
      tables = tables ∙ ap (λ (x : SeatState). x.table) is_s ∙ of.tables;
      sizes = sizes ∙ ap (λ (x : SeatState). x.known.sizes) is_s ∙ of.sizes;
    }

-- what a seat keeps inside
abbrev pub IsHeld : {S : Type 0} → Me S Known → ℕ → ℕ → Type 0
IsHeld me first count =
    (me.1 ≡ []) × (first ≡ me.0.first) × (count ≡ me.0.count) × (0 < count) × (first + count ≤ 65)

pub held_still : {S : Type 0} (me new : Me S Known) (first count : ℕ) → IsHeld me first count → new.1 ≡ me.1 → new.0.first ≡ me.0.first → new.0.count ≡ me.0.count → IsHeld new first count
held_still me new first count held slots firsts counts =
    (slots ∙ held.0, held.1 ∙ sym firsts, held.2 ∙ sym counts, held.3, held.4)

pub held_numbers : {S : Type 0} (me : Me S Known) (first count : ℕ) → IsHeld me first count → 0 < me.0.count
held_numbers me first count held = let n = held.2 in let some_number = held.3 in omega arith

-- a handle's words are among the table's
pub flags_within : (words word bh : ℕ) (sizes : Sizes) → words ≡ word_count sizes → word ≡ flags_at bh → bh < index_count sizes → word < words
flags_within words word bh sizes counts is below = omega arith

pub next_within : (words word bh : ℕ) (sizes : Sizes) → words ≡ word_count sizes → word ≡ next_at bh → bh < index_count sizes → word < words
next_within words word bh sizes counts is below = omega arith

pub head_within : (words : ℕ) (sizes : Sizes) → words ≡ word_count sizes → 0 < words
head_within words sizes counts = omega arith

-- the home owns its number
pub home_owned : (v : Known) → v.first ≡ 64 → v.count ≡ 1 → owns (numbers_of v) home ≡ true
home_owned v first count =
    subst (λ k. owns (numbers_of v) k ≡ true) first (owns_first (numbers_of v) (omega arith))

pub home_opened : (table : TableId) (known : Known) (s : SeatState) → seat_state table known ≡ s → (s.known.first ≡ 64) × (s.known.count ≡ 1) → owns (numbers_of known) home ≡ true
home_opened table known s is number =
    home_owned known (ap (λ (x : SeatState). x.known.first) is ∙ number.0) (ap (λ (x : SeatState). x.known.count) is ∙ number.1)

pub word_within : (words k : ℕ) (sizes : Sizes) → words ≡ word_count sizes → k < 68 → k < words
word_within words k sizes counts low = omega arith

pub event_within : (words word event : ℕ) (sizes : Sizes) → words ≡ word_count sizes → word ≡ event_at event → event < 64 → word < words
event_within words word event sizes counts is low = omega arith
