-- A new table meets the rule, over a history with no entry.
use Rattle.std.proofs.Common.{Option, None, true, false, ◌+◌, map, replicate, ◌≡◌, ℕ, zero, suc, ◌<◌, ◌≤◌, List, [], ◌∷◌, length, slice_index, refl, arith}
use mathlib.Core.Option.{some}
use lib.ListN.{get_elem?}
use Rattle.aio_model.specs.Loop.Lists.{seat_of, job_of}
use Rattle.table_seats.specs.Seats.{owns, home}
use Rattle.table_seats.proofs.Opening.{each_alone, seats_alone}
use Rattle.aio_model.specs.Loop.History.{Sizes}
use Rattle.aio_core.specs.Words.{head_at, notified_at, notify_me_at, notifier_at, event_at, flags_at, index_count, word_count, flags_word}
use Rattle.aio_core.specs.Known.{first_known, part_of, numbers_of}
use Rattle.aio_core.specs.Opening.{AreFirst}
use Rattle.aio_core.specs.Rule.{IsOfTable, Owes, HasOut, HasSleep, Stands, IsFull, HasJob, SlotsStand}

-- the flags of the lots below this one are set
pub record WordsSoFar (sizes : Sizes) (lot : ℕ) (words : List ℕ) : Type 0 where
  pub long : length words ≡ word_count sizes
  pub head : slice_index words head_at ≡ 0
  pub notified : slice_index words notified_at ≡ 0
  pub notify_me : slice_index words notify_me_at ≡ 0
  pub notifier : slice_index words notifier_at ≡ 0
  pub events : (e : ℕ) → e < 64 → slice_index words (event_at e) ≡ 0
  pub before : (i : ℕ) → i < lot → i < index_count sizes → slice_index words (flags_at i) ≡ flags_word sizes i []
  pub behind : (i : ℕ) → lot ≤ i → i < index_count sizes → slice_index words (flags_at i) ≡ 0

pub opening_stands : (sizes : Sizes) (words : List ℕ) → AreFirst sizes words → Stands sizes [] words (first_known sizes ∷ [])
opening_stands sizes words first =
    let v = first_known sizes in
    record {
      long = first.long;
      legal = tt;
      seats = record {
        parts = seats_alone seat_of part_of v refl;
        tables = each_alone (IsOfTable sizes) v (record { sizes_are = λ _. refl; active = λ q. absurd cc });
      };
      flags = record { each = first.flags };
      events = first.events;
      sleep = record { notified = let n = first.notified in omega arith; notifier = let n = first.notifier in omega arith; pushers = λ i a. absurd cc; home = each_alone (HasSleep [] words (v ∷ [])) v (λ own. first.notify_me) };
      lists = record { stack = first.head; owed = each_alone (λ u. Owes sizes words [] u.first u.phase) v tt; out = each_alone (HasOut words []) v (λ own. (refl, tt)) };
    }

-- each slot has nothing at first
abbrev none_of : {J : Type 0} → Option J
none_of = None

none_at : {J : Type 0} (n m : ℕ) → m < n → get_elem? (map some (replicate n (none_of {J = J}))) m ≡ some (some None)
none_at zero m low = absurd (omega arith)
none_at (suc n) zero low = refl
none_at (suc n) (suc m) low = none_at n m (omega arith)

pub opening_slots : {J : Type 0} (number : J → ℕ) (sizes : Sizes) → SlotsStand number sizes [] (map some (replicate sizes.lots None)) (first_known sizes ∷ [])
opening_slots number sizes =
    record {
      vacant = λ m low dead. none_at sizes.lots m low;
      emptied = λ m low alive gone. absurd cc;
      full = each_alone (λ u. owns (numbers_of u) home ≡ true → (m : ℕ) → m < sizes.lots → IsFull [] (sizes.handles + m) → HasJob number (sizes.handles + m) u.stage (job_of (sizes.handles + m) []) (get_elem? (map some (replicate sizes.lots None)) m)) (first_known sizes) (λ own m low full. absurd (let no_one : false ≡ true = full.alive in cc));
    }
