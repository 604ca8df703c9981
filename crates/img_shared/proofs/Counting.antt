-- The journal stays counted, and has room, as an entry is made.
use Rattle.std.proofs.Common.{◌≡◌, ◌≢◌, ◌==◌, ℕ, suc, ◌+◌, ◌<◌, ◌≤◌, inl, inr, false, cond, sum, List, [], ◌∷◌, ◌++◌, length, set, slice_index, EachIndex, sym, subst, ◌∙◌, arith, rules, get_or-set_same, get_or-set_other}
use Rattle.std.proofs.lemmas.Bool.{cases_eq, ne_eqb}
use Rattle.std.proofs.lemmas.Grind.{common_steps}
use Rattle.std.proofs.lemmas.List.{length-set, length_push}
use Rattle.std.proofs.lemmas.List.Sums.{sum_by-cons, sum_by-set, sum_by_push}
use Rattle.img_shared.specs.declared.journal.Entry.{Entry}
use Rattle.std.specs.declared.snapshot.Snapshot.{Snapshot}
use Rattle.img_requests.specs.declared.journal.Mark.{Mark}
use Rattle.img_shared.specs.Journals.{noted_count, entry_next, IsCounted}

-- one entry more of the stream
pub noted_count-next : {D : Type 0} → (journal : List (Entry D)) (stream : ℕ) (mark : Mark) (b a : Snapshot (Snapshot D))
    → noted_count stream (journal ++ entry_next stream journal mark b a ∷ []) ≡ noted_count stream journal + 1
noted_count-next journal stream mark b a = search (rules, common_steps)

-- and none more of another
pub noted_count-other : {D : Type 0} → (journal : List (Entry D)) (stream other : ℕ) (mark : Mark) (b a : Snapshot (Snapshot D)) → stream ≢ other
    → noted_count other (journal ++ entry_next stream journal mark b a ∷ []) ≡ noted_count other journal
noted_count-other journal stream other mark b a ne =
    let differ : (stream == other) ≡ false = ne_eqb stream other ne in
    sum_by_push (λ entry. cond (entry.stream == other) 1 0) journal (entry_next stream journal mark b a)
    ∙ rw differ (omega arith)

-- where each number is at most the one at its place, the sum is at most the sum
sum-le : (xs ys : List ℕ) → length xs ≡ length ys → EachIndex xs (λ i. slice_index xs i ≤ slice_index ys i) → sum xs ≤ sum ys
sum-le [] ys same each = omega arith
sum-le (x ∷ xs) [] same each = cc
sum-le (x ∷ xs) (y ∷ ys) same each =
    let first : x ≤ y = each 0 (omega arith) in
    let rest : sum xs ≤ sum ys = sum-le xs ys (omega arith) (λ i below. each (suc i) (omega arith)) in
    omega (arith, sum_by-cons (λ n. n) x xs, sum_by-cons (λ n. n) y ys, first, rest)

-- the journal has no more entries than there are requests
pub IsCounted-placed : {D : Type 0} {requests replied : List ℕ} {capacity : ℕ} {entries : List (Entry D)} → IsCounted requests replied capacity entries
    → length entries ≤ sum requests
IsCounted-placed {D} {requests} {replied} counted = omega (arith, sum-le replied requests counted.streams counted.within, counted.whole)

-- what holds of each index of a list, after one number of it has changed
EachIndex-set : (P : ℕ → Type 0) (xs : List ℕ) (k n : ℕ) → P k
    → ((i : ℕ) → i < length xs → i ≢ k → P i)
    → EachIndex (set xs k n) P
EachIndex-set P xs k n at_k others i below =
    elim (cases_eq i k) [
      | inl e ↦ subst P (sym e) at_k
      | inr ne ↦ others i (omega (arith, below, length-set xs k n)) ne
    ]

-- the counts, with one request more of the stream
abbrev pub one_more : List ℕ → ℕ → List ℕ
one_more replied stream = set replied stream (slice_index replied stream + 1)

module _ {D : Type 0} {requests replied : List ℕ} {capacity : ℕ} {entries : List (Entry D)}
    (counted : IsCounted requests replied capacity entries)
    (stream : ℕ) (known : stream < length requests) (due : noted_count stream entries < slice_index requests stream) where
  found : stream < length replied
  found = omega (arith, counted.streams, known)

  -- the count of the stream is the next entry's index
  pub IsCounted-index : slice_index replied stream ≡ noted_count stream entries
  IsCounted-index = counted.counts stream found

  written : slice_index (one_more replied stream) stream ≡ slice_index replied stream + 1
  written = get_or-set_same replied stream (slice_index replied stream + 1) 0 found

  within_more : EachIndex (one_more replied stream) (λ i. slice_index (one_more replied stream) i ≤ slice_index requests i)
  within_more =
      EachIndex-set (λ i. slice_index (one_more replied stream) i ≤ slice_index requests i) replied stream (slice_index replied stream + 1)
      (omega (arith, written, IsCounted-index, due))
      (λ i below ne.
      subst (λ n. n ≤ slice_index requests i) (sym (get_or-set_other replied stream i (slice_index replied stream + 1) 0 ne))
      (counted.within i below))

  long : length (one_more replied stream) ≡ length requests
  long = omega (arith, length-set replied stream (slice_index replied stream + 1), counted.streams)

  sum_more : sum (one_more replied stream) ≡ sum replied + 1
  sum_more = omega (arith, sum_by-set (λ n. n) replied stream (slice_index replied stream + 1) 0 found)

  -- the journal has room for the request, as its stream has fewer entries than requests
  pub IsCounted-room : length entries < sum requests
  IsCounted-room = omega (arith, sum-le (one_more replied stream) requests long within_more, sum_more, counted.whole)

  pub IsCounted-noted : (mark : Mark) (b a : Snapshot (Snapshot D))
      → IsCounted requests (one_more replied stream) capacity (entries ++ entry_next stream entries mark b a ∷ [])
  IsCounted-noted mark b a = record {
    few = counted.few;
    room = counted.room;
    streams = long;
    counts = EachIndex-set (λ i. slice_index (one_more replied stream) i ≡ noted_count i (entries ++ entry_next stream entries mark b a ∷ []))
        replied stream (slice_index replied stream + 1)
        (omega (arith, written, IsCounted-index, noted_count-next entries stream mark b a))
        (λ i below ne.
        get_or-set_other replied stream i (slice_index replied stream + 1) 0 ne
        ∙ counted.counts i below
        ∙ sym (noted_count-other entries stream i mark b a (λ e. ne (sym e))));
    within = within_more;
    whole = omega (arith, length_push entries (entry_next stream entries mark b a), sum_more, counted.whole);
  }

  -- the same, in the words of what is written and pushed
  pub IsCounted-pushed : (index places : ℕ) (pushed : List (Entry D)) (mark : Mark) (b a : Snapshot (Snapshot D))
      → index ≡ slice_index replied stream
      → places ≡ capacity
      → pushed ≡ entries ++ record { stream = stream; index = index; mark = mark; before = b; after = a } ∷ []
      → IsCounted requests (set replied stream (index + 1)) places pushed
  IsCounted-pushed index places pushed mark b a read kept push =
      let by_count : IsCounted requests (one_more replied stream) capacity
      (entries ++ record { stream = stream; index = slice_index replied stream; mark = mark; before = b; after = a } ∷ []) =
      subst (λ n. IsCounted requests (one_more replied stream) capacity (entries ++ record { stream = stream; index = n; mark = mark; before = b; after = a } ∷ []))
      (sym IsCounted-index) (IsCounted-noted mark b a) in
      let by_index : IsCounted requests (set replied stream (index + 1)) capacity
      (entries ++ record { stream = stream; index = index; mark = mark; before = b; after = a } ∷ []) =
      subst (λ n. IsCounted requests (set replied stream (n + 1)) capacity (entries ++ record { stream = stream; index = n; mark = mark; before = b; after = a } ∷ []))
      (sym read) by_count in
      subst (λ n. IsCounted requests (set replied stream (index + 1)) n pushed) (sym kept)
      (subst (λ more. IsCounted requests (set replied stream (index + 1)) capacity more) (sym push) by_index)
