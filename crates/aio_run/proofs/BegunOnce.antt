-- Who began on a loop: those that were posted there, and nobody else.
use Rattle.std.proofs.Common.{◌≡◌, ℕ, zero, suc, ◌+◌, ◌-◌, ◌*◌, ◌<◌, ◌≤◌, Bool, true, false, not, ◌&&◌, cond, eqb, ltb, List, [], ◌∷◌, slice_index, refl, sym, ap, ◌∙◌, arith}
use Rattle.std.proofs.lemmas.Bool.{cases_lt, cases_Bool, false≢true, and_from, not_from_false, lt-ltb, le-ltb}
use mathlib.Core.Logic.{⊎_elim}
use Rattle.table_seats.specs.Seats.{Numbers, owns, own_entries}
use Rattle.table_seats.proofs.Entries.{own-here, own-other}
use Rattle.aio_model.specs.declared.coroutines.causes.Cause.TheVariants.{Begin, Wake, Move}
use Rattle.aio_model.specs.Coroutines.History.{Entry, Schedule, Push, Enter, History, seat_of, IsLegal}
use Rattle.loop_threads.proofs.Holding.{fewer}
use Rattle.aio_run.specs.Posting.{all_numbers, begun_on}
use Rattle.aio_run.specs.Serving.{begins_of, beginning_on}

-- the numbers of the row that the caller keeps, and of the part of this number
abbrev pub first_numbers : ℕ → Numbers
first_numbers m = record { first = 0; count = m }

abbrev pub pair_numbers : ℕ → ℕ → Numbers
pair_numbers m p = record { first = m + 2 * p; count = 2 }

-- each number from some on is in a pair
pub pair_of : (x : ℕ) → (p : ℕ) × (2 * p ≤ x) × (x < 2 * p + 2)
pair_of zero = (0, omega arith, omega arith)
pair_of (suc zero) = (0, omega arith, omega arith)
pair_of (suc (suc x)) = let q = pair_of x in (suc q.0, omega (arith, q.1), omega (arith, q.2))

pub owned : (n : Numbers) (k : ℕ) → n.first ≤ k → k < n.first + n.count → owns n k ≡ true
owned n k from below =
    and_from _ _ (not_from_false _ (le-ltb k n.first from)) (lt-ltb k (n.first + n.count) below)

pub not_owned : (n : Numbers) (k : ℕ) → k < n.first → owns n k ≡ false
not_owned n k low = ap (λ (b : Bool). not b && ltb k (n.first + n.count)) (lt-ltb k n.first low)

not_nothing : (c : ℕ) (cs : List ℕ) → c ∷ cs ≡ [] → ⊥
not_nothing c cs e = cc

-- an entry by which nobody begins may be left out
skip : (e : Entry) → ((xs : History) → begins_of (e ∷ xs) ≡ begins_of xs) → (n : Numbers) (xs : History) → begins_of (own_entries seat_of n (e ∷ xs)) ≡ begins_of (own_entries seat_of n xs)
skip e none n xs = by (owns n (seat_of e))
  where
    by : (b : Bool) → begins_of (cond b (e ∷ own_entries seat_of n xs) (own_entries seat_of n xs)) ≡ begins_of (own_entries seat_of n xs)
    by true = none (own_entries seat_of n xs)
    by false = refl

-- where nobody begins by a pair's numbers, all begin by those in front of the pairs
only_first : (n c m : ℕ) → 64 ≡ m + 2 * n → (h : History) → IsLegal c h → ((p : ℕ) → p < n → begins_of (own_entries seat_of (pair_numbers m p) h) ≡ []) → begins_of h ≡ begins_of (own_entries seat_of (first_numbers m) h)
only_first n c m all [] legal none = refl
only_first n c m all (Schedule d Begin given seat ∷ older) legal none =
    ⊎_elim
    (λ (low : seat < m).
    ap (λ (l : List ℕ). d ∷ l) (only_first n c m all older legal.1 (λ p lt. sym (ap begins_of (own-other seat_of (pair_numbers m p) (Schedule d Begin given seat) older (not_owned (pair_numbers m p) seat (omega (arith, low))))) ∙ none p lt))
    ∙ sym (ap begins_of (own-here seat_of (first_numbers m) (Schedule d Begin given seat) older (owned (first_numbers m) seat (omega arith) (omega (arith, low))))))
    (λ (high : m ≤ seat).
    let q = pair_of (seat - m) in
    let lt : q.0 < n = omega (arith, q.1, all, high, legal.0.2) in
    let own : owns (pair_numbers m q.0) seat ≡ true = owned (pair_numbers m q.0) seat (omega (arith, q.1, high)) (omega (arith, q.2, high)) in
    absurd (not_nothing d (begins_of (own_entries seat_of (pair_numbers m q.0) older)) (sym (ap begins_of (own-here seat_of (pair_numbers m q.0) (Schedule d Begin given seat) older own)) ∙ none q.0 lt)))
    (cases_lt seat m)
only_first n c m all (Schedule d Wake given seat ∷ older) legal none =
    only_first n c m all older legal.1 (λ p lt. sym (skip (Schedule d Wake given seat) (λ xs. refl) (pair_numbers m p) older) ∙ none p lt) ∙ sym (skip (Schedule d Wake given seat) (λ xs. refl) (first_numbers m) older)
only_first n c m all (Schedule d Move given seat ∷ older) legal none =
    only_first n c m all older legal.1 (λ p lt. sym (skip (Schedule d Move given seat) (λ xs. refl) (pair_numbers m p) older) ∙ none p lt) ∙ sym (skip (Schedule d Move given seat) (λ xs. refl) (first_numbers m) older)
only_first n c m all (Push d seat ∷ older) legal none =
    only_first n c m all older legal.1 (λ p lt. sym (skip (Push d seat) (λ xs. refl) (pair_numbers m p) older) ∙ none p lt) ∙ sym (skip (Push d seat) (λ xs. refl) (first_numbers m) older)
only_first n c m all (Enter d ∷ older) legal none =
    only_first n c m all older legal.1 (λ p lt. sym (skip (Enter d) (λ xs. refl) (pair_numbers m p) older) ∙ none p lt) ∙ sym (skip (Enter d) (λ xs. refl) (first_numbers m) older)

-- what is owned by fewer numbers, of what is owned by more
pub own_twice : (n m : Numbers) → ((k : ℕ) → owns n k ≡ true → owns m k ≡ true) → (xs : History) → own_entries seat_of n (own_entries seat_of m xs) ≡ own_entries seat_of n xs
own_twice n m sub [] = refl
own_twice n m sub (e ∷ xs) = by (own_twice n m sub xs) (owns m (seat_of e)) refl
  where
    by : own_entries seat_of n (own_entries seat_of m xs) ≡ own_entries seat_of n xs → (b : Bool) → owns m (seat_of e) ≡ b → own_entries seat_of n (cond b (e ∷ own_entries seat_of m xs) (own_entries seat_of m xs)) ≡ own_entries seat_of n (e ∷ xs)
    by more true is = ap (λ (l : History). cond (owns n (seat_of e)) (e ∷ l) l) more
    by more false is = more ∙ sym (own-other seat_of n e xs (⊎_elim (λ (yes : owns n (seat_of e) ≡ true). absurd (false≢true (sym is ∙ sub (seat_of e) yes))) (λ (no : owns n (seat_of e) ≡ false). no) (cases_Bool (owns n (seat_of e)))))

module _ (homes : List ℕ) (loop : ℕ) (n : Numbers) where
  pub begun_kept : (many : ℕ) → owns n 0 ≡ true → own_entries seat_of n (begun_on many homes loop) ≡ begun_on many homes loop
  begun_kept zero own = refl
  begun_kept (suc k) own = by (eqb (slice_index homes k) loop) (begun_kept k own)
    where
      by : (b : Bool) → own_entries seat_of n (begun_on k homes loop) ≡ begun_on k homes loop → own_entries seat_of n (cond b (Push k 0 ∷ Schedule k Begin true 0 ∷ begun_on k homes loop) (begun_on k homes loop)) ≡ cond b (Push k 0 ∷ Schedule k Begin true 0 ∷ begun_on k homes loop) (begun_on k homes loop)
      by true more = own-here seat_of n (Push k 0) (Schedule k Begin true 0 ∷ begun_on k homes loop) own ∙ ap (λ (l : History). Push k 0 ∷ l) (own-here seat_of n (Schedule k Begin true 0) (begun_on k homes loop) own ∙ ap (λ (l : History). Schedule k Begin true 0 ∷ l) more)
      by false more = more

  pub begun_none : (many : ℕ) → owns n 0 ≡ false → own_entries seat_of n (begun_on many homes loop) ≡ []
  begun_none zero other = refl
  begun_none (suc k) other = by (eqb (slice_index homes k) loop) (begun_none k other)
    where
      by : (b : Bool) → own_entries seat_of n (begun_on k homes loop) ≡ [] → own_entries seat_of n (cond b (Push k 0 ∷ Schedule k Begin true 0 ∷ begun_on k homes loop) (begun_on k homes loop)) ≡ []
      by true more = own-other seat_of n (Push k 0) (Schedule k Begin true 0 ∷ begun_on k homes loop) other ∙ own-other seat_of n (Schedule k Begin true 0) (begun_on k homes loop) other ∙ more
      by false more = more

begins_begun : (homes : List ℕ) (loop many : ℕ) → begins_of (begun_on many homes loop) ≡ beginning_on many homes loop
begins_begun homes loop zero = refl
begins_begun homes loop (suc k) = by (eqb (slice_index homes k) loop) (begins_begun homes loop k)
  where
    by : (b : Bool) → begins_of (begun_on k homes loop) ≡ beginning_on k homes loop → begins_of (cond b (Push k 0 ∷ Schedule k Begin true 0 ∷ begun_on k homes loop) (begun_on k homes loop)) ≡ cond b (k ∷ beginning_on k homes loop) (beginning_on k homes loop)
    by true more = ap (λ (l : List ℕ). k ∷ l) more
    by false more = more

-- In the history the caller's numbers made what they had when the run began, and nobody began by any other.
pub begun_once : (c many n m loop : ℕ) (homes : List ℕ) (h seen : History) → 64 ≡ m + 2 * n → 0 < m → IsLegal c h → own_entries seat_of all_numbers seen ≡ begun_on many homes loop → own_entries seat_of (first_numbers m) h ≡ own_entries seat_of (first_numbers m) seen
    → ((p : ℕ) → p < n → begins_of (own_entries seat_of (pair_numbers m p) h) ≡ begins_of (own_entries seat_of (pair_numbers m p) seen)) → begins_of h ≡ beginning_on many homes loop
begun_once c many n m loop homes h seen all some legal is firsts pairs =
    only_first n c m all h legal
    (λ p lt.
    pairs p lt
    ∙ ap begins_of (sym (own_twice (pair_numbers m p) all_numbers (fewer (pair_numbers m p) all_numbers (omega arith) (omega (arith, all, lt))) seen) ∙ ap (own_entries seat_of (pair_numbers m p)) is ∙ begun_none homes loop (pair_numbers m p) many (not_owned (pair_numbers m p) 0 (omega (arith, some)))))
    ∙ ap begins_of (firsts ∙ sym (own_twice (first_numbers m) all_numbers (fewer (first_numbers m) all_numbers (omega arith) (omega (arith, all))) seen) ∙ ap (own_entries seat_of (first_numbers m)) is ∙ begun_kept homes loop (first_numbers m) many (owned (first_numbers m) 0 (omega arith) (omega (arith, some))))
    ∙ begins_begun homes loop many
