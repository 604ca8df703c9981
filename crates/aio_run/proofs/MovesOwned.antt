-- Who moved to a loop: those that were sent there by the threads of the loops, and nobody else.
use Rattle.std.proofs.Common.{◌≡◌, ℕ, zero, suc, ◌+◌, ◌-◌, ◌*◌, ◌<◌, ◌≤◌, Bool, true, false, cond, eqb, List, [], ◌∷◌, slice_index, sym, ap, ◌∙◌, subst, arith}
use Rattle.std.proofs.lemmas.Bool.{cases_lt}
use Rattle.std.specs.List.{AllByRecursion}
use mathlib.Core.Logic.{⊎_elim}
use Rattle.table_seats.specs.Seats.{Numbers, owns, own_entries}
use Rattle.table_seats.proofs.Entries.{own-here}
use Rattle.aio_model.specs.declared.coroutines.causes.Cause.TheVariants.{Begin, Wake, Move}
use Rattle.aio_model.specs.Coroutines.History.{Entry, Schedule, Push, Enter, History, seat_of, IsLegal}
use Rattle.loop_threads.proofs.Holding.{fewer}
use Rattle.aio_run.specs.Posting.{all_numbers, begun_on}
use Rattle.aio_run.specs.Serving.{moves_of}
use Rattle.aio_run.proofs.BegunOnce.{first_numbers, pair_numbers, pair_of, owned, not_owned, own_twice, begun_none, begun_kept}

-- each that moved has this
abbrev pub AllMove : (ℕ → Type 0) → History → Type 0
AllMove P h = AllByRecursion P (moves_of h)

module _ (P : ℕ → Type 0) where
  -- an entry that may be left out, as far as moves go
  less : (n : Numbers) (e : Entry) → ((xs : History) → AllMove P (e ∷ xs) → AllMove P xs) → (xs : History) → AllMove P (own_entries seat_of n (e ∷ xs)) → AllMove P (own_entries seat_of n xs)
  less n e drops xs all = by (owns n (seat_of e)) all
    where
      by : (b : Bool) → AllMove P (cond b (e ∷ own_entries seat_of n xs) (own_entries seat_of n xs)) → AllMove P (own_entries seat_of n xs)
      by true is = drops (own_entries seat_of n xs) is
      by false is = is

  -- it holds of all that moved, if it holds of those that moved by the numbers in front of the pairs, and by each pair
  moved_only : (n c m : ℕ) → 64 ≡ m + 2 * n → (h : History) → IsLegal c h → AllMove P (own_entries seat_of (first_numbers m) h) → ((p : ℕ) → p < n → AllMove P (own_entries seat_of (pair_numbers m p) h)) → AllMove P h
  moved_only n c m all [] legal firsts pairs = tt
  moved_only n c m all (Schedule d Begin given seat ∷ older) legal firsts pairs =
      moved_only n c m all older legal.1 (less (first_numbers m) (Schedule d Begin given seat) (λ xs is. is) older firsts) (λ p lt. less (pair_numbers m p) (Schedule d Begin given seat) (λ xs is. is) older (pairs p lt))
  moved_only n c m all (Schedule d Wake given seat ∷ older) legal firsts pairs =
      moved_only n c m all older legal.1 (less (first_numbers m) (Schedule d Wake given seat) (λ xs is. is) older firsts) (λ p lt. less (pair_numbers m p) (Schedule d Wake given seat) (λ xs is. is) older (pairs p lt))
  moved_only n c m all (Schedule d Move given seat ∷ older) legal firsts pairs =
      let rest : AllMove P older = moved_only n c m all older legal.1 (less (first_numbers m) (Schedule d Move given seat) (λ xs is. is.1) older firsts) (λ p lt. less (pair_numbers m p) (Schedule d Move given seat) (λ xs is. is.1) older (pairs p lt)) in
      ⊎_elim
      (λ (low : seat < m).
      ((subst (AllMove P) (own-here seat_of (first_numbers m) (Schedule d Move given seat) older (owned (first_numbers m) seat (omega arith) (omega (arith, low)))) firsts).0, rest))
      (λ (high : m ≤ seat).
      let q = pair_of (seat - m) in
      let lt : q.0 < n = omega (arith, q.1, all, high, legal.0.2) in
      let own : owns (pair_numbers m q.0) seat ≡ true = owned (pair_numbers m q.0) seat (omega (arith, q.1, high)) (omega (arith, q.2, high)) in
      ((subst (AllMove P) (own-here seat_of (pair_numbers m q.0) (Schedule d Move given seat) older own) (pairs q.0 lt)).0, rest))
      (cases_lt seat m)
  moved_only n c m all (Push d seat ∷ older) legal firsts pairs =
      moved_only n c m all older legal.1 (less (first_numbers m) (Push d seat) (λ xs is. is) older firsts) (λ p lt. less (pair_numbers m p) (Push d seat) (λ xs is. is) older (pairs p lt))
  moved_only n c m all (Enter d ∷ older) legal firsts pairs =
      moved_only n c m all older legal.1 (less (first_numbers m) (Enter d) (λ xs is. is) older firsts) (λ p lt. less (pair_numbers m p) (Enter d) (λ xs is. is) older (pairs p lt))

  -- nobody moved by what was posted before the run
  none_moved : (homes : List ℕ) (loop many : ℕ) → AllMove P (begun_on many homes loop)
  none_moved homes loop zero = tt
  none_moved homes loop (suc k) = by (eqb (slice_index homes k) loop) (none_moved homes loop k)
    where
      by : (b : Bool) → AllMove P (begun_on k homes loop) → AllMove P (cond b (Push k 0 ∷ Schedule k Begin true 0 ∷ begun_on k homes loop) (begun_on k homes loop))
      by true more = more
      by false more = more

  -- In the history the caller's numbers made what they had when the run began.
  pub all_moved : (c many n m loop : ℕ) (homes : List ℕ) (h seen : History) → 64 ≡ m + 2 * n → 0 < m → IsLegal c h → own_entries seat_of all_numbers seen ≡ begun_on many homes loop → own_entries seat_of (first_numbers m) h ≡ own_entries seat_of (first_numbers m) seen
      → ((p : ℕ) → p < n → AllMove P (own_entries seat_of (pair_numbers m p) h)) → AllMove P h
  all_moved c many n m loop homes h seen all some legal is firsts pairs =
      moved_only n c m all h legal
      (subst (AllMove P)
      (sym (firsts ∙ sym (own_twice (first_numbers m) all_numbers (fewer (first_numbers m) all_numbers (omega arith) (omega (arith, all))) seen) ∙ ap (own_entries seat_of (first_numbers m)) is ∙ begun_kept homes loop (first_numbers m) many (owned (first_numbers m) 0 (omega arith) (omega (arith, some)))))
      (none_moved homes loop many))
      pairs

-- nothing that was posted before the run is a pair's
pub none_by_pair : (homes : List ℕ) (loop many n m p : ℕ) (seen : History) → 64 ≡ m + 2 * n → 0 < m → p < n → own_entries seat_of all_numbers seen ≡ begun_on many homes loop → own_entries seat_of (pair_numbers m p) seen ≡ []
none_by_pair homes loop many n m p seen all some lt is =
    sym (own_twice (pair_numbers m p) all_numbers (fewer (pair_numbers m p) all_numbers (omega arith) (omega (arith, all, lt))) seen)
    ∙ ap (own_entries seat_of (pair_numbers m p)) is
    ∙ begun_none homes loop (pair_numbers m p) many (not_owned (pair_numbers m p) 0 (omega (arith, some)))
