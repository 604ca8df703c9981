-- The home's entries in what came between, and what others leave as it is.
use Rattle.std.proofs.Common.{◌≡◌, ℕ, ◌<◌, Bool, true, false, cond, eqb, [], ◌∷◌, ◌++◌, drop, refl, sym, ap, ◌∙◌, subst}
use Rattle.std.proofs.lemmas.Bool.{and_parts, false≢true}
use Rattle.table_seats.proofs.Entries.{owns_first}
use Rattle.table_seats.proofs.Standing.{none_of}
use Rattle.aio_model.specs.Loop.History.{Entry, New, Enqueue, Put, Cancel, Take, Dequeue, Free, SetEvent, ClearEvent, History}
use Rattle.aio_model.specs.Loop.Lists.{seat_of, taken_of, dequeue_count, out_of}
use Rattle.aio_model.specs.Loop.Seats.{Numbers, owns, home, entries_of, own_entries}
use Rattle.aio_model.specs.Loop.Frame.{are_of_callback}

-- none of the home's own
pub none_of_home : (numbers : Numbers) (others : History) → numbers.first ≡ 64 → numbers.count ≡ 1 → own_entries numbers others ≡ [] → entries_of home others ≡ []
none_of_home numbers others first count h =
    none_of seat_of numbers home others (owned numbers.first numbers.count first count) h
  where
    owned : (f c : ℕ) → f ≡ 64 → c ≡ 1 → owns (record { first = f; count = c }) home ≡ true
    owned f c ef ec =
        subst (λ x. owns (record { first = x; count = c }) home ≡ true) (sym ef) (subst (λ y. owns (record { first = 64; count = y }) home ≡ true) (sym ec) refl)

-- none of a seat's own number
pub none_of_own : (numbers : Numbers) (others : History) → 0 < numbers.count → own_entries numbers others ≡ [] → entries_of numbers.first others ≡ []
none_of_own numbers others some h =
    none_of seat_of numbers numbers.first others (owns_first numbers some) h

-- What is out stays as it is, where home does only what a callback may.

pub rest_of_callback : (b : Bool) (e : Entry) (xs : History) → are_of_callback (cond b (e ∷ xs) xs) ≡ true → are_of_callback xs ≡ true
rest_of_callback true e xs h = (and_parts _ _ h).1
rest_of_callback false e xs h = h

module _ (h : History) where
  taken_kept : (xs : History) → are_of_callback (entries_of home xs) ≡ true → taken_of (xs ++ h) ≡ taken_of h
  taken_kept [] q = refl
  taken_kept (New i s j ∷ xs) q = taken_kept xs (rest_of_callback (eqb s 64) (New i s j) _ q)
  taken_kept (Enqueue i a s w ∷ xs) q = taken_kept xs (rest_of_callback (eqb s 64) (Enqueue i a s w) _ q)
  taken_kept (Put i s ∷ xs) q = taken_kept xs (rest_of_callback (eqb s 64) (Put i s) _ q)
  taken_kept (Cancel i s w ∷ xs) q = taken_kept xs (rest_of_callback (eqb s 64) (Cancel i s w) _ q)
  taken_kept (Take ∷ xs) q = absurd (false≢true q)
  taken_kept (Dequeue i r ∷ xs) q = absurd (false≢true q)
  taken_kept (Free i ∷ xs) q = absurd (false≢true q)
  taken_kept (SetEvent e s ∷ xs) q = taken_kept xs (rest_of_callback (eqb s 64) (SetEvent e s) _ q)
  taken_kept (ClearEvent e w ∷ xs) q = absurd (false≢true q)

  count_kept : (xs : History) → are_of_callback (entries_of home xs) ≡ true → dequeue_count (xs ++ h) ≡ dequeue_count h
  count_kept [] q = refl
  count_kept (New i s j ∷ xs) q = count_kept xs (rest_of_callback (eqb s 64) (New i s j) _ q)
  count_kept (Enqueue i a s w ∷ xs) q = count_kept xs (rest_of_callback (eqb s 64) (Enqueue i a s w) _ q)
  count_kept (Put i s ∷ xs) q = count_kept xs (rest_of_callback (eqb s 64) (Put i s) _ q)
  count_kept (Cancel i s w ∷ xs) q = count_kept xs (rest_of_callback (eqb s 64) (Cancel i s w) _ q)
  count_kept (Take ∷ xs) q = absurd (false≢true q)
  count_kept (Dequeue i r ∷ xs) q = absurd (false≢true q)
  count_kept (Free i ∷ xs) q = absurd (false≢true q)
  count_kept (SetEvent e s ∷ xs) q = count_kept xs (rest_of_callback (eqb s 64) (SetEvent e s) _ q)
  count_kept (ClearEvent e w ∷ xs) q = absurd (false≢true q)

  pub out_kept : (xs : History) → are_of_callback (entries_of home xs) ≡ true → out_of (xs ++ h) ≡ out_of h
  out_kept xs q =
      ap (λ n. drop n (taken_of (xs ++ h))) (count_kept xs q) ∙ ap (λ l. drop (dequeue_count h) l) (taken_kept xs q)

  pub out_beside : (others : History) → entries_of home others ≡ [] → out_of (others ++ h) ≡ out_of h
  out_beside others none = out_kept others (ap are_of_callback none)
