-- The two lists of a loop keep what is pending, each once.
use Rattle.std.proofs.Common.{◌≡◌, ℕ, zero, suc, ◌+◌, ◌<◌, ◌≤◌, Bool, true, false, cond, eqb, List, [], ◌∷◌, ◌++◌, length, get_or, set, length-append, length-set, get_or-set_same, get_or-set_other, refl, sym, ap, ◌∙◌, inl, inr, arith}
use Rattle.std.specs.List.{sum_by}
use Rattle.std.proofs.lemmas.List.{get_or_past, get_or_read}
use Rattle.std.proofs.lemmas.List.Sums.{sum_by-set, sum_by-le}
use Rattle.std.proofs.lemmas.Bool.{eq-eqb, cases_lt}
use Rattle.aio_model.specs.Loop.FlagsWord.{bit}
use Rattle.aio_model.specs.Loop.Laws.{times_of}
use Rattle.aio_model.specs.Loop.State.{blank}
use Rattle.aio_model.specs.Loop.Inside.{pending_bit, PendingIsListed}
use Rattle.aio_model.specs.declared.loops.bottom_halves.BottomHalf.{BottomHalf}
use Rattle.aio_model.proofs.Indices.{by_query, times_of-append}

bit-le-one : (b : Bool) → bit b ≤ 1
bit-le-one true = omega arith
bit-le-one false = omega arith

bit-eqb_self : (i : ℕ) → bit (eqb i i) ≡ 1
bit-eqb_self i = let e : eqb i i ≡ true = eq-eqb i i refl in rw e refl

pending-le-length : (hs : List BottomHalf) → sum_by pending_bit hs ≤ length hs
pending-le-length hs =
    omega (arith, sum_by-le pending_bit 1 hs (λ k d _. bit-le-one (get_or hs k d).flags.pending))

-- both lists together have no more than there are indices
pub kept-length : (hs : List BottomHalf) (xs ys : List ℕ) → PendingIsListed hs xs ys → length xs + length ys ≤ length hs
kept-length hs xs ys kept = omega (arith, kept.total, pending-le-length hs)

module _ (hs : List BottomHalf) (xs ys : List ℕ) where
  -- where an index is not pending there is room for it
  pub room : (i : ℕ) → PendingIsListed hs xs ys → i < length hs → pending_bit (get_or hs i blank) ≡ 0 → length xs < length hs
  room i kept below idle =
      let y : BottomHalf = record { flags = record { pending = true; scheduled = false; deleted = false; oneshot = false; idle = false }; lives = false; dequeued = false } in
      let most = pending-le-length (set hs i y) in
      let more = sum_by-set pending_bit hs i y blank below in
      let same = length-set hs i y in
      omega (arith, kept.total, more, most, same)

  times-push : (i j : ℕ) → times_of j (xs ++ i ∷ []) ≡ times_of j xs + bit (eqb j i)
  times-push i j = omega (arith, times_of-append j xs (i ∷ []))

  kept-push : (i : ℕ) (y : BottomHalf) → PendingIsListed hs xs ys → i < length hs → pending_bit (get_or hs i blank) ≡ 0 → pending_bit y ≡ 1 → PendingIsListed (set hs i y) (xs ++ i ∷ []) ys
  kept-push i y kept below idle more =
      record {
        once = λ j. by_query i j (λ k. times_of k (xs ++ i ∷ []) + times_of k ys ≡ pending_bit (get_or (set hs i y) k blank)) (rw get_or-set_same (omega (arith, more, idle, kept.once i, times-push i i, bit-eqb_self i))) (λ ne e. rw (get_or-set_other hs i j y blank ne, times-push i j, e) (omega (arith, kept.once j)));
        total = omega (arith, kept.total, sum_by-set pending_bit hs i y blank below, length-append xs (i ∷ []), more, idle);
      }

  -- a change of other flags
  pub kept-set : (i : ℕ) (y : BottomHalf) → PendingIsListed hs xs ys → i < length hs → pending_bit y ≡ pending_bit (get_or hs i blank) → PendingIsListed (set hs i y) xs ys
  kept-set i y kept below same =
      record {
        once = λ j. by_query i j (λ k. times_of k xs + times_of k ys ≡ pending_bit (get_or (set hs i y) k blank)) (rw get_or-set_same (omega (arith, same, kept.once i))) (λ ne e. rw (get_or-set_other hs i j y blank ne) (kept.once j));
        total = omega (arith, kept.total, sum_by-set pending_bit hs i y blank below, same);
      }

  -- an enqueue pushes what was not pending
  kept-enqueue_at : (i : ℕ) (y : BottomHalf) (p : Bool) → PendingIsListed hs xs ys → i < length hs → pending_bit (get_or hs i blank) ≡ bit p → pending_bit y ≡ 1 → PendingIsListed (set hs i y) (cond p xs (xs ++ i ∷ [])) ys
  kept-enqueue_at i y true kept below was more = kept-set i y kept below (more ∙ sym was)
  kept-enqueue_at i y false kept below was more = kept-push i y kept below was more

  pub kept-enqueue : (i : ℕ) (r y : BottomHalf) → PendingIsListed hs xs ys → i < length hs → r ≡ get_or hs i r → pending_bit y ≡ 1 → PendingIsListed (set hs i y) (cond r.flags.pending xs (xs ++ i ∷ [])) ys
  kept-enqueue i r y kept below read more =
      kept-enqueue_at i y r.flags.pending kept below (sym (ap pending_bit (get_or_read hs i r below read blank))) more

  pub room_at : (i : ℕ) (r : BottomHalf) → PendingIsListed hs xs ys → i < length hs → r ≡ get_or hs i r → r.flags.pending ≡ false → length xs < length hs
  room_at i r kept below read idle =
      room i kept below (sym (ap pending_bit (get_or_read hs i r below read blank)) ∙ ap bit idle)

pub kept-take : (hs : List BottomHalf) (xs ys : List ℕ) → PendingIsListed hs xs ys → PendingIsListed hs [] (xs ++ ys)
kept-take hs xs ys kept =
    record {
      once = λ i. omega (arith, kept.once i, times_of-append i xs ys);
      total = omega (arith, kept.total, length-append xs ys);
    }

module _ (hs : List BottomHalf) (xs ys : List ℕ) (i : ℕ) (kept : PendingIsListed hs xs (ys ++ i ∷ [])) where
  out_times : times_of i xs + times_of i ys + 1 ≡ pending_bit (get_or hs i blank)
  out_times = omega (arith, kept.once i, times_of-append i ys (i ∷ []), bit-eqb_self i)

  pub out_in_range : i < length hs
  out_in_range =
      elim (cases_lt i (length hs)) [
        | inl below ↦ below
        | inr past ↦ absurd (let e : get_or hs i blank ≡ blank = get_or_past hs i blank past in let z : pending_bit (get_or hs i blank) ≡ 0 = rw e refl in omega (arith, z, out_times))
      ]

  pub kept-pop : (y : BottomHalf) → pending_bit y ≡ 0 → PendingIsListed (set hs i y) xs ys
  kept-pop y idle =
      let below = out_in_range in
      let most = bit-le-one (get_or hs i blank).flags.pending in
      record {
        once = λ j. by_query i j (λ k. times_of k xs + times_of k ys ≡ pending_bit (get_or (set hs i y) k blank)) (rw get_or-set_same (omega (arith, idle, out_times, most))) (λ ne e. rw (get_or-set_other hs i j y blank ne) (let t : times_of j (ys ++ i ∷ []) ≡ times_of j ys = rw (times_of-append j ys (i ∷ []), e) (omega arith) in omega (arith, kept.once j, t)));
        total = omega (arith, kept.total, sum_by-set pending_bit hs i y blank below, length-append ys (i ∷ []), idle, out_times, most);
      }

-- what stands in a list is counted there
times_of-get_or : (xs : List ℕ) (k d : ℕ) → k < length xs → 1 ≤ times_of (get_or xs k d) xs
times_of-get_or [] k d h = absurd (omega arith)
times_of-get_or (x ∷ xs) zero d h = omega (arith, bit-eqb_self x)
times_of-get_or (x ∷ xs) (suc k) d h = omega (arith, times_of-get_or xs k d (omega arith))

-- each index of the stack is one of the loop
pub stack_in_range : (hs : List BottomHalf) (xs ys : List ℕ) → PendingIsListed hs xs ys → (k d : ℕ) → k < length xs → get_or xs k d < length hs
stack_in_range hs xs ys kept k d h =
    let i = get_or xs k d in
    elim (cases_lt i (length hs)) [
      | inl below ↦ below
      | inr past ↦ absurd (let e : get_or hs i blank ≡ blank = get_or_past hs i blank past in let z : pending_bit (get_or hs i blank) ≡ 0 = rw e refl in omega (arith, z, kept.once i, times_of-get_or xs k d h))
    ]
