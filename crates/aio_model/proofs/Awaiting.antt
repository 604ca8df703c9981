-- What awaits its call goes on so until its dequeue, unless it is canceled or deleted; and that dequeue calls it.
use Rattle.std.proofs.Common.{◌≡◌, ℕ, ◌+◌, ◌≤◌, ◌<◌, Bool, true, false, not, ◌&&◌, ◌||◌, cond, eqb, [], ◌∷◌, ◌++◌, refl, sym, ap, ◌∙◌, subst, arith, inl, inr, ◌⊎◌, eqb-true}
use Rattle.std.proofs.lemmas.Bool.{and_parts, false≢true, eq-eqb}
use Rattle.aio_model.specs.declared.loops.flags.Flags.{Flags}
use Rattle.aio_model.specs.Loop.FlagsWord.{bit}
use Rattle.aio_model.specs.Loop.History.{Sizes, ToCall, Entry, New, Enqueue, Put, Cancel, Take, Dequeue, Free, SetEvent, ClearEvent, History}
use Rattle.aio_model.specs.Loop.Flags.{is_lot, is_pending, is_scheduled, is_deleted, is_due, ends_round, ends_life, puts, cancels, asks, is_deleting, is_scheduling, dequeues}
use Rattle.aio_model.specs.Loop.Lists.{out_of, stack_of, was_put, seat_of}
use Rattle.aio_model.specs.Loop.Legal.{IsLegal, MayFollow}
use Rattle.aio_model.specs.Loop.Laws.{times_of, some_entry}
use Rattle.aio_model.specs.Loop.Seats.{home, entries_by, entries_of}
use Rattle.aio_model.specs.Loop.Frame.{are_of_callback}
use Rattle.aio_model.specs.Loop.Calls.{dequeue_times, call_times, stops, AwaitsCall}
use Rattle.aio_model.proofs.AnnouncedOnce.{out_of-take, lot_is_no_handle, fits, announced_once}
use Rattle.aio_model.proofs.Indices.{times_of-append}

pub dequeue_times-append : (i : ℕ) (newer older : History) → dequeue_times i (newer ++ older) ≡ dequeue_times i newer + dequeue_times i older
dequeue_times-append k [] older = omega arith
dequeue_times-append k (New i s j ∷ xs) older = dequeue_times-append k xs older
dequeue_times-append k (Enqueue i a s w ∷ xs) older = dequeue_times-append k xs older
dequeue_times-append k (Put i s ∷ xs) older = dequeue_times-append k xs older
dequeue_times-append k (Cancel i s w ∷ xs) older = dequeue_times-append k xs older
dequeue_times-append k (Take ∷ xs) older = dequeue_times-append k xs older
dequeue_times-append k (Dequeue i r ∷ xs) older = omega (arith, dequeue_times-append k xs older)
dequeue_times-append k (Free i ∷ xs) older = dequeue_times-append k xs older
dequeue_times-append k (SetEvent e s ∷ xs) older = dequeue_times-append k xs older
dequeue_times-append k (ClearEvent e w ∷ xs) older = dequeue_times-append k xs older

pub call_times-append : (i : ℕ) (newer older : History) → call_times i (newer ++ older) ≡ call_times i newer + call_times i older
call_times-append k [] older = omega arith
call_times-append k (New i s j ∷ xs) older = call_times-append k xs older
call_times-append k (Enqueue i a s w ∷ xs) older = call_times-append k xs older
call_times-append k (Put i s ∷ xs) older = call_times-append k xs older
call_times-append k (Cancel i s w ∷ xs) older = call_times-append k xs older
call_times-append k (Take ∷ xs) older = call_times-append k xs older
call_times-append k (Dequeue i r ∷ xs) older = omega (arith, call_times-append k xs older)
call_times-append k (Free i ∷ xs) older = call_times-append k xs older
call_times-append k (SetEvent e s ∷ xs) older = call_times-append k xs older
call_times-append k (ClearEvent e w ∷ xs) older = call_times-append k xs older

-- no more calls than dequeues
pub calls_most : (i : ℕ) (xs : History) → call_times i xs ≤ dequeue_times i xs
calls_most k [] = omega arith
calls_most k (New i s j ∷ xs) = calls_most k xs
calls_most k (Enqueue i a s w ∷ xs) = calls_most k xs
calls_most k (Put i s ∷ xs) = calls_most k xs
calls_most k (Cancel i s w ∷ xs) = calls_most k xs
calls_most k (Take ∷ xs) = calls_most k xs
calls_most k (Dequeue i true ∷ xs) = omega (arith, calls_most k xs)
calls_most k (Dequeue i false ∷ xs) = omega (arith, calls_most k xs)
calls_most k (Free i ∷ xs) = calls_most k xs
calls_most k (SetEvent e s ∷ xs) = calls_most k xs
calls_most k (ClearEvent e w ∷ xs) = calls_most k xs

rest_of : (b : Bool) (e : Entry) (xs : History) → are_of_callback (cond b (e ∷ xs) xs) ≡ true → are_of_callback xs ≡ true
rest_of true e xs h = (and_parts _ _ h).1
rest_of false e xs h = h

-- nothing is dequeued by others, nor by a callback
pub none_dequeued : (i : ℕ) (xs : History) → are_of_callback (entries_of home xs) ≡ true → dequeue_times i xs ≡ 0
none_dequeued k [] q = refl
none_dequeued k (New i s j ∷ xs) q = none_dequeued k xs (rest_of (eqb s 64) (New i s j) _ q)
none_dequeued k (Enqueue i a s w ∷ xs) q = none_dequeued k xs (rest_of (eqb s 64) (Enqueue i a s w) _ q)
none_dequeued k (Put i s ∷ xs) q = none_dequeued k xs (rest_of (eqb s 64) (Put i s) _ q)
none_dequeued k (Cancel i s w ∷ xs) q = none_dequeued k xs (rest_of (eqb s 64) (Cancel i s w) _ q)
none_dequeued k (Take ∷ xs) q = absurd (false≢true q)
none_dequeued k (Dequeue i r ∷ xs) q = absurd (false≢true q)
none_dequeued k (Free i ∷ xs) q = absurd (false≢true q)
none_dequeued k (SetEvent e s ∷ xs) q = none_dequeued k xs (rest_of (eqb s 64) (SetEvent e s) _ q)
none_dequeued k (ClearEvent e w ∷ xs) q = absurd (false≢true q)

either_false : (b c : Bool) → b || c ≡ false → (b ≡ false) × (c ≡ false)
either_false true c h = absurd (false≢true (sym h))
either_false false c h = (refl, h)

neither : (b c : Bool) → b ≡ false → c ≡ false → b || c ≡ false
neither true c h k = h
neither false c h k = k

pub some_entry-parts : (test : Entry → Bool) (xs ys : History) → some_entry test (xs ++ ys) ≡ false → (some_entry test xs ≡ false) × (some_entry test ys ≡ false)
some_entry-parts test [] ys h = (refl, h)
some_entry-parts test (e ∷ xs) ys h =
    let first = either_false (test e) (some_entry test (xs ++ ys)) h in
    let rest = some_entry-parts test xs ys first.1 in
    (neither (test e) (some_entry test xs) first.0 rest.0, rest.1)

pub some_entry-both : (test : Entry → Bool) (xs ys : History) → some_entry test xs ≡ false → some_entry test ys ≡ false → some_entry test (xs ++ ys) ≡ false
some_entry-both test [] ys h k = k
some_entry-both test (e ∷ xs) ys h k =
    let first = either_false (test e) (some_entry test xs) h in
    neither (test e) (some_entry test (xs ++ ys)) first.0 (some_entry-both test xs ys first.1 k)

due_of : (s d : Bool) → s ≡ true → d ≡ false → s && not d ≡ true
due_of true true a b = sym b
due_of true false a b = refl
due_of false d a b = a

on : (x y z w : Bool) → x ≡ false → y ≡ false → w ≡ true → cond (x || y) false (z || w) ≡ true
on true y z w a b c = absurd (false≢true (sym a))
on false true z w a b c = absurd (false≢true (sym b))
on false false true w a b c = refl
on false false false w a b c = c

on_once : (x z w : Bool) → x ≡ false → w ≡ true → cond x false (z || w) ≡ true
on_once true z w a c = absurd (false≢true (sym a))
on_once false true w a c = refl
on_once false false w a c = c

off : (x y w : Bool) → x ≡ false → y ≡ false → w ≡ false → cond x false (y || w) ≡ false
off true y w a b c = refl
off false true w a b c = b
off false false w a b c = c

-- One index, which is a handle.
module _ (sizes : Sizes) (k : ℕ) (handle : k < sizes.handles) where
  no_lot : (i : ℕ) → is_lot sizes i ≡ true → (b : Bool) → eqb k i ≡ b → eqb k i ≡ false
  no_lot i lot true is = absurd (lot_is_no_handle sizes i lot (subst (λ n. n < sizes.handles) (eqb-true k i is) handle))
  no_lot i lot false is = is

  -- a handle's life doesn't end
  lives_on : (e : Entry) (P : History) → MayFollow sizes e P → ends_life k e ≡ false
  lives_on (New i s j) P may = neither (eqb k i) false (no_lot i may.0 (eqb k i) refl) refl
  lives_on (Enqueue i a s w) P may = refl
  lives_on (Put i s) P may = refl
  lives_on (Cancel i s w) P may = refl
  lives_on Take P may = refl
  lives_on (Dequeue i r) P may = refl
  lives_on (Free i) P may = no_lot i may.0 (eqb k i) refl
  lives_on (SetEvent e s) P may = refl
  lives_on (ClearEvent e w) P may = refl

  -- scheduled and not deleted
  record Asked (h : History) : Type 0 where
    scheduled : is_scheduled k h ≡ true
    alive : is_deleted k h ≡ false

  asked_on : (e : Entry) (P : History) → MayFollow sizes e P → dequeues k e ≡ false → stops k e ≡ false → Asked P → Asked (e ∷ P)
  asked_on e P may stays calm asked =
      let life = lives_on e P may in
      let round : ends_round k e ≡ false = neither (dequeues k e) (ends_life k e) stays life in
      let parts = either_false (cancels k e) (asks is_deleting k e) calm in
      record {
        scheduled = on (ends_round k e) (cancels k e) (asks is_scheduling k e) (is_scheduled k P) round parts.0 asked.scheduled;
        alive = off (ends_life k e) (asks is_deleting k e) (is_deleted k P) life parts.1 asked.alive;
      }

  put_on : (e : Entry) (P : History) → MayFollow sizes e P → dequeues k e ≡ false → was_put k P ≡ true → was_put k (e ∷ P) ≡ true
  put_on e P may stays put =
      on_once (ends_round k e) (puts k e) (was_put k P) (neither (dequeues k e) (ends_life k e) stays (lives_on e P may)) put

  bit_zero : (b : Bool) (n : ℕ) → bit b + n ≡ 0 → (b ≡ false) × (n ≡ 0)
  bit_zero true n h = absurd (omega arith)
  bit_zero false n h = (refl, omega arith)

  -- an entry of a history without a dequeue of the index is none
  no_dequeue : (e : Entry) (xs : History) → dequeue_times k (e ∷ xs) ≡ 0 → (dequeues k e ≡ false) × (dequeue_times k xs ≡ 0)
  no_dequeue (New i s j) xs h = (refl, h)
  no_dequeue (Enqueue i a s w) xs h = (refl, h)
  no_dequeue (Put i s) xs h = (refl, h)
  no_dequeue (Cancel i s w) xs h = (refl, h)
  no_dequeue Take xs h = (refl, h)
  no_dequeue (Dequeue i r) xs h = bit_zero (eqb k i) (dequeue_times k xs) h
  no_dequeue (Free i) xs h = (refl, h)
  no_dequeue (SetEvent e s) xs h = (refl, h)
  no_dequeue (ClearEvent e w) xs h = (refl, h)

  asked_stays : (xs h : History) → IsLegal sizes (xs ++ h) → some_entry (stops k) xs ≡ false → dequeue_times k xs ≡ 0 → Asked h → Asked (xs ++ h)
  asked_stays [] h legal still none asked = asked
  asked_stays (e ∷ xs) h legal still none asked =
      let parts = either_false (stops k e) (some_entry (stops k) xs) still in
      let less = no_dequeue e xs none in
      asked_on e (xs ++ h) legal.0 less.0 parts.0 (asked_stays xs h legal.1 parts.1 less.1 asked)

  put_stays : (xs h : History) → IsLegal sizes (xs ++ h) → dequeue_times k xs ≡ 0 → was_put k h ≡ true → was_put k (xs ++ h) ≡ true
  put_stays [] h legal none put = put
  put_stays (e ∷ xs) h legal none put =
      let less = no_dequeue e xs none in
      put_on e (xs ++ h) legal.0 less.0 (put_stays xs h legal.1 less.1 put)

  -- so long as it isn't dequeued, canceled or deleted it awaits its call
  pub awaits_still : (xs h : History) → IsLegal sizes (xs ++ h) → some_entry (stops k) xs ≡ false → dequeue_times k xs ≡ 0 → AwaitsCall k h → AwaitsCall k (xs ++ h)
  awaits_still xs h legal still none awaits =
      let asked = asked_stays xs h legal still none (record { scheduled = awaits.scheduled; alive = awaits.alive }) in
      record { scheduled = asked.scheduled; alive = asked.alive; put = put_stays xs h legal none awaits.put }

  -- the first dequeue
  abbrev pub Comes : History → History → Type 0
  Comes xs h = ((dequeue_times k xs ≡ 0) × AwaitsCall k (xs ++ h)) ⊎ (1 ≤ call_times k xs)

  more_calls : (e : Entry) (xs : History) → call_times k xs ≤ call_times k (e ∷ xs)
  more_calls (New i s j) xs = omega arith
  more_calls (Enqueue i a s w) xs = omega arith
  more_calls (Put i s) xs = omega arith
  more_calls (Cancel i s w) xs = omega arith
  more_calls Take xs = omega arith
  more_calls (Dequeue i r) xs = omega arith
  more_calls (Free i) xs = omega arith
  more_calls (SetEvent e s) xs = omega arith
  more_calls (ClearEvent e w) xs = omega arith

  at_dequeue : (i : ℕ) (r : Bool) (xs h : History) (b : Bool) → eqb k i ≡ b → MayFollow sizes (Dequeue i r) (xs ++ h) → dequeue_times k xs ≡ 0 → AwaitsCall k (xs ++ h) → Comes (Dequeue i r ∷ xs) h
  at_dequeue i r xs h true is may none awaits =
      let same : k ≡ i = eqb-true k i is in
      let due : is_due k (xs ++ h) ≡ true = due_of (is_scheduled k (xs ++ h)) (is_deleted k (xs ++ h)) awaits.scheduled awaits.alive in
      let ran : r ≡ true = may.1 ∙ subst (λ n. is_due n (xs ++ h) ≡ true) same due in
      let one : cond r (bit (eqb k i)) 0 ≡ 1 = ap (λ b. cond b (bit (eqb k i)) 0) ran ∙ ap bit is in
      inr (omega (arith, one))
  at_dequeue i r xs h false is may none awaits =
      let asked = asked_on (Dequeue i r) (xs ++ h) may is refl (record { scheduled = awaits.scheduled; alive = awaits.alive }) in
      inl (omega (arith, ap bit is, none), record { scheduled = asked.scheduled; alive = asked.alive; put = put_on (Dequeue i r) (xs ++ h) may is awaits.put })

  kept : (e : Entry) (xs h : History) → MayFollow sizes e (xs ++ h) → dequeues k e ≡ false → stops k e ≡ false → dequeue_times k (e ∷ xs) ≡ 0 → AwaitsCall k (xs ++ h) → Comes (e ∷ xs) h
  kept e xs h may stays calm none awaits =
      let asked = asked_on e (xs ++ h) may stays calm (record { scheduled = awaits.scheduled; alive = awaits.alive }) in
      inl (none, record { scheduled = asked.scheduled; alive = asked.alive; put = put_on e (xs ++ h) may stays awaits.put })

  next : (e : Entry) (xs h : History) → MayFollow sizes e (xs ++ h) → stops k e ≡ false → dequeue_times k xs ≡ 0 → AwaitsCall k (xs ++ h) → Comes (e ∷ xs) h
  next (New i s j) xs h may calm none awaits = kept (New i s j) xs h may refl calm none awaits
  next (Enqueue i a s w) xs h may calm none awaits = kept (Enqueue i a s w) xs h may refl calm none awaits
  next (Put i s) xs h may calm none awaits = kept (Put i s) xs h may refl calm none awaits
  next (Cancel i s w) xs h may calm none awaits = kept (Cancel i s w) xs h may refl calm none awaits
  next Take xs h may calm none awaits = kept Take xs h may refl calm none awaits
  next (Dequeue i r) xs h may calm none awaits = at_dequeue i r xs h (eqb k i) refl may none awaits
  next (Free i) xs h may calm none awaits = kept (Free i) xs h may refl calm none awaits
  next (SetEvent e s) xs h may calm none awaits = kept (SetEvent e s) xs h may refl calm none awaits
  next (ClearEvent e w) xs h may calm none awaits = kept (ClearEvent e w) xs h may refl calm none awaits

  -- not yet dequeued it awaits its call; else the first dequeue called
  pub comes : (xs h : History) → IsLegal sizes (xs ++ h) → some_entry (stops k) xs ≡ false → AwaitsCall k h → Comes xs h
  comes [] h legal still awaits = inl (refl, awaits)
  comes (e ∷ xs) h legal still awaits =
      let parts = either_false (stops k e) (some_entry (stops k) xs) still in
      elim (comes xs h legal.1 parts.1 awaits) as (λ _. Comes (e ∷ xs) h) [
        | inl found ↦ next e xs h legal.0 parts.0 found.0 found.1
        | inr ran ↦ inr (omega (arith, ran, more_calls e xs))
      ]

  put_in : (n h : History) → IsLegal sizes (n ++ h) → dequeue_times k n ≡ 0 → some_entry (puts k) n ≡ true → was_put k (n ++ h) ≡ true
  put_in [] h legal none some = absurd (false≢true some)
  put_in (e ∷ n) h legal none some =
      let less = no_dequeue e n none in
      by (puts k e) refl less.0 less.1 (put_in n h legal.1 less.1)
    where
      first : (x z w : Bool) → x ≡ false → z ≡ true → cond x false (z || w) ≡ true
      first true z w a b = absurd (false≢true (sym a))
      first false true w a b = refl
      first false false w a b = absurd (false≢true b)

      by : (b : Bool) → puts k e ≡ b → dequeues k e ≡ false → dequeue_times k n ≡ 0 → (some_entry (puts k) n ≡ true → was_put k (n ++ h) ≡ true) → was_put k (e ∷ (n ++ h)) ≡ true
      by true is stays rest older =
          first (ends_round k e) (puts k e) (was_put k (n ++ h)) (neither (dequeues k e) (ends_life k e) stays (lives_on e (n ++ h) legal.0)) is
      by false is stays rest older =
          put_on e (n ++ h) legal.0 stays (older (subst (λ b. b || some_entry (puts k) n ≡ true) is some))

  -- an enqueue and a push, and no dequeue, cancel or deletion since: it awaits its call
  pub enqueued_awaits : (seat : ℕ) (was : Flags) (n h : History) → IsLegal sizes (n ++ (Enqueue k ToCall seat was ∷ h)) → was.deleted ≡ false → some_entry (stops k) n ≡ false → dequeue_times k n ≡ 0 → some_entry (puts k) n ≡ true → AwaitsCall k (n ++ (Enqueue k ToCall seat was ∷ h))
  enqueued_awaits seat was n h legal alive still none put =
      let H : History = Enqueue k ToCall seat was ∷ h in
      let cut = cut_at n legal in
      let e : eqb k k ≡ true = eq-eqb k k refl in
      let asked : Asked H = record { scheduled = rw e refl; alive = rw e (sym (ap (λ (f : Flags). f.deleted) cut.0.1) ∙ alive) } in
      let after = asked_stays n H legal still none asked in
      record { scheduled = after.scheduled; alive = after.alive; put = put_in n H legal none put }
    where
      cut_at : (n : History) → IsLegal sizes (n ++ (Enqueue k ToCall seat was ∷ h)) → IsLegal sizes (Enqueue k ToCall seat was ∷ h)
      cut_at [] l = l
      cut_at (x ∷ n) l = cut_at n l.1

  -- Where it stands at a take.

  none_announced : (p w : Bool) (a b : ℕ) → bit (p && not w) + a + b ≡ bit p → w ≡ false → a + b ≡ 0
  none_announced p true a b h k = absurd (false≢true (sym k))
  none_announced true false a b h k = omega arith
  none_announced false false a b h k = omega arith

  one_of : (p w : Bool) (a b : ℕ) → bit (p && not w) + a + b ≡ bit p → p ≡ true → w ≡ true → a + b ≡ 1
  one_of true true a b h k l = omega arith
  one_of true false a b h k l = absurd (false≢true l)
  one_of false w a b h k l = absurd (false≢true k)

  none_pending : (p w : Bool) (a b : ℕ) → bit (p && not w) + a + b ≡ bit p → p ≡ false → b ≡ 0
  none_pending true w a b h k = absurd (false≢true (sym k))
  none_pending false w a b h k = omega arith

  bit_most : (b : Bool) → bit b ≤ 1
  bit_most true = omega arith
  bit_most false = omega arith

  out_at_take : (P : History) → IsLegal sizes P → times_of k (out_of (Take ∷ P)) ≡ times_of k (stack_of P) + times_of k (out_of P)
  out_at_take P legal = omega (arith, ap (times_of k) (out_of-take sizes P legal), times_of-append k (out_of P) (stack_of P))

  -- what wasn't pushed isn't out at the take
  pub none_taken : (P : History) → IsLegal sizes P → was_put k P ≡ false → times_of k (out_of (Take ∷ P)) ≡ 0
  none_taken P legal put =
      omega (arith, out_at_take P legal, none_announced (is_pending k P) (was_put k P) (times_of k (stack_of P)) (times_of k (out_of P)) (announced_once sizes P k legal) put)

  -- what was pushed is out once
  pub once_taken : (P : History) → IsLegal sizes P → was_put k P ≡ true → times_of k (out_of (Take ∷ P)) ≡ 1
  once_taken P legal put =
      let f = fits sizes P k legal in
      omega (arith, out_at_take P legal, one_of (is_pending k P) (was_put k P) (times_of k (stack_of P)) (times_of k (out_of P)) f.once (f.enqueued put) put)

  pub out_most : (P : History) → IsLegal sizes P → times_of k (out_of P) ≤ 1
  out_most P legal = omega (arith, announced_once sizes P k legal, bit_most (is_pending k P))

  -- what isn't pending isn't out
  pub none_out : (P : History) → IsLegal sizes P → is_pending k P ≡ false → times_of k (out_of P) ≡ 0
  none_out P legal idle =
      none_pending (is_pending k P) (was_put k P) (times_of k (stack_of P)) (times_of k (out_of P)) (announced_once sizes P k legal) idle

  -- what awaits its call at a take is called once since, where all that was out was dequeued since
  pub called_once : (later P : History) → IsLegal sizes (later ++ (Take ∷ P)) → IsLegal sizes P → some_entry (stops k) later ≡ false → dequeue_times k later ≡ times_of k (out_of (Take ∷ P)) → AwaitsCall k P → call_times k later ≡ 1
  called_once later P legal legal_P still each awaits =
      let taken : AwaitsCall k (Take ∷ P) = record { scheduled = awaits.scheduled; alive = awaits.alive; put = awaits.put } in
      let one : dequeue_times k later ≡ 1 = each ∙ once_taken P legal_P awaits.put in
      elim (comes later (Take ∷ P) legal still taken) as (λ _. call_times k later ≡ 1) [
        | inl found ↦ absurd (omega (arith, found.0, one))
        | inr ran ↦ omega (arith, ran, calls_most k later, one)
      ]

-- Entries of one maker.

-- where two entries are all that pass, the older one stands somewhere, and the newer one behind it
pub record TwoOf (newer older : Entry) (xs : History) : Type 0 where
  pub since : History
  pub before : History
  pub is : xs ≡ since ++ (older ∷ before)
  pub has : (test : Entry → Bool) → test newer ≡ true → some_entry test since ≡ true

pub record OneOf (e : Entry) (xs : History) : Type 0 where
  pub since : History
  pub before : History
  pub is : xs ≡ since ++ (e ∷ before)

head_is : (a b : Entry) (xs ys : History) → a ∷ xs ≡ b ∷ ys → (a ≡ b) × (xs ≡ ys)
head_is a b xs ys h = (cc, cc)

pub one_of_by : (test : ℕ → Bool) (e : Entry) (more xs : History) → entries_by test xs ≡ e ∷ more → OneOf e xs
one_of_by test e more [] h = absurd cc
one_of_by test e more (x ∷ xs) h = by (test (seat_of x)) refl h (one_of_by test e more xs)
  where
    by : (b : Bool) → test (seat_of x) ≡ b → cond (test (seat_of x)) (x ∷ entries_by test xs) (entries_by test xs) ≡ e ∷ more → (entries_by test xs ≡ e ∷ more → OneOf e xs) → OneOf e (x ∷ xs)
    by true is h older_ones =
        let here : x ∷ entries_by test xs ≡ e ∷ more = sym (ap (λ b. cond b (x ∷ entries_by test xs) (entries_by test xs)) is) ∙ h in
        record { since = []; before = xs; is = ap (λ y. y ∷ xs) (head_is x e (entries_by test xs) more here).0 }
    by false is h older_ones =
        let rest : entries_by test xs ≡ e ∷ more = sym (ap (λ b. cond b (x ∷ entries_by test xs) (entries_by test xs)) is) ∙ h in
        let found = older_ones rest in
        record { since = x ∷ found.since; before = found.before; is = ap (λ l. x ∷ l) found.is }

pub or_right : (a b : Bool) → b ≡ true → a || b ≡ true
or_right true b h = refl
or_right false b h = h

or_left : (a b : Bool) → a ≡ true → a || b ≡ true
or_left true b h = refl
or_left false b h = absurd (false≢true h)

pub two_of_by : (test : ℕ → Bool) (newer older : Entry) (more xs : History) → entries_by test xs ≡ newer ∷ (older ∷ more) → TwoOf newer older xs
two_of_by test newer older more [] h = absurd cc
two_of_by test newer older more (x ∷ xs) h = by (test (seat_of x)) refl h (two_of_by test newer older more xs)
  where
    by : (b : Bool) → test (seat_of x) ≡ b → cond (test (seat_of x)) (x ∷ entries_by test xs) (entries_by test xs) ≡ newer ∷ (older ∷ more) → (entries_by test xs ≡ newer ∷ (older ∷ more) → TwoOf newer older xs) → TwoOf newer older (x ∷ xs)
    by true is h older_ones =
        let here : x ∷ entries_by test xs ≡ newer ∷ (older ∷ more) = sym (ap (λ b. cond b (x ∷ entries_by test xs) (entries_by test xs)) is) ∙ h in
        let parts = head_is x newer (entries_by test xs) (older ∷ more) here in
        let found = one_of_by test older more xs parts.1 in
        record {
          since = x ∷ found.since;
          before = found.before;
          is = ap (λ l. x ∷ l) found.is;
          has = λ t passes. or_left (t x) (some_entry t found.since) (ap t parts.0 ∙ passes);
        }
    by false is h older_ones =
        let rest : entries_by test xs ≡ newer ∷ (older ∷ more) = sym (ap (λ b. cond b (x ∷ entries_by test xs) (entries_by test xs)) is) ∙ h in
        let found = older_ones rest in
        record {
          since = x ∷ found.since;
          before = found.before;
          is = ap (λ l. x ∷ l) found.is;
          has = λ t passes. or_right (t x) (some_entry t found.since) (found.has t passes);
        }
