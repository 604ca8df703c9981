-- The steps of who has the duty to wake, each as its step on the table asks: head swap, next load, who load, grant store,
-- hand-off store, second look.
use Rattle.std.proofs.Common.{◌≡◌, ◌≢◌, ℕ, ◌+◌, ◌<◌, ◌≤◌, inl, inr, ⊎_elim, Bool, true, false, cond, eqb, MatchBool, List, [], ◌∷◌, ◌++◌, reverse, slice_index, set, length, refl, sym, ap, subst, arith}
use Rattle.std.proofs.Common.{length-append}
use Rattle.std.proofs.lemmas.Bool.{cases_eq, eq-eqb, ne_eqb, eqb-true}
use Rattle.std.proofs.lemmas.List.{length-reverse, reverse-append}
use mathlib.Core.Option.{some, none}
use lib.ListN.{get_elem?}
use Rattle.atomic_table.specs.Table.{State, Me, Act, keeps, gives, step, Valid, carried_after, stepped, Allows}
use Rattle.aio_chain.specs.Chains.{IsChain}
use Rattle.co_mutex.specs.declared.slot.Slot.{Slot}
use Rattle.aio_model.specs.Lock.History.{Grant, IsWaitingIn, waiters_of}
use Rattle.co_mutex.specs.Places.{Side, Locking, Unlocking, ToPop, Walking, Nobody, Granting, AtRest, Queued, SelfGranted, OnDuty, Published, Found, after_grant}
use Rattle.co_mutex.specs.LockWords.{handoff_at, head_at, next_at, grant_at, who_at, next_in}
use Rattle.co_mutex.specs.Rule.{Popped, Offered, Owned, Stands}
use Rattle.co_mutex.specs.Known.{HeadSwap, NextLoad, WhoLoad, GrantStore, HandoffStore, SecondLook, Known, moves, makes}
use Rattle.co_mutex.specs.Seats.{Kept}
use Rattle.co_mutex.specs.Plays.{done, Is, Swaps, swaps_at, swapped_head, Loads, loads_at, loaded_next, names_at, loaded_who, Grants, grants_at, stored_grant, stored_number, looks_at, looked}
use Rattle.co_mutex.proofs.WaitLists.{waits_front, waits_back}
use Rattle.co_mutex.proofs.DutySteps.{Steps, swap_found, swap_empty, swap_finds, next_loaded, who_loaded, waiters_now}
use Rattle.co_mutex.proofs.GrantSteps.{unlock_grants, lock_grants, lock_grants_itself}
use Rattle.co_mutex.proofs.BatonSteps.{published}
use Rattle.co_mutex.proofs.QuietSteps.{look_none, look_found}
use Rattle.co_mutex.proofs.Ends.{bounds}
use Rattle.co_mutex.proofs.StepForms.{set_back, sized_as, placed_as, kept_move, kept_make, makes_told}

-- the word that leads to the first of a chain of waiters
pub head_low : (next : ℕ → ℕ) (n word : ℕ) (xs : List ℕ) → IsChain next word xs → ((q : ℕ) → IsWaitingIn q xs → q < n) → word ≤ n
head_low next n word [] c low = omega (arith, c)
head_low next n word (x ∷ xs) c low = let e = c.0 in let l = low x (inl refl) in omega (arith, e, l)

waits_turned : (q : ℕ) (xs : List ℕ) → IsWaitingIn q xs → IsWaitingIn q (reverse xs)
waits_turned q (x ∷ xs) w =
    let turned : reverse (x ∷ xs) ≡ reverse xs ++ x ∷ [] = reverse-append (x ∷ []) xs in
    subst (IsWaitingIn q) (sym turned) (⊎_elim (λ e. waits_back q (reverse xs) (x ∷ []) (inl e)) (λ r. waits_front q (reverse xs) (x ∷ []) (waits_turned q xs r)) w)
waits_turned q [] w = absurd w

side_is : (side : Side) → (side ≡ Locking → ⊥) → side ≡ Unlocking
side_is Locking f = absurd (f refl)
side_is Unlocking f = refl

module _ {T N : Type 0} (note : T → ℕ → N) (n : ℕ) (built : T) (slots id : ℕ) where
  abbrev S : Type 0
  S = Slot T

  abbrev M : Type 0
  M = Me (Slot T) (Known T)

  abbrev Result : M → State S (Known T) → ℕ → ℕ → (M → Type 0) → Type 0
  Result me s k x told = (w : Known T) × (a : Act S) × Valid s.homes me.1 a × Kept note n built (stepped s k x id me.1 w a) × told (w, carried_after me.1 a)

  -- what a head swap tells, where it found 0, and where it didn't
  abbrev SwapTold : M → Side → ℕ → Bool → M → Type 0
  SwapTold me side found c after = MatchBool c ((side ≡ Unlocking) × Is after (moves me.0 (OnDuty side Nobody) (done HeadSwap head_at found), me.1)) ((left : List ℕ) × Is after (moves me.0 (OnDuty side (Walking found left [])) (done HeadSwap head_at found), me.1))

  pub swap_step : (me : M) (side : Side) → me.0.live ≡ true → me.0.place ≡ OnDuty side (ToPop []) → Allows (Kept note n built) slots id me head_at (λ k. 0) (swapped_head (step slots head_at 0 0 none) me)
  swap_step me side live duty s r long at fits =
      by (eqb (slice_index s.words head_at) 0) refl
    where
      here : get_elem? r.places me.0.number ≡ some (OnDuty side (ToPop []))
      here = placed_as note n built id me.0 s r at live (OnDuty side (ToPop [])) duty

      all : waiters_of r.history ≡ [] ++ reverse r.stack
      all = waiters_now n built r.history s.words s.homes r.places r.baton r.stack r.lock me.0.number side (ToPop []) here

      low : slice_index s.words head_at ≤ me.0.passes
      low =
          subst (λ z. slice_index s.words head_at ≤ z) (sym (sized_as note n built id me.0 s r at live)) (head_low (next_in s.words) n (slice_index s.words head_at) r.stack r.lock.lists.chain (λ q w. r.lock.below q (subst (IsWaitingIn q) (sym all) (waits_turned q r.stack w))))

      by : (c : Bool) → eqb (slice_index s.words head_at) 0 ≡ c → Result me s head_at 0 (swaps_at me.0.place me (slice_index s.words head_at))
      by true empty =
          let e = eqb-true (slice_index s.words head_at) 0 empty in
          let unlocks = side_is side (λ lock. swap_finds n built r.history s.words s.homes r.places r.baton r.stack r.lock me.0.number side (ToPop []) here lock refl e) in
          let d = done HeadSwap head_at (slice_index s.words head_at) in
          let new = OnDuty side Nobody in
          let w = moves me.0 new d in
          let told : Swaps side me (slice_index s.words head_at) (w, me.1) = record { more = low; is = subst (λ c. SwapTold me side (slice_index s.words head_at) c (w, me.1)) (sym empty) (unlocks, refl) } in
          (w, keeps, tt, kept_move note n built id me.0 s r at live new d head_at 0 me.1 keeps r.baton [] refl (swap_empty n built r.history s.words s.homes r.places r.baton r.stack r.lock me.0.number side (ToPop []) here refl e), subst (λ z. swaps_at z me (slice_index s.words head_at) (w, me.1)) (sym duty) told)
      by false there =
          let word = slice_index s.words head_at in
          let ne : word ≢ 0 = λ e. (let yes : eqb word 0 ≡ true = eq-eqb word 0 e in cc) in
          let d = done HeadSwap head_at word in
          let new = OnDuty side (Walking word r.stack []) in
          let w = moves me.0 new d in
          let told : Swaps side me word (w, me.1) = record { more = low; is = subst (λ c. SwapTold me side word c (w, me.1)) (sym there) (r.stack, refl) } in
          (w, keeps, tt, kept_move note n built id me.0 s r at live new d head_at 0 me.1 keeps r.baton [] refl (swap_found n built r.history s.words s.homes r.places r.baton r.stack r.lock me.0.number side (ToPop []) here refl ne), subst (λ z. swaps_at z me word (w, me.1)) (sym duty) told)

  abbrev LoadTold : M → Side → ℕ → ℕ → List ℕ → ℕ → Bool → M → Type 0
  LoadTold me side at q list found c after = MatchBool c (Is after (moves me.0 (OnDuty side (ToPop (q ∷ list))) (done NextLoad at found), me.1)) ((l : List ℕ) × Is after (moves me.0 (OnDuty side (Walking found l (q ∷ list))) (done NextLoad at found), me.1))

  pub next_step : (me : M) (side : Side) (word : ℕ) (left list : List ℕ) (q : ℕ) → me.0.live ≡ true → word ≡ q + 1 → me.0.place ≡ OnDuty side (Walking word left list) → Allows (Kept note n built) slots id me (next_at q) (λ k. k) (loaded_next (step slots (next_at q) 0 0 none) me)
  next_step me side word left list q0 live leads duty s r long at fits =
      subst Goal same (by (eqb (slice_index s.words (next_at w.q)) 0) refl)
    where
      here : get_elem? r.places me.0.number ≡ some (OnDuty side (Walking word left list))
      here = placed_as note n built id me.0 s r at live (OnDuty side (Walking word left list)) duty

      w : Steps n built r.history s.words s.homes r.places r.baton r.stack r.lock me.0.number side (Walking word left list) here word left list
      w = next_loaded n built r.history s.words s.homes r.places r.baton r.stack r.lock me.0.number side (Walking word left list) here word left list refl

      same : w.q ≡ q0
      same = (let a = w.word_is in omega (arith, a, leads))

      Goal : ℕ → Type 0
      Goal q = Result me s (next_at q) (slice_index s.words (next_at q)) (loads_at me.0.place (next_at q) me (slice_index s.words (next_at q)))

      all : waiters_of r.history ≡ (reverse left ++ list) ++ reverse r.stack
      all = waiters_now n built r.history s.words s.homes r.places r.baton r.stack r.lock me.0.number side (Walking word left list) here

      waits_left : (i : ℕ) → IsWaitingIn i left → IsWaitingIn i (waiters_of r.history)
      waits_left i k =
          subst (IsWaitingIn i) (sym all) (waits_front i (reverse left ++ list) (reverse r.stack) (waits_front i (reverse left) list (waits_turned i left k)))

      passes : me.0.passes ≡ n
      passes = sized_as note n built id me.0 s r at live

      below : w.q < me.0.passes
      below =
          subst (λ z. w.q < z) (sym passes) (r.lock.below w.q (waits_left w.q (subst (IsWaitingIn w.q) (sym w.left_is) (inl refl))))

      found : ℕ
      found = slice_index s.words (next_at w.q)

      more : found ≤ me.0.passes
      more =
          subst (λ z. found ≤ z) (sym passes) (head_low (next_in s.words) n found w.rest w.chain (λ i k. r.lock.below i (waits_left i (subst (IsWaitingIn i) (sym w.left_is) (inr k)))))

      room : length list < 64
      room =
          let a : length (waiters_of r.history) ≡ length ((reverse left ++ list) ++ reverse r.stack) = ap length all in
          let b = length-append (reverse left ++ list) (reverse r.stack) in
          let c = length-append (reverse left) list in
          let d = length-reverse left in
          let e : length left ≡ length (w.q ∷ w.rest) = ap length w.left_is in
          let f = (bounds n built r.history s.words s.homes r.places r.baton r.stack r.lock).1 in
          let few = r.few in
          omega (arith, a, b, c, d, e, f, few)

      by : (c : Bool) → eqb (slice_index s.words (next_at w.q)) 0 ≡ c → Goal w.q
      by true empty =
          let e = eqb-true found 0 empty in
          let new = OnDuty side (ToPop (w.q ∷ list)) in
          let d = done NextLoad (next_at w.q) found in
          let v = moves me.0 new d in
          let lock = subst (λ z. Stands n built r.history z s.homes (set r.places me.0.number new) r.baton r.stack) (sym (set_back s.words (next_at w.q))) (w.last e) in
          let told : Loads side word list (next_at w.q) me found (v, me.1) = record { q = w.q; word_is = w.word_is; below = below; room = room; more = more; is = subst (λ c. LoadTold me side (next_at w.q) w.q list found c (v, me.1)) (sym empty) refl } in
          (v, keeps, tt, kept_move note n built id me.0 s r at live new d (next_at w.q) found me.1 keeps r.baton r.stack refl lock, subst (λ z. loads_at z (next_at w.q) me found (v, me.1)) (sym duty) told)
      by false there =
          let ne : found ≢ 0 = λ e. (let yes : eqb found 0 ≡ true = eq-eqb found 0 e in cc) in
          let new = OnDuty side (Walking found w.rest (w.q ∷ list)) in
          let d = done NextLoad (next_at w.q) found in
          let v = moves me.0 new d in
          let lock = subst (λ z. Stands n built r.history z s.homes (set r.places me.0.number new) r.baton r.stack) (sym (set_back s.words (next_at w.q))) (w.more ne) in
          let told : Loads side word list (next_at w.q) me found (v, me.1) = record { q = w.q; word_is = w.word_is; below = below; room = room; more = more; is = subst (λ c. LoadTold me side (next_at w.q) w.q list found c (v, me.1)) (sym there) (w.rest, refl) } in
          (v, keeps, tt, kept_move note n built id me.0 s r at live new d (next_at w.q) found me.1 keeps r.baton r.stack refl lock, subst (λ z. loads_at z (next_at w.q) me found (v, me.1)) (sym duty) told)

  pub who_step : (me : M) (side : Side) (q : ℕ) (rest : List ℕ) → me.0.live ≡ true → me.0.place ≡ OnDuty side (ToPop (q ∷ rest)) → Allows (Kept note n built) slots id me (who_at q) (λ k. k) (loaded_who (step slots (who_at q) 0 0 none) me)
  who_step me side q rest live duty s r long at fits =
      let here = placed_as note n built id me.0 s r at live (OnDuty side (ToPop (q ∷ rest))) duty in
      let found = slice_index s.words (who_at q) in
      let new = OnDuty side (Granting q found rest) in
      let d = done WhoLoad (who_at q) found in
      let lock = subst (λ z. Stands n built r.history z s.homes (set r.places me.0.number new) r.baton r.stack) (sym (set_back s.words (who_at q))) (who_loaded n built r.history s.words s.homes r.places r.baton r.stack r.lock me.0.number side (ToPop (q ∷ rest)) here q rest refl) in
      (moves me.0 new d, keeps, tt, kept_move note n built id me.0 s r at live new d (who_at q) found me.1 keeps r.baton r.stack refl lock, subst (λ z. names_at z (who_at q) me found (moves me.0 new d, me.1)) (sym duty) refl)

  -- the lock after a grant, by whose duty it was and whom it granted
  granted_lock : (me : M) (s : State S (Known T)) (r : Kept note n built s) (side : Side) (q co last : ℕ) (rest : List ℕ) → get_elem? r.places me.0.number ≡ some (OnDuty side (Granting q co rest)) → Stands n built (Grant me.0.number q ∷ r.history) (set s.words (grant_at q) 1) (set s.homes 1 (some (Popped rest last))) (set r.places me.0.number (after_grant side me.0.number q)) (Owned q) r.stack
  granted_lock me s r Unlocking q co last rest here =
      unlock_grants n built r.history s.words s.homes r.places r.baton r.stack r.lock me.0.number Unlocking (Granting q co rest) here q last rest refl refl
  granted_lock me s r Locking q co last rest here =
      ⊎_elim
      (λ same. subst (λ c. Stands n built (Grant me.0.number q ∷ r.history) (set s.words (grant_at q) 1) (set s.homes 1 (some (Popped rest last))) (set r.places me.0.number (cond c SelfGranted Queued)) (Owned q) r.stack) (sym (eq-eqb q me.0.number same)) (lock_grants_itself n built r.history s.words s.homes r.places r.baton r.stack r.lock me.0.number Locking (Granting q co rest) here q last rest refl refl same))
      (λ ne. subst (λ c. Stands n built (Grant me.0.number q ∷ r.history) (set s.words (grant_at q) 1) (set s.homes 1 (some (Popped rest last))) (set r.places me.0.number (cond c SelfGranted Queued)) (Owned q) r.stack) (sym (ne_eqb q me.0.number ne)) (lock_grants n built r.history s.words s.homes r.places r.baton r.stack r.lock me.0.number Locking (Granting q co rest) here q last rest refl refl ne))
      (cases_eq q me.0.number)

  pub grant_step : (me : M) (side : Side) (q co last : ℕ) (rest : List ℕ) → me.0.live ≡ true → me.1 ≡ (1, Popped rest last) ∷ [] → me.0.place ≡ OnDuty side (Granting q co rest) → Allows (Kept note n built) slots id me (grant_at q) (λ k. 1) (λ k. stored_grant (step slots (grant_at q) 1 0 none) me 1)
  grant_step me side q co last rest live carried duty s r long at fits =
      let here = placed_as note n built id me.0 s r at live (OnDuty side (Granting q co rest)) duty in
      let lock = granted_lock me s r side q co last rest here in
      let new = after_grant side me.0.number q in
      let d = done GrantStore (grant_at q) 1 in
      let e = Grant me.0.number q in
      let w = makes me.0 new d r.history e in
      let c = (1, Popped rest last) ∷ [] in
      let told : Grants side q co (grant_at q) me.0 (w, []) = record { older = r.history; makes = makes_told note n built id me.0 s r at live new d (grant_at q) 1 c gives (Owned q) r.stack e [] lock.legal; named = r.lock.names.each me.0.number (OnDuty side (Granting q co rest)) here } in
      let P : List (ℕ × S) → Type 0 = λ l. (v : Known T) × (a : Act S) × Valid s.homes l a × Kept note n built (stepped s (grant_at q) 1 id l v a) × grants_at me.0.place (grant_at q) me.0 (v, carried_after l a) in
      subst P (sym carried) (w, gives, tt, kept_make note n built id me.0 s r at live new d (grant_at q) 1 c gives (Owned q) r.stack e refl r.noted (λ j u ne atu lives owns. refl) lock, subst (λ z. grants_at z (grant_at q) me.0 (w, [])) (sym duty) told)

  pub publish_step : (me : M) (k last : ℕ) → me.0.live ≡ true → me.1 ≡ (1, Popped [] last) ∷ [] → me.0.place ≡ OnDuty Unlocking Nobody → k ≢ 0 → Allows (Kept note n built) slots id me handoff_at (λ z. k) (λ z. stored_number (step slots handoff_at k 0 none) me k)
  publish_step me k last live carried duty number s r long at fits =
      let here = placed_as note n built id me.0 s r at live (OnDuty Unlocking Nobody) duty in
      let new = Published k in
      let d = done HandoffStore handoff_at k in
      let w = moves me.0 new d in
      let c = (1, Popped [] last) ∷ [] in
      let P : List (ℕ × S) → Type 0 = λ l. (v : Known T) × (a : Act S) × Valid s.homes l a × Kept note n built (stepped s handoff_at k id l v a) × Is (v, carried_after l a) (w, []) in
      subst P (sym carried) (w, gives, tt, kept_move note n built id me.0 s r at live new d handoff_at k c gives Offered r.stack refl (published n built r.history s.words s.homes r.places r.baton r.stack r.lock me.0.number k last here number), refl)

  pub look_step : (me : M) (k : ℕ) → me.0.live ≡ true → me.0.place ≡ Published k → Allows (Kept note n built) slots id me head_at (λ z. z) (looked (step slots head_at 0 0 none) me)
  look_step me k live is s r long at fits =
      by (eqb (slice_index s.words head_at) 0) refl
    where
      here : get_elem? r.places me.0.number ≡ some (Published k)
      here = placed_as note n built id me.0 s r at live (Published k) is

      by : (c : Bool) → eqb (slice_index s.words head_at) 0 ≡ c → Result me s head_at (slice_index s.words head_at) (looks_at me.0.place me (slice_index s.words head_at))
      by true empty =
          let d = done SecondLook head_at (slice_index s.words head_at) in
          let w = moves me.0 AtRest d in
          let lock = subst (λ z. Stands n built r.history z s.homes (set r.places me.0.number AtRest) r.baton r.stack) (sym (set_back s.words head_at)) (look_none n built r.history s.words s.homes r.places r.baton r.stack r.lock me.0.number k here (eqb-true _ 0 empty)) in
          (w, keeps, tt, kept_move note n built id me.0 s r at live AtRest d head_at (slice_index s.words head_at) me.1 keeps r.baton r.stack refl lock, subst (λ z. looks_at z me (slice_index s.words head_at) (w, me.1)) (sym is) (subst (λ c. Is (w, me.1) (moves me.0 (cond c AtRest (Found k)) d, me.1)) (sym empty) refl))
      by false there =
          let d = done SecondLook head_at (slice_index s.words head_at) in
          let w = moves me.0 (Found k) d in
          let lock = subst (λ z. Stands n built r.history z s.homes (set r.places me.0.number (Found k)) r.baton r.stack) (sym (set_back s.words head_at)) (look_found n built r.history s.words s.homes r.places r.baton r.stack r.lock me.0.number k here) in
          (w, keeps, tt, kept_move note n built id me.0 s r at live (Found k) d head_at (slice_index s.words head_at) me.1 keeps r.baton r.stack refl lock, subst (λ z. looks_at z me (slice_index s.words head_at) (w, me.1)) (sym is) (subst (λ c. Is (w, me.1) (moves me.0 (cond c AtRest (Found k)) d, me.1)) (sym there) refl))
