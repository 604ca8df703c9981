-- The sub, and the swap of the own grant word, each as its step on the table asks.
use Rattle.std.proofs.Common.{◌≡◌, ◌≢◌, ℕ, ◌+◌, ◌*◌, ◌-◌, ◌<◌, ◌%◌, ◌^◌, ◌⊎◌, inl, inr, ⊎_elim, reverse, Bool, true, false, not, ◌&&◌, cond, eqb, MatchBool, List, [], ◌∷◌, slice_index, set, get_or, refl, sym, ap, ◌∙◌, subst, arith, zero, suc}
use Rattle.std.proofs.lemmas.Bool.{eq-eqb, eqb-true}
use Rattle.std.proofs.lemmas.Nat.{mod_low}
use mathlib.Core.Option.{some, none}
use lib.ListN.{get_elem?}
use Rattle.atomic_table.specs.Table.{Me, Act, keeps, takes, gives, chain, step, Valid, carried_after, stepped, Allows}
use Rattle.atomic_table.proofs.Lists.{set_else, set_again}
use Rattle.co_mutex.specs.declared.slot.Slot.{Slot}
use Rattle.co_mutex.specs.declared.slot.Slot.TheVariants.{Value}
use Rattle.aio_model.specs.Lock.History.{LockEntry, Release, IsWaitingIn, value_of}
use Rattle.aio_model.specs.Lock.Notes.{SameNotes, IsNoted}
use Rattle.co_mutex.specs.Lists.{Each}
use Rattle.co_mutex.specs.Places.{Unlocking, ToPop, PassPlace, AtRest, Counted, Named, HeadLoaded, Linked, Pushed, Loaded, Queued, SelfGranted, Holds, OnDuty, Published, Found, is_holding, is_owning}
use Rattle.co_mutex.specs.LockWords.{locked_at, handoff_at, grant_at}
use Rattle.co_mutex.specs.Rule.{Popped, Baton, Free, Owned, Duty, Offered, owner_in, Fit, IsAt, grant_word, Stands}
use Rattle.co_mutex.specs.Known.{LockedFetchSub, GrantSwap, Known, moves, learns, makes}
use Rattle.co_mutex.specs.Seats.{Kept}
use Rattle.co_mutex.specs.Plays.{done, Is, LeftAlone, LeftOthers, subbed, FindsGrant, TakesOwn, finds_at, swapped_grant}
use Rattle.co_mutex.proofs.Frames.{owned_same}
use Rattle.co_mutex.proofs.WaitLists.{waits_front}
use Rattle.co_mutex.proofs.BatonSteps.{mine, home, sub_last, sub_more}
use Rattle.co_mutex.proofs.GrantSteps.{swapped}
use Rattle.co_mutex.proofs.Histories.{noted_rest}
use Rattle.co_mutex.proofs.StepForms.{set_as, seat_is, sized_as, placed_as, history_goes, kept_move, kept_own, kept_learn, kept_make, makes_told}
use Rattle.co_mutex.proofs.LockSteps.{some_same}

pub low_each : (P : ℕ → Type 0) (xs : List ℕ) → ((q : ℕ) → IsWaitingIn q xs → P q) → Each P xs
low_each P [] f = tt
low_each P (x ∷ xs) f = (f x (inl refl), low_each P xs (λ q w. f q (inr w)))

sub_word : (k l : ℕ) → k ≡ l + 1 → l < 2 ^ 64 → (k + (2 ^ 64 - 1)) % 2 ^ 64 ≡ l
sub_word k l e low =
    let sum : k + (2 ^ 64 - 1) ≡ 1 * 2 ^ 64 + l = omega (arith, e) in
    ap (λ z. z % 2 ^ 64) sum ∙ mod_low 1 64 l low

pred_of : (k : ℕ) → 0 < k → (l : ℕ) × (k ≡ l + 1)
pred_of zero e = absurd (omega (arith, e))
pred_of (suc l) e = (l, omega arith)

pub value_same : {T : Type 0} (x y : T) → Value x ≡ Value y → x ≡ y
value_same x y e = cc

module _ {T : Type 0} where
  owning_owns : (h : List (LockEntry T)) (b : Baton) (p : ℕ) (place : PassPlace) → is_owning place ≡ true → IsAt h b p place → b ≡ Owned p
  owning_owns h b p AtRest e is = absurd cc
  owning_owns h b p Counted e is = absurd cc
  owning_owns h b p (Named co) e is = absurd cc
  owning_owns h b p (HeadLoaded co found) e is = absurd cc
  owning_owns h b p (Linked co found) e is = absurd cc
  owning_owns h b p Pushed e is = absurd cc
  owning_owns h b p (Loaded n) e is = absurd cc
  owning_owns h b p Queued e is = absurd cc
  owning_owns h b p SelfGranted e is = is
  owning_owns h b p Holds e is = is
  owning_owns h b p (OnDuty side task) e is = absurd cc
  owning_owns h b p (Published n) e is = absurd cc
  owning_owns h b p (Found n) e is = absurd cc

zero_or_one : (b : Baton) (p : ℕ) (place : PassPlace) (x : ℕ) → x ≡ grant_word b p place → (x ≡ 0) ⊎ (x ≡ 1)
zero_or_one Free p place x e = inl e
zero_or_one (Owned q) p place x e = bits (eqb q p && not (is_holding place)) x e
  where
    bits : (k : Bool) (x : ℕ) → x ≡ cond k 1 0 → (x ≡ 0) ⊎ (x ≡ 1)
    bits true x e = inr e
    bits false x e = inl e
zero_or_one (Duty q) p place x e = inl e
zero_or_one Offered p place x e = inl e

module _ {T N : Type 0} (note : T → ℕ → N) (n : ℕ) (built : T) (slots id : ℕ) where
  abbrev S : Type 0
  S = Slot T

  abbrev M : Type 0
  M = Me (Slot T) (Known T)

  abbrev SubTold : T → ℕ → Known T → Bool → M → Type 0
  SubTold x found v c after = MatchBool c (LeftAlone x found v after) (LeftOthers x found v after)

  sub_allowed : (v : Known T) (x : T) → v.live ≡ true → v.place ≡ Holds → SameNotes note v.number (value_of built v.seen) x → Allows (Kept note n built) slots id (v, (0, Value x) ∷ []) locked_at (λ k. (k + (2 ^ 64 - 1)) % 2 ^ 64) (λ found after. SubTold x found v (eqb found 1) after)
  sub_allowed v x live holds notes s r long at fits =
      by (eqb (slice_index s.words locked_at) 1) refl
    where
      here : get_elem? r.places v.number ≡ some Holds
      here = placed_as note n built id v s r at live Holds holds

      e : LockEntry T
      e = Release v.number x

      noted : IsNoted note built (Release v.number x ∷ r.history)
      noted =
          (subst (λ z. SameNotes note v.number z x) ((seat_is note n built id v s r at live).value (ap is_owning holds)) notes, r.noted)

      own_it : r.baton ≡ Owned v.number
      own_it = mine n built r.history s.words s.homes r.places r.baton r.stack r.lock v.number x here

      stays : (j : ℕ) (u : Known T) → j ≢ id → get_elem? s.views j ≡ some u → u.live ≡ true → is_owning u.place ≡ true → value_of built (Release v.number x ∷ r.history) ≡ value_of built r.history
      stays j u ne atu lives owns =
          let o = r.seats j u atu lives in
          let too = owning_owns r.history r.baton u.number u.place owns (r.lock.baton_stands.each u.number u.place o.placed) in
          let same : v.number ≡ u.number = owned_same v.number u.number (sym own_it ∙ too) in
          absurd (ne (sym o.part.sits ∙ ap r.seat (sym same) ∙ (seat_is note n built id v s r at live).part.sits))

      fit : Fit (Owned v.number) (slice_index s.words locked_at) (slice_index s.words handoff_at)
      fit = subst (λ z. Fit z (slice_index s.words locked_at) (slice_index s.words handoff_at)) own_it r.lock.baton_stands.fit

      below : (l : ℕ) × (slice_index s.words locked_at ≡ l + 1)
      below = pred_of (slice_index s.words locked_at) fit.0

      word : (slice_index s.words locked_at + (2 ^ 64 - 1)) % 2 ^ 64 ≡ below.0
      word = (let e = below.1 in sub_word (slice_index s.words locked_at) below.0 e (omega (arith, e, fits)))

      c : List (ℕ × S)
      c = (0, Value x) ∷ []

      by : (k : Bool) → eqb (slice_index s.words locked_at) 1 ≡ k → (w : Known T) × (a : Act S) × Valid s.homes ((0, Value x) ∷ []) a × Kept note n built (stepped s locked_at ((slice_index s.words locked_at + (2 ^ 64 - 1)) % 2 ^ 64) id ((0, Value x) ∷ []) w a) × SubTold x (slice_index s.words locked_at) v k (w, carried_after ((0, Value x) ∷ []) a)
      by true one =
          let d = done LockedFetchSub locked_at (slice_index s.words locked_at) in
          let found = eqb-true (slice_index s.words locked_at) 1 one in
          let e = below.1 in
          let lock = sub_last n built r.history s.words s.homes r.places r.baton r.stack r.lock v.number x here below.0 e (omega (arith, e, found)) in
          let w = makes v AtRest d r.history (Release v.number x) in
          (w, gives, tt, subst (λ z. Kept note n built (stepped s locked_at z id ((0, Value x) ∷ []) w gives)) (sym word) (kept_make note n built id v s r at live AtRest d locked_at below.0 ((0, Value x) ∷ []) gives Free r.stack (Release v.number x) refl noted stays lock), record { older = r.history; makes = makes_told note n built id v s r at live AtRest d locked_at below.0 ((0, Value x) ∷ []) gives Free r.stack (Release v.number x) [] lock.legal })
      by false many =
          let d = done LockedFetchSub locked_at (slice_index s.words locked_at) in
          let list = home n built r.history s.words s.homes r.places r.baton r.stack r.lock v.number x here in
          let new = OnDuty Unlocking (ToPop list.popped) in
          let w = makes v new d r.history (Release v.number x) in
          let e = below.1 in
          let more : below.0 ≢ 0 = λ q. (let one : eqb (slice_index s.words locked_at) 1 ≡ true = eq-eqb _ _ (omega (arith, e, q)) in cc) in
          let lock = sub_more n built r.history s.words s.homes r.places r.baton r.stack r.lock v.number x here below.0 e more in
          let a = chain gives (takes 1 (Popped list.popped list.last)) in
          (w, a, (tt, set_else s.homes 0 1 (some (Value x)) (λ q. omega arith) ∙ list.there), subst (λ z. Kept note n built (stepped s locked_at z id ((0, Value x) ∷ []) w a)) (sym word) (kept_make note n built id v s r at live new d locked_at below.0 ((0, Value x) ∷ []) a (Duty v.number) r.stack (Release v.number x) refl noted stays lock), record { older = r.history; popped = list.popped; last = list.last; makes = makes_told note n built id v s r at live new d locked_at below.0 ((0, Value x) ∷ []) a (Duty v.number) r.stack (Release v.number x) ((1, Popped list.popped list.last) ∷ []) lock.legal; low = low_each (λ q. q < v.passes) list.popped (λ q w. subst (λ z. q < z) (sym (sized_as note n built id v s r at live)) (r.lock.below q (subst (IsWaitingIn q) (sym list.waiters) (waits_front q list.popped (reverse r.stack) w)))) })

  first_value : (x y : T) → ◌≡◌ {A = List (ℕ × S)} ((0, Value x) ∷ []) ((0, Value y) ∷ []) → x ≡ y
  first_value x y e =
      value_same x y (ap (λ (l : List (ℕ × S)). (get_or l 0 (0, Value x)).1) e)

  pub sub_step : (me : M) (x : T) → me.0.live ≡ true → me.1 ≡ (0, Value x) ∷ [] → me.0.place ≡ Holds → SameNotes note me.0.number (value_of built me.0.seen) x → Allows (Kept note n built) slots id me locked_at (λ k. (k + (2 ^ 64 - 1)) % 2 ^ 64) (subbed (step slots locked_at 1 0 none) me)
  sub_step me x live carried holds notes s r long at fits =
      let all = sub_allowed me.0 x live holds notes s r long at fits in
      let found = slice_index s.words locked_at in
      let P : List (ℕ × S) → Type 0 = λ l. (w : Known T) × (a : Act S) × Valid s.homes l a × Kept note n built (stepped s locked_at ((found + (2 ^ 64 - 1)) % 2 ^ 64) id l w a) × subbed (step slots locked_at 1 0 none) (me.0, l) found (w, carried_after l a) in
      subst P (sym carried) (all.0, all.1, all.2, all.3, λ y e. subst (λ z. SubTold z found me.0 (eqb found 1) (all.0, carried_after ((0, Value x) ∷ []) all.1)) (first_value x y e) all.4)

  abbrev FindTold : T → M → ℕ → Bool → M → Type 0
  FindTold x me found c after = MatchBool c (FindsGrant note (grant_at me.0.number) x me after) ((found ≡ 0) × Is after (moves me.0 Queued (done GrantSwap (grant_at me.0.number) 0), []))

  -- the swap of a queued pass
  pub find_step : (me : M) → me.0.live ≡ true → me.1 ≡ [] → me.0.place ≡ Queued → Allows (Kept note n built) slots id me (grant_at me.0.number) (λ k. 0) (swapped_grant note (step slots (grant_at me.0.number) 0 0 none) me)
  find_step me live carried queued s r long at fits =
      subst P (sym carried) (by (eqb (slice_index s.words (grant_at me.0.number)) 1) refl)
    where
      v : Known T
      v = me.0

      here : get_elem? r.places me.0.number ≡ some Queued
      here = placed_as note n built id me.0 s r at live Queued queued

      P : List (ℕ × S) → Type 0
      P l = (w : Known T) × (a : Act S) × Valid s.homes l a × Kept note n built (stepped s (grant_at me.0.number) 0 id l w a) × swapped_grant note (step slots (grant_at me.0.number) 0 0 none) (me.0, l) (slice_index s.words (grant_at me.0.number)) (w, carried_after l a)

      by : (c : Bool) → eqb (slice_index s.words (grant_at me.0.number)) 1 ≡ c → P []
      by true one =
          let found = eqb-true (slice_index s.words (grant_at me.0.number)) 1 one in
          let all = swapped n built r.history s.words s.homes r.places r.baton r.stack r.lock me.0.number Queued here (inl refl) found in
          let k = grant_at me.0.number in
          let d = done GrantSwap k 1 in
          let a = takes 0 (Value (value_of built r.history)) in
          let w = learns me.0 Holds d r.history in
          let told : FindsGrant note (grant_at me.0.number) built (me.0, []) (w, (0, Value (value_of built r.history)) ∷ []) = record { all = r.history; is = refl; goes = history_goes note n built id me.0 s r at live; owner = r.lock.baton_stands.owner ∙ ap owner_in all.0; noted = r.noted } in
          (w, a, all.1, kept_learn note n built id me.0 s r at live Holds d k 0 [] a r.baton r.stack all.2, λ x e. subst (λ z. finds_at note z k x (me.0, []) (slice_index s.words k) (w, (0, Value (value_of built r.history)) ∷ [])) (sym queued) (subst (λ c. FindTold x (me.0, []) (slice_index s.words k) c (w, (0, Value (value_of built r.history)) ∷ [])) (sym one) (subst (λ z. FindsGrant note k z (me.0, []) (w, (0, Value (value_of built r.history)) ∷ [])) (some_same built x (sym (seat_is note n built id me.0 s r at live).opens ∙ e)) told)))
      by false none_yet =
          let k = grant_at me.0.number in
          let word : slice_index s.words k ≡ grant_word r.baton me.0.number Queued = r.lock.grants me.0.number Queued here in
          let zero_there : slice_index s.words k ≡ 0 = ⊎_elim (λ e. e) (λ e. absurd (let yes : eqb (slice_index s.words k) 1 ≡ true = eq-eqb _ _ e in let bad : true ≡ false = sym yes ∙ none_yet in cc)) (zero_or_one r.baton me.0.number Queued _ word) in
          let d = done GrantSwap k 0 in
          let w = moves me.0 Queued d in
          let lock : Stands n built r.history (set s.words k 0) s.homes (set r.places me.0.number Queued) r.baton r.stack = subst (λ z. Stands n built r.history z s.homes (set r.places me.0.number Queued) r.baton r.stack) (sym (set_as s.words k 0 zero_there)) (subst (λ z. Stands n built r.history s.words s.homes z r.baton r.stack) (sym (set_again r.places me.0.number Queued here)) r.lock) in
          (w, keeps, tt, kept_move note n built id me.0 s r at live Queued d k 0 [] keeps r.baton r.stack refl lock, λ x e. subst (λ z. finds_at note z k x (me.0, []) (slice_index s.words k) (w, [])) (sym queued) (subst (λ c. FindTold x (me.0, []) (slice_index s.words k) c (w, [])) (sym none_yet) (zero_there, refl)))

  -- the swap of a pass that granted itself
  pub own_step : (me : M) → me.0.live ≡ true → me.1 ≡ [] → me.0.place ≡ SelfGranted → Allows (Kept note n built) slots id me (grant_at me.0.number) (λ k. 0) (swapped_grant note (step slots (grant_at me.0.number) 0 0 none) me)
  own_step me live carried is s r long at fits =
      let here = placed_as note n built id me.0 s r at live SelfGranted is in
      let k = grant_at me.0.number in
      let seat = seat_is note n built id me.0 s r at live in
      let own : r.baton ≡ Owned me.0.number = r.lock.baton_stands.each me.0.number SelfGranted here in
      let yes : eqb me.0.number me.0.number ≡ true = eq-eqb me.0.number me.0.number refl in
      let one : slice_index s.words k ≡ 1 = r.lock.grants me.0.number SelfGranted here ∙ ap (λ z. grant_word z me.0.number SelfGranted) own ∙ ap (λ c. cond (c && true) 1 0) yes in
      let all = swapped n built r.history s.words s.homes r.places r.baton r.stack r.lock me.0.number SelfGranted here (inr refl) one in
      let value : value_of built me.0.seen ≡ value_of built r.history = seat.value (ap is_owning is) in
      let d = done GrantSwap k 1 in
      let a = takes 0 (Value (value_of built me.0.seen)) in
      let w = moves me.0 Holds d in
      let hand : List (ℕ × S) = (0, Value (value_of built me.0.seen)) ∷ [] in
      let noted : IsNoted note built me.0.seen = noted_rest note built seat.part.seen_of.rest me.0.seen (subst (IsNoted note built) seat.part.seen_of.longer r.noted) in
      let told : TakesOwn note k built (me.0, []) (w, hand) = record { is = refl; noted = noted } in
      let P : List (ℕ × S) → Type 0 = λ l. (w : Known T) × (a : Act S) × Valid s.homes l a × Kept note n built (stepped s k 0 id l w a) × swapped_grant note (step slots k 0 0 none) (me.0, l) (slice_index s.words k) (w, carried_after l a) in
      subst P (sym carried) (w, a, all.1 ∙ ap (λ z. some (some (Value z))) (sym value), kept_own note n built id me.0 s r at live Holds d k 0 [] a r.baton r.stack value all.2, λ x e. subst (λ z. finds_at note z k x (me.0, []) (slice_index s.words k) (w, hand)) (sym is) (one, subst (λ z. TakesOwn note k z (me.0, []) (w, hand)) (some_same built x (sym seat.opens ∙ e)) told))
