-- The steps of a locker, each as its step on the table asks: the compare and the add of `locked`, what pushes, and the hand-off.
use Rattle.std.proofs.Common.{◌≡◌, ◌≢◌, ℕ, ◌+◌, ◌*◌, ◌%◌, ◌^◌, Bool, true, false, cond, eqb, MatchBool, Some, List, [], ◌∷◌, slice_index, set, refl, sym, ap, ◌∙◌, subst, arith}
use Rattle.std.proofs.lemmas.Bool.{eq-eqb, eqb-true}
use Rattle.std.proofs.lemmas.Nat.{mod_low}
use mathlib.Core.Option.{some, none}
use lib.ListN.{get_elem?}
use prog.Atomic.{either}
use Rattle.atomic_table.specs.Table.{State, Me, Act, keeps, takes, step, Valid, carried_after, stepped, Allows}
use Rattle.atomic_table.proofs.Lists.{set_again}
use Rattle.co_mutex.specs.declared.slot.Slot.{Slot}
use Rattle.co_mutex.specs.declared.slot.Slot.TheVariants.{Value}
use Rattle.aio_model.specs.Lock.History.{LockEntry, Got, Wait, value_of}
use Rattle.co_mutex.specs.Places.{Locking, Unlocking, ToPop, PassPlace, AtRest, Counted, Named, HeadLoaded, Linked, Pushed, Loaded, Queued, Holds, OnDuty, Found}
use Rattle.co_mutex.specs.LockWords.{locked_at, handoff_at, head_at, next_at, who_at}
use Rattle.co_mutex.specs.Rule.{Popped, Baton, Owned, Duty, Stands}
use Rattle.co_mutex.specs.Known.{Kind, LockedCompare, LockedFetchAdd, WhoStore, HeadLoad, NextStore, HeadCompare, HandoffLoad, HandoffCompare, Known, moves, makes}
use Rattle.co_mutex.specs.Seats.{Kept}
use Rattle.co_mutex.specs.Plays.{done, Is, stored_who, heads_at, loaded_head, links_at, stored_next, Pushes, pushes_at, compared_head, loaded_handoff, TakesDuty, takes_at, compared_handoff, Gets, compared_locked, added_locked}
use Rattle.co_mutex.proofs.GotSteps.{got, counted}
use Rattle.co_mutex.proofs.QuietSteps.{who_stored, head_loaded, next_stored, push_lost, none_offered, one_offered, lock_lost, unlock_lost}
use Rattle.co_mutex.proofs.PushStep.{push_won}
use Rattle.co_mutex.proofs.BatonSteps.{lock_won, unlock_won, offer}
use Rattle.co_mutex.proofs.Ends.{bounds}
use Rattle.co_mutex.proofs.StepForms.{set_back, seat_is, placed_as, kept_move, kept_make, makes_told}

pub some_same : {A : Type 0} (a b : A) → Some a ≡ Some b → a ≡ b
some_same a b e = cc

isnt_eqb : (x y : ℕ) → eqb x y ≡ false → x ≢ y
isnt_eqb x y f e = (let yes : eqb x y ≡ true = eq-eqb x y e in let bad : true ≡ false = sym yes ∙ f in absurd cc)

module _ {T : Type 0} where
  -- nothing is changed
  pub unmoved : (n : ℕ) (built : T) (h : List (LockEntry T)) (words : List ℕ) (homes : List (mathlib.Core.Option.Option (Slot T))) (places : List PassPlace) (b : Baton) (stack : List ℕ) (k p : ℕ) (place : PassPlace) → get_elem? places p ≡ some place → Stands n built h words homes places b stack → Stands n built h (set words k (slice_index words k)) homes (set places p place) b stack
  unmoved n built h words homes places b stack k p place at s =
      subst (λ z. Stands n built h z homes (set places p place) b stack) (sym (set_back words k)) (subst (λ z. Stands n built h words homes z b stack) (sym (set_again places p place at)) s)

module _ {T N : Type 0} (note : T → ℕ → N) (n : ℕ) (built : T) (slots id : ℕ) where
  abbrev S : Type 0
  S = Slot T

  abbrev M : Type 0
  M = Me (Slot T) (Known T)

  abbrev Holds_rule : State (Slot T) (Known T) → Type 0
  Holds_rule = Kept note n built

  -- what may follow a step, where the list in hand, what the word becomes and what is told are these
  abbrev Result : M → State S (Known T) → ℕ → ℕ → (M → Type 0) → Type 0
  Result me s k x told = (w : Known T) × (a : Act S) × Valid s.homes me.1 a × Kept note n built (stepped s k x id me.1 w a) × told (w, carried_after me.1 a)

  -- a lock that was found free, by the compare or the add
  got_result : (v : Known T) (s : State S (Known T)) (r : Kept note n built s) (at : get_elem? s.views id ≡ some v) (live : v.live ≡ true) → v.place ≡ AtRest → slice_index s.words locked_at ≡ 0 → (kind : Kind) → Result (v, []) s locked_at 1 (λ after. Gets note kind built (v, []) after)
  got_result v s r at live rest zero_there kind =
      let g = got n built r.history s.words s.homes r.places r.baton r.stack r.lock v.number (placed_as note n built id v s r at live AtRest rest) zero_there in
      let d = done kind locked_at 0 in
      let a = takes 0 (Value (value_of built r.history)) in
      (makes v Holds d r.history (Got v.number), a, g.0, kept_make note n built id v s r at live Holds d locked_at 1 [] a (Owned v.number) r.stack (Got v.number) refl r.noted (λ j u ne atu lives owns. refl) g.1, record { older = r.history; makes = makes_told note n built id v s r at live Holds d locked_at 1 [] a (Owned v.number) r.stack (Got v.number) ((0, Value (value_of built r.history)) ∷ []) g.1.legal; noted = r.noted })

  pub compare_step : (me : M) → me.0.live ≡ true → me.1 ≡ [] → me.0.place ≡ AtRest → Allows Holds_rule slots id me locked_at (λ z. either (eqb z 0) 1 z) (compared_locked note (step slots locked_at 0 1 none) me)
  compare_step me live carried rest s r long at fits =
      subst P (sym carried) (by (eqb (slice_index s.words locked_at) 0) refl)
    where
      found : ℕ
      found = slice_index s.words locked_at

      Told : Bool → T → M → Type 0
      Told c x after =
          MatchBool c (Gets note LockedCompare x (me.0, []) after) (Is after (moves me.0 AtRest (done LockedCompare locked_at (slice_index s.words locked_at)), []))

      P : List (ℕ × S) → Type 0
      P l = Result (me.0, l) s locked_at (either (eqb (slice_index s.words locked_at) 0) 1 (slice_index s.words locked_at)) (compared_locked note (step slots locked_at 0 1 none) (me.0, l) (slice_index s.words locked_at))

      by : (c : Bool) → eqb (slice_index s.words locked_at) 0 ≡ c → P []
      by true zero_there =
          let g = got_result me.0 s r at live rest (eqb-true _ 0 zero_there) LockedCompare in
          (g.0, g.1, g.2, subst (λ c. Kept note n built (stepped s locked_at (either c 1 (slice_index s.words locked_at)) id [] g.0 g.1)) (sym zero_there) g.3, λ x e. subst (λ c. Told c x (g.0, carried_after [] g.1)) (sym zero_there) (subst (λ z. Gets note LockedCompare z (me.0, []) (g.0, carried_after [] g.1)) (some_same built x (sym (seat_is note n built id me.0 s r at live).opens ∙ e)) g.4))
      by false more =
          let here = placed_as note n built id me.0 s r at live AtRest rest in
          let d = done LockedCompare locked_at (slice_index s.words locked_at) in
          let kept = kept_move note n built id me.0 s r at live AtRest d locked_at (slice_index s.words locked_at) [] keeps r.baton r.stack refl (unmoved n built r.history s.words s.homes r.places r.baton r.stack locked_at me.0.number AtRest here r.lock) in
          (moves me.0 AtRest d, keeps, tt, subst (λ c. Kept note n built (stepped s locked_at (either c 1 (slice_index s.words locked_at)) id [] (moves me.0 AtRest d) keeps)) (sym more) kept, λ x e. subst (λ c. Told c x (moves me.0 AtRest d, [])) (sym more) refl)

  pub add_step : (me : M) → me.0.live ≡ true → me.1 ≡ [] → me.0.place ≡ AtRest → Allows Holds_rule slots id me locked_at (λ z. (z + 1) % 2 ^ 64) (added_locked note (step slots locked_at 1 0 none) me)
  add_step me live carried rest s r long at fits =
      subst P (sym carried) (by (eqb (slice_index s.words locked_at) 0) refl)
    where
      Told : Bool → T → M → Type 0
      Told c x after =
          MatchBool c (Gets note LockedFetchAdd x (me.0, []) after) (Is after (moves me.0 Counted (done LockedFetchAdd locked_at (slice_index s.words locked_at)), []))

      P : List (ℕ × S) → Type 0
      P l = Result (me.0, l) s locked_at ((slice_index s.words locked_at + 1) % 2 ^ 64) (added_locked note (step slots locked_at 1 0 none) (me.0, l) (slice_index s.words locked_at))

      word : (slice_index s.words locked_at + 1) % 2 ^ 64 ≡ slice_index s.words locked_at + 1
      word =
          let low = (bounds n built r.history s.words s.homes r.places r.baton r.stack r.lock).0 in
          let few = r.few in
          let sum : slice_index s.words locked_at + 1 ≡ 0 * 2 ^ 64 + (slice_index s.words locked_at + 1) = omega arith in
          ap (λ z. z % 2 ^ 64) sum ∙ mod_low 0 64 (slice_index s.words locked_at + 1) (omega (arith, low, few))

      by : (c : Bool) → eqb (slice_index s.words locked_at) 0 ≡ c → P []
      by true zero_there =
          let e = eqb-true (slice_index s.words locked_at) 0 zero_there in
          let one : (slice_index s.words locked_at + 1) % 2 ^ 64 ≡ 1 = word ∙ ap (λ z. z + 1) e in
          let g = got_result me.0 s r at live rest e LockedFetchAdd in
          (g.0, g.1, g.2, subst (λ z. Kept note n built (stepped s locked_at z id [] g.0 g.1)) (sym one) g.3, λ x e. subst (λ c. Told c x (g.0, carried_after [] g.1)) (sym zero_there) (subst (λ z. Gets note LockedFetchAdd z (me.0, []) (g.0, carried_after [] g.1)) (some_same built x (sym (seat_is note n built id me.0 s r at live).opens ∙ e)) g.4))
      by false more =
          let here = placed_as note n built id me.0 s r at live AtRest rest in
          let d = done LockedFetchAdd locked_at (slice_index s.words locked_at) in
          let kept = kept_move note n built id me.0 s r at live Counted d locked_at (slice_index s.words locked_at + 1) [] keeps r.baton r.stack refl (counted n built r.history s.words s.homes r.places r.baton r.stack r.lock me.0.number here (isnt_eqb _ 0 more)) in
          (moves me.0 Counted d, keeps, tt, subst (λ z. Kept note n built (stepped s locked_at z id [] (moves me.0 Counted d) keeps)) (sym word) kept, λ x e. subst (λ c. Told c x (moves me.0 Counted d, [])) (sym more) refl)

  pub who_store_step : (me : M) (co : ℕ) → me.0.live ≡ true → me.0.place ≡ Counted → Allows Holds_rule slots id me (who_at me.0.number) (λ z. co) (λ z. stored_who (step slots (who_at me.0.number) co 0 none) me co)
  who_store_step me co live is s r long at fits =
      let here = placed_as note n built id me.0 s r at live Counted is in
      let d = done WhoStore (who_at me.0.number) co in
      (moves me.0 (Named co) d, keeps, tt, kept_move note n built id me.0 s r at live (Named co) d (who_at me.0.number) co me.1 keeps r.baton r.stack refl (who_stored n built r.history s.words s.homes r.places r.baton r.stack r.lock me.0.number co here), refl)

  pub head_load_step : (me : M) (co : ℕ) → me.0.live ≡ true → me.0.place ≡ Named co → Allows Holds_rule slots id me head_at (λ z. z) (loaded_head (step slots head_at 0 0 none) me)
  head_load_step me co live is s r long at fits =
      let here = placed_as note n built id me.0 s r at live (Named co) is in
      let found = slice_index s.words head_at in
      let d = done HeadLoad head_at found in
      let new = HeadLoaded co found in
      let lock = subst (λ z. Stands n built r.history z s.homes (set r.places me.0.number new) r.baton r.stack) (sym (set_back s.words head_at)) (head_loaded n built r.history s.words s.homes r.places r.baton r.stack r.lock me.0.number co here) in
      (moves me.0 new d, keeps, tt, kept_move note n built id me.0 s r at live new d head_at found me.1 keeps r.baton r.stack refl lock, subst (λ z. heads_at z me found (moves me.0 new d, me.1)) (sym is) refl)

  pub next_store_step : (me : M) (co head : ℕ) → me.0.live ≡ true → me.0.place ≡ HeadLoaded co head → Allows Holds_rule slots id me (next_at me.0.number) (λ z. head) (λ z. stored_next (step slots (next_at me.0.number) head 0 none) me head)
  next_store_step me co head live is s r long at fits =
      let here = placed_as note n built id me.0 s r at live (HeadLoaded co head) is in
      let word = next_at me.0.number in
      let d = done NextStore word head in
      let new = Linked co head in
      (moves me.0 new d, keeps, tt, kept_move note n built id me.0 s r at live new d word head me.1 keeps r.baton r.stack refl (next_stored n built r.history s.words s.homes r.places r.baton r.stack r.lock me.0.number co head here), subst (λ z. links_at z word me head (moves me.0 new d, me.1)) (sym is) refl)

  pub head_compare_step : (me : M) (co head : ℕ) → me.0.live ≡ true → me.0.place ≡ Linked co head → Allows Holds_rule slots id me head_at (λ z. either (eqb z head) (me.0.number + 1) z) (compared_head (step slots head_at head (me.0.number + 1) none) me)
  head_compare_step me co head live is s r long at fits =
      by (eqb (slice_index s.words head_at) head) refl
    where
      here : get_elem? r.places me.0.number ≡ some (Linked co head)
      here = placed_as note n built id me.0 s r at live (Linked co head) is

      Told : Bool → M → Type 0
      Told c after =
          MatchBool c (Pushes co (slice_index s.words head_at) me after) (Is after (moves me.0 (Named co) (done HeadCompare head_at (slice_index s.words head_at)), me.1))

      by : (c : Bool) → eqb (slice_index s.words head_at) head ≡ c → Result me s head_at (either (eqb (slice_index s.words head_at) head) (me.0.number + 1) (slice_index s.words head_at)) (compared_head (step slots head_at head (me.0.number + 1) none) me (slice_index s.words head_at))
      by true same =
          let e = Wait me.0.number co in
          let d = done HeadCompare head_at (slice_index s.words head_at) in
          let w = makes me.0 Pushed d r.history e in
          let lock = push_won n built r.history s.words s.homes r.places r.baton r.stack r.lock me.0.number co head here (eqb-true _ head same) in
          let stack = me.0.number ∷ r.stack in
          let told : Pushes co (slice_index s.words head_at) me (w, me.1) = record { older = r.history; makes = makes_told note n built id me.0 s r at live Pushed d head_at (me.0.number + 1) me.1 keeps r.baton stack e me.1 lock.legal } in
          (w, keeps, tt, subst (λ c. Kept note n built (stepped s head_at (either c (me.0.number + 1) (slice_index s.words head_at)) id me.1 w keeps)) (sym same) (kept_make note n built id me.0 s r at live Pushed d head_at (me.0.number + 1) me.1 keeps r.baton stack e refl r.noted (λ j u ne atu lives owns. refl) lock), subst (λ z. pushes_at z me (slice_index s.words head_at) (w, me.1)) (sym is) (subst (λ c. Told c (w, me.1)) (sym same) told))
      by false other =
          let d = done HeadCompare head_at (slice_index s.words head_at) in
          let w = moves me.0 (Named co) d in
          let lock = subst (λ z. Stands n built r.history z s.homes (set r.places me.0.number (Named co)) r.baton r.stack) (sym (set_back s.words head_at)) (push_lost n built r.history s.words s.homes r.places r.baton r.stack r.lock me.0.number co head here) in
          (w, keeps, tt, subst (λ c. Kept note n built (stepped s head_at (either c (me.0.number + 1) (slice_index s.words head_at)) id me.1 w keeps)) (sym other) (kept_move note n built id me.0 s r at live (Named co) d head_at (slice_index s.words head_at) me.1 keeps r.baton r.stack refl lock), subst (λ z. pushes_at z me (slice_index s.words head_at) (w, me.1)) (sym is) (subst (λ c. Told c (w, me.1)) (sym other) refl))

  pub handoff_load_step : (me : M) → me.0.live ≡ true → me.0.place ≡ Pushed → Allows Holds_rule slots id me handoff_at (λ z. z) (loaded_handoff (step slots handoff_at 0 0 none) me)
  handoff_load_step me live is s r long at fits =
      by (eqb (slice_index s.words handoff_at) 0) refl
    where
      here : get_elem? r.places me.0.number ≡ some Pushed
      here = placed_as note n built id me.0 s r at live Pushed is

      by : (c : Bool) → eqb (slice_index s.words handoff_at) 0 ≡ c → Result me s handoff_at (slice_index s.words handoff_at) (loaded_handoff (step slots handoff_at 0 0 none) me (slice_index s.words handoff_at))
      by true zero_there =
          let d = done HandoffLoad handoff_at (slice_index s.words handoff_at) in
          let w = moves me.0 Queued d in
          let lock = subst (λ z. Stands n built r.history z s.homes (set r.places me.0.number Queued) r.baton r.stack) (sym (set_back s.words handoff_at)) (none_offered n built r.history s.words s.homes r.places r.baton r.stack r.lock me.0.number here (eqb-true _ 0 zero_there)) in
          (w, keeps, tt, kept_move note n built id me.0 s r at live Queued d handoff_at (slice_index s.words handoff_at) me.1 keeps r.baton r.stack refl lock, subst (λ c. Is (w, me.1) (moves me.0 (cond c Queued (Loaded (slice_index s.words handoff_at))) d, me.1)) (sym zero_there) refl)
      by false more =
          let found = slice_index s.words handoff_at in
          let d = done HandoffLoad handoff_at (slice_index s.words handoff_at) in
          let w = moves me.0 (Loaded found) d in
          let lock = subst (λ z. Stands n built r.history z s.homes (set r.places me.0.number (Loaded (slice_index s.words handoff_at))) r.baton r.stack) (sym (set_back s.words handoff_at)) (one_offered n built r.history s.words s.homes r.places r.baton r.stack r.lock me.0.number here (isnt_eqb _ 0 more)) in
          (w, keeps, tt, kept_move note n built id me.0 s r at live (Loaded found) d handoff_at (slice_index s.words handoff_at) me.1 keeps r.baton r.stack refl lock, subst (λ c. Is (w, me.1) (moves me.0 (cond c Queued (Loaded (slice_index s.words handoff_at))) d, me.1)) (sym more) refl)

  pub lock_compare_step : (me : M) (k : ℕ) → me.0.live ≡ true → me.1 ≡ [] → me.0.place ≡ Loaded k → Allows Holds_rule slots id me handoff_at (λ z. either (eqb z k) 0 z) (compared_handoff (step slots handoff_at k 0 none) me)
  lock_compare_step me k live carried is s r long at fits =
      subst P (sym carried) (by (eqb (slice_index s.words handoff_at) k) refl)
    where
      here : get_elem? r.places me.0.number ≡ some (Loaded k)
      here = placed_as note n built id me.0 s r at live (Loaded k) is

      P : List (ℕ × S) → Type 0
      P l = Result (me.0, l) s handoff_at (either (eqb (slice_index s.words handoff_at) k) 0 (slice_index s.words handoff_at)) (compared_handoff (step slots handoff_at k 0 none) (me.0, l) (slice_index s.words handoff_at))

      Told : Bool → M → Type 0
      Told c after =
          MatchBool c (TakesDuty Locking (slice_index s.words handoff_at) me.0 after) (Is after (moves me.0 Queued (done HandoffCompare handoff_at (slice_index s.words handoff_at)), []))

      by : (c : Bool) → eqb (slice_index s.words handoff_at) k ≡ c → P []
      by true same =
          let there = eqb-true (slice_index s.words handoff_at) k same in
          let list = offer n built r.history s.words s.homes r.places r.baton r.stack r.lock me.0.number Locking (Loaded k) k here there (r.lock.looks.numbered me.0.number (Loaded k) here) in
          let new = OnDuty Locking (ToPop []) in
          let d = done HandoffCompare handoff_at (slice_index s.words handoff_at) in
          let w = moves me.0 new d in
          let a = takes 1 (Popped [] list.0.last) in
          let told : TakesDuty Locking (slice_index s.words handoff_at) me.0 (w, (1, Popped [] list.0.last) ∷ []) = record { last = list.0.last; is = refl } in
          (w, a, list.0.there ∙ ap (λ (l : List ℕ). some (some (Popped l list.0.last))) list.1, subst (λ c. Kept note n built (stepped s handoff_at (either c 0 (slice_index s.words handoff_at)) id [] w a)) (sym same) (kept_move note n built id me.0 s r at live new d handoff_at 0 [] a (Duty me.0.number) r.stack refl (lock_won n built r.history s.words s.homes r.places r.baton r.stack r.lock me.0.number k here there)), subst (λ z. takes_at z (me.0, []) (slice_index s.words handoff_at) (w, (1, Popped [] list.0.last) ∷ [])) (sym is) (subst (λ c. Told c (w, (1, Popped [] list.0.last) ∷ [])) (sym same) told))
      by false other =
          let d = done HandoffCompare handoff_at (slice_index s.words handoff_at) in
          let w = moves me.0 Queued d in
          let lock = subst (λ z. Stands n built r.history z s.homes (set r.places me.0.number Queued) r.baton r.stack) (sym (set_back s.words handoff_at)) (lock_lost n built r.history s.words s.homes r.places r.baton r.stack r.lock me.0.number k here (isnt_eqb _ k other)) in
          (w, keeps, tt, subst (λ c. Kept note n built (stepped s handoff_at (either c 0 (slice_index s.words handoff_at)) id [] w keeps)) (sym other) (kept_move note n built id me.0 s r at live Queued d handoff_at (slice_index s.words handoff_at) [] keeps r.baton r.stack refl lock), subst (λ z. takes_at z (me.0, []) (slice_index s.words handoff_at) (w, [])) (sym is) (subst (λ c. Told c (w, [])) (sym other) refl))

  -- the same of an unlocker that looked twice
  pub back_step : (me : M) (k : ℕ) → me.0.live ≡ true → me.1 ≡ [] → me.0.place ≡ Found k → Allows Holds_rule slots id me handoff_at (λ z. either (eqb z k) 0 z) (compared_handoff (step slots handoff_at k 0 none) me)
  back_step me k live carried is s r long at fits =
      subst P (sym carried) (by (eqb (slice_index s.words handoff_at) k) refl)
    where
      here : get_elem? r.places me.0.number ≡ some (Found k)
      here = placed_as note n built id me.0 s r at live (Found k) is

      P : List (ℕ × S) → Type 0
      P l = Result (me.0, l) s handoff_at (either (eqb (slice_index s.words handoff_at) k) 0 (slice_index s.words handoff_at)) (compared_handoff (step slots handoff_at k 0 none) (me.0, l) (slice_index s.words handoff_at))

      Told : Bool → M → Type 0
      Told c after =
          MatchBool c (TakesDuty Unlocking (slice_index s.words handoff_at) me.0 after) (Is after (moves me.0 AtRest (done HandoffCompare handoff_at (slice_index s.words handoff_at)), []))

      by : (c : Bool) → eqb (slice_index s.words handoff_at) k ≡ c → P []
      by true same =
          let there = eqb-true (slice_index s.words handoff_at) k same in
          let list = offer n built r.history s.words s.homes r.places r.baton r.stack r.lock me.0.number Unlocking (Found k) k here there (r.lock.looks.numbered me.0.number (Found k) here) in
          let new = OnDuty Unlocking (ToPop []) in
          let d = done HandoffCompare handoff_at (slice_index s.words handoff_at) in
          let w = moves me.0 new d in
          let a = takes 1 (Popped [] list.0.last) in
          let told : TakesDuty Unlocking (slice_index s.words handoff_at) me.0 (w, (1, Popped [] list.0.last) ∷ []) = record { last = list.0.last; is = refl } in
          (w, a, list.0.there ∙ ap (λ (l : List ℕ). some (some (Popped l list.0.last))) list.1, subst (λ c. Kept note n built (stepped s handoff_at (either c 0 (slice_index s.words handoff_at)) id [] w a)) (sym same) (kept_move note n built id me.0 s r at live new d handoff_at 0 [] a (Duty me.0.number) r.stack refl (unlock_won n built r.history s.words s.homes r.places r.baton r.stack r.lock me.0.number k here there)), subst (λ z. takes_at z (me.0, []) (slice_index s.words handoff_at) (w, (1, Popped [] list.0.last) ∷ [])) (sym is) (subst (λ c. Told c (w, (1, Popped [] list.0.last) ∷ [])) (sym same) told))
      by false other =
          let d = done HandoffCompare handoff_at (slice_index s.words handoff_at) in
          let w = moves me.0 AtRest d in
          let lock = subst (λ z. Stands n built r.history z s.homes (set r.places me.0.number AtRest) r.baton r.stack) (sym (set_back s.words handoff_at)) (unlock_lost n built r.history s.words s.homes r.places r.baton r.stack r.lock me.0.number k here (isnt_eqb _ k other)) in
          (w, keeps, tt, subst (λ c. Kept note n built (stepped s handoff_at (either c 0 (slice_index s.words handoff_at)) id [] w keeps)) (sym other) (kept_move note n built id me.0 s r at live AtRest d handoff_at (slice_index s.words handoff_at) [] keeps r.baton r.stack refl lock), subst (λ z. takes_at z (me.0, []) (slice_index s.words handoff_at) (w, [])) (sym is) (subst (λ c. Told c (w, [])) (sym other) refl))
