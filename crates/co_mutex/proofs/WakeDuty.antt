-- The wake duty, at each state that the rule of a lock's table allows: between any two steps of any passes.
use Rattle.std.proofs.Common.{◌≡◌, ℕ, ◌<◌, inl, inr, ⊎_elim, true, List, slice_index, refl, sym, arith}
use Rattle.atomic_table.specs.Table.{State}
use mathlib.Core.Option.{Option as Opt, some}
use lib.ListN.{get_elem?}
use Rattle.aio_model.specs.Lock.History.{LockEntry}
use Rattle.co_mutex.specs.declared.slot.Slot.{Slot}
use Rattle.co_mutex.specs.declared.rule.Opened.{Opened}
use Rattle.co_mutex.specs.Places.{Side, Locking, Unlocking, Task, PassPlace, AtRest, Counted, Named, HeadLoaded, Linked, Pushed, Loaded, Queued, SelfGranted, Holds, OnDuty, Published, Found, StillLooks}
use Rattle.co_mutex.specs.LockWords.{locked_at, handoff_at}
use Rattle.co_mutex.specs.Rule.{Baton, Free, Owned, Duty, Offered, EachPlace, IsAt, Stands}
use Rattle.co_mutex.specs.Known.{Known}
use Rattle.co_mutex.specs.Opening.{holds_of}
use Rattle.co_mutex.specs.WakeDuty.{is_between, HasOwner, HasNext}
use Rattle.co_mutex.proofs.Frames.{duty_same}

module _ {T : Type 0} (n : ℕ) (built : T) (h : List (LockEntry T)) (words : List ℕ) (homes : List (Opt (Slot T))) (places : List PassPlace) (stack : List ℕ) where
  at_duty_of : (c : Baton) → EachPlace (IsAt h c) places → (q : ℕ) (side : Side) (task : Task) → get_elem? places q ≡ some (OnDuty side task) → c ≡ Duty q
  at_duty_of c each q Locking task at = (each q (OnDuty Locking task) at).0
  at_duty_of c each q Unlocking task at = (each q (OnDuty Unlocking task) at).0

  next_of : (c : Baton) → Stands n built h words homes places c stack → 0 < slice_index words locked_at → HasNext h (slice_index words handoff_at) places
  next_of Free s low = absurd (let zero_there = s.baton_stands.fit.0 in omega (arith, low, zero_there))
  next_of (Owned p) s low =
      inl (record { owner = p; owns = s.baton_stands.owner; unpublished = s.baton_stands.fit.1; idle = λ q side task at. (let bad = at_duty_of (Owned p) s.baton_stands.each q side task at in absurd cc) })
  next_of (Duty p) s low =
      inr (inl (record { p = p; side = s.lists.list.side; task = s.lists.list.task; there = s.lists.list.place; only = λ q side task at. sym (duty_same p q (at_duty_of (Duty p) s.baton_stands.each q side task at)); unowned = s.baton_stands.owner; unpublished = s.baton_stands.fit.1 }))
  next_of Offered s low =
      inr (inr (record { unowned = s.baton_stands.owner; idle = λ q side task at. (let bad = at_duty_of Offered s.baton_stands.each q side task at in absurd cc); published = s.baton_stands.fit.1; looker = s.looks.looker refl }))

-- who is between two calls has nothing left to look at
looks_no_more : (handoff : ℕ) (place : PassPlace) → is_between place ≡ true → StillLooks handoff place → ⊥
looks_no_more handoff AtRest e l = l
looks_no_more handoff Counted e l = absurd cc
looks_no_more handoff (Named co) e l = absurd cc
looks_no_more handoff (HeadLoaded co found) e l = absurd cc
looks_no_more handoff (Linked co found) e l = absurd cc
looks_no_more handoff Pushed e l = absurd cc
looks_no_more handoff (Loaded k) e l = absurd cc
looks_no_more handoff Queued e l = l
looks_no_more handoff SelfGranted e l = l
looks_no_more handoff Holds e l = l
looks_no_more handoff (OnDuty side task) e l = l
looks_no_more handoff (Published k) e l = absurd cc
looks_no_more handoff (Found k) e l = absurd cc

-- nor the duty
not_on_duty : (side : Side) (task : Task) → is_between (OnDuty side task) ≡ true → ⊥
not_on_duty side task e = absurd cc

module _ {T N : Type 0} (note : T → ℕ → N) (key : Opened T) (state : State (Slot T) (Known T)) (kept : holds_of note key state) where
  -- While the lock is counted as taken it has an owner, or one pass has the duty to grant, or a hand-off is published at which some
  -- pass has still to look.
  pub a_taken_lock_goes_on : 0 < slice_index state.words locked_at → HasNext kept.history (slice_index state.words handoff_at) kept.places
  a_taken_lock_goes_on low =
      next_of key.passes key.value.value kept.history state.words state.homes kept.places kept.stack kept.baton kept.lock low

  -- the places are those that the passes know
  pub a_pass_knows_its_place : (id : ℕ) (known : Known T) → get_elem? state.views id ≡ some known → known.live ≡ true → get_elem? kept.places known.number ≡ some known.place
  a_pass_knows_its_place id known at live = (kept.seats id known at live).placed

  -- while no call is under way, and nobody is still to be queued, a lock that is counted as taken has an owner
  pub between_calls_a_taken_lock_has_an_owner : 0 < slice_index state.words locked_at → EachPlace (λ p place. is_between place ≡ true) kept.places → HasOwner kept.history (slice_index state.words handoff_at) kept.places
  between_calls_a_taken_lock_has_an_owner low between =
      ⊎_elim (λ o. o) (λ more. ⊎_elim (λ d. absurd (not_on_duty d.side d.task (between d.p (OnDuty d.side d.task) d.there))) (λ o. absurd (looks_no_more _ o.looker.1 (between o.looker.0 o.looker.1 o.looker.2) o.looker.3)) more) (a_taken_lock_goes_on low)
