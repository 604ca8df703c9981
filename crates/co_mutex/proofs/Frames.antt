-- What keeps each part of the rule when one place, one word or the history changes.
use Rattle.std.proofs.Common.{◌≡◌, ◌≢◌, ℕ, ◌+◌, ◌<◌, inl, inr, ⊎_elim, List, slice_index, set, get_or-set_same, get_or-set_other, length, sym, ◌∙◌, subst, arith}
use mathlib.Core.Option.{some}
use lib.ListN.{get_elem?}
use Rattle.atomic_table.proofs.Lists.{at_set}
use Rattle.aio_model.specs.Lock.History.{LockEntry, IsWaitingIn, owner_of, waiters_of}
use Rattle.co_mutex.specs.Places.{Locking, Unlocking, PassPlace, AtRest, Counted, Named, HeadLoaded, Linked, Pushed, Loaded, Queued, SelfGranted, Holds, OnDuty, Published, Found, is_in_line, is_before_push}
use Rattle.co_mutex.specs.LockWords.{next_in}
use Rattle.co_mutex.specs.Rule.{Baton, Owned, Duty, EachPlace, IsAt, one_if, CountsStand, LinkStands}
use Rattle.co_mutex.proofs.Counting.{bit, count_set}

pub read_here : (words : List ℕ) (k x : ℕ) → k < length words → slice_index (set words k x) k ≡ x
read_here words k x below = get_or-set_same words k x 0 below

pub read_else : (words : List ℕ) (k j x : ℕ) → j ≢ k → slice_index (set words k x) j ≡ slice_index words j
read_else words k j x other = get_or-set_other words k j x 0 other

pub each_set : (P Q : ℕ → PassPlace → Type 0) (places : List PassPlace) (p : ℕ) (new : PassPlace) → EachPlace P places → Q p new → ((q : ℕ) (place : PassPlace) → q ≢ p → get_elem? places q ≡ some place → P q place → Q q place) → EachPlace Q (set places p new)
each_set P Q places p new h now keep q place at =
    ⊎_elim (λ t. subst (λ k. Q k place) (sym t.0) (subst (Q p) t.1 now)) (λ t. keep q place t.0 t.1 (h q place t.1)) (at_set places p q new place at)

pub owned_same : (p q : ℕ) → Owned p ≡ Owned q → p ≡ q
owned_same p q e = cc

pub duty_same : (p q : ℕ) → Duty p ≡ Duty q → p ≡ q
duty_same p q e = cc

-- what a place says of its next word stays with that word
pub linked_kept : (words other : List ℕ) (q : ℕ) (place : PassPlace) → next_in other q ≡ next_in words q → LinkStands words q place → LinkStands other q place
linked_kept words other q AtRest e is = tt
linked_kept words other q Counted e is = tt
linked_kept words other q (Named co) e is = tt
linked_kept words other q (HeadLoaded co found) e is = tt
linked_kept words other q (Linked co found) e is = e ∙ is
linked_kept words other q Pushed e is = tt
linked_kept words other q (Loaded n) e is = tt
linked_kept words other q Queued e is = tt
linked_kept words other q SelfGranted e is = tt
linked_kept words other q Holds e is = tt
linked_kept words other q (OnDuty side task) e is = tt
linked_kept words other q (Published n) e is = tt
linked_kept words other q (Found n) e is = tt

module _ {T : Type 0} where
  pub counts_after : (h g : List (LockEntry T)) (locked other : ℕ) (places : List PassPlace) (p : ℕ) (old new : PassPlace) → CountsStand h locked places → get_elem? places p ≡ some old → other + bit (is_in_line old) ≡ locked + bit (is_in_line new) → one_if (owner_of g) + length (waiters_of g) + bit (is_before_push new) + locked ≡ one_if (owner_of h) + length (waiters_of h) + bit (is_before_push old) + other → CountsStand g other (set places p new)
  counts_after h g locked other places p old new counts at line parts =
      let lines = count_set is_in_line places p old new at in
      let befores = count_set is_before_push places p old new at in
      let a = counts.line in
      let b = counts.parts in
      record { line = omega (arith, lines, line, a); parts = omega (arith, befores, parts, b) }

  -- what a place says stays, where the pass waits as before and the baton is as near
  pub is_at_kept : (h g : List (LockEntry T)) (b c : Baton) (q : ℕ) (place : PassPlace) → (IsWaitingIn q (waiters_of h) → IsWaitingIn q (waiters_of g)) → (IsWaitingIn q (waiters_of g) → IsWaitingIn q (waiters_of h)) → (b ≡ Owned q → c ≡ Owned q) → (c ≡ Owned q → b ≡ Owned q) → (b ≡ Duty q → c ≡ Duty q) → IsAt h b q place → IsAt g c q place
  is_at_kept h g b c q AtRest there back own disown duty is = ((λ w. is.0 (back w)), (λ e. is.1 (disown e)))
  is_at_kept h g b c q Counted there back own disown duty is = ((λ w. is.0 (back w)), (λ e. is.1 (disown e)))
  is_at_kept h g b c q (Named co) there back own disown duty is = ((λ w. is.0 (back w)), (λ e. is.1 (disown e)))
  is_at_kept h g b c q (HeadLoaded co found) there back own disown duty is = ((λ w. is.0 (back w)), (λ e. is.1 (disown e)))
  is_at_kept h g b c q (Linked co found) there back own disown duty is = ((λ w. is.0 (back w)), (λ e. is.1 (disown e)))
  is_at_kept h g b c q Pushed there back own disown duty is = ⊎_elim (λ w. inl (there w)) (λ e. inr (own e)) is
  is_at_kept h g b c q (Loaded n) there back own disown duty is = ⊎_elim (λ w. inl (there w)) (λ e. inr (own e)) is
  is_at_kept h g b c q Queued there back own disown duty is = ⊎_elim (λ w. inl (there w)) (λ e. inr (own e)) is
  is_at_kept h g b c q SelfGranted there back own disown duty is = own is
  is_at_kept h g b c q Holds there back own disown duty is = own is
  is_at_kept h g b c q (OnDuty Locking task) there back own disown duty is = (duty is.0, there is.1)
  is_at_kept h g b c q (OnDuty Unlocking task) there back own disown duty is = (duty is.0, λ w. is.1 (back w))
  is_at_kept h g b c q (Published n) there back own disown duty is = ((λ w. is.0 (back w)), (λ e. is.1 (disown e)))
  is_at_kept h g b c q (Found n) there back own disown duty is = ((λ w. is.0 (back w)), (λ e. is.1 (disown e)))
