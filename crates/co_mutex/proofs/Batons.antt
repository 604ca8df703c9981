-- Laws of the baton, of names and of words that a step sets.
use Rattle.std.proofs.Common.{◌≡◌, ◌≢◌, ℕ, ◌+◌, ◌<◌, ⊎_elim, Bool, true, false, cond, eqb, not, ◌&&◌, Some, List, [], ◌∷◌, slice_index, set, length, length-set, refl, sym, ap, ◌∙◌, subst, arith}
use Rattle.std.proofs.lemmas.Bool.{cases_eq, ne_eqb, eq-eqb}
use mathlib.Core.Option.{Option as Opt, some}
use lib.ListN.{get_elem?}
use Rattle.aio_chain.proofs.Chains.{Each}
use Rattle.aio_model.specs.Lock.History.{LockEntry, waiters_of, coroutine_of, value_of}
use Rattle.co_mutex.specs.Places.{Side, ToPop, Walking, Nobody, Granting, PassPlace, AtRest, Counted, Named, HeadLoaded, Linked, Pushed, Loaded, Queued, SelfGranted, Holds, OnDuty, Published, Found, is_holding}
use Rattle.co_mutex.specs.LockWords.{next_at, grant_at, who_at, next_in}
use Rattle.co_mutex.specs.declared.slot.Slot.{Slot}
use Rattle.co_mutex.specs.declared.slot.Slot.TheVariants.{Value}
use Rattle.co_mutex.specs.Rule.{Baton, Free, Owned, Duty, Offered, EachPlace, owner_in, Fit, IsAt, grant_word, ValueStands, IsHome, NameStands}
use Rattle.co_mutex.proofs.Frames.{read_else}
use Rattle.co_mutex.proofs.Quiet.{Touches}

pub owner_apart : (b : Baton) (p : ℕ) → b ≢ Owned p → owner_in b ≢ Some p
owner_apart Free p ne e = absurd cc
owner_apart (Owned q) p ne e = let same : q ≡ p = cc in ne (ap Owned same)
owner_apart (Duty q) p ne e = absurd cc
owner_apart Offered p ne e = absurd cc

-- nobody has the lock where the word is 0
pub free_at_zero : (b : Baton) (locked handoff : ℕ) → Fit b locked handoff → locked ≡ 0 → b ≡ Free
free_at_zero Free locked handoff fit e = refl
free_at_zero (Owned q) locked handoff fit e = let low = fit.0 in absurd (omega (arith, low, e))
free_at_zero (Duty q) locked handoff fit e = let low = fit.0 in absurd (omega (arith, low, e))
free_at_zero Offered locked handoff fit e = let low = fit.0 in absurd (omega (arith, low, e))

pub fit_more : (b : Baton) (locked handoff : ℕ) → Fit b locked handoff → locked ≢ 0 → Fit b (locked + 1) handoff
fit_more Free locked handoff fit ne = absurd (ne fit.0)
fit_more (Owned q) locked handoff fit ne = (omega arith, fit.1)
fit_more (Duty q) locked handoff fit ne = (omega arith, fit.1)
fit_more Offered locked handoff fit ne = (omega arith, fit.1)

-- a number in the hand-off was published
pub offered_at : (b : Baton) (locked handoff : ℕ) → Fit b locked handoff → handoff ≢ 0 → b ≡ Offered
offered_at Free locked handoff fit ne = absurd (ne fit.1)
offered_at (Owned q) locked handoff fit ne = absurd (ne fit.1)
offered_at (Duty q) locked handoff fit ne = absurd (ne fit.1)
offered_at Offered locked handoff fit ne = refl

pub none_of_length : (xs : List ℕ) → length xs ≡ 0 → xs ≡ []
none_of_length [] e = refl
none_of_length (x ∷ xs) e = absurd (omega (arith, e))

-- a grant word that is 1 is the owner's
pub owned_at_one : (b : Baton) (p : ℕ) (place : PassPlace) → grant_word b p place ≡ 1 → b ≡ Owned p
owned_at_one Free p place e = absurd (omega (arith, e))
owned_at_one (Owned q) p place e =
    ⊎_elim (λ same. ap Owned same) (λ ne. (let other : eqb q p ≡ false = ne_eqb q p ne in let none_there : grant_word (Owned q) p place ≡ 0 = ap (λ k. cond (k && not (is_holding place)) 1 0) other in absurd (omega (arith, e, none_there)))) (cases_eq q p)
owned_at_one (Duty q) p place e = absurd (omega (arith, e))
owned_at_one Offered p place e = absurd (omega (arith, e))

pub owned_else : (q r : ℕ) (place : PassPlace) → q ≢ r → grant_word (Owned q) r place ≡ 0
owned_else q r place ne =
    let other : eqb q r ≡ false = ne_eqb q r ne in
    ap (λ k. cond (k && not (is_holding place)) 1 0) other

-- only the owner's is 1, so another's is 0
pub grant_else : (b : Baton) (r : ℕ) (place : PassPlace) → b ≢ Owned r → grant_word b r place ≡ 0
grant_else Free r place ne = refl
grant_else (Owned q) r place ne = owned_else q r place (λ e. ne (ap Owned e))
grant_else (Duty q) r place ne = refl
grant_else Offered r place ne = refl

pub owned_here : (p : ℕ) (place : PassPlace) → is_holding place ≡ false → grant_word (Owned p) p place ≡ 1
owned_here p place isnt =
    let same : eqb p p ≡ true = eq-eqb p p refl in
    ap (λ k. cond (k && not (is_holding place)) 1 0) same ∙ ap (λ k. cond (true && not k) 1 0) isnt

and_none : (k : Bool) → (k && false) ≡ false
and_none true = refl
and_none false = refl

pub holding_zero : (b : Baton) (p : ℕ) → grant_word b p Holds ≡ 0
holding_zero Free p = refl
holding_zero (Owned q) p = ap (λ k. cond k 1 0) (and_none (eqb q p))
holding_zero (Duty q) p = refl
holding_zero Offered p = refl

-- of the words only that of all passes at this place changes: the first, the second or the third
pub record Low (words other : List ℕ) : Type 0 where
  pub long : length other ≡ length words
  pub grants : (q : ℕ) → slice_index other (grant_at q) ≡ slice_index words (grant_at q)
  pub next : (q : ℕ) → next_in other q ≡ next_in words q
  pub who : (q : ℕ) → slice_index other (who_at q) ≡ slice_index words (who_at q)

pub low_set : (words : List ℕ) (k x : ℕ) → k < 3 → Low words (set words k x)
low_set words k x low =
    record { long = length-set words k x; grants = λ q. read_else words k (grant_at q) x (λ e. omega (arith, low, e)); next = λ q. read_else words k (next_at q) x (λ e. omega (arith, low, e)); who = λ q. read_else words k (who_at q) x (λ e. omega (arith, low, e)) }

pub every : (P : ℕ → Type 0) (xs : List ℕ) → ((q : ℕ) → P q) → Each P xs
every P [] f = tt
every P (x ∷ xs) f = (f x, every P xs f)

module _ {T : Type 0} where
  -- names stay with an entry that pushes nobody
  pub named_grown : (h g : List (LockEntry T)) (words other : List ℕ) (q : ℕ) (place : PassPlace) → ((r : ℕ) → coroutine_of r g ≡ coroutine_of r h) → slice_index other (who_at q) ≡ slice_index words (who_at q) → NameStands h words q place → NameStands g other q place
  named_grown h g words other q AtRest same e is = tt
  named_grown h g words other q Counted same e is = tt
  named_grown h g words other q (Named co) same e is = e ∙ is
  named_grown h g words other q (HeadLoaded co found) same e is = e ∙ is
  named_grown h g words other q (Linked co found) same e is = e ∙ is
  named_grown h g words other q Pushed same e is = tt
  named_grown h g words other q (Loaded n) same e is = tt
  named_grown h g words other q Queued same e is = tt
  named_grown h g words other q SelfGranted same e is = tt
  named_grown h g words other q Holds same e is = tt
  named_grown h g words other q (OnDuty side (ToPop popped)) same e is = tt
  named_grown h g words other q (OnDuty side (Walking word left found)) same e is = tt
  named_grown h g words other q (OnDuty side Nobody) same e is = tt
  named_grown h g words other q (OnDuty side (Granting r co rest)) same e is = is ∙ sym (same r)
  named_grown h g words other q (Published n) same e is = tt
  named_grown h g words other q (Found n) same e is = tt

  pub low_touches : (h : List (LockEntry T)) (words other : List ℕ) (p : ℕ) → Low words other → Touches h words other p
  low_touches h words other p w =
      record { long = w.long; grants = w.grants; next = λ q ne. w.next q; who = λ q ne. w.who q; own = λ k. (w.next p, w.who p) }

  -- names stay with an entry, where it isn't about who is to be granted
  pub named_else : (h g : List (LockEntry T)) (words other : List ℕ) (q : ℕ) (place : PassPlace) → ((side : Side) (r co : ℕ) (rest : List ℕ) → place ≡ OnDuty side (Granting r co rest) → coroutine_of r g ≡ coroutine_of r h) → slice_index other (who_at q) ≡ slice_index words (who_at q) → NameStands h words q place → NameStands g other q place
  named_else h g words other q AtRest same e is = tt
  named_else h g words other q Counted same e is = tt
  named_else h g words other q (Named co) same e is = e ∙ is
  named_else h g words other q (HeadLoaded co found) same e is = e ∙ is
  named_else h g words other q (Linked co found) same e is = e ∙ is
  named_else h g words other q Pushed same e is = tt
  named_else h g words other q (Loaded n) same e is = tt
  named_else h g words other q Queued same e is = tt
  named_else h g words other q SelfGranted same e is = tt
  named_else h g words other q Holds same e is = tt
  named_else h g words other q (OnDuty side (ToPop popped)) same e is = tt
  named_else h g words other q (OnDuty side (Walking word left found)) same e is = tt
  named_else h g words other q (OnDuty side Nobody) same e is = tt
  named_else h g words other q (OnDuty side (Granting r co rest)) same e is = is ∙ sym (same side r co rest refl)
  named_else h g words other q (Published n) same e is = tt
  named_else h g words other q (Found n) same e is = tt

  -- where a pass holds, or the baton is no pass's, no place but its own is Holds
  pub none_holds : (h : List (LockEntry T)) (b : Baton) (places : List PassPlace) → EachPlace (IsAt h b) places → ((q : ℕ) → b ≢ Owned q) → EachPlace (λ q place. place ≢ Holds) places
  none_holds h b places each isnt q place at e =
      isnt q (subst (IsAt h b q) e (each q place at))

  -- so the value is at home
  pub value_home : (built : T) (h : List (LockEntry T)) (homes : List (Opt (Slot T))) (places : List PassPlace) → ValueStands built h homes places → EachPlace (λ q place. place ≢ Holds) places → get_elem? homes 0 ≡ some (some (Value (value_of built h)))
  value_home built h homes places is none_there =
      ⊎_elim (λ held. absurd (none_there held.0 Holds held.1 refl)) (λ home. home.1) is

  pub home_kept : (h g : List (LockEntry T)) (homes other : List (Opt (Slot T))) (stack : List ℕ) → get_elem? other 1 ≡ get_elem? homes 1 → waiters_of g ≡ waiters_of h → IsHome h homes stack → IsHome g other stack
  home_kept h g homes other stack e same is =
      record { popped = is.popped; last = is.last; there = e ∙ is.there; waiters = same ∙ is.waiters }
