-- The rule's part on slots: what keeps it when an entry, a view or one slot changes.
use Rattle.std.proofs.Common.{◌≡◌, ◌≢◌, ℕ, ◌+◌, ◌<◌, Bool, true, false, eqb, Option, Some, None, MatchBool, List, ◌∷◌, set, refl, sym, ap, ◌∙◌, subst, ⊎_elim, arith}
use Rattle.std.proofs.lemmas.Bool.{cases_eq, ne_eqb}
use mathlib.Core.Option.{some}
use lib.ListN.{get_elem?}
use Rattle.aio_model.specs.Loop.History.{Sizes, Entry, New, Enqueue, Put, Cancel, Take, Dequeue, Free, SetEvent, ClearEvent, History}
use Rattle.aio_model.specs.Loop.Flags.{lives, was_dequeued, begins, frees, enqueues, dequeues}
use Rattle.aio_model.specs.Loop.Lists.{claimer_of, job_of}
use Rattle.table_seats.specs.Seats.{owns, home, EachView}
use Rattle.aio_core.specs.Known.{Stage, Known, numbers_of}
use Rattle.aio_core.specs.Rule.{is_at_hand, IsFull, HasJob, SlotsStand, SlotOf}
use Rattle.table_seats.proofs.Seats.{each_set}

-- Slots.

-- an entry is about another lot
pub record SameLot (h g : History) (i : ℕ) : Type 0 where
  pub lives_same : lives i g ≡ lives i h
  pub dequeued_same : was_dequeued i g ≡ was_dequeued i h
  pub claimer_same : claimer_of i g ≡ claimer_of i h
  pub job_same : job_of i g ≡ job_of i h

pub same_lot : (i : ℕ) (e : Entry) (h : History) → begins i e ≡ false → frees i e ≡ false → enqueues i e ≡ false → dequeues i e ≡ false → SameLot h (e ∷ h) i
same_lot i (New j s k) h a b c d = record { lives_same = rw a refl; dequeued_same = rw a refl; claimer_same = rw a refl; job_same = rw a refl }
same_lot i (Enqueue j asked s was) h a b c d = record { lives_same = refl; dequeued_same = refl; claimer_same = rw c refl; job_same = refl }
same_lot i (Put j s) h a b c d = record { lives_same = refl; dequeued_same = refl; claimer_same = refl; job_same = refl }
same_lot i (Cancel j s was) h a b c d = record { lives_same = refl; dequeued_same = refl; claimer_same = refl; job_same = refl }
same_lot i Take h a b c d = record { lives_same = refl; dequeued_same = refl; claimer_same = refl; job_same = refl }
same_lot i (Dequeue j ran) h a b c d = record { lives_same = refl; dequeued_same = rw d refl; claimer_same = refl; job_same = refl }
same_lot i (Free j) h a b c d = record { lives_same = rw b refl; dequeued_same = rw b refl; claimer_same = rw b refl; job_same = rw b refl }
same_lot i (SetEvent e s) h a b c d = record { lives_same = refl; dequeued_same = refl; claimer_same = refl; job_same = refl }
same_lot i (ClearEvent e was) h a b c d = record { lives_same = refl; dequeued_same = refl; claimer_same = refl; job_same = refl }

-- what is at hand is the same, as far as this index goes
pub record SameHand (i : ℕ) (s t : Stage) : Type 0 where
  pub hand : is_at_hand i t.hand ≡ is_at_hand i s.hand
  pub job : is_at_hand i s.hand ≡ true → t.job ≡ s.job

pub same_stage : (i : ℕ) (s t : Stage) → t ≡ s → SameHand i s t
same_stage i s t e = record { hand = ap (λ (x : Stage). is_at_hand i x.hand) e; job = λ _. ap (λ (x : Stage). x.job) e }

module _ {J : Type 0} (number : J → ℕ) where
  abbrev Places : Type 0
  Places = List (SlotOf J)

  job_kept : (i : ℕ) (s t : Stage) (a b : Option ℕ) (p q : mathlib.Core.Option.Option (SlotOf J)) → SameHand i s t → b ≡ a → q ≡ p → HasJob number i s a p → HasJob number i t b q
  job_kept i s t a b p q same job place has = by (is_at_hand i s.hand) same.job has (is_at_hand i t.hand) same.hand
    where
      by : (c : Bool) → (c ≡ true → t.job ≡ s.job) → MatchBool c (a ≡ s.job) ((x : J) × (p ≡ some (some (Some x))) × (a ≡ Some (number x))) → (d : Bool) → d ≡ c → MatchBool d (b ≡ t.job) ((x : J) × (q ≡ some (some (Some x))) × (b ≡ Some (number x)))
      by true k m true e = job ∙ m ∙ sym (k refl)
      by false k m false e = (m.0, place ∙ m.1, job ∙ m.2)
      by true k m false e = absurd cc
      by false k m true e = absurd cc

  -- one lot's facts are given, and the others' stay
  pub slots_change : (sizes : Sizes) (h g : History) (homes other : Places) (views : List Known) (id : ℕ) (v w : Known) (m0 : ℕ) → SlotsStand number sizes h homes views → get_elem? views id ≡ some v → numbers_of w ≡ numbers_of v → ((m : ℕ) → m ≢ m0 → m < sizes.lots → SameLot h g (sizes.handles + m) × (get_elem? other m ≡ get_elem? homes m) × SameHand (sizes.handles + m) v.stage w.stage) → (m0 < sizes.lots → lives (sizes.handles + m0) g ≡ false → get_elem? other m0 ≡ some (some None)) → (m0 < sizes.lots → lives (sizes.handles + m0) g ≡ true → was_dequeued (sizes.handles + m0) g ≡ true → get_elem? other m0 ≡ some (some None)) → EachView (λ u. owns (numbers_of u) home ≡ true → m0 < sizes.lots → IsFull g (sizes.handles + m0) → HasJob number (sizes.handles + m0) u.stage (job_of (sizes.handles + m0) g) (get_elem? other m0)) (set views id w) → SlotsStand number sizes g other (set views id w)
  slots_change sizes h g homes other views id v w m0 stand at numbers same vacant emptied full =
      record {
        vacant = λ m low dead. ⊎_elim (λ (e : m ≡ m0). subst (λ k. k < sizes.lots → lives (sizes.handles + k) g ≡ false → get_elem? other k ≡ some (some None)) (sym e) vacant low dead) (λ (ne : m ≢ m0). let s = same m ne low in s.1 ∙ stand.vacant m low (sym s.0.lives_same ∙ dead)) (cases_eq m m0);
        emptied = λ m low alive gone. ⊎_elim (λ (e : m ≡ m0). subst (λ k. k < sizes.lots → lives (sizes.handles + k) g ≡ true → was_dequeued (sizes.handles + k) g ≡ true → get_elem? other k ≡ some (some None)) (sym e) emptied low alive gone) (λ (ne : m ≢ m0). let s = same m ne low in s.1 ∙ stand.emptied m low (sym s.0.lives_same ∙ alive) (sym s.0.dequeued_same ∙ gone)) (cases_eq m m0);
        full = λ far u atu own m low is. ⊎_elim (λ (e : m ≡ m0). subst (λ k. k < sizes.lots → IsFull g (sizes.handles + k) → HasJob number (sizes.handles + k) u.stage (job_of (sizes.handles + k) g) (get_elem? other k)) (sym e) (full far u atu own) low is) (λ (ne : m ≢ m0). let s = same m ne low in kept m s far u atu own low (was_full m s.0 is)) (cases_eq m m0);
      }
    where
      was_full : (m : ℕ) → SameLot h g (sizes.handles + m) → IsFull g (sizes.handles + m) → IsFull h (sizes.handles + m)
      was_full m s is = record { alive = sym s.lives_same ∙ is.alive; not_dequeued = sym s.dequeued_same ∙ is.not_dequeued; enqueued = sym s.claimer_same ∙ is.enqueued }

      kept : (m : ℕ) → SameLot h g (sizes.handles + m) × (get_elem? other m ≡ get_elem? homes m) × SameHand (sizes.handles + m) v.stage w.stage → EachView (λ u. owns (numbers_of u) home ≡ true → m < sizes.lots → IsFull h (sizes.handles + m) → HasJob number (sizes.handles + m) u.stage (job_of (sizes.handles + m) g) (get_elem? other m)) (set views id w)
      kept m s = each_set (λ u. owns (numbers_of u) home ≡ true → (k : ℕ) → k < sizes.lots → IsFull h (sizes.handles + k) → HasJob number (sizes.handles + k) u.stage (job_of (sizes.handles + k) h) (get_elem? homes k)) (λ u. owns (numbers_of u) home ≡ true → m < sizes.lots → IsFull h (sizes.handles + m) → HasJob number (sizes.handles + m) u.stage (job_of (sizes.handles + m) g) (get_elem? other m)) views id w stand.full
          (λ own low is. job_kept (sizes.handles + m) v.stage w.stage (job_of (sizes.handles + m) h) (job_of (sizes.handles + m) g) (get_elem? homes m) (get_elem? other m) s.2 s.0.job_same s.1 (stand.full id v at (subst (λ n. owns n home ≡ true) numbers own) m low is))
          (λ far u ne atu old own low is. job_kept (sizes.handles + m) u.stage u.stage (job_of (sizes.handles + m) h) (job_of (sizes.handles + m) g) (get_elem? homes m) (get_elem? other m) (same_stage (sizes.handles + m) u.stage u.stage refl) s.0.job_same s.1 (old own m low is))

  -- no lot's facts change
  pub slots_kept : (sizes : Sizes) (h g : History) (homes : Places) (views : List Known) (id : ℕ) (v w : Known) → SlotsStand number sizes h homes views → get_elem? views id ≡ some v → numbers_of w ≡ numbers_of v → ((m : ℕ) → m < sizes.lots → SameLot h g (sizes.handles + m) × SameHand (sizes.handles + m) v.stage w.stage) → SlotsStand number sizes g homes (set views id w)
  slots_kept sizes h g homes views id v w stand at numbers same =
      slots_change sizes h g homes homes views id v w sizes.lots stand at numbers (λ m ne low. ((same m low).0, refl, (same m low).1)) (λ low. absurd (omega arith)) (λ low. absurd (omega arith)) (λ far u atu own low. absurd (omega arith))

pub same_entry : (h : History) (i : ℕ) → SameLot h h i
same_entry h i = record { lives_same = refl; dequeued_same = refl; claimer_same = refl; job_same = refl }

-- what every step needs that is about no lot
pub same_hand : (i : ℕ) (s t : Stage) → t.hand ≡ s.hand → t.job ≡ s.job → SameHand i s t
same_hand i s t hand job = record { hand = ap (is_at_hand i) hand; job = λ _. job }

-- an index below the handles is no lot
pub no_lot_here : (handles m i : ℕ) → i < handles → eqb (handles + m) i ≡ false
no_lot_here handles m i low = ne_eqb (handles + m) i (λ q. omega arith)
