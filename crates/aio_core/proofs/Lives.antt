-- What the beginning of a life and its end make of the flags of a lot.
use Rattle.std.proofs.Common.{◌≡◌, ◌≢◌, ℕ, ◌+◌, ◌<◌, Bool, true, false, cond, ◌||◌, eqb, ltb, Some, None, [], ◌∷◌, refl}
use Rattle.std.proofs.lemmas.Bool.{and_parts, ne_eqb, eq-eqb, ltb-true}
use Rattle.aio_model.specs.declared.loops.flags.Flags.{Flags}
use Rattle.aio_model.specs.Loop.FlagsWord.{word_of}
use Rattle.aio_model.specs.Loop.History.{Sizes, New, Enqueue, Put, Cancel, Take, Dequeue, Free, SetEvent, ClearEvent, History}
use Rattle.aio_model.specs.Loop.Flags.{has_life, lives, is_lot, flags_of}
use Rattle.aio_model.specs.Loop.Lists.{claimer_of}
use Rattle.aio_model.proofs.Lifeless.{lot_above}
use Rattle.aio_core.specs.Words.{index_count}

abbrev no_flags : Flags
no_flags = record { pending = false; scheduled = false; deleted = false; oneshot = false; idle = false }

pub no_word : word_of no_flags ≡ 0
no_word = refl

pub flags_of-new : (i s job : ℕ) (h : History) → flags_of i (New i s job ∷ h) ≡ no_flags
flags_of-new i s job h = let e : eqb i i ≡ true = eq-eqb i i refl in rw e refl

pub flags_of-new_other : (i j s job : ℕ) (h : History) → i ≢ j → flags_of i (New j s job ∷ h) ≡ flags_of i h
flags_of-new_other i j s job h ne = let e : eqb i j ≡ false = ne_eqb i j ne in rw e refl

pub flags_of-free : (i : ℕ) (h : History) → flags_of i (Free i ∷ h) ≡ no_flags
flags_of-free i h = let e : eqb i i ≡ true = eq-eqb i i refl in rw e refl

pub flags_of-free_other : (i j : ℕ) (h : History) → i ≢ j → flags_of i (Free j ∷ h) ≡ flags_of i h
flags_of-free_other i j h ne = let e : eqb i j ≡ false = ne_eqb i j ne in rw e refl

pub or_true : (b : Bool) → (b || true) ≡ true
or_true true = refl
or_true false = refl

pub lives-new : (i s job : ℕ) (h : History) → lives i (New i s job ∷ h) ≡ true
lives-new i s job h = let e : eqb i i ≡ true = eq-eqb i i refl in rw e refl

pub life-new : (sizes : Sizes) (i s job : ℕ) (h : History) → has_life sizes i (New i s job ∷ h) ≡ true
life-new sizes i s job h = rw (lives-new i s job h) (or_true (ltb i sizes.handles))

pub life-new_other : (sizes : Sizes) (i j s job : ℕ) (h : History) → i ≢ j → has_life sizes i (New j s job ∷ h) ≡ has_life sizes i h
life-new_other sizes i j s job h ne = let e : eqb i j ≡ false = ne_eqb i j ne in rw e refl

pub lives-free : (i : ℕ) (h : History) → lives i (Free i ∷ h) ≡ false
lives-free i h = let e : eqb i i ≡ true = eq-eqb i i refl in rw e refl

pub life-free : (sizes : Sizes) (i : ℕ) (h : History) → is_lot sizes i ≡ true → has_life sizes i (Free i ∷ h) ≡ false
life-free sizes i h lot = rw (lives-free i h, lot_above sizes i lot) refl

pub life-free_other : (sizes : Sizes) (i j : ℕ) (h : History) → i ≢ j → has_life sizes i (Free j ∷ h) ≡ has_life sizes i h
life-free_other sizes i j h ne = let e : eqb i j ≡ false = ne_eqb i j ne in rw e refl

-- what was claimed lives
pub claimed_lives : (i s : ℕ) (h : History) → claimer_of i h ≡ Some s → lives i h ≡ true
claimed_lives i s [] e = absurd cc
claimed_lives i s (New j t job ∷ h) e = by (eqb i j) (claimed_lives i s h) e
  where
    by : (b : Bool) → (claimer_of i h ≡ Some s → lives i h ≡ true) → cond b (Some t) (claimer_of i h) ≡ Some s → (b || lives i h) ≡ true
    by true k q = refl
    by false k q = k q
claimed_lives i s (Enqueue j asked t was ∷ h) e = by (eqb i j) (claimed_lives i s h) e
  where
    by : (b : Bool) → (claimer_of i h ≡ Some s → lives i h ≡ true) → cond (b || false) None (claimer_of i h) ≡ Some s → lives i h ≡ true
    by true k q = absurd cc
    by false k q = k q
claimed_lives i s (Put j t ∷ h) e = claimed_lives i s h e
claimed_lives i s (Cancel j t was ∷ h) e = claimed_lives i s h e
claimed_lives i s (Take ∷ h) e = claimed_lives i s h e
claimed_lives i s (Dequeue j ran ∷ h) e = claimed_lives i s h e
claimed_lives i s (Free j ∷ h) e = by (eqb i j) (claimed_lives i s h) e
  where
    by : (b : Bool) → (claimer_of i h ≡ Some s → lives i h ≡ true) → cond b None (claimer_of i h) ≡ Some s → cond b false (lives i h) ≡ true
    by true k q = absurd cc
    by false k q = k q
claimed_lives i s (SetEvent j t ∷ h) e = claimed_lives i s h e
claimed_lives i s (ClearEvent j was ∷ h) e = claimed_lives i s h e

-- a lot is one of the indices
pub lot_below : (sizes : Sizes) (i : ℕ) → is_lot sizes i ≡ true → i < index_count sizes
lot_below sizes i lot = ltb-true i (sizes.handles + sizes.lots) (and_parts _ _ lot).1
