-- The rule's part on flags: what keeps it when a word changes.
use Rattle.std.proofs.Common.{◌≡◌, ◌≢◌, ℕ, ◌<◌, Bool, true, false, cond, eqb, ltb, List, [], ◌∷◌, length, set, get_or-set_same, get_or-set_other, slice_index, refl, sym, ap, ◌∙◌, subst, ⊎_elim, arith}
use Rattle.std.proofs.lemmas.Bool.{cond-true, cases_eq, and_parts, not-true, lt-ltb, eq-eqb, ne_eqb}
use Rattle.aio_model.specs.declared.loops.flags.Flags.{Flags}
use Rattle.aio_model.specs.Loop.FlagsWord.{bit, word_of}
use Rattle.aio_model.specs.Loop.Lists.{is_set}
use Rattle.aio_model.specs.Loop.History.{Sizes, EnqueueAsks, ToCall, ToCallIdle, ToDelete, ToCallOnce, Enqueue, Cancel, Dequeue, History}
use Rattle.aio_model.specs.Loop.Flags.{has_life, is_lot, flags_of, is_once}
use Rattle.aio_model.specs.Loop.Legal.{MayAsk}
use Rattle.aio_core.specs.Words.{event_at, flags_at, index_count, word_count, flags_word, free_word}
use Rattle.aio_core.specs.Rule.{FlagsStand, EventsStand}
use Rattle.aio_core.proofs.Masks.{enqueued_flags, canceled_flags, dequeued_flags}

-- the word of what has a life
pub word_alive : (sizes : Sizes) (i : ℕ) (h : History) → has_life sizes i h ≡ true → flags_word sizes i h ≡ word_of (flags_of i h)
word_alive sizes i h alive =
    cond-true (has_life sizes i h) (word_of (flags_of i h)) free_word alive

pub handle_lives : (sizes : Sizes) (i : ℕ) (h : History) → i < sizes.handles → has_life sizes i h ≡ true
handle_lives sizes i h below =
    let e : ltb i sizes.handles ≡ true = lt-ltb i sizes.handles below in rw e refl

-- Reading a word after a write.

pub read_here : (words : List ℕ) (k x : ℕ) → k < length words → slice_index (set words k x) k ≡ x
read_here words k x below = get_or-set_same words k x 0 below

pub read_else : (words : List ℕ) (k j x : ℕ) → j ≢ k → slice_index (set words k x) j ≡ slice_index words j
read_else words k j x other = get_or-set_other words k j x 0 other

-- Flags after an entry.

pub flags_of-enqueue : (i s : ℕ) (asked : EnqueueAsks) (was : Flags) (h : History) → flags_of i (Enqueue i asked s was ∷ h) ≡ enqueued_flags asked (flags_of i h)
flags_of-enqueue i s asked was h = let e : eqb i i ≡ true = eq-eqb i i refl in rw e refl

pub flags_of-cancel : (i s : ℕ) (was : Flags) (h : History) → flags_of i (Cancel i s was ∷ h) ≡ canceled_flags (flags_of i h)
flags_of-cancel i s was h = let e : eqb i i ≡ true = eq-eqb i i refl in rw e refl

pub flags_of-dequeue : (i : ℕ) (ran : Bool) (h : History) → flags_of i (Dequeue i ran ∷ h) ≡ dequeued_flags (flags_of i h)
flags_of-dequeue i ran h = let e : eqb i i ≡ true = eq-eqb i i refl in rw e refl

pub flags_of-enqueue_other : (i j s : ℕ) (asked : EnqueueAsks) (was : Flags) (h : History) → i ≢ j → flags_of i (Enqueue j asked s was ∷ h) ≡ flags_of i h
flags_of-enqueue_other i j s asked was h ne = let e : eqb i j ≡ false = ne_eqb i j ne in rw e refl

pub flags_of-cancel_other : (i j s : ℕ) (was : Flags) (h : History) → i ≢ j → flags_of i (Cancel j s was ∷ h) ≡ flags_of i h
flags_of-cancel_other i j s was h ne = let e : eqb i j ≡ false = ne_eqb i j ne in rw e refl

pub flags_of-dequeue_other : (i j : ℕ) (ran : Bool) (h : History) → i ≢ j → flags_of i (Dequeue j ran ∷ h) ≡ flags_of i h
flags_of-dequeue_other i j ran h ne = let e : eqb i j ≡ false = ne_eqb i j ne in rw e refl

-- The part.

-- a word of another kind changes, and the entry, if there is one, is about no flags
pub flags_apart : (sizes : Sizes) (h g : History) (words : List ℕ) (k x : ℕ) → FlagsStand sizes h words → ((i : ℕ) → flags_at i ≢ k) → ((i : ℕ) → flags_word sizes i g ≡ flags_word sizes i h) → FlagsStand sizes g (set words k x)
flags_apart sizes h g words k x stand apart same =
    record { each = λ i below. read_else words k (flags_at i) x (apart i) ∙ stand.each i below ∙ sym (same i) }

-- the flags of one index change
pub flags_change : (sizes : Sizes) (h g : History) (words : List ℕ) (i x : ℕ) → FlagsStand sizes h words → length words ≡ word_count sizes → i < index_count sizes → flags_word sizes i g ≡ x → ((j : ℕ) → j ≢ i → flags_word sizes j g ≡ flags_word sizes j h) → FlagsStand sizes g (set words (flags_at i) x)
flags_change sizes h g words i x stand long below new same =
    record {
      each = λ j low. ⊎_elim (λ e. subst (λ k. slice_index (set words (flags_at i) x) (flags_at k) ≡ flags_word sizes k g) (sym e) (read_here words (flags_at i) x (omega arith) ∙ sym new)) (λ ne. read_else words (flags_at i) (flags_at j) x (λ q. ne (omega arith)) ∙ stand.each j low ∙ sym (same j ne)) (cases_eq j i);
    }

-- the word of a lot before anything was done
pub lot_is_free : (sizes : Sizes) (i : ℕ) → is_lot sizes i ≡ true → flags_word sizes i [] ≡ free_word
lot_is_free sizes i lot =
    let e : ltb i sizes.handles ≡ false = not-true _ (and_parts _ _ lot).0 in rw e refl

-- the same word again
pub flags_again : (sizes : Sizes) (h : History) (words : List ℕ) (i : ℕ) → FlagsStand sizes h words → i < index_count sizes → has_life sizes i h ≡ true → slice_index words (flags_at i) ≡ word_of (flags_of i h)
flags_again sizes h words i stand below alive = stand.each i below ∙ word_alive sizes i h alive

-- the word of an index that no entry is about
pub word_same : (sizes : Sizes) (i : ℕ) (h g : History) → has_life sizes i g ≡ has_life sizes i h → flags_of i g ≡ flags_of i h → flags_word sizes i g ≡ flags_word sizes i h
word_same sizes i h g life flags =
    ap (λ (b : Bool). cond b (word_of (flags_of i g)) free_word) life ∙ ap (λ (f : Flags). cond (has_life sizes i h) (word_of f) free_word) flags

-- what may be asked of a handle
pub may_ask_handle : (sizes : Sizes) (i s : ℕ) (asked : EnqueueAsks) (h : History) → is_once asked ≡ false → i < sizes.handles → MayAsk sizes i asked s h
may_ask_handle sizes i s ToCall h once below = below
may_ask_handle sizes i s ToCallIdle h once below = below
may_ask_handle sizes i s ToDelete h once below = below
may_ask_handle sizes i s ToCallOnce h once below = absurd cc

-- events stay where a word of another kind changes
pub events_apart : (h g : History) (words : List ℕ) (k x : ℕ) → EventsStand h words → ((e : ℕ) → e < 64 → event_at e ≢ k) → ((e : ℕ) → is_set e g ≡ is_set e h) → EventsStand g (set words k x)
events_apart h g words k x stand apart same e below =
    read_else words k (event_at e) x (apart e below) ∙ stand e below ∙ ap bit (sym (same e))
