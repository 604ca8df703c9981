-- Flags words under the masks of the steps.
use Rattle.std.proofs.Common.{◌≡◌, ℕ, ◌<◌, ◌≤◌, Bool, true, false, ◌||◌, eqb, bit_and, bit_or, refl, ap, ◌∙◌, arith}
use Rattle.std.proofs.lemmas.Bool.{agree_below_at, eqb-true}
use Rattle.aio_model.specs.declared.loops.flags.Flags.{Flags}
use Rattle.aio_model.specs.Loop.FlagsWord.{bit, flags_in, word_of}
use Rattle.aio_model.specs.Loop.History.{EnqueueAsks, ToCall, ToCallIdle, ToDelete, ToCallOnce}
use Rattle.aio_model.specs.Loop.Flags.{is_scheduling, is_idling, is_deleting, is_once}
use Rattle.aio_model.proofs.FlagsWords.{flags_in-word_of}
use Rattle.aio_core.specs.Standing.{mask_of, asked_with}

pub asked_with-mask_of : (asked : EnqueueAsks) → asked_with (mask_of asked) ≡ asked
asked_with-mask_of ToCall = refl
asked_with-mask_of ToCallIdle = refl
asked_with-mask_of ToDelete = refl
asked_with-mask_of ToCallOnce = refl

bit-below : (b : Bool) → bit b ≤ 1
bit-below true = omega arith
bit-below false = omega arith

pub word_of-below : (f : Flags) → word_of f < 32
word_of-below f =
    let p = bit-below f.pending in
    let s = bit-below f.scheduled in
    let d = bit-below f.deleted in
    let o = bit-below f.oneshot in
    let i = bit-below f.idle in
    omega arith

-- the flags once an index was asked this
abbrev pub enqueued_flags : EnqueueAsks → Flags → Flags
enqueued_flags asked f =
    record { pending = true; scheduled = is_scheduling asked || f.scheduled; deleted = is_deleting asked || f.deleted; oneshot = is_once asked || f.oneshot; idle = is_idling asked || f.idle }

-- the flags once it was canceled, or dequeued
abbrev pub canceled_flags : Flags → Flags
canceled_flags f = record f { scheduled = false }

abbrev pub dequeued_flags : Flags → Flags
dequeued_flags f = record f { pending = false; scheduled = false; idle = false }

-- a step on a word and a change of flags that agree at each of the 32 words
by_words : (step : ℕ → ℕ) (change : Flags → Flags) → ((v : ℕ) → v < 32 → eqb (step v) (word_of (change (flags_in v))) ≡ true) → (f : Flags) → step (word_of f) ≡ word_of (change f)
by_words step change table f =
    eqb-true _ _ (table (word_of f) (word_of-below f)) ∙ ap (λ (g : Flags). word_of (change g)) (flags_in-word_of f)

pub enqueued_word : (asked : EnqueueAsks) (f : Flags) → bit_or (word_of f) (mask_of asked) ≡ word_of (enqueued_flags asked f)
enqueued_word ToCall f =
    by_words (λ v. bit_or v 3) (enqueued_flags ToCall) (λ v h. agree_below_at (λ n. eqb (bit_or n 3) (word_of (enqueued_flags ToCall (flags_in n)))) (λ _. true) 32 v refl h) f
enqueued_word ToCallIdle f =
    by_words (λ v. bit_or v 19) (enqueued_flags ToCallIdle) (λ v h. agree_below_at (λ n. eqb (bit_or n 19) (word_of (enqueued_flags ToCallIdle (flags_in n)))) (λ _. true) 32 v refl h) f
enqueued_word ToDelete f =
    by_words (λ v. bit_or v 5) (enqueued_flags ToDelete) (λ v h. agree_below_at (λ n. eqb (bit_or n 5) (word_of (enqueued_flags ToDelete (flags_in n)))) (λ _. true) 32 v refl h) f
enqueued_word ToCallOnce f =
    by_words (λ v. bit_or v 11) (enqueued_flags ToCallOnce) (λ v h. agree_below_at (λ n. eqb (bit_or n 11) (word_of (enqueued_flags ToCallOnce (flags_in n)))) (λ _. true) 32 v refl h) f

-- all bits but SCHEDULED
pub canceled_word : (f : Flags) → bit_and (word_of f) 18446744073709551613 ≡ word_of (canceled_flags f)
canceled_word f =
    by_words (λ v. bit_and v 18446744073709551613) canceled_flags (λ v h. agree_below_at (λ n. eqb (bit_and n 18446744073709551613) (word_of (canceled_flags (flags_in n)))) (λ _. true) 32 v refl h) f

-- all bits but PENDING, SCHEDULED and IDLE
pub dequeued_word : (f : Flags) → bit_and (word_of f) 18446744073709551596 ≡ word_of (dequeued_flags f)
dequeued_word f =
    by_words (λ v. bit_and v 18446744073709551596) dequeued_flags (λ v h. agree_below_at (λ n. eqb (bit_and n 18446744073709551596) (word_of (dequeued_flags (flags_in n)))) (λ _. true) 32 v refl h) f
