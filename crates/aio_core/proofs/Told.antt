-- From what a step tells to what a call says.
use Rattle.std.proofs.Common.{◌≡◌, ℕ, false, refl, sym, ap, ◌∙◌, subst}
use Rattle.aio_model.specs.declared.loops.flags.Flags.{Flags}
use Rattle.aio_model.specs.declared.loops.kinds.Kind as asking
use Rattle.aio_model.specs.declared.loops.kinds.Kind.TheVariants.{Sched, Idle, Del}
use Rattle.aio_model.specs.Loop.FlagsWord.{flags_in}
use Rattle.aio_model.specs.Loop.History.{EnqueueAsks}
use Rattle.aio_model.specs.Loop.Flags.{is_once}
use Rattle.aio_model.proofs.FlagsWords.{flags_in-word_of}
use Rattle.aio_core.specs.Known.{Known}
use Rattle.aio_core.specs.Standing.{asks_of_kind, mask_of, Enqueues, Dequeues}
use Rattle.aio_core.specs.Plays.{Enqueued, Dequeued}
use Rattle.aio_core.proofs.Masks.{asked_with-mask_of}

pub asked_is_of_handle : (kind : asking.Kind) → is_once (asks_of_kind kind) ≡ false
asked_is_of_handle Sched = refl
asked_is_of_handle Idle = refl
asked_is_of_handle Del = refl

-- the flags read from the word that was found
pub enqueues_told : (i found : ℕ) (asked : EnqueueAsks) (f : Flags) (v w : Known) → Enqueued i (mask_of asked) found v w → f ≡ flags_in found → Enqueues i asked f v w
enqueues_told i found asked f v w told is =
    let same : told.flags ≡ f = sym (flags_in-word_of told.flags) ∙ ap flags_in (sym told.found_is) ∙ sym is in
    subst (λ g. Enqueues i asked g v w) same (subst (λ a. Enqueues i a told.flags v w) (asked_with-mask_of asked) told.enqueues)

pub dequeues_told : (i found : ℕ) (f : Flags) (v w : Known) → Dequeued i found v w → f ≡ flags_in found → Dequeues i f v w
dequeues_told i found f v w told is =
    subst (λ g. Dequeues i g v w) (sym (flags_in-word_of told.flags) ∙ ap flags_in (sym told.found_is) ∙ sym is) told.dequeues
