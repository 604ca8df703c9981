-- The five flags as a word.
use Rattle.std.specs.Prelude.{ℕ, ◌+◌, ◌*◌, Bool, not, ◌==◌, bit_and, if◌then◌else◌}
use Rattle.aio_model.specs.declared.loops.flags.Flags.{Flags}

-- 1 for true, 0 for false
abbrev pub bit : Bool → ℕ
bit b = if b then 1 else 0

-- the word has this bit
abbrev pub has_bit : ℕ → ℕ → Bool
has_bit word mask = not (bit_and word mask == 0)

abbrev pub flags_in : ℕ → Flags
flags_in word =
    record { pending = has_bit word 1; scheduled = has_bit word 2; deleted = has_bit word 4; oneshot = has_bit word 8; idle = has_bit word 16 }

abbrev pub word_of : Flags → ℕ
word_of flags =
    bit flags.pending * 1 + bit flags.scheduled * 2 + bit flags.deleted * 4 + bit flags.oneshot * 8 + bit flags.idle * 16
