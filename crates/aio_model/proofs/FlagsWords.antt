-- The five flags and their word give each other back.
use Rattle.std.proofs.Common.{◌≡◌, ℕ, ◌+◌, ◌*◌, ◌<◌, Bool, true, false, eqb, refl, ◌∙◌}
use Rattle.std.proofs.lemmas.Bool.{agree_below_at, eqb-true}
use mir.Val.{bool_byte}
use Rattle.aio_model.specs.Loop.FlagsWord.{bit, flags_in, word_of}
use Rattle.aio_model.specs.declared.loops.flags.Flags.{Flags}

pub word_of-flags_in : (word : ℕ) → word < 32 → word_of (flags_in word) ≡ word
word_of-flags_in word h =
    eqb-true _ _ (agree_below_at (λ v. eqb (word_of (flags_in v)) v) (λ _. true) 32 word refl h)

abbrev flags : Bool → Bool → Bool → Bool → Bool → Flags
flags p s d o i = record { pending = p; scheduled = s; deleted = d; oneshot = o; idle = i }

abbrev Back : Bool → Bool → Bool → Bool → Bool → Type 0
Back p s d o i = flags_in (word_of (flags p s d o i)) ≡ flags p s d o i

-- the two last flags are set or not
by_two : (p s d : Bool) → Back p s d true true → Back p s d true false → Back p s d false true → Back p s d false false → (o i : Bool) → Back p s d o i
by_two p s d tt' tf ft ff true true = tt'
by_two p s d tt' tf ft ff true false = tf
by_two p s d tt' tf ft ff false true = ft
by_two p s d tt' tf ft ff false false = ff

back : (p s d o i : Bool) → Back p s d o i
back true true true = by_two true true true refl refl refl refl
back true true false = by_two true true false refl refl refl refl
back true false true = by_two true false true refl refl refl refl
back true false false = by_two true false false refl refl refl refl
back false true true = by_two false true true refl refl refl refl
back false true false = by_two false true false refl refl refl refl
back false false true = by_two false false true refl refl refl refl
back false false false = by_two false false false refl refl refl refl

pub flags_in-word_of : (f : Flags) → flags_in (word_of f) ≡ f
flags_in-word_of f = back f.pending f.scheduled f.deleted f.oneshot f.idle

bool_byte-bit : (b : Bool) → bool_byte b ≡ bit b
bool_byte-bit true = refl
bool_byte-bit false = refl

-- the same, where the bits were computed one by one
pub flags_in-bytes : (f : Flags) (p s d o i : ℕ) → p ≡ bool_byte f.pending → s ≡ bool_byte f.scheduled → d ≡ bool_byte f.deleted → o ≡ bool_byte f.oneshot → i ≡ bool_byte f.idle → flags_in (p * 1 + s * 2 + d * 4 + o * 8 + i * 16) ≡ f
flags_in-bytes f p s d o i hp hs hd ho hi =
    rw (hp ∙ bool_byte-bit f.pending, hs ∙ bool_byte-bit f.scheduled, hd ∙ bool_byte-bit f.deleted, ho ∙ bool_byte-bit f.oneshot, hi ∙ bool_byte-bit f.idle) (flags_in-word_of f)
