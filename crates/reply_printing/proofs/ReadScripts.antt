-- A script that was read has streams below 64 alone.
use Rattle.std.proofs.Common.{◌≡◌, ℕ, ◌<◌, ◌==◌, ◌||◌, Bool, true, false, List, [], ◌∷◌, inl, inr, arith}
use Rattle.std.specs.List.{AllByRecursion}
use Rattle.std.proofs.lemmas.Bool.{cases_Bool, eqb-true}
use Rattle.aio_model.specs.declared.scripts.image_scripts.Script.{Script}
use Rattle.aio_model.specs.declared.scripts.image_scripts.Step.{Step}
use Rattle.aio_model.specs.declared.scripts.image_scripts.Stream.{Stream}
use Rattle.aio_script.specs.Image.Bounds.{IsAtHome, IsBounded, IsWithin}
use Rattle.aio_script.specs.Image.Grammar.{has_stream}
use Rattle.reply_printing.specs.Standings.{HaveStreamsBelow}

or_second : (a b : Bool) → a ≡ false → (a || b) ≡ true → b ≡ true
or_second true b e h = cc e
or_second false b e h = h

known-below : (loops : ℕ) (streams : List Stream) (stream : ℕ) → AllByRecursion (IsAtHome loops) streams → has_stream stream streams ≡ true → stream < 64
known-below loops [] stream at_home known = cc known
known-below loops (first ∷ streams) stream at_home known =
    elim (cases_Bool (first.id == stream)) [
      | inl h ↦ omega (arith, eqb-true first.id stream h, at_home.0.id)
      | inr h ↦ known-below loops streams stream at_home.1 (or_second (first.id == stream) (has_stream stream streams) h known)
    ]

lines-below : (loops : ℕ) (streams : List Stream) (lines : List Step) → AllByRecursion (IsAtHome loops) streams
    → AllByRecursion (IsWithin loops streams) lines → HaveStreamsBelow 64 lines
lines-below loops streams [] at_home each = tt
lines-below loops streams (step ∷ lines) at_home each =
    (known-below loops streams step.stream at_home each.0.known, lines-below loops streams lines at_home each.1)

-- what `print_replies` asks of the lines
pub IsBounded-streams : (script : Script) → IsBounded script → HaveStreamsBelow 64 script.lines
IsBounded-streams script bounded = lines-below script.loops script.streams script.lines bounded.at_home bounded.each
