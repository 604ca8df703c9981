use Rattle.std.proofs.Common.{◌≡◌, ℕ, ◌+◌, ◌<◌, ◌≤◌, true, Result, Ok, Err, inl, inr, length, ap, sym, ◌∙◌, arith}
use Rattle.std.specs.Prelude.{IsOk}
use Rattle.std.specs.Result.{is_err}
use Rattle.std.proofs.lemmas.Bool.{cases_lt, false≢true}
use Rattle.aio_script.proofs.Texts.{flat_map_longer}
use Rattle.aio_script.proofs.print.pack.Goals as goal

-- what didn't fit behind a front is longer than the room with it, and so is all that they are a part of
too_long : {E : Type 0} (room used front part all : ℕ) (result : Result Unit E)
    → is_err result ≡ true → (used + part ≤ room → IsOk result) → used ≡ front → front + part ≤ all → room < all
too_long room used front part all (Ok done) bad fits same within = absurd (false≢true bad)
too_long room used front part all (Err full) bad fits same within = elim (cases_lt room all) [
  | inl longer ↦ longer
  | inr shorter ↦ absurd (false≢true (fits (omega (arith, shorter, same, within))))
]

pub returns-then-is_err : goal.returns-then-is_err
returns-then-is_err c =
    too_long _ _ _ _ _ c.try_extend_from_slice.result (sym c.is_err.ensures.value ∙ c.if-is_err.true) c.try_extend_from_slice.ensures.variant.1
    (ap length c.loop-part.invariant)
    (flat_map_longer (λ part. part.now) c.args.parts.now c.loop-part.part-index _ c.loop-part-test.true)
