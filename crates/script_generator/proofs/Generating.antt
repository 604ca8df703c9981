-- The bytes of a generated write, one further.
use Rattle.std.proofs.Common.{◌≡◌, ℕ, ◌+◌, ◌%◌, [], ◌∷◌, ◌++◌, suc, arith, refl}
use Rattle.script_generator.specs.Generated.{bytes_to}

pub bytes_to-none : (k : ℕ) → bytes_to k 0 ≡ []
unfolding bytes_to
bytes_to-none k = refl

pub bytes_to-next : (k j : ℕ) → bytes_to k (j + 1) ≡ bytes_to k j ++ (k + j) % 256 ∷ []
unfolding bytes_to
bytes_to-next k j = let e : j + 1 ≡ suc j = omega arith in rw e refl
