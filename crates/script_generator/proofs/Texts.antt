-- Texts of several parts, and one behind them.
use Rattle.std.proofs.Common.{◌≡◌, ℕ, List, ◌++◌, ap, ◌∙◌, append_assoc}

pub behind_three : (a b c d : List ℕ) → (a ++ (b ++ c)) ++ d ≡ a ++ (b ++ (c ++ d))
behind_three a b c d = append_assoc a (b ++ c) d ∙ ap (λ (rest : List ℕ). a ++ rest) (append_assoc b c d)

pub behind_five : (a b c d e f : List ℕ) → (a ++ (b ++ (c ++ (d ++ e)))) ++ f ≡ a ++ (b ++ (c ++ (d ++ (e ++ f))))
behind_five a b c d e f =
    append_assoc a (b ++ (c ++ (d ++ e))) f
    ∙ ap (λ (rest : List ℕ). a ++ rest) (append_assoc b (c ++ (d ++ e)) f
    ∙ ap (λ (rest : List ℕ). b ++ rest) (behind_three c d e f))
