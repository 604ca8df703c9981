-- What a read of a source in memory takes from its front.
use Rattle.std.proofs.Common.{◌≡◌, ℕ, ◌+◌, ◌≤◌, List, ◌++◌, length, take, drop, sym, ap, ◌∙◌}
use Rattle.std.proofs.lemmas.List.{take_at, take-append-drop, drop-drop, length-take-le}

-- the bytes that were copied, and then what is left behind them, are what was left before
pub front_and_rest : (bytes left copied behind : List ℕ) (at n : ℕ) → drop at bytes ≡ left → copied ≡ take n left → n ≤ length left
    → take n (copied ++ behind) ++ drop (at + n) bytes ≡ left
front_and_rest bytes left copied behind at n was is within =
    let len : length copied ≡ n = ap length is ∙ length-take-le n left within in
    let front : take n (copied ++ behind) ≡ take n left = take_at copied behind n len ∙ is in
    let rest : drop (at + n) bytes ≡ drop n left = sym (drop-drop n at bytes) ∙ ap (drop n) was in
    ap (λ xs. xs ++ drop (at + n) bytes) front ∙ ap (λ xs. take n left ++ xs) rest ∙ take-append-drop n left
