-- Who was called: the first are named, and the others counted.
use Rattle.std.proofs.Common.{◌≡◌, ℕ, ◌+◌, ◌-◌, ◌^◌, min, ◌<◌, ◌≤◌, List, [], ◌∷◌, ◌++◌, length, sym, ◌∙◌, ap, arith, length-append}
use Rattle.std.proofs.lemmas.List.{take-append-le, take_all, length-take}
use Rattle.aio_model.specs.declared.loops.ran_lists.Called.{Called}
use Rattle.bell_loop.specs.Entering.{NamesCalled}

-- the row is full, and one more is counted
pub NamesCalled-full : (ran : List Called) (more more' : ℕ) (calls : List Called) (called : Called) → 256 ≤ length ran → more' ≡ min (more + 1) (2 ^ 64 - 1) → NamesCalled ran more calls → NamesCalled ran more' (calls ++ called ∷ [])
NamesCalled-full ran more more' calls called full is names =
    let long : 256 ≤ length calls = omega (arith, ap length names.first, length-take 256 calls) in
    record {
      first = names.first ∙ sym (take-append-le 256 calls (called ∷ []) long);
      besides = let e : length (calls ++ called ∷ []) ≡ length calls + 1 = length-append calls (called ∷ []) in omega (arith, names.besides, is, e);
    }

-- there is room in the row
pub NamesCalled-room : (ran : List Called) (more : ℕ) (calls : List Called) (called : Called) → length ran < 256 → NamesCalled ran more calls → NamesCalled (ran ++ called ∷ []) more (calls ++ called ∷ [])
NamesCalled-room ran more calls called room names =
    let short : length calls < 256 = omega (arith, ap length names.first, length-take 256 calls) in
    let e : length (calls ++ called ∷ []) ≡ length calls + 1 = length-append calls (called ∷ []) in
    record {
      first = ap (λ l. l ++ called ∷ []) (names.first ∙ take_all 256 calls (omega arith)) ∙ sym (take_all 256 (calls ++ called ∷ []) (omega (arith, e)));
      besides = omega (arith, names.besides, e);
    }
