-- Paths along neighbours: how one goes on, what leaves it as it is, and what walking it gives.
use Rattle.std.proofs.Common.{◌≡◌, ℕ, zero, suc, ◌≤◌, false, eqb, List, [], ◌∷◌, ◌++◌, length, refl, ◌∙◌, ap, arith}
use Rattle.std.proofs.lemmas.Bool.{eq-eqb, or_parts}
use Rattle.aio_chain.specs.LinkList.{contains}
use Rattle.aio_chain.specs.Nodes.{IsPath, walk}
use Rattle.aio_chain.proofs.Contained.{eqb-false_comm}

-- where a path from an index ends
abbrev pub last_of : ℕ → List ℕ → ℕ
last_of a [] = a
last_of a (x ∷ rest) = last_of x rest

-- the indices of a path whose next one is on it
abbrev pub sources : ℕ → List ℕ → List ℕ
sources a [] = []
sources a (x ∷ rest) = a ∷ sources x rest

pub sources-append : (a : ℕ) (xs : List ℕ) (y : ℕ) (ys : List ℕ) → sources a (xs ++ y ∷ ys) ≡ sources a xs ++ last_of a xs ∷ sources y ys
sources-append a [] y ys = refl
sources-append a (x ∷ xs) y ys = ap (λ zs. a ∷ zs) (sources-append x xs y ys)

pub sources-push : (a : ℕ) (xs : List ℕ) (y : ℕ) → sources a (xs ++ y ∷ []) ≡ a ∷ xs
sources-push a [] y = refl
sources-push a (x ∷ xs) y = ap (λ zs. a ∷ zs) (sources-push x xs y)

module _ (next prev : ℕ → ℕ) where
  -- a path and one that goes on from its end, joined by a step
  pub record Joined (a : ℕ) (xs : List ℕ) (y : ℕ) (ys : List ℕ) : Type 0 where
    pub front : IsPath next prev a xs
    pub on : next (last_of a xs) ≡ y
    pub back : prev y ≡ last_of a xs
    pub rest : IsPath next prev y ys

  pub path_parts : (a : ℕ) (xs : List ℕ) (y : ℕ) (ys : List ℕ) → IsPath next prev a (xs ++ y ∷ ys) → Joined a xs y ys
  path_parts a [] y ys p = record { front = tt; on = p.0; back = p.1; rest = p.2 }
  path_parts a (x ∷ xs) y ys p =
      let parts = path_parts x xs y ys p.2 in
      record { front = (p.0, p.1, parts.front); on = parts.on; back = parts.back; rest = parts.rest }

  pub path_from : (a : ℕ) (xs : List ℕ) (y : ℕ) (ys : List ℕ) → Joined a xs y ys → IsPath next prev a (xs ++ y ∷ ys)
  path_from a [] y ys j = (j.on, j.back, j.rest)
  path_from a (x ∷ xs) y ys j =
      (j.front.0, j.front.1, path_from x xs y ys (record { front = j.front.2; on = j.on; back = j.back; rest = j.rest }))

  -- walking a path gives it
  pub walk-path : (end a : ℕ) (xs : List ℕ) (steps : ℕ) → IsPath next prev a (xs ++ end ∷ []) → contains end xs ≡ false → length xs ≤ steps
      → walk next prev end steps (next a) ≡ xs
  walk-path end a [] zero p absent enough = refl
  walk-path end a [] (suc steps) p absent enough = rw (eq-eqb (next a) end p.0) refl
  walk-path end a (x ∷ xs) zero p absent enough = absurd (omega arith)
  walk-path end a (x ∷ xs) (suc steps) p absent enough =
      let parts = or_parts (eqb end x) (contains end xs) absent in
      let here : eqb x end ≡ false = eqb-false_comm end x parts.0 in
      ap (λ i. walk next prev end (suc steps) i) p.0 ∙ (rw here (ap (λ zs. x ∷ zs) (walk-path end x xs steps p.2 parts.1 (omega arith))))

-- neighbours that are the same but at two indices each
pub record SameBut (next prev next' prev' : ℕ → ℕ) (a b c d : ℕ) : Type 0 where
  pub on : (k : ℕ) → eqb a k ≡ false → eqb b k ≡ false → next' k ≡ next k
  pub back : (k : ℕ) → eqb c k ≡ false → eqb d k ≡ false → prev' k ≡ prev k

module _ (next prev next' prev' : ℕ → ℕ) (a b c d : ℕ) (same : SameBut next prev next' prev' a b c d) where
  pub path_kept : (from : ℕ) (xs : List ℕ) → contains a (sources from xs) ≡ false → contains b (sources from xs) ≡ false
      → contains c xs ≡ false → contains d xs ≡ false → IsPath next prev from xs → IsPath next' prev' from xs
  path_kept from [] ha hb hc hd p = tt
  path_kept from (x ∷ xs) ha hb hc hd p =
      let pa = or_parts (eqb a from) (contains a (sources x xs)) ha in
      let pb = or_parts (eqb b from) (contains b (sources x xs)) hb in
      let pc = or_parts (eqb c x) (contains c xs) hc in
      let pd = or_parts (eqb d x) (contains d xs) hd in (
        same.on from pa.0 pb.0 ∙ p.0,
        same.back x pc.0 pd.0 ∙ p.1,
        path_kept x xs pa.1 pb.1 pc.1 pd.1 p.2,
      )
