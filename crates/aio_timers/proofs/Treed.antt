-- The least key of a tree.
use Rattle.std.proofs.Common.{◌≡◌, ℕ, zero, suc, ◌+◌, ◌-◌, ◌*◌, ◌/◌, ◌<◌, ◌≤◌, List, length, get_or, drop, length-drop, sym, ◌∙◌, ap, inl, inr, arith}
use Rattle.std.proofs.lemmas.Bool.{cases_eq, cases_lt}
use Rattle.std.proofs.lemmas.List.{get_or-drop}
use Rattle.std.proofs.lemmas.Grind.{get_or_default_zero}
use Rattle.aio_timers.specs.Keys.{none, key_at, HasPlace}
use Rattle.aio_timers.specs.Nodes.{IsLesser, IsTree}

module _ (nodes : List ℕ) (leaves : ℕ) (tree : IsTree nodes leaves) where
  -- the root has no greater key than any node
  pub root_least : (fuel node : ℕ) → node ≤ fuel → 0 < node → node < 2 * leaves → get_or nodes 1 0 ≤ get_or nodes node 0
  root_least zero node short some within = absurd (omega arith)
  root_least (suc fuel) node short some within = elim (cases_eq node 1) [
    | inl e ↦ omega (arith, ap (λ n. get_or nodes n 0) e)
    | inr ne ↦
        let above = root_least fuel (node / 2) (omega arith) (omega arith) (omega arith) in
        let lesser = tree.lesser (node / 2) (omega arith) (omega arith) in
        elim (cases_eq node (2 * (node / 2))) [
          | inl even ↦ omega (arith, above, lesser, ap (λ n. get_or nodes n 0) even)
          | inr odd ↦
              let is : node ≡ 2 * (node / 2) + 1 = omega arith in
              omega (arith, above, lesser, ap (λ n. get_or nodes n 0) is)
        ]
  ]

  -- a leaf has the key of a node
  pub record LeafOf (key : ℕ) : Type 0 where
    pub leaf : ℕ
    pub within : leaf < leaves
    pub is : get_or nodes (leaves + leaf) 0 ≡ key

  pub leaf_of : (fuel node : ℕ) → 2 * leaves ≤ fuel + node → 0 < node → node < 2 * leaves → LeafOf (get_or nodes node 0)
  leaf_of zero node more some within = absurd (omega arith)
  leaf_of (suc fuel) node more some within = elim (cases_lt node leaves) [
    | inl inner ↦
        let left = leaf_of fuel (2 * node) (omega arith) (omega arith) (omega arith) in
        let right = leaf_of fuel (2 * node + 1) (omega arith) (omega arith) (omega arith) in
        let lesser = tree.lesser node some inner in
        elim (cases_eq (get_or nodes node 0) (get_or nodes (2 * node) 0)) [
          | inl e ↦ record { leaf = left.leaf; within = left.within; is = left.is ∙ sym e }
          | inr ne ↦ record { leaf = right.leaf; within = right.within; is = omega (arith, right.is, lesser) }
        ]
    | inr outer ↦ record {
      leaf = node - leaves;
      within = omega arith;
      is = ap (λ n. get_or nodes n 0) (omega arith);
    }
  ]

  pub length_keys : length (drop leaves nodes) ≡ leaves
  length_keys = omega (arith, length-drop leaves nodes, tree.sized)

  pub key_is : (place : ℕ) → place < length (drop leaves nodes) → key_at (drop leaves nodes) place ≡ get_or nodes (leaves + place) 0
  key_is place within =
      get_or-drop leaves nodes place none ∙ get_or_default_zero nodes (leaves + place) none (omega (arith, length_keys, tree.sized))

  pub lower : (place : ℕ) → place < length (drop leaves nodes) → get_or nodes 1 0 ≤ key_at (drop leaves nodes) place
  lower place within =
      let root = root_least (leaves + place) (leaves + place) (omega arith) (omega (arith, tree.some)) (omega (arith, length_keys)) in
      omega (arith, root, key_is place within)

  pub held : HasPlace (drop leaves nodes) (get_or nodes 1 0)
  held =
      let leaf = leaf_of (2 * leaves) 1 (omega arith) (omega arith) (omega (arith, tree.some)) in
      let within : leaf.leaf < length (drop leaves nodes) = omega (arith, leaf.within, length_keys) in
      record { place = leaf.leaf; within = within; is = key_is leaf.leaf within ∙ leaf.is }

-- all nodes but the one above this are lesser
abbrev pub AllButAbove : List ℕ → ℕ → ℕ → Type 0
AllButAbove nodes leaves node = (other : ℕ) → 0 < other → other < leaves → (other ≡ node / 2 → ⊥) → IsLesser nodes other
