-- Each move keeps the rule of the pool's queue.
use Rattle.std.proofs.Common.{◌≡◌, ◌≢◌, ℕ, zero, suc, true, false, true≢false, List, [], ◌∷◌, ◌++◌, set, sym, refl, ap, ◌∙◌, subst, subst₂, ⊎_elim, All, Contains}
use Rattle.std.proofs.lemmas.List.Elements.{All-nil, All-head, All-tail, All-push, All-contains_itself}
use mathlib.Core.Option.{some, some-injective, some-ne-none}
use lib.ListN.{get_elem?}
use Rattle.crossbeam_queue.specs.Fifo.{Pushes, Pops, Forks, Learns, Held}
use Rattle.crossbeam_queue.proofs.Lists.{at_set, at_snoc}
use Rattle.lot_pool.specs.declared.view.PoolView.{PoolView}
use Rattle.lot_pool.specs.declared.view.PoolStep.TheVariants.{Pushed, Popped}
use Rattle.lot_pool.specs.PoolRule.{Stands, StandsBeside, opening_with, stepped}

only_one : (a b : PoolView) (j : ℕ) → get_elem? (a ∷ []) j ≡ some b → (j ≡ 0) × (a ≡ b)
only_one a b zero e = (refl, some-injective a b e)
only_one a b (suc j) e = absurd (some-ne-none b (sym e))

at_itself : (views : List PoolView) (port : ℕ) (v w : PoolView) → get_elem? views port ≡ some v → get_elem? (set views port w) port ≡ some w
at_itself [] port v w e = absurd (some-ne-none v (sym e))
at_itself (x ∷ xs) zero v w e = refl
at_itself (x ∷ xs) (suc port) v w e = at_itself xs port v w e

pub fills_alone : (lots : List ℕ) → Stands lots (opening_with lots ∷ [])
fills_alone lots =
    record { lots = lots; each = All-contains_itself lots; agree = λ j v e. ap (λ (y : PoolView). y.lots) (sym (only_one (opening_with lots) v j e).1); alone = λ j v e o. (ap (λ y. y ∷ []) (only_one (opening_with lots) v j e).1, refl) }

pub fills : (n port : ℕ) (v : PoolView) (x : ℕ) → v.opening ≡ true → Pushes Stands n port v x (λ w. w ≡ opening_with (v.lots ++ x ∷ []))
fills n port v x filling items views room h at =
    let w : PoolView = opening_with (v.lots ++ x ∷ []) in let a = h.alone port v at filling in let agree = h.agree port v at in
    let here : (port ≡ 0) × (v ≡ v) = only_one v v port (ap (λ l. get_elem? l port) (sym a.0) ∙ at) in
    let row : set views port w ≡ w ∷ [] = ap (λ l. set l port w) a.0 ∙ ap (λ j. set (v ∷ []) j w) here.0 in
    let all : items ++ x ∷ [] ≡ v.lots ++ x ∷ [] = ap (λ l. l ++ x ∷ []) (a.1 ∙ sym agree) in
    (w, subst₂ Stands (sym all) (sym row) (fills_alone (v.lots ++ x ∷ [])), refl)

pub learns_filled : (port : ℕ) (v : PoolView) → v.opening ≡ true → Learns Stands port v (λ items. items ≡ v.lots)
learns_filled port v filling items views h at = (h.alone port v at filling).1 ∙ sym (h.agree port v at)

pub learns : (port : ℕ) (v : PoolView) → Learns Stands port v (StandsBeside v)
learns port v items views h at = record { views = views; stands = h; number = port; mine = at }

-- a pass knows something else, and the items are others
changed : (items more : List ℕ) (views : List PoolView) (port : ℕ) (v w : PoolView) (h : Stands items views) → get_elem? views port ≡ some v → w.lots ≡ v.lots → w.opening ≡ false → All (Contains h.lots) more → Stands more (set views port w)
changed items more views port v w h at lots filled each =
    record {
      lots = h.lots;
      each = each;
      agree = λ j u e. ⊎_elim (λ (x : (j ≡ port) × (w ≡ u)). ap (λ (y : PoolView). y.lots) (sym x.1) ∙ lots ∙ h.agree port v at) (λ (x : (j ≢ port) × (get_elem? views j ≡ some u)). h.agree j u x.1) (at_set views port j w u e);
      alone = λ j u e o. ⊎_elim (λ (x : (j ≡ port) × (w ≡ u)). absurd (true≢false (sym o ∙ ap (λ (y : PoolView). y.opening) (sym x.1) ∙ filled)))
          (λ (x : (j ≢ port) × (get_elem? views j ≡ some u)). let a = h.alone j u x.1 o in
          absurd (x.0 ((only_one u u j (ap (λ l. get_elem? l j) (sym a.0) ∙ x.1)).0 ∙ sym (only_one u v port (ap (λ l. get_elem? l port) (sym a.0) ∙ at)).0))) (at_set views port j w u e);
    }

-- a pass comes
joined : (items : List ℕ) (views : List PoolView) (port : ℕ) (v w : PoolView) → Stands items views → get_elem? views port ≡ some v → v.opening ≡ false → w.lots ≡ v.lots → w.opening ≡ false → Stands items (views ++ w ∷ [])
joined items views port v w h at filled lots w_filled =
    record {
      lots = h.lots;
      each = h.each;
      agree = λ j u e. ⊎_elim (λ x. h.agree j u x) (λ (x : w ≡ u). ap (λ (y : PoolView). y.lots) (sym x) ∙ lots ∙ h.agree port v at) (at_snoc views w u j e);
      alone = λ j u e o. ⊎_elim (λ x. let a = h.alone j u x o in absurd (true≢false (sym o ∙ ap (λ (y : PoolView). y.opening) (only_one u v port (ap (λ l. get_elem? l port) (sym a.0) ∙ at)).1 ∙ filled)))
          (λ (x : w ≡ u). absurd (true≢false (sym o ∙ ap (λ (y : PoolView). y.opening) (sym x) ∙ w_filled))) (at_snoc views w u j e);
    }

pub forks : (port : ℕ) (v l r : PoolView) → l.lots ≡ v.lots → l.opening ≡ false → r.lots ≡ v.lots → r.opening ≡ false → Forks Stands port v l r
forks port v l r l_lots l_filled r_lots r_filled items views h at =
    joined items (set views port l) port l r (changed items items views port v l h at l_lots l_filled h.each) (at_itself views port v l at) l_filled (r_lots ∙ sym l_lots) r_filled

pub pushes : (n port : ℕ) (v : PoolView) (x : ℕ) → v.opening ≡ false → Contains v.lots x → Pushes Stands n port v x (λ w. w ≡ stepped (Pushed x) v)
pushes n port v x filled lot items views room h at =
    let P : List ℕ → Type 0 = λ l. Contains l x in
    (stepped (Pushed x) v, changed items (items ++ x ∷ []) views port v (stepped (Pushed x) v) h at refl filled (All-push (Contains h.lots) items x h.each (subst P (h.agree port v at) lot)), refl)

pub pops : (port : ℕ) (v : PoolView) → v.opening ≡ false → Pops Stands port v (λ x w. Contains v.lots x × (w ≡ stepped (Popped x) v))
pops port v filled x items views h at =
    let P : List ℕ → Type 0 = λ l. Contains l x in
    (stepped (Popped x) v, changed (x ∷ items) items views port v (stepped (Popped x) v) h at refl filled (All-tail (Contains h.lots) x items h.each), (subst P (sym (h.agree port v at)) (All-head (Contains h.lots) x items h.each), refl))

-- what is told where the queue was found empty holds of any pass of a filled queue, whether or not anything was looked at
pub tells_nothing : (v : PoolView) → v.opening ≡ false → Held 0 (StandsBeside v)
tells_nothing v filled = (
  [],
  refl,
  record {
    views = v ∷ [];
    stands = record { lots = v.lots; each = All-nil (Contains v.lots); agree = λ j u e. ap (λ (y : PoolView). y.lots) (sym (only_one v u j e).1); alone = λ j u e o. absurd (true≢false (sym o ∙ ap (λ (y : PoolView). y.opening) (sym (only_one v u j e).1) ∙ filled)) };
    number = 0;
    mine = refl;
  },
)
