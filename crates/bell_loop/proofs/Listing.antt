-- The lists of actions of a loop script's handles.
use Rattle.std.specs.List.{AllByRecursion}
use Rattle.std.proofs.Common.{◌≡◌, ◌⊎◌, ℕ, length-append, ◌+◌, ◌<◌, ◌≤◌, Bool, List, [], ◌∷◌, ◌++◌, length, map, get_or, eqb, true, false, refl, sym, ◌∙◌, ap, subst, arith, inl, inr, ltb}
use Rattle.std.proofs.lemmas.List.{get_or_past, map-append, length-map}
use Rattle.std.proofs.Math.ListN.{get_or-append}
use Rattle.std.proofs.Math.Seq.{get_or-append_seam}
use Rattle.std.proofs.lemmas.Bool.{cases_eq, cases_lt, ne_eqb, eq-eqb, ltb-true, ltb-false}
use Rattle.aio_model.specs.declared.scripts.loop_scripts.Act.{Act}
use Rattle.aio_model.specs.declared.scripts.loop_scripts.ActKind.{ActKind}
use Rattle.aio_model.specs.Scripts.LoopActs.{acts_of}
use Rattle.aio_script.specs.Loop.Bounds.{IsActWithin}
use Rattle.bell_loop.specs.Actions.{AreWithin}
use Rattle.bell_loop.specs.Entering.{CanRun, AreListsOf, acts_at}

bool_cases : (b : Bool) → (b ≡ true) ⊎ (b ≡ false)
bool_cases true = inl refl
bool_cases false = inr refl

within_of : (handles bh : ℕ) (acts : List Act) → AllByRecursion (IsActWithin handles) acts → AreWithin handles (acts_of acts bh)
within_of handles bh [] all = tt
within_of handles bh (act ∷ acts) all =
    elim (cases_eq act.bh bh) [
      | inl here ↦ let e : eqb act.bh bh ≡ true = eq-eqb act.bh bh here in rw e (all.0.calls, within_of handles bh acts all.1)
      | inr other ↦ let e : eqb act.bh bh ≡ false = ne_eqb act.bh bh other in rw e (within_of handles bh acts all.1)
    ]

none_above : (handles bh : ℕ) (acts : List Act) → handles ≤ bh → AllByRecursion (IsActWithin handles) acts → acts_of acts bh ≡ []
none_above handles bh [] above all = refl
none_above handles bh (act ∷ acts) above all =
    let below : act.bh < handles = all.0.of in
    elim (cases_eq act.bh bh) [
      | inl here ↦ absurd (omega (arith, here, below, above))
      | inr other ↦ let e : eqb act.bh bh ≡ false = ne_eqb act.bh bh other in rw e (none_above handles bh acts above all.1)
    ]

past_end : (lists : List (List ActKind)) (bh : ℕ) → length lists ≤ bh → acts_at lists bh ≡ []
past_end lists bh past = get_or_past lists bh [] past

pub lists_agree : (handles : ℕ) (acts : List Act) (lists : List (List ActKind)) → AllByRecursion (IsActWithin handles) acts → AreListsOf handles acts lists → (bh : ℕ) → acts_at lists bh ≡ acts_of acts bh
lists_agree handles acts lists all are bh =
    elim (bool_cases (ltb bh handles)) [
      | inl below ↦ are.are bh (ltb-true bh handles below)
      | inr above ↦ let past : handles ≤ bh = ltb-false bh handles above in past_end lists bh (omega (arith, are.each)) ∙ sym (none_above handles bh acts past all)
    ]

pub CanRun-of : (handles : ℕ) (acts : List Act) (lists : List (List ActKind)) → AllByRecursion (IsActWithin handles) acts → AreListsOf handles acts lists → CanRun handles lists []
CanRun-of handles acts lists all are = record {
  waits = tt;
  within = λ bh. subst (AreWithin handles) (sym (lists_agree handles acts lists all are bh)) (within_of handles bh acts all);
}

-- One list more.

pub length-more : {V : Type 0} (new old : List V) (v : V) (n : ℕ) → new ≡ old ++ v ∷ [] → length old ≡ n → length new ≡ n + 1
length-more new old v n is count = ap length is ∙ length-append old (v ∷ []) ∙ omega (arith, count)

pub lists-more : {V : Type 0} (f : V → List ActKind) (new old : List V) (v : V) (n : ℕ) (acts : List Act) → new ≡ old ++ v ∷ [] → length old ≡ n → f v ≡ acts_of acts n → ((k : ℕ) → k < n → acts_at (map f old) k ≡ acts_of acts k) → (k : ℕ) → k < n + 1 → acts_at (map f new) k ≡ acts_of acts k
lists-more f new old v n acts is count one before k below =
    let whole : map f new ≡ map f old ++ f v ∷ [] = ap (map f) is ∙ map-append f old (v ∷ []) in
    let count_map : length (map f old) ≡ n = length-map old f ∙ count in
    elim (cases_lt k n) [
      | inl less ↦ ap (λ l. get_or l k []) whole ∙ get_or-append (map f old) (f v ∷ []) [] k (omega (arith, count_map, less)) ∙ before k less
      | inr past ↦
          let here : k ≡ n = omega (arith, past, below) in
          ap (λ l. get_or l k []) whole ∙ ap (λ i. get_or (map f old ++ f v ∷ []) i []) (here ∙ sym count_map) ∙ get_or-append_seam (map f old) (f v) [] [] ∙ one ∙ ap (acts_of acts) (sym here)
    ]
