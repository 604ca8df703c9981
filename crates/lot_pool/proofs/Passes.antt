-- What a pass knows after a step.
use Rattle.std.proofs.Common.{◌≡◌, ℕ, Bool, Option, Some, None, MatchOption, MatchBool, not, set, ◌-◌, ◌++◌, ◌≤◌, ◌≢◌, List, sym, refl, ap, ◌∙◌, zero, suc, [], ◌∷◌, true, false, get_or, set, cond, ◌+◌, subst, arith}
use Rattle.std.proofs.lemmas.List.Sums.{sum_by-cons}
use Rattle.std.proofs.lemmas.List.{get_or-set_other}
use Rattle.atomic_table.specs.Seated.{TableId}
use Rattle.lot_pool.specs.declared.view.PoolView.{PoolView}
use Rattle.lot_pool.specs.declared.view.PoolStep.TheVariants.{Pushed}
use Rattle.lot_pool.specs.PoolRule.{stepped}
use Rattle.lot_pool.specs.Pools.{PoolState, PassState, knows, kept_count, kept_among, kept_lots, room_of, FindsFull, GivesAll, GivesBack}

pub matched : {A : Type 0} {P P' : Type 0} {Q Q' : A → Type 0} (o : Option A) → (P → P') → ((x : A) → Q x → Q' x) → MatchOption o P Q → MatchOption o P' Q'
matched None f g h = f h
matched (Some x) f g h = g x h

pub now_knows : (before : PassState) (table table' : TableId) (first count : ℕ) (view view' known : PoolView) (keeps : List Bool) → before ≡ record { queue = table; first = first; count = count; known = view; keeps = keeps } → table' ≡ table → known ≡ view'
    → record { queue = table'; first = first; count = count; known = known; keeps = keeps } ≡ knows view' before
now_knows before table table' first count view view' known keeps is same_table now =
    let S : TableId → PoolView → PassState = λ t k. record { queue = t; first = first; count = count; known = k; keeps = keeps } in
    let a : S table' known ≡ S table view' = λ i. S (same_table i) (now i) in a ∙ ap (knows view') (sym is)

-- where no lot is kept, no mark is set
pub none_kept : (marks : List Bool) (i : ℕ) → kept_count marks ≡ 0 → get_or marks i false ≡ false
none_kept [] i none_at = refl
none_kept (true ∷ marks) i none_at =
    let one : Bool → ℕ = λ b. cond b 1 0 in let e = sum_by-cons one true marks in absurd (omega (e, none_at, arith))
none_kept (false ∷ marks) zero none_at = refl
none_kept (false ∷ marks) (suc i) none_at =
    let one : Bool → ℕ = λ b. cond b 1 0 in let e = sum_by-cons one false marks in none_kept marks i (omega (e, none_at, arith))

pub none_among : (handles count : ℕ) (marks : List Bool) → kept_count marks ≡ 0 → kept_among handles count marks ≡ []
none_among handles zero marks none_at = refl
none_among handles (suc count) marks none_at =
    subst (λ b. cond b ((handles + count) ∷ kept_among handles count marks) (kept_among handles count marks) ≡ []) (sym (none_kept marks count none_at)) (none_among handles count marks none_at)

-- where no lot is kept, none is given back
pub gives_none : (pool : PoolState) (pass : PassState) → kept_count pass.keeps ≡ 0 → GivesAll pool (kept_lots pool pass) pass pass
gives_none pool pass none_at =
    subst (λ lots. GivesAll pool lots pass pass) (sym (none_among pool.handles pool.lots pass.keeps none_at)) refl

gives_by : (kept : Bool) (pool : PoolState) (lot : ℕ) (lots : List ℕ) (start before after : PassState) → GivesAll pool lots start before → MatchBool kept (GivesBack pool lot before after) (after ≡ before) → GivesAll pool (cond kept (lot ∷ lots) lots) start after
gives_by true pool lot lots start before after given gives = (before, given, gives)
gives_by false pool lot lots start before after given same =
    subst (GivesAll pool lots start) (sym same) given

-- one more of the kept lots is given back
pub gives_next : (pool : PoolState) (count next : ℕ) → suc count ≡ next → (marks : List Bool) (start before after : PassState) → GivesAll pool (kept_among pool.handles count marks) start before → MatchBool (get_or marks count false) (GivesBack pool (pool.handles + count) before after) (after ≡ before) → GivesAll pool (kept_among pool.handles next marks) start after
gives_next pool count next is marks start before after given gives =
    subst (λ n. GivesAll pool (kept_among pool.handles n marks) start after) is
    (gives_by (get_or marks count false) pool (pool.handles + count) (kept_among pool.handles count marks) start before after given gives)

tried_keeps : (pushed : Bool) (room lot : ℕ) (before tried : PassState) → MatchBool pushed (tried ≡ knows (stepped (Pushed lot) before.known) before) (FindsFull room before tried) → tried.keeps ≡ before.keeps
tried_keeps true room lot before tried is = ap (λ (p : PassState). p.keeps) is
tried_keeps false room lot before tried full = ap (λ (p : PassState). p.keeps) full.noted

given_keeps : (pool : PoolState) (lot : ℕ) (before after : PassState) (back : GivesBack pool lot before after) → after.keeps ≡ set before.keeps (lot - pool.handles) (not back.pushed)
given_keeps pool lot before after back =
    ap (λ (p : PassState). p.keeps) back.kept ∙ ap (λ k. set k (lot - pool.handles) (not back.pushed)) (tried_keeps back.pushed (room_of pool.lots) lot before back.tried back.push)

stays_by : (kept : Bool) (pool : PoolState) (count index : ℕ) (before after : PassState) → suc count ≤ index → MatchBool kept (GivesBack pool (pool.handles + count) before after) (after ≡ before) → get_or after.keeps index false ≡ get_or before.keeps index false
stays_by true pool count index before after above back =
    let at : pool.handles + count - pool.handles ≡ count = omega arith in
    let other : index ≢ count = λ e. omega (e, above, arith) in
    ap (λ k. get_or k index false) (given_keeps pool (pool.handles + count) before after back ∙ ap (λ i. set before.keeps i (not back.pushed)) at) ∙ get_or-set_other before.keeps count index (not back.pushed) false other
stays_by false pool count index before after above same = ap (λ (p : PassState). get_or p.keeps index false) same

-- the later marks stay
pub others_stay : (pool : PoolState) (marks : List Bool) (count index : ℕ) (before after : PassState) → suc count ≤ index → MatchBool (get_or marks count false) (GivesBack pool (pool.handles + count) before after) (after ≡ before) → get_or after.keeps index false ≡ get_or before.keeps index false
others_stay pool marks count index before after above gives =
    stays_by (get_or marks count false) pool count index before after above gives

-- some lots were given back, and then some more
pub gives_then : (pool : PoolState) (lots more : List ℕ) (a b c : PassState) → GivesAll pool lots a b → GivesAll pool more b c → GivesAll pool (more ++ lots) a c
gives_then pool lots [] a b c first then = subst (GivesAll pool lots a) (sym then) first
gives_then pool lots (lot ∷ more) a b c first then =
    (then.0, gives_then pool lots more a b then.0 first then.1, then.2)
