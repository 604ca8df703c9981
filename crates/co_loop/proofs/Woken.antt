-- Each that is queued is a coroutine of the table, also after wakes.
use Rattle.std.proofs.Common.{◌≡◌, ℕ, Bool, true, false, nat_lt, ◌==◌, List, [], ◌∷◌, ◌++◌, refl, subst, sym, MatchBool, if◌then◌else◌}
use Rattle.std.proofs.lemmas.Bool.{and_parts}
use Rattle.aio_chain.specs.LinkList.{contains}
use Rattle.co_state.specs.declared.cx.CoId.{CoId}
use Rattle.co_schedule.specs.Calls.{are_within}
use Rattle.co_loop.specs.Rows.{ChangesOne}
use Rattle.co_loop.specs.Posts.{WakesAt}
use Rattle.co_loop.specs.Wakes.{queued, is_somebody, Reach, WakesOne, WakesEach}

one_more_within : (n c : ℕ) (cos : List ℕ) → nat_lt c n ≡ true → are_within n cos ≡ true → are_within n (cos ++ c ∷ []) ≡ true
one_more_within n c [] below all = rw below refl
one_more_within n c (d ∷ cos) below all =
    let parts = and_parts (nat_lt d n) (are_within n cos) all in
    let later = one_more_within n c cos below parts.1 in
    rw parts.0 later

queued_within : (n c : ℕ) (cos : List ℕ) → nat_lt c n ≡ true → are_within n cos ≡ true → are_within n (queued c cos) ≡ true
queued_within n c cos below all = by (contains c cos)
  where
    by : (b : Bool) → are_within n (if b then cos else cos ++ c ∷ []) ≡ true
    by true = all
    by false = one_more_within n c cos below all

module _ {C O : Type 0} where
  one_within : (own n loops : ℕ) (id : CoId) (before after : Reach C O) → WakesOne own n loops id before after → are_within n before.woken ≡ true → are_within n after.woken ≡ true
  one_within own n loops id before after wakes all = by (is_somebody n loops id) refl wakes
    where
      here : (b : Bool) → nat_lt id.co n ≡ true → MatchBool b ((after.woken ≡ queued id.co before.woken) × (after.seats ≡ before.seats)) ((after.woken ≡ before.woken) × ChangesOne id.home (WakesAt id.co) before.seats after.seats) → are_within n after.woken ≡ true
      here true below did = subst (λ l. are_within n l ≡ true) (sym did.0) (queued_within n id.co before.woken below all)
      here false below did = subst (λ l. are_within n l ≡ true) (sym did.0) all

      by : (b : Bool) → is_somebody n loops id ≡ b → MatchBool b (MatchBool (id.home == own) ((after.woken ≡ queued id.co before.woken) × (after.seats ≡ before.seats)) ((after.woken ≡ before.woken) × ChangesOne id.home (WakesAt id.co) before.seats after.seats)) (after ≡ before) → are_within n after.woken ≡ true
      by true is did = here (id.home == own) (and_parts (nat_lt id.co n) (nat_lt id.home loops) is).0 did
      by false is did = subst (λ (r : Reach C O). are_within n r.woken ≡ true) (sym did) all

  pub each_within : (own n loops : ℕ) (ids : List CoId) (before after : Reach C O) → WakesEach own n loops ids before after → are_within n before.woken ≡ true → are_within n after.woken ≡ true
  each_within own n loops [] before after same all =
      subst (λ (r : Reach C O). are_within n r.woken ≡ true) (sym same) all
  each_within own n loops (id ∷ ids) before after wakes all =
      each_within own n loops ids wakes.0 after wakes.2 (one_within own n loops id before wakes.0 wakes.1 all)
