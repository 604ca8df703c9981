-- A state that came in is kept as the rest is.
use Rattle.std.proofs.Common.{◌≡◌, ℕ, ◌<◌, Bool, true, false, cond, List, length, length-set, Option, Some, None, is_some, refl, sym, ap, ◌∙◌, subst, eqb, nat_le, ◌||◌, slice_index_or, slice_set, MatchBool, arith}
use Rattle.std.proofs.lemmas.Bool.{cases_Bool, or_parts}
use mathlib.Core.Logic.{⊎_elim}
use Rattle.std.specs.FinMap as map
use Rattle.co_schedule.specs.Calls.{are_within}
use Rattle.co_state.specs.Coroutines.{Coroutines}
use Rattle.co_state.proofs.Held.{get_inserted}
use Rattle.loop_rows.specs.declared.shared.LoopShared.{LoopShared}
use Rattle.co_loop.specs.declared.leaving.Leaving.{Leaving}
use Rattle.co_loop.specs.declared.crew.Crew.{Crew}
use Rattle.co_loop.specs.Rows.{AreSeatsOfLoops}
use Rattle.co_loop.specs.Crews.{Far, far, LeavingAreSound, IsCrew, SameCrew}
use Rattle.co_loop.specs.Begins.{is_refused, Admits}
use Rattle.co_loop.proofs.Rowed.{at_set}

put_apart : {C : Type 0} → (b : Bool) (x y : Option C) → b ≡ false → y ≡ None → cond b x y ≡ None
put_apart true x y e h = absurd (cc)
put_apart false x y e h = h

-- one that wasn't refused isn't kept
not_kept : {C : Type 0} → (co : ℕ) (leaving : List (Option (Leaving C))) (k : ℕ) (left : Leaving C) → is_some (slice_index_or leaving co None) ≡ false → slice_index_or leaving k None ≡ Some left → eqb k co ≡ false
not_kept co leaving k left none is =
    ⊎_elim (λ (e : eqb k co ≡ true). absurd (let same : k ≡ co = grind (arith, e) in let some : is_some (slice_index_or leaving co None) ≡ true = ap is_some (subst (λ j. slice_index_or leaving j None ≡ Some left) same is) in cc)) (λ e. e) (cases_Bool (eqb k co))

module _ {C O : Type 0} where
  -- what is the same, and what isn't, of a crew that stays one
  crew_from : (is_of : ℕ → C → O → Type 0) (shared : List (LoopShared C O)) (before after : Crew C O) → SameCrew before after → after.woken ≡ before.woken → after.seats ≡ before.seats → after.naps ≡ before.naps → after.leaving ≡ before.leaving → after.store.origin ≡ before.store.origin
      → LeavingAreSound is_of (length shared) after.store before.leaving.items → length after.ended.items ≡ before.coroutines → ((k : ℕ) (co : C) → slice_index_or after.ended.items k None ≡ Some co → is_of k co before.store.origin) → IsCrew is_of shared before → IsCrew is_of shared after
  crew_from is_of shared before after same woken seats naps leaving origin kept ended ended_of was =
      let back = sym same.coroutines in
      record {
        own = subst (λ k. k < length shared) (sym same.own) was.own;
        row = subst (λ k. AreSeatsOfLoops k shared after.seats.items) back (subst (λ (v : _). AreSeatsOfLoops before.coroutines shared v.items) (sym seats) was.row);
        of = λ k t h. was.of k t h ∙ sym origin;
        room = ap (λ (w : _). w.room) woken ∙ was.room ∙ back;
        within = subst (λ k. are_within k after.woken.items ≡ true) back (ap (λ (w : _). are_within before.coroutines w.items) woken ∙ was.within);
        naps = ap (λ (v : _). length v.items) naps ∙ was.naps ∙ back;
        leaving = ap (λ (v : _). length v.items) leaving ∙ was.leaving ∙ back;
        ended = ended ∙ back;
        kept = subst (λ (v : _). LeavingAreSound is_of (length shared) after.store v.items) (sym leaving) kept;
        ended_of = λ k co is. subst (is_of k co) (sym origin) (ended_of k co is);
      }

  ended_set : (is_of : ℕ → C → O → Type 0) (o : O) (ended : List (Option C)) (co : ℕ) (state : C) → co < length ended → is_of co state o → ((k : ℕ) (c : C) → slice_index_or ended k None ≡ Some c → is_of k c o) → (k : ℕ) (c : C) → slice_index_or (slice_set ended co (Some state)) k None ≡ Some c → is_of k c o
  ended_set is_of o ended co state lt of was k =
      at_set (λ (j : ℕ) (x : Option C). (c : C) → x ≡ Some c → is_of j c o) ended co (Some state) lt (λ c h. let same : state ≡ c = cc in subst (λ (x : C). is_of co x o) same of) k None (λ _. was k)

  pub crew_admitted : (is_of : ℕ → C → O → Type 0) (shared : List (LoopShared C O)) (before after : Crew C O) (co : ℕ) (state : C) → co < before.coroutines → is_of co state before.store.origin → SameCrew before after → Admits co state (far before) (far after)
      → after.woken ≡ before.woken → after.seats ≡ before.seats → after.naps ≡ before.naps → after.leaving ≡ before.leaving → IsCrew is_of shared before → IsCrew is_of shared after × (after.store.origin ≡ before.store.origin)
  crew_admitted is_of shared before after co state below of same admits woken seats naps leaving was = by (is_refused co (far before)) refl admits
    where
      by : (b : Bool) → is_refused co (far before) ≡ b → MatchBool b (far after ≡ record (far before) { ended = slice_set before.ended.items co (Some state) }) (far after ≡ record (far before) { store = record before.store { held = map.insert before.store.held co state } }) → IsCrew is_of shared after × (after.store.origin ≡ before.store.origin)
      by true is did =
          let store_is : after.store ≡ before.store = ap (λ (f : Far C O). f.store) did in
          let ended_is : after.ended.items ≡ slice_set before.ended.items co (Some state) = ap (λ (f : Far C O). f.ended) did in
          let origin = ap (λ (s : Coroutines C O). s.origin) store_is in (
            crew_from is_of shared before after same woken seats naps leaving origin
                (subst (λ s. LeavingAreSound is_of (length shared) s before.leaving.items) (sym store_is) was.kept)
                (ap length ended_is ∙ length-set before.ended.items co (Some state) ∙ was.ended)
                (subst (λ (l : List (Option C)). (k : ℕ) (c : C) → slice_index_or l k None ≡ Some c → is_of k c before.store.origin) (sym ended_is) (ended_set is_of before.store.origin before.ended.items co state (subst (λ n. co < n) (sym was.ended) below) of was.ended_of))
                was,
            origin,
          )
      by false is did =
          let store_is : after.store ≡ record before.store { held = map.insert before.store.held co state } = ap (λ (f : Far C O). f.store) did in
          let ended_is : after.ended.items ≡ before.ended.items = ap (λ (f : Far C O). f.ended) did in
          let origin = ap (λ (s : Coroutines C O). s.origin) store_is in
          let kept = is_some (slice_index_or before.leaving.items co None) in
          let there = map.contains_key before.store.held co in
          let full = nat_le before.store.room (map.len before.store.held) in
          let none = (or_parts kept there (or_parts (kept || there) full is).0).0 in (
            crew_from is_of shared before after same woken seats naps leaving origin
                (subst (λ s. LeavingAreSound is_of (length shared) s before.leaving.items) (sym store_is) (record {
                  of = was.kept.of;
                  to = was.kept.to;
                  apart = λ k left h. get_inserted before.store.held co state k ∙ put_apart (eqb k co) (Some state) (map.get before.store.held k) (not_kept co before.leaving.items k left none h) (was.kept.apart k left h);
                }))
                (ap length ended_is ∙ was.ended)
                (subst (λ (l : List (Option C)). (k : ℕ) (c : C) → slice_index_or l k None ≡ Some c → is_of k c before.store.origin) (sym ended_is) was.ended_of)
                was,
            origin,
          )
