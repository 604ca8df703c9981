-- Where event 0 was set, before the run of its loop or in it, home found it set.
use Rattle.std.proofs.Common.{◌≡◌, ◌≢◌, ℕ, ◌<◌, ◌+◌, eqb, cond, Bool, true, false, ◌&&◌, ◌||◌, MatchBool, Option, Some, None, List, [], ◌∷◌, length, slice_index_or, refl, sym, ap, ◌∙◌, subst, arith}
use Rattle.std.proofs.lemmas.Bool.{false≢true, cases_eq, eqb-true, or_parts, or_right}
use mathlib.Core.Logic.{⊎_elim}
use Rattle.aio_model.specs.Loop.History.{Sizes, New, Enqueue, Put, Cancel, Take, Dequeue, Free, SetEvent, ClearEvent, History}
use Rattle.aio_model.specs.Loop.Laws.{some_entry}
use Rattle.aio_model.specs.Loop.Legal.{IsLegal}
use Rattle.aio_model.specs.Loop.Lists.{is_set}
use Rattle.aio_core.specs.Known.{Known}
use Rattle.aio_core.specs.Standing.{SetsNotifier}
use Rattle.aio_notify.specs.Setting.{SetsAndNotifies}
use Rattle.aio_notify.specs.Settling.{least_set}
use Rattle.loop_rows.specs.declared.opening.Homes.{Homes}
use Rattle.loop_rows.specs.declared.rows.Row.{Row}
use Rattle.loop_rows.specs.declared.seats.Seats.{Seats}
use Rattle.loop_rows.specs.declared.shared.LoopShared.{LoopShared}
use Rattle.loop_rows.specs.LoopStates.{LoopState}
use Rattle.loop_rows.specs.Opening.{loop_sizes}
use Rattle.loop_rows.specs.Stepping.{OthersStay, SetsAt}
use Rattle.loop_threads.specs.declared.ending.LoopRun.{LoopRun}
use Rattle.loop_threads.specs.declared.hands.Hand.{Hand}
use Rattle.aio_run.specs.Posting.{HaveSet, HaveSizes}
use Rattle.aio_run.specs.Runs.{AreRun}
use Rattle.aio_run.specs.Setting.{sets, finds_set}
use Rattle.aio_run.proofs.Begun.{at_place}
use Rattle.aio_run.proofs.HomeGrows.{by_more, by_same}

-- the seat that sets an event has seen it set
pub set_seen : (v w : Known) → SetsAndNotifies 0 v w → some_entry (sets 0) w.seen ≡ true
set_seen v w does =
    by_same does.set.seen w.seen (by (eqb does.notifies.armed 0) does.notifies.sets ∙ ap (λ (k : Known). k.seen) does.notifies.loads.rest ∙ ap (λ (k : Known). k.seen) does.notifies.stores.rest) (sets 0)
    (subst (λ (l : History). some_entry (sets 0) l ≡ true) (sym does.sets.makes.seen) refl)
  where
    by : (b : Bool) → MatchBool b (w ≡ does.notifies.loaded) ((was : ℕ) × SetsNotifier was does.notifies.loaded w) → w.seen ≡ does.notifies.loaded.seen
    by true same = ap (λ (k : Known). k.seen) same
    by false sets_it = ap (λ (k : Known). k.seen) sets_it.1.rest

-- one loop more
pub one_more_set : {C O : Type 0} (to : ℕ) (before after : List (Seats C O)) → HaveSet to before → OthersStay to before after → SetsAt to before after → HaveSet (to + 1) after
one_more_set {C} {O} to before after was others sets_it t s low =
    ⊎_elim
    (λ (same : t ≡ to). subst (λ (n : ℕ). some_entry (sets 0) (slice_index_or after n s).bottoms.known.seen ≡ true) (sym same) (set_seen (slice_index_or before to s).bottoms.known (slice_index_or after to s).bottoms.known (sets_it s s)))
    (λ (apart : t ≢ to). subst (λ (x : Seats C O). some_entry (sets 0) x.bottoms.known.seen ≡ true) (sym (others t s apart)) (was t s (grind (arith, low, apart))))
    (cases_eq t to)

-- an event that was set in a legal history, and isn't set at its end, was found set by some clear
found_by_clear : (sizes : Sizes) (e : ℕ) (h : History) → IsLegal sizes h → some_entry (sets e) h ≡ true → is_set e h ≡ false → some_entry (finds_set e) h ≡ true
found_by_clear sizes e [] legal set unset = absurd (false≢true set)
found_by_clear sizes e (New i seat job ∷ older) legal set unset = found_by_clear sizes e older legal.1 set unset
found_by_clear sizes e (Enqueue i asked seat was ∷ older) legal set unset = found_by_clear sizes e older legal.1 set unset
found_by_clear sizes e (Put i seat ∷ older) legal set unset = found_by_clear sizes e older legal.1 set unset
found_by_clear sizes e (Cancel i seat was ∷ older) legal set unset = found_by_clear sizes e older legal.1 set unset
found_by_clear sizes e (Take ∷ older) legal set unset = found_by_clear sizes e older legal.1 set unset
found_by_clear sizes e (Dequeue i ran ∷ older) legal set unset = found_by_clear sizes e older legal.1 set unset
found_by_clear sizes e (Free i ∷ older) legal set unset = found_by_clear sizes e older legal.1 set unset
found_by_clear sizes e (SetEvent f seat ∷ older) legal set unset =
    let parts = or_parts (eqb e f) (is_set e older) unset in
    found_by_clear sizes e older legal.1 (later (eqb e f) parts.0 set) parts.1
  where
    later : (b : Bool) → b ≡ false → (b || some_entry (sets e) older) ≡ true → some_entry (sets e) older ≡ true
    later true is some = absurd (false≢true (sym is))
    later false is some = some
found_by_clear sizes e (ClearEvent f was ∷ older) legal set unset =
    by (eqb e f) (is_set e older) refl refl unset (found_by_clear sizes e older legal.1 set)
  where
    at_this : eqb e f ≡ true → is_set e older ≡ true → was ≡ true
    at_this same is = legal.0 ∙ subst (λ (n : ℕ). is_set n older ≡ true) (eqb-true e f same) is

    by : (b s : Bool) → eqb e f ≡ b → is_set e older ≡ s → cond b false s ≡ false → (s ≡ false → some_entry (finds_set e) older ≡ true) → ((b && was) || some_entry (finds_set e) older) ≡ true
    by true true same is left more = ap (λ (w : Bool). w || some_entry (finds_set e) older) (at_this same is)
    by true false same is left more = or_right was (some_entry (finds_set e) older) (more refl)
    by false true same is left more = absurd (false≢true (sym left))
    by false false same is left more = more refl

unset_at_end : (sizes : Sizes) (h : History) → sizes ≡ loop_sizes → least_set sizes h ≡ None → is_set 0 h ≡ false
unset_at_end sizes h is none = by (is_set 0 h) (sym (ap (λ (z : Sizes). least_set z h) is) ∙ none)
  where
    by : (b : Bool) → cond {A = Option ℕ} b (Some 0) None ≡ None → b ≡ false
    by true same = absurd cc
    by false same = refl

module _ {C W O : Type 0} (can_work : W → List (LoopShared C O) → LoopState C O → Type 0) (does : List (LoopShared C O) → W → LoopState C O → Bool → W → LoopState C O → Type 0) (shared : List (LoopShared C O))
    (homes : List (Homes C O)) (hands : List (Hand W)) (row : Row C O) (ends : List (LoopRun C W O)) (are : AreRun can_work does shared homes hands row ends) (k : ℕ) (r : LoopRun C W O) (low : k < length shared) where
  -- what the row of all numbers had seen before the run
  pub set_before : 0 < length shared → HaveSet (length shared) row.seats.items → some_entry (sets 0) (slice_index_or ends k r).calls.known.seen ≡ true
  set_before some set =
      let t = at_place shared k low in
      let m = at_place are.joined.members.items k (omega (arith, low, are.members)) in
      let s = at_place are.joined.row.seats.items k (omega (arith, low, are.is_row.long)) in
      let over = are.ends k t m s r low in
      let mine = slice_index_or are.carried.mine.seats.items k s in
      let stands = over.keeps mine are.carried.mine.first are.carried.mine.count (are.carried.mine_is.0.each k t s low) are.carried.mine_is.0.below (are.carried.mine_stands some k s s low) in
      let here : some_entry (sets 0) mine.bottoms.known.seen ≡ true = by_same (slice_index_or row.seats.items k s).bottoms.known.seen mine.bottoms.known.seen (are.carried.mine_sees k s s low).same.seen (sets 0) (set k s low) in
      by_more stands.seen.0 mine.bottoms.known.seen (slice_index_or ends k r).calls.known.seen stands.seen.1 (sets 0) here

  pub event_found : HaveSizes shared → some_entry (sets 0) (slice_index_or ends k r).calls.known.seen ≡ true → some_entry (finds_set 0) (slice_index_or ends k r).calls.known.seen ≡ true
  event_found sized set =
      let t = at_place shared k low in
      let m = at_place are.joined.members.items k (omega (arith, low, are.members)) in
      let s = at_place are.joined.row.seats.items k (omega (arith, low, are.is_row.long)) in
      let over = are.ends k t m s r low in
      let known = (slice_index_or ends k r).calls.known in
      let sizes : known.sizes ≡ loop_sizes = ap (λ (v : Known). v.sizes) over.calls.same ∙ ap (λ (v : Known). v.sizes) over.calls.is_whole.loads.rest ∙ (are.is_row.each k t s low).bottoms.of.sizes ∙ sized k t low in
      found_by_clear known.sizes 0 known.seen over.calls.is_end.legal set (unset_at_end known.sizes known.seen sizes over.calls.is_end.none_set)
