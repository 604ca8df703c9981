-- The compare of the head keeps the rule, whether it pushes the coroutine, and gives its slot back, or finds another head.
use Rattle.std.proofs.Common.{◌≡◌, ◌≢◌, ℕ, ◌+◌, ◌<◌, Bool, true, false, eqb, MatchBool, Option, Some, None, List, [], ◌∷◌, ◌++◌, length, set, slice_index, reverse, refl, sym, ap, ◌∙◌, subst, arith, append_assoc, ⊎_elim}
use Rattle.std.proofs.lemmas.Bool.{eqb-true, ne_eqb, cases_eq}
use mathlib.Core.Option.{some, none}
use lib.ListN.{get_elem?, length-set}
use prog.Atomic.{either}
use Rattle.atomic_table.specs.Table.{State, Me, Act, keeps, gives, step, Valid, carried_after, stepped, Allows}
use Rattle.atomic_table.proofs.Lists.{set_here, set_else}
use Rattle.aio_chain.specs.Chains.{IsChain}
use Rattle.aio_chain.proofs.Chains.{Each, each-front, each-back, chain_kept, pushed as chain_pushed}
use Rattle.table_seats.specs.Seats.{owns, home}
use Rattle.table_seats.proofs.Seats.{each_set, seats_make, makes_of}
use Rattle.table_seats.proofs.Entries.{owns_first}
use Rattle.aio_model.specs.Coroutines.History.{Push, History, seat_of, CoPlace, Free, Scheduled, Pushed, pushed, co_place_of, IsLegal}
use Rattle.co_schedule.specs.Words.{head_at, mark_at, next_at, mark_of, next_in}
use Rattle.co_schedule.specs.Known.{HeadCompare, AtRest, Marked, Linked, Stage, Known, part_of, numbers_of}
use Rattle.co_schedule.specs.Rule.{IsOwed, Owes, OutIsFirst, WalkStands, Knows, Stands}
use Rattle.co_schedule.specs.Slots.{is_at_hand, Holds, Kept}
use Rattle.co_schedule.specs.Standing.{done, Pushes, Misses}
use Rattle.co_schedule.specs.Plays.{head_compared}
use Rattle.co_schedule.proofs.Histories.{place_here, place_else, scheduled_alone}
use Rattle.co_schedule.proofs.Reading.{read_here, read_else}
use Rattle.co_schedule.proofs.Keeping.{each_all, reverse-step, walks_kept, knows_kept, owed_apart, load_stands, slots_change, slots_kept}
use Rattle.co_schedule.proofs.Aiming.{co_in, given_by, head_in, owed_of, owed_below}

abbrev pub after_push : Known → History → ℕ → ℕ → Known
after_push v h c found =
    let entry = Push c v.first in
    record v { seen = entry ∷ h; mine = entry ∷ v.mine; did = done HeadCompare head_at found ∷ v.did; phase = AtRest }

abbrev pub after_miss : Known → ℕ → Bool → ℕ → Known
after_miss v c given found =
    record v { did = done HeadCompare head_at found ∷ v.did; phase = Marked c given }

-- a push leaves the mark
same_mark : (p : CoPlace) → mark_of (pushed p) ≡ mark_of p
same_mark Free = refl
same_mark (Scheduled s g) = refl
same_mark (Pushed s g) = refl

module _ (n : ℕ) (h : History) (words : List ℕ) (views : List Known) (id : ℕ) (v : Known) (c : ℕ) (given : Bool) (found : ℕ) where
  pub push_stands : Stands n h words views → get_elem? views id ≡ some v → 0 < v.count → IsOwed h v.first c given → next_in words c ≡ slice_index words head_at → Stands n (Push c v.first ∷ h) (set words head_at (c + 1)) (set views id (after_push v h c found))
  push_stands stand at numbered owed linked =
      let w = after_push v h c found in
      let entry = Push c v.first in
      let g = entry ∷ h in
      let words' = set words head_at (c + 1) in
      let long = stand.long in
      let was = stand.knows id v at in
      let same_next : (d : ℕ) → next_in words' d ≡ next_in words d = λ d. read_else words head_at (next_at d) (c + 1) (λ q. omega arith) in
      let top : slice_index words' head_at ≡ c + 1 = read_here words head_at (c + 1) (omega arith) in
      let below_it = chain_kept (next_in words) (next_in words') (slice_index words head_at) stand.stack stand.chain (each_all _ stand.stack same_next) in
      let in_taken = each_all (λ d. next_in words' d ≡ next_in words d) stand.taken same_next in
      record {
        long = length-set words head_at (c + 1) ∙ stand.long;
        legal = ((given, owed), stand.legal);
        seats = seats_make seat_of part_of h views id entry v w stand.seats at (record { numbers_are = refl; told_is = refl }) (owns_first (numbers_of v) numbered) refl refl;
        marks = λ d small. read_else words head_at (mark_at d) (c + 1) (λ q. omega arith) ∙ stand.marks d small ∙ ⊎_elim
            (λ (e : d ≡ c). sym (ap (λ k. mark_of (co_place_of k g)) e ∙ ap mark_of (place_here entry h) ∙ same_mark (co_place_of c h) ∙ ap (λ k. mark_of (co_place_of k h)) (sym e)))
            (λ (ne : d ≢ c). sym (ap mark_of (place_else d entry h ne)))
            (cases_eq d c);
        taken = stand.taken;
        stack = c ∷ stand.stack;
        queue = ap (λ (l : List ℕ). l ++ c ∷ []) stand.queue ∙ append_assoc stand.taken (reverse stand.stack) (c ∷ []) ∙ ap (λ (l : List ℕ). stand.taken ++ l) (sym (reverse-step c stand.stack));
        chain = subst (λ k. IsChain (next_in words') k (c ∷ stand.stack)) (sym top) (chain_pushed (next_in words') (slice_index words head_at) c stand.stack below_it (same_next c ∙ linked));
        knows = each_set (Knows n h words stand.taken) (Knows n g words' stand.taken) views id w stand.knows
            (record { coroutines_are = was.coroutines_are; active = λ q. absurd cc; owes = tt; walks = λ own. walks_kept words words' stand.taken v.stage in_taken (was.walks own) })
            (λ beside u ne atu k. knows_kept n words words' h g stand.taken stand.taken u
            (λ d b busy theirs. (place_else d entry h (λ q. owed_apart n h words views id beside v u c d given b stand at atu ne owed numbered theirs (k.active busy) (sym q)) ∙ theirs, same_next d))
            (λ own. walks_kept words words' stand.taken u.stage in_taken) k);
      }

-- what isn't in the run isn't at hand
pub not_at_hand : (words taken : List ℕ) (stage : Stage) (c : ℕ) → WalkStands words taken stage → Each (λ d. c ≢ d) taken → is_at_hand c stage.hand ≡ false
not_at_hand words taken stage c walks away = by stage.hand walks.held
  where
    in_run : Each (λ d. c ≢ d) stage.run
    in_run = each-back (λ d. c ≢ d) (reverse walks.rest) stage.run (subst (Each (λ d. c ≢ d)) walks.whole away)

    by : (hand : Option ℕ) → OutIsFirst hand stage.run → is_at_hand c hand ≡ false
    by None held = refl
    by (Some d) held = ne_eqb c d (subst (Each (λ d. c ≢ d)) held.1 in_run).0

module _ {S : Type 0} (given_in : S → Bool) (IsOf : ℕ → S → Type 0) where
  has_here : (c : ℕ) (stage : Stage) (given : Bool) (x : S) (at : _) → is_at_hand c stage.hand ≡ false → at ≡ some (some x) → given_in x ≡ given → IsOf c x → Holds given_in IsOf c stage given at
  has_here c stage given x at away place gave of = rw away (x, place, gave, of)

  same_given : (s t : ℕ) (a b : Bool) → Pushed s a ≡ Pushed t b → a ≡ b
  same_given s t a b e = cc

  module _ (n slots id c : ℕ) (given : Bool) (head : ℕ) (x : S) (v : Known) (more : List (ℕ × S)) (room : slots ≡ n) (numbered : 0 < v.count) (phase : v.phase ≡ Linked c given head) (gave : given_in x ≡ given) (of : IsOf c x) (s : State S Known) (kept : Kept given_in IsOf n s) (long : length s.homes ≡ slots) (at : get_elem? s.views id ≡ some v) where
    abbrev found_now : ℕ
    found_now = slice_index s.words head_at

    abbrev me : Me S Known
    me = (v, (c, x) ∷ more)

    abbrev Goal : Bool → Type 0
    Goal b =
        (w : Known) × (a : Act S) × Valid s.homes me.1 a × Kept given_in IsOf n (stepped s head_at (either b (c + 1) found_now) id me.1 w a) × head_compared (step slots head_at head (c + 1) none) me found_now (w, carried_after me.1 a)

    owed_now : Owes s.words kept.0 v.first (Linked c given head)
    owed_now = owed_of s.words kept.0 v.first v.phase (Linked c given head) phase (kept.1.knows id v at).owes

    compared : (b : Bool) → eqb found_now head ≡ b → Goal b
    compared true is =
        let h = kept.0 in
        let stand = kept.1 in
        let entry = Push c v.first in
        let w = after_push v h c found_now in
        let linked : next_in s.words c ≡ found_now = owed_now.1 ∙ sym (eqb-true found_now head is) in
        let now = push_stands n h s.words s.views id v c given found_now stand at numbered owed_now.0 linked in
        let low = owed_below n h s.words s.views v.first c given stand owed_now.0 in
        let away : Each (λ d. c ≢ d) stand.taken = each-front (λ d. c ≢ d) stand.taken (reverse stand.stack) (subst (Each (λ d. c ≢ d)) stand.queue (scheduled_alone n h c v.first given stand.legal owed_now.0)) in
        let placed : get_elem? (set s.homes c (some x)) c ≡ some (some x) = set_here s.homes c (some x) (omega arith) in
        let here : co_place_of c (entry ∷ h) ≡ Pushed v.first given = place_here entry h ∙ ap pushed owed_now.0 in
        let slots_now = slots_change given_in IsOf n h (entry ∷ h) s.homes (set s.homes c (some x)) s.views id v w c kept.2 at refl
        (λ d ne. (place_else d entry h ne, set_else s.homes c d (some x) ne, refl, λ _. refl))
        (λ small free. absurd (let both : Free ≡ Pushed v.first given = sym free ∙ here in cc))
        (each_set (Knows n h s.words stand.taken) (λ u. owns (numbers_of u) home ≡ true → c < n → (t : ℕ) (b : Bool) → co_place_of c (entry ∷ h) ≡ Pushed t b → Holds given_in IsOf c u.stage b (get_elem? (set s.homes c (some x)) c)) s.views id w stand.knows
        (λ own small t b is_pushed. has_here c v.stage b x (get_elem? (set s.homes c (some x)) c) (not_at_hand s.words stand.taken v.stage c ((stand.knows id v at).walks own) away) placed (gave ∙ same_given v.first t given b (sym here ∙ is_pushed)) of)
        (λ far u ne atu k own small t b is_pushed. has_here c u.stage b x (get_elem? (set s.homes c (some x)) c) (not_at_hand s.words stand.taken u.stage c (k.walks own) away) placed (gave ∙ same_given v.first t given b (sym here ∙ is_pushed)) of)) in
        let sized : v.coroutines ≡ n = (stand.knows id v at).coroutines_are numbered in
        let told : Pushes c found_now v w = record { makes = makes_of seat_of (IsLegal v.coroutines) h entry (part_of v) (part_of w) (stand.seats.each id v at) numbered refl refl (subst (λ k. IsLegal k (entry ∷ h)) (sym sized) now.legal); rest = refl } in (
          w,
          gives,
          tt,
          (entry ∷ h, now, slots_now),
          λ d b to eq.
              let index : c ≡ d = ap co_in (sym phase ∙ eq) in
              let loaded : head ≡ to = ap head_in (sym phase ∙ eq) in
              subst (λ k. MatchBool (eqb found_now k) (Pushes d found_now v w × (more ≡ more)) (Misses d b found_now v w × (more ≡ (c, x) ∷ more))) loaded (rw is (subst (λ k. Pushes k found_now v w) index told, refl)),
        )
    compared false is =
        let h = kept.0 in
        let stand = kept.1 in
        let was = stand.knows id v at in
        let w = after_miss v c given found_now in
        let now = load_stands n h s.words s.views id head_at v w stand at (record { numbers_are = refl; told_is = refl }) refl refl (record { coroutines_are = was.coroutines_are; active = λ _. numbered; owes = owed_now.0; walks = was.walks }) in
        let told : Misses c given found_now v w = record { rest = refl } in (
          w,
          keeps,
          tt,
          (h, now, slots_kept given_in IsOf n h s.homes s.views id v w kept.2 at refl refl refl),
          λ d b to eq.
              let index : c ≡ d = ap co_in (sym phase ∙ eq) in
              let gives_it : given ≡ b = ap given_by (sym phase ∙ eq) in
              let loaded : head ≡ to = ap head_in (sym phase ∙ eq) in
              subst (λ k. MatchBool (eqb found_now k) (Pushes d found_now v w × ((c, x) ∷ more ≡ more)) (Misses d b found_now v w × ((c, x) ∷ more ≡ (c, x) ∷ more))) loaded (rw is (subst (λ k. Misses k b found_now v w) index (subst (λ k. Misses c k found_now v w) gives_it told), refl)),
        )

  pub head_compare_allowed : (n slots id c : ℕ) (given : Bool) (head : ℕ) (x : S) (v : Known) (more : List (ℕ × S)) → slots ≡ n → 0 < v.count → v.phase ≡ Linked c given head → given_in x ≡ given → IsOf c x → Allows (Kept given_in IsOf n) slots id (v, (c, x) ∷ more) head_at (λ k. either (eqb k head) (c + 1) k) (head_compared (step slots head_at head (c + 1) none) (v, (c, x) ∷ more))
  head_compare_allowed n slots id c given head x v more room numbered phase gave of s kept long at fits =
      compared n slots id c given head x v more room numbered phase gave of s kept long at (eqb (slice_index s.words head_at) head) refl

  -- the same, for whatever the seat holds
  pub head_compare_of : (n slots id c : ℕ) (given : Bool) (head : ℕ) (x : S) (me : Me S Known) (more : List (ℕ × S)) → me.1 ≡ (c, x) ∷ more → slots ≡ n → 0 < me.0.count → me.0.phase ≡ Linked c given head → given_in x ≡ given → IsOf c x → Allows (Kept given_in IsOf n) slots id me head_at (λ k. either (eqb k head) (c + 1) k) (head_compared (step slots head_at head (c + 1) none) me)
  head_compare_of n slots id c given head x me more held room numbered phase gave of =
      subst (λ l. Allows (Kept given_in IsOf n) slots id (me.0, l) head_at (λ k. either (eqb k head) (c + 1) k) (head_compared (step slots head_at head (c + 1) none) (me.0, l))) (sym held) (head_compare_allowed n slots id c given head x me.0 more room numbered phase gave of)
