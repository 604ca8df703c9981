-- The load of a mark by which home takes the slot of its first coroutine, and the store that clears the mark, keep the rule.
use Rattle.std.proofs.Common.{◌≡◌, ◌≢◌, ℕ, ◌<◌, Bool, true, false, eqb, Some, None, List, [], ◌∷◌, ◌++◌, drop, set, slice_index, reverse, refl, sym, ap, ◌∙◌, subst, arith, ⊎_elim}
use Rattle.std.proofs.lemmas.Bool.{eq-eqb, ne_eqb, cases_eq}
use mathlib.Core.Option.{some, none}
use lib.ListN.{get_elem?, length-set}
use Rattle.atomic_table.specs.Table.{Me, takes, gives, step, Allows}
use Rattle.atomic_table.proofs.Lists.{set_here, set_else}
use Rattle.aio_model.specs.Loop.Lists.{head_of}
use Rattle.aio_chain.specs.Chains.{IsChain}
use Rattle.aio_chain.proofs.Chains.{chain_kept}
use Rattle.table_seats.specs.Seats.{owns, home}
use Rattle.table_seats.proofs.Seats.{each_set, seats_make, makes_of}
use Rattle.aio_model.specs.Coroutines.History.{Entry, Enter, History, seat_of, Free, Scheduled, Pushed, co_place_of, queue_of, IsLegal}
use Rattle.co_schedule.specs.Words.{head_at, mark_at, next_at, mark_of, next_in}
use Rattle.co_schedule.specs.Known.{MarkLoad, MarkClear, is_at_rest, Stage, Known, part_of, numbers_of}
use Rattle.co_schedule.specs.Rule.{IsOwed, WalkStands, Knows, Stands}
use Rattle.co_schedule.specs.Slots.{is_at_hand, HasState, Holds, Kept}
use Rattle.co_schedule.specs.Standing.{done, Opens, IsFirstEntered}
use Rattle.co_schedule.specs.Plays.{opened, entered}
use Rattle.aio_model.proofs.CoroutineHistories.{is_free}
use Rattle.co_schedule.proofs.Histories.{place_here, place_else, place_below, first_is_pushed}
use Rattle.co_schedule.proofs.Reading.{read_here, read_else}
use Rattle.co_schedule.proofs.Keeping.{each_all, owes_kept, knows_kept, no_other_home, load_stands, slots_change}
use Rattle.co_schedule.proofs.Taking.{walked_all}

-- the first of the run is the first of the queue
pub first_of_run : (n : ℕ) (h : History) (words : List ℕ) (views : List Known) (id : ℕ) (v : Known) (c : ℕ) (more : List ℕ) (stand : Stands n h words views) → get_elem? views id ≡ some v → owns (numbers_of v) home ≡ true → v.stage.word ≡ 0 → v.stage.run ≡ c ∷ more → (stand.taken ≡ c ∷ more) × (queue_of h ≡ c ∷ (more ++ reverse stand.stack))
first_of_run n h words views id v c more stand at is_home over run =
    let all = walked_all words stand.taken v.stage ((stand.knows id v at).walks is_home) over ∙ run in
    (all, stand.queue ∙ ap (λ (l : List ℕ). l ++ reverse stand.stack) all)

abbrev pub after_open : Known → ℕ → ℕ → Bool → Known
after_open v c found given =
    record v { did = done MarkLoad (mark_at c) found ∷ v.did; stage = record v.stage { hand = Some c; given = given } }

abbrev pub after_enter : Known → History → ℕ → List ℕ → Known
after_enter v h c more =
    record v { seen = Enter c ∷ h; mine = Enter c ∷ v.mine; did = done MarkClear (mark_at c) 0 ∷ v.did; stage = record v.stage { taken = more; run = more; hand = None } }

same_first : (c d : ℕ) (xs ys : List ℕ) → c ∷ xs ≡ d ∷ ys → c ≡ d
same_first c d xs ys e = cc

same_older : (e : Entry) (h g : History) → e ∷ h ≡ e ∷ g → h ≡ g
same_older e h g is = cc

same_rest : (c d : ℕ) (xs ys : List ℕ) → c ∷ xs ≡ d ∷ ys → xs ≡ ys
same_rest c d xs ys e = cc

module _ (n : ℕ) (h : History) (words : List ℕ) (views : List Known) (id : ℕ) (v : Known) (c : ℕ) (more : List ℕ) where
  pub enter_stands : Stands n h words views → get_elem? views id ≡ some v → 0 < v.count → owns (numbers_of v) home ≡ true → v.stage.word ≡ 0 → v.stage.run ≡ c ∷ more → Stands n (Enter c ∷ h) (set words (mark_at c) 0) (set views id (after_enter v h c more))
  enter_stands stand at numbered is_home over run =
      let entry = Enter c in
      let g = entry ∷ h in
      let w = after_enter v h c more in
      let words' = set words (mark_at c) 0 in
      let long = stand.long in
      let was = stand.knows id v at in
      let first = first_of_run n h words views id v c more stand at is_home over run in
      let head : head_of (queue_of h) ≡ Some c = ap head_of first.1 in
      let place = first_is_pushed n h c stand.legal head in
      let low : c < n = place_below n h c stand.legal (subst (λ p. is_free p ≡ false) (sym place.2) refl) in
      let here : co_place_of c g ≡ Free = place_here entry h in
      let same_next : (d : ℕ) → next_in words' d ≡ next_in words d = λ d. read_else words (mark_at c) (next_at d) 0 (λ q. omega arith) in
      let top : slice_index words' head_at ≡ slice_index words head_at = read_else words (mark_at c) head_at 0 (λ q. omega arith) in
      record {
        long = length-set words (mark_at c) 0 ∙ stand.long;
        legal = (head, stand.legal);
        seats = seats_make seat_of part_of h views id entry v w stand.seats at (record { numbers_are = refl; told_is = refl }) is_home refl refl;
        marks = λ d small. ⊎_elim
            (λ (e : d ≡ c). subst (λ k. slice_index words' (mark_at k) ≡ mark_of (co_place_of k g)) (sym e) (read_here words (mark_at c) 0 (omega arith) ∙ sym (ap mark_of here)))
            (λ (ne : d ≢ c). read_else words (mark_at c) (mark_at d) 0 (λ q. ne (omega arith)) ∙ stand.marks d small ∙ sym (ap mark_of (place_else d entry h ne)))
            (cases_eq d c);
        taken = more;
        stack = stand.stack;
        queue = ap (λ (l : List ℕ). drop 1 l) first.1;
        chain = subst (λ k. IsChain (next_in words') k stand.stack) (sym top) (chain_kept (next_in words) (next_in words') (slice_index words head_at) stand.stack stand.chain (each_all _ stand.stack same_next));
        knows = each_set (Knows n h words stand.taken) (Knows n g words' more) views id w stand.knows
            (record {
              coroutines_are = was.coroutines_are;
              active = was.active;
              owes = owes_kept words words' h g v.first v.phase (owed_still v) was.owes;
              walks = λ own. record { is = refl; rest = []; chain = over; whole = refl; held = tt };
            })
            (λ beside u ne atu. knows_kept n words words' h g stand.taken more u (owed_still u)
            (λ own old. no_other_home n h words views id beside v u (WalkStands words' more u.stage) stand at atu ne is_home own));
      }
    where
      owed_still : (u : Known) (d : ℕ) (given : Bool) → is_at_rest u.phase ≡ false → IsOwed h u.first d given → IsOwed (Enter c ∷ h) u.first d given × (next_in (set words (mark_at c) 0) d ≡ next_in words d)
      owed_still u d given busy owed =
          let first = first_of_run n h words views id v c more stand at is_home over run in
          let place = first_is_pushed n h c stand.legal (ap head_of first.1) in
          (place_else d (Enter c) h (λ (q : d ≡ c). let both : Pushed place.0 place.1 ≡ Scheduled u.first given = sym place.2 ∙ ap (λ k. co_place_of k h) (sym q) ∙ owed in cc) ∙ owed, read_else words (mark_at c) (next_at d) 0 (λ q. omega arith))

module _ {S : Type 0} (given_in : S → Bool) (IsOf : ℕ → S → Type 0) where
  at_hand_here : (c : ℕ) (stage : Stage) (given : Bool) (at : _) → stage.hand ≡ Some c → stage.given ≡ given → Holds given_in IsOf c stage given at
  at_hand_here c stage given at hand is =
      let same : eqb c c ≡ true = eq-eqb c c refl in
      let here : is_at_hand c stage.hand ≡ true = ap (is_at_hand c) hand ∙ same in
      rw here is

  given_at_hand : (c : ℕ) (stage : Stage) (given : Bool) (at : _) → stage.hand ≡ Some c → Holds given_in IsOf c stage given at → stage.given ≡ given
  given_at_hand c stage given at hand holds =
      let same : eqb c c ≡ true = eq-eqb c c refl in
      let here : is_at_hand c stage.hand ≡ true = ap (is_at_hand c) hand ∙ same in
      rw here at holds

  state_at_home : (c : ℕ) (stage : Stage) (given : Bool) (at : _) → stage.hand ≡ None → Holds given_in IsOf c stage given at → HasState given_in IsOf c given at
  state_at_home c stage given at hand holds = rw hand at holds

  same_given : (s t : ℕ) (a b : Bool) → Pushed s a ≡ Pushed t b → a ≡ b
  same_given s t a b e = cc

  -- the slot of the first of the run comes out with home
  pub open_allowed : (n slots id c : ℕ) (more : List ℕ) (me : Me S Known) → 0 < me.0.count → owns (numbers_of me.0) home ≡ true → me.0.stage.word ≡ 0 → me.0.stage.run ≡ c ∷ more → me.0.stage.hand ≡ None → Allows (Kept given_in IsOf n) slots id me (mark_at c) (λ k. k) (opened given_in IsOf (step slots (mark_at c) 0 0 none) me)
  open_allowed n slots id c more me numbered is_home over run hand s kept long at fits =
      let h = kept.0 in
      let stand = kept.1 in
      let v = me.0 in
      let was = stand.knows id v at in
      let found = slice_index s.words (mark_at c) in
      let first = first_of_run n h s.words s.views id v c more stand at is_home over run in
      let place = first_is_pushed n h c stand.legal (ap head_of first.1) in
      let low : c < n = place_below n h c stand.legal (subst (λ p. is_free p ≡ false) (sym place.2) refl) in
      let state = state_at_home c v.stage place.1 (get_elem? s.homes c) hand (kept.2.full id v at is_home c low place.0 place.1 place.2) in
      let x = state.0 in
      let w = after_open v c found (given_in x) in
      let walks = was.walks is_home in
      let now = load_stands n h s.words s.views id (mark_at c) v w stand at (record { numbers_are = refl; told_is = refl }) refl refl (record {
        coroutines_are = was.coroutines_are;
        active = was.active;
        owes = was.owes;
        walks = λ own. record { is = walks.is; rest = walks.rest; chain = walks.chain; whole = walks.whole; held = (more, run) };
      }) in
      let slots_now = slots_change given_in IsOf n h h s.homes (set s.homes c none) s.views id v w c kept.2 at refl
      (λ d ne. (refl, set_else s.homes c d none ne, (let other : eqb d c ≡ false = ne_eqb d c ne in other ∙ sym (ap (is_at_hand d) hand)), λ e. absurd (let no : false ≡ true = sym (ap (is_at_hand d) hand) ∙ e in cc)))
      (λ small free. absurd (let both : Free ≡ Pushed place.0 place.1 = sym free ∙ place.2 in cc))
      (each_set (λ u. Unit {0}) (λ u. owns (numbers_of u) home ≡ true → c < n → (t : ℕ) (b : Bool) → co_place_of c h ≡ Pushed t b → Holds given_in IsOf c u.stage b (get_elem? (set s.homes c none) c)) s.views id w (λ far u atu. tt)
      (λ own small t b is. at_hand_here c w.stage b (get_elem? (set s.homes c none) c) refl (state.2 ∙ same_given place.0 t place.1 b (sym place.2 ∙ is)))
      (λ far u ne atu old own small t b is. no_other_home n h s.words s.views id far v u (Holds given_in IsOf c u.stage b (get_elem? (set s.homes c none) c)) stand at atu ne is_home own)) in
      let told : Opens c found (given_in x) v w = record { rest = refl } in (
        w,
        takes c x,
        state.1,
        (h, now, slots_now),
        λ d others eq.
            let index : c ≡ d = same_first c d more others (sym run ∙ eq) in
            (x, subst (λ k. IsOf k x) index state.3, ap (λ k. (k, x) ∷ me.1) index, subst (λ k. Opens k found (given_in x) v w) index told),
      )

  -- the first of the run is entered, and its slot comes back with no state
  pub enter_allowed : (n slots id c : ℕ) (more : List ℕ) (x : S) (v : Known) (held : List (ℕ × S)) → slots ≡ n → 0 < v.count → owns (numbers_of v) home ≡ true → v.stage.word ≡ 0 → v.stage.run ≡ c ∷ more → v.stage.hand ≡ Some c → given_in x ≡ false → Allows (Kept given_in IsOf n) slots id (v, (c, x) ∷ held) (mark_at c) (λ _. 0) (λ _. entered (step slots (mark_at c) 0 0 none) (v, (c, x) ∷ held) 0)
  enter_allowed n slots id c more x v held room numbered is_home over run hand gave s kept long at fits =
      let h = kept.0 in
      let stand = kept.1 in
      let was = stand.knows id v at in
      let entry = Enter c in
      let first = first_of_run n h s.words s.views id v c more stand at is_home over run in
      let place = first_is_pushed n h c stand.legal (ap head_of first.1) in
      let low : c < n = place_below n h c stand.legal (subst (λ p. is_free p ≡ false) (sym place.2) refl) in
      let w = after_enter v h c more in
      let now = enter_stands n h s.words s.views id v c more stand at numbered is_home over run in
      let here : co_place_of c (entry ∷ h) ≡ Free = place_here entry h in
      let placed : get_elem? (set s.homes c (some x)) c ≡ some (some x) = set_here s.homes c (some x) (omega arith) in
      let slots_now = slots_change given_in IsOf n h (entry ∷ h) s.homes (set s.homes c (some x)) s.views id v w c kept.2 at refl
      (λ d ne. (place_else d entry h ne, set_else s.homes c d (some x) ne, (let other : eqb d c ≡ false = ne_eqb d c ne in sym (ap (is_at_hand d) hand ∙ other)), λ _. refl))
      (λ small free. (x, placed, gave))
      (λ far u atu own small t b is. absurd (let both : Free ≡ Pushed t b = sym here ∙ is in cc)) in
      let is = stand.seats.each id v at in
      let sized : v.coroutines ≡ n = was.coroutines_are numbered in
      let gave_then = given_at_hand c v.stage place.1 (get_elem? s.homes c) hand (kept.2.full id v at is_home c low place.0 place.1 place.2) in
      let makes = makes_of seat_of (IsLegal v.coroutines) h entry (part_of v) (part_of w) is numbered refl refl (subst (λ k. IsLegal k (entry ∷ h)) (sym sized) now.legal) in
      let told : IsFirstEntered c more v w = record {
        makes = makes;
        scheduler = place.0;
        was = ap (co_place_of c) (sym (same_older entry h (makes.others ++ v.seen) makes.seen)) ∙ place.2 ∙ ap (λ b. Pushed place.0 b) (sym gave_then);
        rest = refl;
      } in (
        w,
        gives,
        tt,
        (entry ∷ h, now, slots_now),
        (
          refl,
          λ d others in_hand eq.
              let index : c ≡ d = same_first c d more others (sym run ∙ eq) in
              let rests : more ≡ others = same_rest c d more others (sym run ∙ eq) in
              subst (λ k. IsFirstEntered k others v w) index (subst (λ l. IsFirstEntered c l v w) rests told),
        ),
      )

  pub enter_of : (n slots id c : ℕ) (more : List ℕ) (x : S) (me : Me S Known) (held : List (ℕ × S)) → me.1 ≡ (c, x) ∷ held → slots ≡ n → 0 < me.0.count → owns (numbers_of me.0) home ≡ true → me.0.stage.word ≡ 0 → me.0.stage.run ≡ c ∷ more → me.0.stage.hand ≡ Some c → given_in x ≡ false → Allows (Kept given_in IsOf n) slots id me (mark_at c) (λ _. 0) (λ _. entered (step slots (mark_at c) 0 0 none) me 0)
  enter_of n slots id c more x me held is room numbered is_home over run hand gave =
      subst (λ l. Allows (Kept given_in IsOf n) slots id (me.0, l) (mark_at c) (λ _. 0) (λ _. entered (step slots (mark_at c) 0 0 none) (me.0, l) 0)) (sym is) (enter_allowed n slots id c more x me.0 held room numbered is_home over run hand gave)
