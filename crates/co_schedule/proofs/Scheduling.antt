-- The compare of a mark keeps the rule, whether it schedules the coroutine or finds it scheduled.
use Rattle.std.proofs.Common.{◌≡◌, ◌≢◌, ℕ, ◌+◌, ◌<◌, Bool, true, false, eqb, List, ◌∷◌, ◌++◌, set, slice_index, refl, sym, ap, ◌∙◌, subst, arith, ⊎_elim}
use Rattle.std.proofs.lemmas.Bool.{eqb-true, cases_eq}
use mathlib.Core.Option.{some, none}
use lib.ListN.{get_elem?, length-set}
use prog.Atomic.{either}
use Rattle.atomic_table.specs.Table.{State, Me, Act, keeps, takes, step, Valid, carried_after, stepped, Allows}
use Rattle.atomic_table.proofs.Lists.{set_else}
use Rattle.aio_chain.specs.Chains.{IsChain}
use Rattle.aio_chain.proofs.Chains.{chain_kept}
use Rattle.table_seats.proofs.Seats.{each_set, seats_make, makes_of}
use Rattle.table_seats.specs.Seats.{own_entries}
use Rattle.table_seats.proofs.Entries.{owns_first, own-append}
use Rattle.aio_model.specs.declared.coroutines.causes.Cause.{Cause}
use Rattle.aio_model.specs.Coroutines.History.{Schedule, History, seat_of, CoPlace, Free, Scheduled, Pushed, co_place_of, IsLegal}
use Rattle.co_schedule.specs.Words.{head_at, mark_at, next_at, mark_of, next_in}
use Rattle.co_schedule.specs.Known.{MarkCompare, AtRest, Marked, Known, part_of, numbers_of}
use Rattle.co_schedule.specs.Rule.{Knows, Stands}
use Rattle.co_schedule.specs.Slots.{Kept}
use Rattle.co_schedule.specs.Standing.{done, Schedules, Looks, IsMarkOf}
use Rattle.co_schedule.specs.Plays.{marked}
use Rattle.co_schedule.proofs.Histories.{place_here, place_else}
use Rattle.co_schedule.proofs.Reading.{read_here, read_else}
use Rattle.co_schedule.proofs.Keeping.{each_all, walks_kept, knows_kept, load_stands, slots_change, slots_kept}

abbrev pub after_schedule : Known → History → ℕ → Cause → Bool → Known
after_schedule v h c cause given =
    let entry = Schedule c cause given v.first in
    record v { seen = entry ∷ h; mine = entry ∷ v.mine; did = done MarkCompare (mark_at c) 0 ∷ v.did; phase = Marked c given }

abbrev pub after_look : Known → ℕ → ℕ → Known
after_look v word found = record v { did = done MarkCompare word found ∷ v.did }

free_of_mark : (p : CoPlace) → mark_of p ≡ 0 → p ≡ Free
free_of_mark Free e = refl
free_of_mark (Scheduled s g) e = absurd (omega arith)
free_of_mark (Pushed s g) e = absurd (omega arith)

module _ (n : ℕ) (h : History) (words : List ℕ) (views : List Known) (id : ℕ) (v : Known) (c : ℕ) (cause : Cause) (given : Bool) where
  pub schedule_stands : Stands n h words views → get_elem? views id ≡ some v → 0 < v.count → v.phase ≡ AtRest → c < n → v.first < 64 → co_place_of c h ≡ Free → Stands n (Schedule c cause given v.first ∷ h) (set words (mark_at c) (v.first + 1)) (set views id (after_schedule v h c cause given))
  schedule_stands stand at numbered rest low seat free =
      let entry = Schedule c cause given v.first in
      let g = entry ∷ h in
      let w = after_schedule v h c cause given in
      let words' = set words (mark_at c) (v.first + 1) in
      let long = stand.long in
      let here : co_place_of c g ≡ Scheduled v.first given = place_here entry h in
      let same_next : (d : ℕ) → next_in words' d ≡ next_in words d = λ d. read_else words (mark_at c) (next_at d) (v.first + 1) (λ q. omega arith) in
      let top : slice_index words' head_at ≡ slice_index words head_at = read_else words (mark_at c) head_at (v.first + 1) (λ q. omega arith) in
      record {
        long = length-set words (mark_at c) (v.first + 1) ∙ stand.long;
        legal = ((low, free, seat), stand.legal);
        seats = seats_make seat_of part_of h views id entry v w stand.seats at (record { numbers_are = refl; told_is = refl }) (owns_first (numbers_of v) numbered) refl refl;
        marks = λ d small. ⊎_elim
            (λ (e : d ≡ c). subst (λ k. slice_index words' (mark_at k) ≡ mark_of (co_place_of k g)) (sym e) (read_here words (mark_at c) (v.first + 1) (omega arith) ∙ sym (ap mark_of here)))
            (λ (ne : d ≢ c). read_else words (mark_at c) (mark_at d) (v.first + 1) (λ q. ne (omega arith)) ∙ stand.marks d small ∙ sym (ap mark_of (place_else d entry h ne)))
            (cases_eq d c);
        taken = stand.taken;
        stack = stand.stack;
        queue = stand.queue;
        chain = subst (λ k. IsChain (next_in words') k stand.stack) (sym top) (chain_kept (next_in words) (next_in words') (slice_index words head_at) stand.stack stand.chain (each_all _ stand.stack same_next));
        knows = each_set (Knows n h words stand.taken) (Knows n g words' stand.taken) views id w stand.knows
            (record {
              coroutines_are = (stand.knows id v at).coroutines_are;
              active = λ _. numbered;
              owes = here;
              walks = λ own. walks_kept words words' stand.taken v.stage (each_all _ stand.taken same_next) ((stand.knows id v at).walks own);
            })
            (λ beside u ne atu. knows_kept n words words' h g stand.taken stand.taken u
            (λ d b busy owed. (place_else d entry h (λ (q : d ≡ c). let no : Free ≡ Scheduled u.first b = sym free ∙ ap (λ k. co_place_of k h) (sym q) ∙ owed in cc) ∙ owed, same_next d))
            (λ own. walks_kept words words' stand.taken u.stage (each_all _ stand.taken same_next)));
      }

module _ {S : Type 0} (cause_in : S → Cause) (given_in : S → Bool) (IsOf : ℕ → S → Type 0) where
  module _ (n slots id c : ℕ) (y : S) (me : Me S Known) (low : c < n) (numbered : 0 < me.0.count) (seat : me.0.first < 64) (rest : me.0.phase ≡ AtRest) (s : State S Known) (kept : Kept given_in IsOf n s) (at : get_elem? s.views id ≡ some me.0) where
    abbrev word_now : ℕ
    word_now = slice_index s.words (mark_at c)

    abbrev Goal : Bool → Type 0
    Goal b =
        (w : Known) × (a : Act S) × Valid s.homes me.1 a × Kept given_in IsOf n (stepped s (mark_at c) (either b (me.0.first + 1) word_now) id me.1 w a) × marked cause_in given_in (step slots (mark_at c) 0 (me.0.first + 1) (some y)) me word_now (w, carried_after me.1 a)

    same_said : (a b : S) → some a ≡ some b → a ≡ b
    same_said a b e = cc

    marked_by : (b : Bool) → eqb word_now 0 ≡ b → Goal b
    marked_by true is =
        let h = kept.0 in
        let stand = kept.1 in
        let v = me.0 in
        let given = given_in y in
        let entry = Schedule c (cause_in y) given v.first in
        let free : co_place_of c h ≡ Free = free_of_mark (co_place_of c h) (sym (stand.marks c low) ∙ eqb-true word_now 0 is) in
        let vacant = kept.2.vacant c low free in
        let w = after_schedule v h c (cause_in y) given in
        let now = schedule_stands n h s.words s.views id v c (cause_in y) given stand at numbered rest low seat free in
        let here : co_place_of c (entry ∷ h) ≡ Scheduled v.first given = place_here entry h in
        let slots_now = slots_change given_in IsOf n h (entry ∷ h) s.homes (set s.homes c none) s.views id v w c kept.2 at refl
        (λ d ne. (place_else d entry h ne, set_else s.homes c d none ne, refl, λ _. refl))
        (λ small is_free. absurd (let no : Free ≡ Scheduled v.first given = sym is_free ∙ here in cc))
        (λ far u atu own small t b is_pushed. absurd (let no : Pushed t b ≡ Scheduled v.first given = sym is_pushed ∙ here in cc)) in
        let sized : v.coroutines ≡ n = (stand.knows id v at).coroutines_are numbered in
        let told : Schedules c (cause_in y) given v w = record { makes = makes_of seat_of (IsLegal v.coroutines) h entry (part_of v) (part_of w) (stand.seats.each id v at) numbered refl refl (subst (λ k. IsLegal k (entry ∷ h)) (sym sized) now.legal); rest = refl } in (
          w,
          takes c vacant.0,
          vacant.1,
          (entry ∷ h, now, slots_now),
          λ x d said word.
              let same : y ≡ x = same_said y x said in
              let index : c ≡ d = omega arith in
              rw is (subst (λ k. Schedules k (cause_in x) (given_in x) v w) index (subst (λ z. Schedules c (cause_in z) (given_in z) v w) same told), (vacant.0, vacant.2, ap (λ k. (k, vacant.0) ∷ me.1) index)),
        )
    marked_by false is =
        let h = kept.0 in
        let stand = kept.1 in
        let v = me.0 in
        let w = after_look v (mark_at c) word_now in
        let was = stand.knows id v at in
        let told : Looks MarkCompare (mark_at c) word_now v w = record { rest = refl } in
        let seen = (stand.seats.each id v at).seen_of in
        let sized : v.coroutines ≡ n = was.coroutines_are numbered in
        let mark_is : IsMarkOf c word_now v = record {
          others = seen.rest;
          own = own-append seat_of (numbers_of v) seen.rest v.seen ∙ ap (λ k. k ++ own_entries seat_of (numbers_of v) v.seen) seen.none_missed ∙ sym seen.mine_is;
          legal = subst (λ k. IsLegal k (seen.rest ++ v.seen)) (sym sized) (subst (IsLegal n) seen.longer stand.legal);
          mark_is = stand.marks c low ∙ ap (λ k. mark_of (co_place_of c k)) seen.longer;
        } in
        (w, keeps, tt, (h, load_stands n h s.words s.views id (mark_at c) v w stand at (record { numbers_are = refl; told_is = refl }) refl refl (record { coroutines_are = was.coroutines_are; active = was.active; owes = was.owes; walks = was.walks }), slots_kept given_in IsOf n h s.homes s.views id v w kept.2 at refl refl refl), λ x d said word. rw is (told, subst (λ k. IsMarkOf k word_now v) (let index : c ≡ d = omega arith in index) mark_is, refl))

  pub mark_allowed : (n slots id c : ℕ) (y : S) (me : Me S Known) → c < n → 0 < me.0.count → me.0.first < 64 → me.0.phase ≡ AtRest → Allows (Kept given_in IsOf n) slots id me (mark_at c) (λ k. either (eqb k 0) (me.0.first + 1) k) (marked cause_in given_in (step slots (mark_at c) 0 (me.0.first + 1) (some y)) me)
  mark_allowed n slots id c y me low numbered seat rest s kept long at fits_word =
      marked_by n slots id c y me low numbered seat rest s kept at (eqb (slice_index s.words (mark_at c)) 0) refl
