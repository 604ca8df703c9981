-- The swap by which home takes the list, and the walk over what it took, keep the rule.
use Rattle.std.proofs.Common.{◌≡◌, ℕ, ◌+◌, ◌<◌, ◌≤◌, Bool, true, None, List, [], ◌∷◌, ◌++◌, length, length-append, set, slice_index, reverse, refl, sym, ap, ◌∙◌, subst, arith, append_assoc, append-nil}
use mathlib.Core.Option.{some, none}
use lib.ListN.{get_elem?, length-set}
use Rattle.atomic_table.specs.Table.{Me, keeps, step, Allows}
use Rattle.aio_chain.specs.Chains.{IsChain}
use Rattle.aio_chain.proofs.Chains.{Each, each-front, chain_kept, none_taken, first_of_chain}
use Rattle.table_seats.specs.Seats.{owns, home}
use Rattle.table_seats.proofs.Seats.{each_set, seats_see}
use Rattle.aio_model.specs.Coroutines.History.{History, seat_of, queue_of, IsLegal}
use Rattle.co_schedule.specs.Words.{head_at, mark_at, next_at, next_in}
use Rattle.co_schedule.specs.Known.{TakeSwap, NextLoad, Stage, Known, part_of, numbers_of}
use Rattle.co_schedule.specs.Rule.{OutIsFirst, WalkStands, Knows, Stands}
use Rattle.co_schedule.specs.Slots.{Kept}
use Rattle.co_schedule.specs.Standing.{done, Takes, WalksOn}
use Rattle.co_schedule.specs.Plays.{taken, next_loaded}
use Rattle.co_schedule.proofs.Histories.{queue_below, queue_few}
use Rattle.co_schedule.proofs.Reading.{read_here, read_else}
use Rattle.co_schedule.proofs.Keeping.{each_all, each-unreverse, reverse-step, owes_kept, knows_kept, no_other_home, load_stands, slots_kept}

-- the word that leads to a chain is a member's or 0
chain_word_below : (next : ℕ → ℕ) (word k : ℕ) (xs : List ℕ) → IsChain next word xs → Each (λ i. i < k) xs → word ≤ k
chain_word_below next word k [] h below = omega arith
chain_word_below next word k (x ∷ xs) h below =
    let is = h.0 in let low = below.0 in omega arith

-- a chain that isn't empty has a member
chain_full : (next : ℕ → ℕ) (word : ℕ) (xs : List ℕ) → IsChain next word xs → 0 < word → 0 < length xs
chain_full next word [] h full = absurd (omega arith)
chain_full next word (x ∷ xs) h full = omega arith

pub length-reverse : (xs : List ℕ) → length (reverse xs) ≡ length xs
length-reverse [] = refl
length-reverse (x ∷ xs) =
    let all = ap length (reverse-step x xs) in
    let sum = length-append (reverse xs) (x ∷ []) in
    let rest = length-reverse xs in
    omega (arith, all, sum, rest)

-- with no word to walk on from, what was taken was walked over
pub walked_all : (words taken : List ℕ) (stage : Stage) → WalkStands words taken stage → stage.word ≡ 0 → taken ≡ stage.run
walked_all words taken stage walks over =
    let none = none_taken (next_in words) stage.word walks.rest walks.chain over in
    walks.whole ∙ ap (λ (l : List ℕ). reverse l ++ stage.run) none

abbrev pub after_take : Known → History → ℕ → Known
after_take v h found =
    record v { seen = h; did = done TakeSwap head_at found ∷ v.did; stage = record v.stage { taken = queue_of h; word = found; run = [] } }

module _ (n : ℕ) (h : History) (words : List ℕ) (views : List Known) (id : ℕ) (v : Known) where
  abbrev words_taken : List ℕ
  words_taken = set words head_at 0

  abbrev found_first : ℕ
  found_first = slice_index words head_at

  pub stack_is_queue : (stand : Stands n h words views) → get_elem? views id ≡ some v → owns (numbers_of v) home ≡ true → v.stage.word ≡ 0 → v.stage.run ≡ [] → queue_of h ≡ reverse stand.stack
  stack_is_queue stand at is_home over no_run =
      stand.queue ∙ ap (λ (l : List ℕ). l ++ reverse stand.stack) (walked_all words stand.taken v.stage ((stand.knows id v at).walks is_home) over ∙ no_run)

  pub take_stands : Stands n h words views → get_elem? views id ≡ some v → owns (numbers_of v) home ≡ true → v.stage.word ≡ 0 → v.stage.run ≡ [] → v.stage.hand ≡ None → Stands n h words_taken (set views id (after_take v h found_first))
  take_stands stand at is_home over no_run hand =
      let w = after_take v h found_first in
      let long = stand.long in
      let was = stand.knows id v at in
      let same_next : (d : ℕ) → next_in words_taken d ≡ next_in words d = λ d. read_else words head_at (next_at d) 0 (λ q. omega arith) in
      let all = stack_is_queue stand at is_home over no_run in
      record {
        long = length-set words head_at 0 ∙ stand.long;
        legal = stand.legal;
        seats = seats_see seat_of part_of h views id v w stand.seats at (record { numbers_are = refl; told_is = refl }) refl refl;
        marks = λ d small. read_else words head_at (mark_at d) 0 (λ q. omega arith) ∙ stand.marks d small;
        taken = queue_of h;
        stack = [];
        queue = sym (append-nil (queue_of h));
        chain = read_here words head_at 0 (omega arith);
        knows = each_set (Knows n h words stand.taken) (Knows n h words_taken (queue_of h)) views id w stand.knows
            (record {
              coroutines_are = was.coroutines_are;
              active = was.active;
              owes = owes_kept words words_taken h h v.first v.phase (λ d b busy owed. (owed, same_next d)) was.owes;
              walks = λ own. record {
                is = refl;
                rest = stand.stack;
                chain = chain_kept (next_in words) (next_in words_taken) found_first stand.stack stand.chain (each_all _ stand.stack same_next);
                whole = all ∙ sym (append-nil (reverse stand.stack));
                held = subst (λ o. OutIsFirst o []) (sym hand) tt;
              };
            })
            (λ beside u ne atu. knows_kept n words words_taken h h stand.taken (queue_of h) u
            (λ d b busy owed. (owed, same_next d))
            (λ own old. no_other_home n h words views id beside v u (WalkStands words_taken (queue_of h) u.stage) stand at atu ne is_home own));
      }

-- The walk.

abbrev pub after_follow : Known → ℕ → ℕ → Known
after_follow v c found =
    record v { did = done NextLoad (next_at c) found ∷ v.did; stage = record v.stage { word = found; run = c ∷ v.stage.run } }

-- one more is walked over
pub walks_on : (words taken : List ℕ) (stage : Stage) (c : ℕ) → WalkStands words taken stage → stage.word ≡ c + 1 → stage.hand ≡ None → (rest : List ℕ) × IsChain (next_in words) (next_in words c) rest × (taken ≡ reverse rest ++ c ∷ stage.run)
walks_on words taken stage c walks word hand =
    let first = first_of_chain (next_in words) c walks.rest (subst (λ k. IsChain (next_in words) k walks.rest) word walks.chain) in
    (first.0, first.2, walks.whole ∙ ap (λ (l : List ℕ). reverse l ++ stage.run) first.1 ∙ ap (λ (l : List ℕ). l ++ stage.run) (reverse-step c first.0) ∙ append_assoc (reverse first.0) (c ∷ []) stage.run)

module _ {S : Type 0} (given_in : S → Bool) (IsOf : ℕ → S → Type 0) where
  pub take_allowed : (n slots id : ℕ) (me : Me S Known) → 0 < me.0.count → owns (numbers_of me.0) home ≡ true → me.0.stage.word ≡ 0 → me.0.stage.run ≡ [] → me.0.stage.hand ≡ None → Allows (Kept given_in IsOf n) slots id me head_at (λ _. 0) (taken (step slots head_at 0 0 none) me)
  take_allowed n slots id me numbered is_home over no_run hand s kept long at fits =
      let h = kept.0 in
      let stand = kept.1 in
      let v = me.0 in
      let found = slice_index s.words head_at in
      let w = after_take v h found in
      let now = take_stands n h s.words s.views id v stand at is_home over no_run hand in
      let all = stack_is_queue n h s.words s.views id v stand at is_home over no_run in
      let is = stand.seats.each id v at in
      let sized : v.coroutines ≡ n = (stand.knows id v at).coroutines_are numbered in
      let on_stack : Each (λ c. c < n) stand.stack = each-unreverse (λ c. c < n) stand.stack (subst (Each (λ c. c < n)) all (queue_below n h stand.legal)) in
      let lens : length (queue_of h) ≡ length stand.stack = ap length all ∙ length-reverse stand.stack in
      let told : Takes found v w = record {
        others = is.seen_of.rest;
        not_own = is.seen_of.none_missed;
        seen = is.seen_of.longer;
        legal = subst (λ k. IsLegal k h) (sym sized) stand.legal;
        taken = refl;
        few = subst (λ k. length (queue_of h) ≤ k) (sym sized) (queue_few n h stand.legal);
        below = subst (λ k. found ≤ k) (sym sized) (chain_word_below (next_in s.words) found n stand.stack stand.chain on_stack);
        more = λ full. let there = chain_full (next_in s.words) found stand.stack stand.chain full in omega arith;
        ends = λ zero_found. all ∙ ap reverse (none_taken (next_in s.words) found stand.stack stand.chain zero_found);
        rest = refl;
      } in
      (w, keeps, tt, (h, now, slots_kept given_in IsOf n h s.homes s.views id v w kept.2 at refl refl refl), (refl, told))

  pub next_load_allowed : (n slots id c : ℕ) (me : Me S Known) → 0 < me.0.count → owns (numbers_of me.0) home ≡ true → me.0.stage.word ≡ c + 1 → me.0.stage.hand ≡ None → Allows (Kept given_in IsOf n) slots id me (next_at c) (λ k. k) (next_loaded (step slots (next_at c) 0 0 none) me)
  next_load_allowed n slots id c me numbered is_home word hand s kept long at fits =
      let h = kept.0 in
      let stand = kept.1 in
      let v = me.0 in
      let was = stand.knows id v at in
      let found = next_in s.words c in
      let w = after_follow v c found in
      let walks = was.walks is_home in
      let on = walks_on s.words stand.taken v.stage c walks word hand in
      let sized : v.coroutines ≡ n = was.coroutines_are numbered in
      let in_taken : Each (λ d. d < n) stand.taken = each-front (λ d. d < n) stand.taken (reverse stand.stack) (subst (Each (λ d. d < n)) stand.queue (queue_below n h stand.legal)) in
      let in_rest : Each (λ d. d < n) on.0 = each-unreverse (λ d. d < n) on.0 (each-front (λ d. d < n) (reverse on.0) (c ∷ v.stage.run) (subst (Each (λ d. d < n)) on.2 in_taken)) in
      let now = load_stands n h s.words s.views id (next_at c) v w stand at (record { numbers_are = refl; told_is = refl }) refl refl (record {
        coroutines_are = was.coroutines_are;
        active = was.active;
        owes = was.owes;
        walks = λ own. record { is = walks.is; rest = on.0; chain = on.1; whole = on.2; held = subst (λ o. OutIsFirst o (c ∷ v.stage.run)) (sym hand) tt };
      }) in
      let sum : length v.stage.taken ≡ length (reverse on.0) + length (c ∷ v.stage.run) = ap length (walks.is ∙ on.2) ∙ length-append (reverse on.0) (c ∷ v.stage.run) in
      let back = length-reverse on.0 in
      let told : WalksOn c found v w = record {
        below = subst (λ k. found ≤ k) (sym sized) (chain_word_below (next_in s.words) found n on.0 on.1 in_rest);
        more = λ full. let there = chain_full (next_in s.words) found on.0 on.1 full in omega arith;
        ends = λ zero_found. walks.is ∙ on.2 ∙ ap (λ (l : List ℕ). reverse l ++ c ∷ v.stage.run) (none_taken (next_in s.words) found on.0 on.1 zero_found);
        rest = refl;
      } in
      (w, keeps, tt, (h, now, slots_kept given_in IsOf n h s.homes s.views id v w kept.2 at refl refl refl), (refl, λ d eq. let index : c ≡ d = (let both = sym word ∙ eq in omega arith) in subst (λ k. WalksOn k found v w) index told))
