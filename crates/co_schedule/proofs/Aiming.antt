-- The load of the head, and its store as what follows the coroutine, keep the rule.
use Rattle.std.proofs.Common.{◌≡◌, ◌≢◌, ℕ, ◌<◌, Bool, false, List, ◌∷◌, ◌++◌, set, slice_index, reverse, refl, sym, ap, ◌∙◌, subst, arith}
use mathlib.Core.Option.{some, none}
use lib.ListN.{get_elem?, length-set}
use Rattle.atomic_table.specs.Table.{Me, keeps, step, Allows}
use Rattle.aio_chain.specs.Chains.{IsChain}
use Rattle.aio_chain.proofs.Chains.{Each, each_of, each-front, each-back, chain_kept}
use Rattle.table_seats.proofs.Seats.{each_set, seats_keep}
use Rattle.aio_model.specs.Coroutines.History.{History, seat_of}
use Rattle.co_schedule.specs.Words.{head_at, mark_at, next_at, next_in}
use Rattle.co_schedule.specs.Known.{HeadLoad, NextStore, Phase, AtRest, Marked, HeadLoaded, Linked, Known, part_of}
use Rattle.co_schedule.specs.Rule.{IsOwed, Owes, Knows, Stands}
use Rattle.co_schedule.specs.Slots.{Kept}
use Rattle.co_schedule.specs.Standing.{done, HeadIsLoaded, NextIsStored}
use Rattle.co_schedule.specs.Plays.{head_loaded, next_stored}
use Rattle.aio_model.proofs.CoroutineHistories.{is_free}
use Rattle.co_schedule.proofs.Histories.{place_below, scheduled_alone}
use Rattle.co_schedule.proofs.Reading.{read_here, read_else}
use Rattle.co_schedule.proofs.Keeping.{each-unreverse, walks_kept, knows_kept, owed_apart, load_stands, slots_kept}

-- What a phase has.

abbrev pub co_in : Phase → ℕ
co_in AtRest = 0
co_in (Marked c given) = c
co_in (HeadLoaded c given found) = c
co_in (Linked c given found) = c

abbrev pub given_by : Phase → Bool
given_by AtRest = false
given_by (Marked c given) = given
given_by (HeadLoaded c given found) = given
given_by (Linked c given found) = given

abbrev pub head_in : Phase → ℕ
head_in AtRest = 0
head_in (Marked c given) = 0
head_in (HeadLoaded c given found) = found
head_in (Linked c given found) = found

pub owed_of : (words : List ℕ) (h : History) (n : ℕ) (phase other : Phase) → phase ≡ other → Owes words h n phase → Owes words h n other
owed_of words h n phase other e = subst (Owes words h n) e

pub owed_below : (n : ℕ) (h : History) (words : List ℕ) (views : List Known) (s c : ℕ) (given : Bool) → Stands n h words views → IsOwed h s c given → c < n
owed_below n h words views s c given stand owed =
    place_below n h c stand.legal (subst (λ p. is_free p ≡ false) (sym owed) refl)

-- Loading the head.

abbrev pub after_head_load : Known → ℕ → Bool → ℕ → Known
after_head_load v c given found =
    record v { did = done HeadLoad head_at found ∷ v.did; phase = HeadLoaded c given found }

abbrev pub after_next_store : Known → ℕ → Bool → ℕ → Known
after_next_store v c given head =
    record v { did = done NextStore (next_at c) head ∷ v.did; phase = Linked c given head }

module _ (n : ℕ) (h : History) (words : List ℕ) (views : List Known) (id : ℕ) (v : Known) (c : ℕ) (given : Bool) (head : ℕ) where
  pub next_store_stands : Stands n h words views → get_elem? views id ≡ some v → 0 < v.count → IsOwed h v.first c given → Stands n h (set words (next_at c) head) (set views id (after_next_store v c given head))
  next_store_stands stand at numbered owed =
      let w = after_next_store v c given head in
      let words' = set words (next_at c) head in
      let low = owed_below n h words views v.first c given stand owed in
      let long = stand.long in
      let was = stand.knows id v at in
      let here : next_in words' c ≡ head = read_here words (next_at c) head (omega arith) in
      let else_same : (d : ℕ) → c ≢ d → next_in words' d ≡ next_in words d = λ d ne. read_else words (next_at c) (next_at d) head (λ q. ne (omega arith)) in
      let top : slice_index words' head_at ≡ slice_index words head_at = read_else words (next_at c) head_at head (λ q. omega arith) in
      let away : Each (λ d. c ≢ d) (stand.taken ++ reverse stand.stack) = subst (Each (λ d. c ≢ d)) stand.queue (scheduled_alone n h c v.first given stand.legal owed) in
      let on_stack = each_of (λ d. c ≢ d) (λ d. next_in words' d ≡ next_in words d) stand.stack else_same (each-unreverse (λ d. c ≢ d) stand.stack (each-back (λ d. c ≢ d) stand.taken (reverse stand.stack) away)) in
      let in_taken = each_of (λ d. c ≢ d) (λ d. next_in words' d ≡ next_in words d) stand.taken else_same (each-front (λ d. c ≢ d) stand.taken (reverse stand.stack) away) in
      record {
        long = length-set words (next_at c) head ∙ stand.long;
        legal = stand.legal;
        seats = seats_keep seat_of part_of h views id v w stand.seats at (record { numbers_are = refl; told_is = refl }) refl refl;
        marks = λ d small. read_else words (next_at c) (mark_at d) head (λ q. omega arith) ∙ stand.marks d small;
        taken = stand.taken;
        stack = stand.stack;
        queue = stand.queue;
        chain = subst (λ k. IsChain (next_in words') k stand.stack) (sym top) (chain_kept (next_in words) (next_in words') (slice_index words head_at) stand.stack stand.chain on_stack);
        knows = each_set (Knows n h words stand.taken) (Knows n h words' stand.taken) views id w stand.knows
            (record {
              coroutines_are = was.coroutines_are;
              active = λ _. numbered;
              owes = (owed, here);
              walks = λ own. walks_kept words words' stand.taken v.stage in_taken (was.walks own);
            })
            (λ beside u ne atu k. knows_kept n words words' h h stand.taken stand.taken u
            (λ d b busy theirs. (theirs, else_same d (owed_apart n h words views id beside v u c d given b stand at atu ne owed numbered theirs (k.active busy))))
            (λ own. walks_kept words words' stand.taken u.stage in_taken) k);
      }

module _ {S : Type 0} (given_in : S → Bool) (IsOf : ℕ → S → Type 0) where
  pub head_load_allowed : (n slots id c : ℕ) (given : Bool) (me : Me S Known) → 0 < me.0.count → me.0.phase ≡ Marked c given → Allows (Kept given_in IsOf n) slots id me head_at (λ k. k) (head_loaded (step slots head_at 0 0 none) me)
  head_load_allowed n slots id c given me numbered phase s kept long at fits =
      let h = kept.0 in
      let stand = kept.1 in
      let v = me.0 in
      let was = stand.knows id v at in
      let found = slice_index s.words head_at in
      let owed : IsOwed h v.first c given = owed_of s.words h v.first v.phase (Marked c given) phase was.owes in
      let w = after_head_load v c given found in
      let low : c < v.coroutines = subst (λ k. c < k) (sym (was.coroutines_are numbered)) (owed_below n h s.words s.views v.first c given stand owed) in
      let told : HeadIsLoaded c given found v w = record { below = low; rest = refl } in (
        w,
        keeps,
        tt,
        (h, load_stands n h s.words s.views id head_at v w stand at (record { numbers_are = refl; told_is = refl }) refl refl (record { coroutines_are = was.coroutines_are; active = λ _. numbered; owes = owed; walks = was.walks }), slots_kept given_in IsOf n h s.homes s.views id v w kept.2 at refl refl refl),
        (
          refl,
          λ d b is.
              let index : c ≡ d = ap co_in (sym phase ∙ is) in
              let gave : given ≡ b = ap given_by (sym phase ∙ is) in
              subst (λ k. HeadIsLoaded k b found v w) index (subst (λ k. HeadIsLoaded c k found v w) gave told),
        ),
      )

  pub next_store_allowed : (n slots id c : ℕ) (given : Bool) (head : ℕ) (me : Me S Known) → 0 < me.0.count → me.0.phase ≡ HeadLoaded c given head → Allows (Kept given_in IsOf n) slots id me (next_at c) (λ _. head) (λ _. next_stored (step slots (next_at c) head 0 none) me head)
  next_store_allowed n slots id c given head me numbered phase s kept long at fits =
      let h = kept.0 in
      let stand = kept.1 in
      let v = me.0 in
      let was = stand.knows id v at in
      let owed : IsOwed h v.first c given = owed_of s.words h v.first v.phase (HeadLoaded c given head) phase was.owes in
      let w = after_next_store v c given head in
      let told : NextIsStored c given head v w = record { rest = refl } in (
        w,
        keeps,
        tt,
        (h, next_store_stands n h s.words s.views id v c given head stand at numbered owed, slots_kept given_in IsOf n h s.homes s.views id v w kept.2 at refl refl refl),
        (
          refl,
          λ d b to is.
              let index : c ≡ d = ap co_in (sym phase ∙ is) in
              let gave : given ≡ b = ap given_by (sym phase ∙ is) in
              let loaded : head ≡ to = ap head_in (sym phase ∙ is) in
              subst (λ k. NextIsStored k b to v w) index (subst (λ k. NextIsStored c k to v w) gave (subst (λ k. NextIsStored c given k v w) loaded told)),
        ),
      )
