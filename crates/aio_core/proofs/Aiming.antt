-- The load of the head, and its store as what follows the index, keep the rule.
use Rattle.std.proofs.Common.{◌+◌, Option, ◌≡◌, ◌≢◌, ℕ, ◌<◌, true, List, ◌∷◌, set, slice_index, refl, sym, ap, ◌∙◌, subst, arith}
use mathlib.Core.Option.{some, none}
use lib.ListN.{get_elem?, length-set}
use Rattle.atomic_table.specs.Table.{Me, keeps, step, Allows}
use Rattle.aio_model.specs.Loop.History.{Sizes, History}
use Rattle.aio_model.specs.Loop.Lists.{was_put, stack_of, out_of}
use Rattle.aio_model.specs.Loop.InFlight.{Phase, AtRest, LotClaimed, Announced, HeadLoaded, Linked, ToStore, ToLoad, ToSet}
use Rattle.aio_chain.specs.Chains.{IsChain}
use Rattle.aio_chain.proofs.Chains.{each_of, chain_kept}
use Rattle.aio_core.specs.Words.{head_at, notified_at, notify_me_at, notifier_at, next_at, index_count, next_in}
use Rattle.aio_core.specs.Known.{HeadLoad, NextStore, Known}
use Rattle.aio_core.specs.Rule.{IsOwed, Owes, Stands, Kept}
use Rattle.aio_core.specs.Standing.{done, index_in}
use Rattle.aio_core.specs.Plays.{HeadIsLoaded, NextIsStored, head_loaded, next_stored}
use Rattle.aio_core.proofs.Slots.{same_entry, same_hand, slots_kept}
use Rattle.aio_core.proofs.Seats.{seats_keep, same_view}
use Rattle.aio_core.proofs.Histories.{announced_alone}
use Rattle.aio_core.proofs.Flags.{events_apart, read_here, read_else, flags_apart}
use Rattle.aio_core.proofs.Lists.{owes_kept, owed_apart, has_out_kept, lists_after}
use Rattle.aio_core.proofs.Keeping.{load_stands}
use Rattle.aio_core.proofs.Sleeping.{flight_by, sleep_still, put_not_announced}

-- what a phase with this index owes
pub owed_of : (sizes : Sizes) (words : List ℕ) (h : History) (n : ℕ) (phase other : Phase) → phase ≡ other → Owes sizes words h n phase → Owes sizes words h n other
owed_of sizes words h n phase other e = subst (Owes sizes words h n) e

-- Loading the head.

abbrev pub after_head_load : Known → ℕ → ℕ → Known
after_head_load v i found =
    record v { did = done HeadLoad head_at found ∷ v.did; phase = HeadLoaded i found }

pub head_load_allowed : {J : Type 0} (number : J → ℕ) (sizes : Sizes) (slots id i : ℕ) (me : Me (Option J) Known) → 0 < me.0.count → me.0.phase ≡ Announced i → Allows (Kept number sizes) slots id me head_at (λ n. n) (head_loaded (step slots head_at 0 0 none) me)
head_load_allowed number sizes slots id i me numbered phase s kept long at fits =
    let h = kept.0 in
    let stand = kept.1 in
    let v = me.0 in
    let found = slice_index s.words head_at in
    let owed : IsOwed sizes h v.first i = owed_of sizes s.words h v.first v.phase (Announced i) phase (stand.lists.owed id v at) in
    let w = after_head_load v i found in
    let low : i < index_count v.sizes = subst (λ z. i < index_count z) (sym ((stand.seats.tables id v at).sizes_are numbered)) owed.below in
    let told : HeadIsLoaded i found v w = record { below = low; rest = refl } in
    (w, keeps, tt, (h, load_stands sizes h s.words s.views id head_at v w stand at numbered (same_view v w refl refl refl) refl refl owed (stand.lists.out id v at) (record { step = done HeadLoad head_at found; longer = refl; sleep_is = refl; flight = flight_by v.phase (Announced i) (HeadLoaded i found) phase (record { pushes = refl; stores = refl; flies = refl }) }), slots_kept number sizes h h s.homes s.views id me.0 w kept.2 at refl (λ m low. (same_entry h (sizes.handles + m), same_hand (sizes.handles + m) me.0.stage w.stage refl refl))), (refl, λ j is. let same : i ≡ j = ap index_in (sym phase ∙ is) in subst (λ k. HeadIsLoaded k found v w) same told))

-- Storing what follows the index.

abbrev pub after_next_store : Known → ℕ → ℕ → Known
after_next_store v i head =
    record v { did = done NextStore (next_at i) head ∷ v.did; phase = Linked i head }

-- the head that was loaded
abbrev pub loaded_in : Phase → ℕ
loaded_in AtRest = 0
loaded_in (LotClaimed i job) = 0
loaded_in (Announced i) = 0
loaded_in (HeadLoaded i found) = found
loaded_in (Linked i found) = found
loaded_in (ToStore reason) = 0
loaded_in (ToLoad reason) = 0
loaded_in (ToSet reason) = 0

module _ (sizes : Sizes) (h : History) (words : List ℕ) (views : List Known) (id : ℕ) (v : Known) (i head : ℕ) where
  pub next_store_stands : Stands sizes h words views → get_elem? views id ≡ some v → 0 < v.count → v.phase ≡ HeadLoaded i head → IsOwed sizes h v.first i → Stands sizes h (set words (next_at i) head) (set views id (after_next_store v i head))
  next_store_stands stand at numbered phase owed =
      let w = after_next_store v i head in
      let words' = set words (next_at i) head in
      let low = owed.below in
      let count = stand.long in
      let here : next_in words' i ≡ head = read_here words (next_at i) head (omega arith) in
      let else_same : (j : ℕ) → i ≢ j → next_in words' j ≡ next_in words j = λ j ne. read_else words (next_at i) (next_at j) head (λ q. ne (omega arith)) in
      let top : slice_index words' head_at ≡ slice_index words head_at = read_else words (next_at i) head_at head (λ q. omega arith) in
      let away = announced_alone sizes h i stand.legal owed.announced in
      let on_stack = each_of (λ j. i ≢ j) (λ j. next_in words' j ≡ next_in words j) (stack_of h) else_same away.0 in
      let in_out = each_of (λ j. i ≢ j) (λ j. next_in words' j ≡ next_in words j) (out_of h) else_same away.1 in
      record {
        long = length-set words (next_at i) head ∙ stand.long;
        legal = stand.legal;
        seats = seats_keep sizes h views id v w stand.seats at (same_view v w refl refl refl) refl refl numbered;
        flags = flags_apart sizes h h words (next_at i) head stand.flags (λ j q. omega arith) (λ j. refl);
        lists = lists_after sizes h h words words' views id w stand.lists
            (subst (λ k. IsChain (next_in words') k (stack_of h)) (sym top) (chain_kept (next_in words) (next_in words') (slice_index words head_at) (stack_of h) stand.lists.stack on_stack))
            (owed, here)
            (λ beside u ne atu. owes_kept sizes words words' h h u.first u.phase (λ j busy theirs. (theirs, else_same j (owed_apart sizes h views id beside v u i j stand.seats at atu ne owed numbered theirs ((stand.seats.tables beside u atu).active busy)))) (λ j job busy c. c))
            (has_out_kept words words' h h v refl in_out (stand.lists.out id v at))
            (λ beside u ne atu. has_out_kept words words' h h u refl in_out);
        events = events_apart h (h) words (next_at i) head stand.events (λ e low q. omega arith) (λ e. refl);
        sleep = sleep_still sizes h words words' views id v w (done NextStore (next_at i) head) stand.seats at refl refl refl stand.sleep (flight_by v.phase (HeadLoaded i head) (Linked i head) phase (record { pushes = refl; stores = refl; flies = refl })) (read_else words (next_at i) notified_at head (λ q. omega arith), read_else words (next_at i) notify_me_at head (λ q. omega arith), read_else words (next_at i) notifier_at head (λ q. omega arith)) (λ j put. else_same j (λ same. put_not_announced i h owed.announced (subst (λ k. was_put k h ≡ true) (sym same) put)));
      }

pub next_store_allowed : {J : Type 0} (number : J → ℕ) (sizes : Sizes) (slots id i head : ℕ) (me : Me (Option J) Known) → 0 < me.0.count → me.0.phase ≡ HeadLoaded i head → Allows (Kept number sizes) slots id me (next_at i) (λ _. head) (λ _. next_stored (step slots (next_at i) head 0 none) me head)
next_store_allowed number sizes slots id i head me numbered phase s kept long at fits =
    let h = kept.0 in
    let stand = kept.1 in
    let v = me.0 in
    let owed : IsOwed sizes h v.first i = owed_of sizes s.words h v.first v.phase (HeadLoaded i head) phase (stand.lists.owed id v at) in
    let w = after_next_store v i head in
    let told : NextIsStored i head v w = record { rest = refl } in
    (w, keeps, tt, (h, next_store_stands sizes h s.words s.views id v i head stand at numbered phase owed, slots_kept number sizes h h s.homes s.views id me.0 w kept.2 at refl (λ m low. (same_entry h (sizes.handles + m), same_hand (sizes.handles + m) me.0.stage w.stage refl refl))), (refl, λ j to is. let index : i ≡ j = ap index_in (sym phase ∙ is) in let loaded : head ≡ to = ap loaded_in (sym phase ∙ is) in subst (λ k. NextIsStored k to v w) index (subst (λ k. NextIsStored i k v w) loaded told)))
