-- Who owns all numbers, at rest: it has seen the whole history, nobody is in flight, and a look at the notifier of a committed loop
-- finds it set where home is not to sleep.
use Rattle.std.proofs.Common.{Option, ◌≡◌, ◌≢◌, ℕ, ◌+◌, ◌<◌, Bool, true, false, cond, eqb, List, ◌∷◌, set, slice_index, refl, sym, ap, ◌∙◌, subst, ⊎_elim, arith, eq-zero-or-pos}
use Rattle.std.proofs.lemmas.Bool.{cases_eq, cases_Bool, eq-eqb, ne_eqb, cond-true}
use mathlib.Core.Option.{some, none, some-injective}
use lib.ListN.{get_elem?}
use Rattle.atomic_table.specs.Table.{Me, keeps, step, Allows}
use Rattle.table_seats.specs.Seats.{owns, everyone}
use Rattle.table_seats.proofs.Entries.{owns_first, owns_everyone}
use Rattle.table_seats.proofs.Seats.{all_seen as sees_all}
use Rattle.aio_model.specs.declared.loops.flags.Flags.{Flags}
use Rattle.aio_model.specs.Loop.FlagsWord.{bit, word_of, flags_in}
use Rattle.aio_model.specs.Loop.History.{Sizes, History}
use Rattle.aio_model.specs.Loop.Flags.{has_life, is_pending, flags_of}
use Rattle.aio_model.specs.Loop.Lists.{seat_of, is_set}
use Rattle.aio_model.specs.Loop.Legal.{IsLegal}
use Rattle.aio_model.specs.Loop.Seats.{own_entries}
use Rattle.aio_model.specs.Loop.InFlight.{Reason, Phase, AtRest, LotClaimed, Announced, HeadLoaded, Linked, ToStore, ToLoad, ToSet, is_at_rest, flight_of}
use Rattle.aio_model.proofs.AnnouncedOnce.{fits}
use Rattle.aio_model.proofs.FlagsWords.{flags_in-word_of}
use Rattle.aio_core.specs.Words.{notifier_at, event_at, flags_at, index_count, flags_word, free_word}
use Rattle.aio_core.specs.Known.{NotifierLoad, EventLoad, ScanFlagsLoad, Kind, Committed, Known, part_of, numbers_of}
use Rattle.aio_core.specs.Rule.{is_wanted, SomeSeat, Sleeps, Stands, Kept}
use Rattle.aio_core.specs.Standing.{done, Looks}
use Rattle.aio_core.specs.SleepSteps.{OwnsAll}
use Rattle.aio_core.specs.Plays.{notifier_looked_at, event_told, flags_told}
use Rattle.aio_core.proofs.Slots.{same_entry, same_hand, slots_kept}
use Rattle.aio_core.proofs.Seats.{same_view}
use Rattle.aio_core.proofs.Keeping.{load_stands}
use Rattle.aio_core.proofs.Sleeping.{something, same_flight}

module _ (sizes : Sizes) (h : History) (words : List ℕ) (views : List Known) (id : ℕ) (v : Known) (stand : Stands sizes h words views) (at : get_elem? views id ≡ some v) (all : OwnsAll v) where
  numbers_are : numbers_of v ≡ everyone
  numbers_are = let first = all.first in let count = all.count in λ i. record { first = first i; count = count i }

  pub all_seen : (v.seen ≡ h) × (v.mine ≡ h)
  all_seen =
      let is = stand.seats.parts.each id v at in
      let own_all : own_entries (numbers_of v) h ≡ h = ap (λ n. own_entries n h) numbers_are ∙ stand.seats.parts.all_owned in
      let seen : v.seen ≡ h = sees_all seat_of h (part_of v) is numbers_are stand.seats.parts.all_owned in
      (seen, is.seen_of.mine_is ∙ ap (own_entries (numbers_of v)) seen ∙ own_all)

  -- no other seat has a number
  pub others_have_none : (other : ℕ) (u : Known) → get_elem? views other ≡ some u → other ≢ id → u.count ≡ 0
  others_have_none other u atu ne =
      ⊎_elim (λ z. z) (λ (full : 0 < u.count). absurd (
      let below = (stand.seats.parts.each other u atu).below in
      let theirs : owns (numbers_of u) u.first ≡ true = owns_first (numbers_of u) full in
      let mine : owns (numbers_of v) u.first ≡ true = subst (λ n. owns n u.first ≡ true) (sym numbers_are) (owns_everyone u.first (omega arith)) in
      let not_theirs : owns (numbers_of u) u.first ≡ false = stand.seats.parts.apart id other v u at atu (λ q. ne (sym q)) u.first mine in
      cc)) (eq-zero-or-pos u.count)

  -- so nobody is under way
  pub all_at_rest : v.phase ≡ AtRest → (P : Phase → Type 0) → ((p : Phase) → is_at_rest p ≡ true → P p → ⊥) → SomeSeat P views → ⊥
  all_at_rest rest P none_rests one =
      ⊎_elim
      (λ (z : one.id ≡ id). let same : one.known ≡ v = some-injective _ _ (sym one.at ∙ (ap (get_elem? views) z ∙ at)) in none_rests one.known.phase (ap is_at_rest (ap (λ (k : Known). k.phase) same ∙ rest)) one.is)
      (λ (z : one.id ≢ id). ⊎_elim (λ resting. none_rests one.known.phase resting one.is) (λ busy. absurd (let none_owned = others_have_none one.id one.known one.at z in let full = (stand.seats.tables one.id one.known one.at).active busy in omega arith)) (cases_Bool (is_at_rest one.known.phase)))
      (cases_eq one.id id)

resting_flies : (r : Reason) (h : History) (p : Phase) → is_wanted r h ≡ true → is_at_rest p ≡ true → flight_of p ≡ r → ⊥
resting_flies r h AtRest wanted rests e = something r h wanted e
resting_flies r h (LotClaimed i job) wanted rests e = absurd cc
resting_flies r h (Announced i) wanted rests e = absurd cc
resting_flies r h (HeadLoaded i found) wanted rests e = absurd cc
resting_flies r h (Linked i found) wanted rests e = absurd cc
resting_flies r h (ToStore reason) wanted rests e = absurd cc
resting_flies r h (ToLoad reason) wanted rests e = absurd cc
resting_flies r h (ToSet reason) wanted rests e = absurd cc

-- A look.

abbrev pub after_look : Known → Kind → ℕ → ℕ → Known
after_look v kind word found = record v { did = done kind word found ∷ v.did }

-- a look by any seat keeps the rule
pub look_stands : (sizes : Sizes) (h : History) (words : List ℕ) (views : List Known) (id : ℕ) (v : Known) (kind : Kind) (word : ℕ) → Stands sizes h words views → get_elem? views id ≡ some v → 0 < v.count → Stands sizes h (set words word (slice_index words word)) (set views id (after_look v kind word (slice_index words word)))
look_stands sizes h words views id v kind word stand at numbered =
    load_stands sizes h words views id word v (after_look v kind word (slice_index words word)) stand at numbered (same_view v (after_look v kind word (slice_index words word)) refl refl refl) refl refl (stand.lists.owed id v at) (stand.lists.out id v at) (record { step = done kind word (slice_index words word); longer = refl; sleep_is = refl; flight = same_flight v.phase v.phase refl })

pub notifier_load_allowed : {J : Type 0} (number : J → ℕ) (sizes : Sizes) (slots id : ℕ) (me : Me (Option J) Known) → 0 < me.0.count → Allows (Kept number sizes) slots id me notifier_at (λ n. n) (notifier_looked_at (step slots notifier_at 0 0 none) me)
notifier_load_allowed number sizes slots id me numbered s kept long at fits_word =
    let h = kept.0 in
    let stand = kept.1 in
    let v = me.0 in
    let found = slice_index s.words notifier_at in
    let w = after_look v NotifierLoad notifier_at found in
    let told : Looks NotifierLoad notifier_at found v w = record { rest = refl } in (
      w,
      keeps,
      tt,
      (h, look_stands sizes h s.words s.views id v NotifierLoad notifier_at stand at numbered, slots_kept number sizes h h s.homes s.views id me.0 w kept.2 at refl (λ m low. (same_entry h (sizes.handles + m), same_hand (sizes.handles + m) me.0.stage w.stage refl refl))),
      (
        refl,
        told,
        stand.sleep.notifier,
        λ all. let both = all_seen sizes h s.words s.views id v stand at all in (subst (IsLegal v.sizes) (sym both.0) (subst (λ z. IsLegal z h) (sym ((stand.seats.tables id v at).sizes_are numbered)) stand.legal), both.1 ∙ sym both.0),
        λ all rest watched asleep r wanted closed.
            let seen : v.seen ≡ h = (all_seen sizes h s.words s.views id v stand at all).0 in
            let owned : owns (numbers_of v) 64 ≡ true = subst (λ n. owns n 64 ≡ true) (sym (numbers_are sizes h s.words s.views id v stand at all)) refl in
            let sleeps : Sleeps h s.words s.views v.did (Committed watched) = subst (Sleeps h s.words s.views v.did) asleep (stand.sleep.home id v at owned) in
            let wanted_now : is_wanted r h ≡ true = subst (λ l. is_wanted r l ≡ true) seen wanted in
            ⊎_elim (λ one. absurd (all_at_rest sizes h s.words s.views id v stand at all rest (λ p. flight_of p ≡ r) (λ p. resting_flies r h p wanted_now) one)) (λ n. n) (sleeps.1 r wanted_now closed),
      ),
    )

-- what an event's word, and an index's flags word, tell who has seen all
was_one : (b : Bool) (n : ℕ) → n ≡ bit b → eqb n 1 ≡ b
was_one true n e = eq-eqb n 1 e
was_one false n e = ne_eqb n 1 (λ q. omega arith)

pub event_told_allowed : {J : Type 0} (number : J → ℕ) (sizes : Sizes) (slots id e : ℕ) (me : Me (Option J) Known) → 0 < me.0.count → e < 64 → Allows (Kept number sizes) slots id me (event_at e) (λ n. n) (event_told (step slots (event_at e) 0 0 none) me)
event_told_allowed number sizes slots id e me numbered below s kept long at fits_word =
    let h = kept.0 in
    let stand = kept.1 in
    let v = me.0 in
    let found = slice_index s.words (event_at e) in
    let w = after_look v EventLoad (event_at e) found in
    let told : Looks EventLoad (event_at e) found v w = record { rest = refl } in (
      w,
      keeps,
      tt,
      (h, look_stands sizes h s.words s.views id v EventLoad (event_at e) stand at numbered, slots_kept number sizes h h s.homes s.views id me.0 w kept.2 at refl (λ m low. (same_entry h (sizes.handles + m), same_hand (sizes.handles + m) me.0.stage w.stage refl refl))),
      (
        refl,
        λ other same.
            let is_e : e ≡ other = omega arith in
            subst (λ k. Looks EventLoad (event_at k) found v w × (OwnsAll v → is_set k v.seen ≡ eqb found 1)) is_e (told, λ all. ap (is_set e) (all_seen sizes h s.words s.views id v stand at all).0 ∙ sym (was_one (is_set e h) found (stand.events e below))),
      ),
    )

pub flags_told_allowed : {J : Type 0} (number : J → ℕ) (sizes : Sizes) (slots id i : ℕ) (me : Me (Option J) Known) → 0 < me.0.count → i < index_count sizes → Allows (Kept number sizes) slots id me (flags_at i) (λ n. n) (flags_told (step slots (flags_at i) 0 0 none) me)
flags_told_allowed number sizes slots id i me numbered below s kept long at fits_word =
    let h = kept.0 in
    let stand = kept.1 in
    let v = me.0 in
    let found = slice_index s.words (flags_at i) in
    let w = after_look v ScanFlagsLoad (flags_at i) found in
    let told : Looks ScanFlagsLoad (flags_at i) found v w = record { rest = refl } in (
      w,
      keeps,
      tt,
      (h, look_stands sizes h s.words s.views id v ScanFlagsLoad (flags_at i) stand at numbered, slots_kept number sizes h h s.homes s.views id me.0 w kept.2 at refl (λ m low. (same_entry h (sizes.handles + m), same_hand (sizes.handles + m) me.0.stage w.stage refl refl))),
      (
        refl,
        λ other same.
            let is_i : i ≡ other = omega arith in
            subst (λ k. Looks ScanFlagsLoad (flags_at k) found v w × (OwnsAll v → is_pending k v.seen ≡ (flags_in found).pending)) is_i (told, λ all. ap (is_pending i) (all_seen sizes h s.words s.views id v stand at all).0 ∙ pending_told h found stand.legal (stand.flags.each i below)),
      ),
    )
  where
    pending_told : (h : History) (found : ℕ) → IsLegal sizes h → found ≡ flags_word sizes i h → is_pending i h ≡ (flags_in found).pending
    pending_told h found legal is = by (has_life sizes i h) refl
      where
        by : (b : Bool) → has_life sizes i h ≡ b → is_pending i h ≡ (flags_in found).pending
        by true alive = sym (ap (λ (n : ℕ). (flags_in n).pending) (is ∙ cond-true (has_life sizes i h) (word_of (flags_of i h)) free_word alive) ∙ ap (λ (f : Flags). f.pending) (flags_in-word_of (flags_of i h)))
        by false dead =
            ⊎_elim (λ (p : is_pending i h ≡ true). absurd (let alive = (fits sizes h i legal).alive p in let both : true ≡ false = sym alive ∙ dead in cc)) (λ (p : is_pending i h ≡ false). p ∙ sym (ap (λ (n : ℕ). (flags_in n).pending) (is ∙ ap (λ (b : Bool). cond b (word_of (flags_of i h)) free_word) dead))) (cases_Bool (is_pending i h))
