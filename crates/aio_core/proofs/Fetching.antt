-- The lift and the dequeue of a lot keep the rule: its slot is taken with the job by the one, and given back empty by the other.
use Rattle.std.proofs.Common.{◌≡◌, ℕ, ◌+◌, ◌<◌, ◌≤◌, true, false, eqb, Option, Some, None, List, ◌∷◌, ◌++◌, set, slice_index, bit_and, refl, sym, ap, ◌∙◌, subst, ⊎_elim, arith}
use Rattle.std.proofs.lemmas.Bool.{cases_Bool, ne_eqb, eq-eqb}
use mathlib.Core.Option.{some, none}
use lib.ListN.{get_elem?}
use Rattle.atomic_table.specs.Table.{Me, takes, gives, step, Allows}
use Rattle.atomic_table.proofs.Lists.{set_else, set_here}
use Rattle.aio_model.specs.Loop.FlagsWord.{word_of}
use Rattle.aio_model.specs.Loop.History.{Sizes, Dequeue, History}
use Rattle.aio_model.specs.Loop.Flags.{is_lot, was_dequeued, is_pending, flags_of, are_due, is_due}
use Rattle.aio_model.specs.Loop.Lists.{claimer_of, job_of, out_of, head_of}
use Rattle.aio_model.specs.Loop.Legal.{IsLegal}
use Rattle.aio_model.specs.Loop.Seats.{owns, home}
use Rattle.aio_model.proofs.AnnouncedOnce.{fits, head_is_pending}
use Rattle.aio_model.proofs.LotLives.{pending_lot_lives}
use Rattle.aio_core.specs.Words.{flags_at, next_at, index_count, next_in}
use Rattle.aio_core.specs.Known.{NextLoad, Stage, Known, numbers_of}
use Rattle.aio_core.specs.Rule.{IsOut, NoneEmpty, HasOut, is_at_hand, IsFull, HasJob, Kept, SlotOf}
use Rattle.aio_core.specs.Standing.{done, without_first, Makes, Lifts, Dequeues}
use Rattle.aio_core.specs.Plays.{Dequeued, lot_lifted, lot_dequeued}
use Rattle.table_seats.proofs.Seats.{each_set}
use Rattle.aio_core.proofs.Seats.{makes_of, same_view}
use Rattle.aio_core.proofs.Histories.{pending_below, out_below}
use Rattle.aio_core.proofs.Flags.{flags_again}
use Rattle.aio_core.proofs.Masks.{dequeued_flags, dequeued_word}
use Rattle.aio_core.proofs.Sleeping.{same_flight}
use Rattle.aio_core.proofs.Sliced.{out_lifted, none_empty-lifted, lifted_word_below}
use Rattle.aio_core.proofs.Keeping.{load_stands}
use Rattle.aio_core.proofs.Dequeuing.{after_dequeue, at_hand, hand_is_pending, dequeue_stands, same_older, same_index}
use Rattle.aio_core.proofs.Slots.{same_lot, same_entry, slots_change}
use Rattle.aio_core.proofs.Claiming.{lot_at}

abbrev pub after_lot_lift : Known → ℕ → ℕ → List ℕ → ℕ → Known
after_lot_lift v i found more job =
    record v { did = done NextLoad (next_at i) found ∷ v.did; stage = record { slices = without_first found more; hand = Some i; job = Some job } }

-- what is out and a lot is full
out_is_full : (sizes : Sizes) (h : History) (i : ℕ) → IsLegal sizes h → is_lot sizes i ≡ true → is_pending i h ≡ true → IsFull h i
out_is_full sizes h i legal lot pending =
    record {
      alive = pending_lot_lives sizes i h legal lot pending;
      not_dequeued = ⊎_elim (λ gone. absurd (let idle = (fits sizes h i legal).done lot gone in let both : true ≡ false = sym pending ∙ idle in cc)) (λ q. q) (cases_Bool (was_dequeued i h));
      enqueued = none_claims (claimer_of i h) (λ n e. let idle = ((fits sizes h i legal).fresh n e).0 in let both : true ≡ false = sym pending ∙ idle in cc);
    }
  where
    none_claims : (o : Option ℕ) → ((n : ℕ) → o ≡ Some n → ⊥) → o ≡ None
    none_claims None k = refl
    none_claims (Some n) k = absurd (k n refl)

module _ {J : Type 0} (number : J → ℕ) where
  pub lot_lift_allowed : (sizes : Sizes) (slots id m : ℕ) (more : List ℕ) (me : Me (Option J) Known) → m < sizes.lots → 0 < me.0.count → owns (numbers_of me.0) home ≡ true → me.0.stage.slices ≡ (sizes.handles + m + 1) ∷ more → me.0.stage.hand ≡ None → Allows (Kept number sizes) slots id me (next_at (sizes.handles + m)) (λ n. n) (lot_lifted number (step slots (next_at (sizes.handles + m)) 0 0 none) me)
  lot_lift_allowed sizes slots id m more me low numbered is_home slices hand s kept long at fits_word =
      let h = kept.0 in
      let stand = kept.1 in
      let v = me.0 in
      let i = sizes.handles + m in
      let lot = lot_at sizes m low in
      let found = next_in s.words i in
      let now = stand.lists.out id v at is_home in
      let out : IsOut (next_in s.words) ((i + 1) ∷ more) None (out_of h) = subst (λ o. IsOut (next_in s.words) ((i + 1) ∷ more) o (out_of h)) hand (subst (λ l. IsOut (next_in s.words) l v.stage.hand (out_of h)) slices now.0) in
      let full_slices : NoneEmpty ((i + 1) ∷ more) = subst NoneEmpty slices now.1 in
      let lifted : IsOut (next_in s.words) (without_first found more) (Some i) (out_of h) = out_lifted (next_in s.words) i more (out_of h) out in
      let first : head_of (out_of h) ≡ Some i = ap head_of lifted.1 in
      let pending = head_is_pending sizes h i (is_due i h) (fits sizes h i stand.legal) first in
      let is_full = out_is_full sizes h i stand.legal lot pending in
      let slot : HasJob number i v.stage (job_of i h) (get_elem? s.homes m) = kept.2.full id v at is_home m low is_full in
      let here : (x : J) × (get_elem? s.homes m ≡ some (some (Some x))) × (job_of i h ≡ Some (number x)) = rw hand at slot in
      let x = here.0 in
      let w = after_lot_lift v i found more (number x) in
      let has : HasOut s.words h w = λ own. (lifted, none_empty-lifted (next_in s.words) i more full_slices.1) in
      let stands = load_stands sizes h s.words s.views id (next_at i) v w stand at numbered (same_view v w refl refl refl) refl refl (stand.lists.owed id v at) has (record { step = done NextLoad (next_at i) found; longer = refl; sleep_is = refl; flight = same_flight v.phase v.phase refl }) in
      let same : eqb i i ≡ true = eq-eqb i i refl in
      let slots_now = slots_change number sizes h h s.homes (set s.homes m none) s.views id v w m kept.2 at refl
      (λ other ne small. let away : eqb (sizes.handles + other) i ≡ false = ne_eqb (sizes.handles + other) i (λ q. ne (omega arith)) in (same_entry h (sizes.handles + other), set_else s.homes m other none ne, record { hand = away ∙ sym (ap (is_at_hand (sizes.handles + other)) hand); job = λ e. absurd (let none_held : false ≡ true = sym (ap (is_at_hand (sizes.handles + other)) hand) ∙ e in cc) }))
      (λ small gone. absurd (let both : true ≡ false = sym is_full.alive ∙ gone in cc))
      (λ small life gone. absurd (let both : false ≡ true = sym is_full.not_dequeued ∙ gone in cc))
      (each_set (λ u. Unit {0}) (λ u. owns (numbers_of u) home ≡ true → m < sizes.lots → IsFull h i → HasJob number i u.stage (job_of i h) (get_elem? (set s.homes m none) m)) s.views id w (λ far u atu. tt)
      (λ own small full. rw same here.2)
      (λ far u ne atu old own small full. absurd (let no_home : owns (numbers_of u) home ≡ false = stand.seats.parts.apart id far v u at atu (λ q. ne (sym q)) home is_home in let both : true ≡ false = sym own ∙ no_home in cc))) in
      let sizes_are : v.sizes ≡ sizes = (stand.seats.tables id v at).sizes_are numbered in
      let below : found ≤ index_count v.sizes = subst (λ z. found ≤ index_count z) (sym sizes_are) (lifted_word_below (next_in s.words) i (index_count sizes) more (out_of h) out (out_below sizes h stand.legal)) in
      let told : Lifts i found (Some (number x)) more v w = record { below = below; rest = refl } in (
        w,
        takes m (Some x),
        here.1,
        (h, stands, slots_now),
        λ k others eq.
            let both : (i + 1) ∷ more ≡ (v.sizes.handles + k + 1) ∷ others = sym slices ∙ eq in
            let firsts : i + 1 ≡ v.sizes.handles + k + 1 = first_of i (v.sizes.handles + k) more others both in
            let rests : more ≡ others = rest_of i (v.sizes.handles + k) more others both in
            let index : i ≡ v.sizes.handles + k = omega arith in
            let handles : v.sizes.handles ≡ sizes.handles = ap (λ (z : Sizes). z.handles) sizes_are in
            let m_is : m ≡ k = omega arith in
            (x, ap (λ n. (n, Some x) ∷ me.1) m_is, subst (λ n. Lifts n found (Some (number x)) others v w) index (subst (λ l. Lifts i found (Some (number x)) l v w) rests told)),
      )
    where
      first_of : (a b : ℕ) (xs ys : List ℕ) → (a + 1) ∷ xs ≡ (b + 1) ∷ ys → a + 1 ≡ b + 1
      first_of a b xs ys e = cc

      rest_of : (a b : ℕ) (xs ys : List ℕ) → (a + 1) ∷ xs ≡ (b + 1) ∷ ys → xs ≡ ys
      rest_of a b xs ys e = cc

  -- The dequeue of a lot, which gives its slot back.

  pub lot_dequeue_allowed : (sizes : Sizes) (slots id m : ℕ) (v : Known) (c : List (ℕ × Option J)) → slots ≡ sizes.lots → m < sizes.lots → 0 < v.count → owns (numbers_of v) home ≡ true → v.stage.hand ≡ Some (sizes.handles + m) → Allows (Kept number sizes) slots id (v, (m, None) ∷ c) (flags_at (sizes.handles + m)) (λ n. bit_and n 18446744073709551596) (lot_dequeued number (step slots (flags_at (sizes.handles + m)) 18446744073709551596 0 none) (v, (m, None) ∷ c))
  lot_dequeue_allowed sizes slots id m v c room low numbered is_home hand s kept long at fits_word =
      let h = kept.0 in
      let stand = kept.1 in
      let i = sizes.handles + m in
      let lot = lot_at sizes m low in
      let flags = flags_of i h in
      let held = at_hand sizes h s.words s.views id v i stand at is_home hand in
      let pending = hand_is_pending sizes h s.words s.views id v i stand held.0 held.1 in
      let alive = (fits sizes h i stand.legal).alive pending in
      let is_full = out_is_full sizes h i stand.legal lot pending in
      let found : slice_index s.words (flags_at i) ≡ word_of flags = flags_again sizes h s.words i stand.flags (pending_below sizes h i stand.legal pending) alive in
      let word : bit_and (slice_index s.words (flags_at i)) 18446744073709551596 ≡ word_of (dequeued_flags flags) = ap (λ n. bit_and n 18446744073709551596) found ∙ dequeued_word flags in
      let entry = Dequeue i (are_due flags) in
      let now = dequeue_stands sizes h s.words s.views id v i stand at numbered is_home hand (bit_and (slice_index s.words (flags_at i)) 18446744073709551596) word in
      let w = after_dequeue v h i in
      let same : eqb i i ≡ true = eq-eqb i i refl in
      let placed : get_elem? (set s.homes m (some None)) m ≡ some (some None) = set_here s.homes m (some None) (omega arith) in
      let slot : HasJob number i v.stage (job_of i h) (get_elem? s.homes m) = kept.2.full id v at is_home m low is_full in
      let job_is : job_of i h ≡ v.stage.job = held_job i v.stage (job_of i h) (get_elem? s.homes m) (ap (is_at_hand i) hand ∙ same) slot in
      let slots_now = slots_change number sizes h (entry ∷ h) s.homes (set s.homes m (some None)) s.views id v w m kept.2 at refl
      (λ other ne small. let away : eqb (sizes.handles + other) i ≡ false = ne_eqb (sizes.handles + other) i (λ q. ne (omega arith)) in (same_lot (sizes.handles + other) entry h refl refl refl away, set_else s.homes m other (some None) ne, record { hand = sym (ap (is_at_hand (sizes.handles + other)) hand ∙ away); job = λ e. absurd (let none_held : false ≡ true = sym (ap (is_at_hand (sizes.handles + other)) hand ∙ away) ∙ e in cc) }))
      (λ small gone. absurd (let both : true ≡ false = sym is_full.alive ∙ gone in cc))
      (λ small life gone. placed)
      (λ far u atu own small full. absurd (let gone : true ≡ false = rw same at full.not_dequeued in cc)) in
      let is = stand.seats.parts.each id v at in
      let makes : Makes entry v w = makes_of sizes h entry v w is (stand.seats.tables id v at) numbered refl refl now.0.legal in
      let dequeues_it : Dequeues i flags v w = record { makes = makes; were = ap (flags_of i) (same_older entry h (makes.others ++ v.seen) makes.seen); left = now.1; rest = refl } in
      let told : Dequeued i (slice_index s.words (flags_at i)) v w = record { flags = flags; found_is = found; dequeues = dequeues_it } in
      (w, gives, tt, (entry ∷ h, now.0, slots_now), (refl, λ j eq. let index : i ≡ j = same_index i j (sym hand ∙ eq) in subst (λ k. Dequeued k (slice_index s.words (flags_at i)) v w × (job_of k (entry ∷ h) ≡ v.stage.job)) index (told, job_is)))
    where
      held_job : (i : ℕ) (stage : Stage) (job : Option ℕ) (place : mathlib.Core.Option.Option (SlotOf J)) → is_at_hand i stage.hand ≡ true → HasJob number i stage job place → job ≡ stage.job
      held_job i stage job place e has = rw e at has

-- the dequeue of any seat that has the slot
pub lot_dequeue_of : {J : Type 0} (number : J → ℕ) (sizes : Sizes) (slots id m : ℕ) (me : Me (Option J) Known) (c : List (ℕ × Option J)) → me.1 ≡ (m, None) ∷ c → slots ≡ sizes.lots → m < sizes.lots → 0 < me.0.count → owns (numbers_of me.0) home ≡ true → me.0.stage.hand ≡ Some (sizes.handles + m) → Allows (Kept number sizes) slots id me (flags_at (sizes.handles + m)) (λ n. bit_and n 18446744073709551596) (lot_dequeued number (step slots (flags_at (sizes.handles + m)) 18446744073709551596 0 none) me)
lot_dequeue_of number sizes slots id m me c held room low numbered is_home hand =
    subst (λ l. Allows (Kept number sizes) slots id (me.0, l) (flags_at (sizes.handles + m)) (λ n. bit_and n 18446744073709551596) (lot_dequeued number (step slots (flags_at (sizes.handles + m)) 18446744073709551596 0 none) (me.0, l))) (sym held) (lot_dequeue_allowed number sizes slots id m me.0 c room low numbered is_home hand)
