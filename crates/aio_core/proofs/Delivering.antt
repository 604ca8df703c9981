-- The enqueue of a claimed lot keeps the rule: its slot is given back with the job.
use Rattle.std.proofs.Common.{◌≡◌, ◌≢◌, ℕ, ◌+◌, ◌<◌, true, false, eqb, ltb, Option, Some, None, List, ◌∷◌, set, slice_index, bit_or, refl, sym, ap, ◌∙◌, subst, arith}
use Rattle.std.proofs.lemmas.Bool.{ne_eqb, eq-eqb}
use mathlib.Core.Option.{some, none}
use lib.ListN.{get_elem?}
use Rattle.atomic_table.specs.Table.{Me, gives, step, Allows}
use Rattle.atomic_table.proofs.Lists.{set_else, set_here}
use Rattle.aio_model.specs.Loop.FlagsWord.{word_of}
use Rattle.aio_model.specs.Loop.History.{Sizes, ToCallOnce, Enqueue, History}
use Rattle.aio_model.specs.Loop.Flags.{has_life, was_dequeued, is_pending, flags_of, is_due}
use Rattle.aio_model.specs.Loop.Lists.{claimer_of, job_of, out_of, head_of}
use Rattle.aio_model.specs.Loop.Legal.{IsLegal}
use Rattle.aio_model.specs.Loop.Seats.{owns, home}
use Rattle.aio_model.specs.Loop.InFlight.{Phase, LotClaimed, flight_of}
use Rattle.aio_model.proofs.AnnouncedOnce.{fits, head_is_pending}
use Rattle.aio_core.specs.Words.{flags_at, index_count, next_in}
use Rattle.aio_core.specs.Known.{Stage, Known, numbers_of}
use Rattle.aio_core.specs.Rule.{SeatsStand, IsClaimed, Owes, IsOut, HasOut, push_of, store_of, is_at_hand, IsFull, HasJob, Kept, SlotOf}
use Rattle.aio_core.specs.Standing.{Enqueues}
use Rattle.aio_core.specs.Plays.{Enqueued, lot_enqueued}
use Rattle.table_seats.proofs.Entries.{owns_first}
use Rattle.table_seats.proofs.Seats.{each_set}
use Rattle.aio_core.proofs.Seats.{makes_of}
use Rattle.aio_core.proofs.Flags.{flags_again}
use Rattle.aio_core.proofs.Masks.{enqueued_flags, enqueued_word}
use Rattle.aio_core.proofs.Enqueuing.{IsCalm, after_enqueuing, enqueue_stands}
use Rattle.aio_core.proofs.Slots.{same_lot, same_stage, slots_change}
use Rattle.aio_core.proofs.Lives.{or_true, claimed_lives}

claimed_is_fresh : (sizes : Sizes) (h : History) (n i job : ℕ) → IsLegal sizes h → IsClaimed sizes h n i job → (is_pending i h ≡ false) × (was_dequeued i h ≡ false)
claimed_is_fresh sizes h n i job legal claimed = (fits sizes h i legal).fresh n claimed.by_it

-- another seat has another lot
claimed_apart : (sizes : Sizes) (h : History) (views : List Known) (id other : ℕ) (v u : Known) (i j a b : ℕ) → SeatsStand sizes h views → get_elem? views id ≡ some v → get_elem? views other ≡ some u → other ≢ id → IsClaimed sizes h v.first i a → 0 < v.count → IsClaimed sizes h u.first j b → 0 < u.count → eqb j i ≡ false
claimed_apart sizes h views id other v u i j a b seats at atu ne mine has theirs have =
    ne_eqb j i (λ same.
    let firsts : v.first ≡ u.first = some_is v.first u.first (sym mine.by_it ∙ ap (λ k. claimer_of k h) (sym same) ∙ theirs.by_it) in
    let not_theirs : owns (numbers_of u) v.first ≡ false = seats.parts.apart id other v u at atu (λ q. ne (sym q)) v.first (owns_first (numbers_of v) has) in
    let is_theirs : owns (numbers_of u) v.first ≡ true = subst (λ k. owns (numbers_of u) k ≡ true) (sym firsts) (owns_first (numbers_of u) have) in
    cc)
  where
    some_is : (p q : ℕ) → Some p ≡ Some q → p ≡ q
    some_is p q e = cc

calm_claimed : (p : Phase) (i job : ℕ) → p ≡ LotClaimed i job → IsCalm p
calm_claimed p i job e = record { pushes = ap push_of e; stores = ap store_of e; flies = ap flight_of e }

-- what is pending isn't at hand where it is not pending
not_at_hand : (words : List ℕ) (h : History) (i : ℕ) (sizes : Sizes) (u : Known) → IsLegal sizes h → is_pending i h ≡ false → owns (numbers_of u) home ≡ true → HasOut words h u → is_at_hand i u.stage.hand ≡ false
not_at_hand words h i sizes u legal idle own has = by u.stage.hand (has own).0
  where
    by : (hand : Option ℕ) → IsOut (next_in words) u.stage.slices hand (out_of h) → is_at_hand i hand ≡ false
    by None out = refl
    by (Some j) out =
        ne_eqb i j (λ e. absurd (let first : head_of (out_of h) ≡ Some j = ap head_of out.1 in let pending = head_is_pending sizes h j (is_due j h) (fits sizes h j legal) first in let both : true ≡ false = sym (subst (λ k. is_pending k h ≡ true) (sym e) pending) ∙ idle in cc))

has_here : {J : Type 0} (number : J → ℕ) (i : ℕ) (stage : Stage) (job : Option ℕ) (x : J) (at : mathlib.Core.Option.Option (SlotOf J)) → is_at_hand i stage.hand ≡ false → at ≡ some (some (Some x)) → job ≡ Some (number x) → HasJob number i stage job at
has_here number i stage job x at away place is = rw away (x, place, is)

module _ {J : Type 0} (number : J → ℕ) where
  pub lot_enqueue_allowed : (sizes : Sizes) (slots id m job : ℕ) (x : J) (v : Known) (c : List (ℕ × Option J)) → slots ≡ sizes.lots → m < sizes.lots → 0 < v.count → v.phase ≡ LotClaimed (sizes.handles + m) job → job ≡ number x → Allows (Kept number sizes) slots id (v, (m, Some x) ∷ c) (flags_at (sizes.handles + m)) (λ n. bit_or n 11) (lot_enqueued number (step slots (flags_at (sizes.handles + m)) 11 0 none) (v, (m, Some x) ∷ c))
  lot_enqueue_allowed sizes slots id m job x v c room low numbered phase job_is s kept long at fits_word =
      let h = kept.0 in
      let stand = kept.1 in
      let i = sizes.handles + m in
      let flags = flags_of i h in
      let below : i < index_count sizes = omega arith in
      let claimed : IsClaimed sizes h v.first i job = subst (Owes sizes s.words h v.first) phase (stand.lists.owed id v at) in
      let fresh = claimed_is_fresh sizes h v.first i job stand.legal claimed in
      let alive_lot = claimed_lives i v.first h claimed.by_it in
      let alive : has_life sizes i h ≡ true = rw alive_lot (or_true (ltb i sizes.handles)) in
      let found : slice_index s.words (flags_at i) ≡ word_of flags = flags_again sizes h s.words i stand.flags below alive in
      let word : bit_or (slice_index s.words (flags_at i)) 11 ≡ word_of (enqueued_flags ToCallOnce flags) = ap (λ n. bit_or n 11) found ∙ enqueued_word ToCallOnce flags in
      let entry = Enqueue i ToCallOnce v.first flags in
      let now = enqueue_stands sizes h s.words s.views id v i ToCallOnce stand at numbered (calm_claimed v.phase i job phase) alive below (claimed.lot, claimed.by_it) (λ beside j other u ne atu full theirs. claimed_apart sizes h s.views id beside v u i j job other stand.seats at atu ne claimed numbered theirs full) (bit_or (slice_index s.words (flags_at i)) 11) word in
      let w = after_enqueuing v h i ToCallOnce in
      let same : eqb i i ≡ true = eq-eqb i i refl in
      let placed : get_elem? (set s.homes m (some (Some x))) m ≡ some (some (Some x)) = set_here s.homes m (some (Some x)) (omega arith) in
      let slots_now = slots_change number sizes h (entry ∷ h) s.homes (set s.homes m (some (Some x))) s.views id v w m kept.2 at refl
      (λ other ne small. let away : eqb (sizes.handles + other) i ≡ false = ne_eqb (sizes.handles + other) i (λ q. ne (omega arith)) in (same_lot (sizes.handles + other) entry h refl refl away refl, set_else s.homes m other (some (Some x)) ne, same_stage (sizes.handles + other) v.stage v.stage refl))
      (λ small gone. absurd (let both : true ≡ false = sym alive_lot ∙ gone in cc))
      (λ small life gone. absurd (let both : false ≡ true = sym fresh.1 ∙ gone in cc))
      (each_set (HasOut s.words h) (λ u. owns (numbers_of u) home ≡ true → m < sizes.lots → IsFull (entry ∷ h) i → HasJob number i u.stage (job_of i h) (get_elem? (set s.homes m (some (Some x))) m)) s.views id w stand.lists.out
      (λ own small full. has_here number i v.stage (job_of i h) x (get_elem? (set s.homes m (some (Some x))) m) (not_at_hand s.words h i sizes v stand.legal fresh.0 own (stand.lists.out id v at)) placed (claimed.job_is ∙ ap Some job_is))
      (λ far u ne atu has own small full. has_here number i u.stage (job_of i h) x (get_elem? (set s.homes m (some (Some x))) m) (not_at_hand s.words h i sizes u stand.legal fresh.0 own has) placed (claimed.job_is ∙ ap Some job_is))) in
      let enqueues_it : Enqueues i ToCallOnce flags v w = record { makes = makes_of sizes h entry v w (stand.seats.parts.each id v at) (stand.seats.tables id v at) numbered refl refl now.legal; rest = refl } in
      let told : Enqueued i 11 (slice_index s.words (flags_at i)) v w = record { flags = flags; found_is = found; enqueues = enqueues_it } in
      (w, gives, tt, (entry ∷ h, now, slots_now), (refl, λ j q. let is_i : i ≡ j = omega arith in subst (λ k. Enqueued k 11 (slice_index s.words (flags_at i)) v w) is_i told))

-- the same of any seat that has the slot
pub lot_enqueue_of : {J : Type 0} (number : J → ℕ) (sizes : Sizes) (slots id m job : ℕ) (x : J) (me : Me (Option J) Known) (c : List (ℕ × Option J)) → me.1 ≡ (m, Some x) ∷ c → slots ≡ sizes.lots → m < sizes.lots → 0 < me.0.count → me.0.phase ≡ LotClaimed (sizes.handles + m) job → job ≡ number x → Allows (Kept number sizes) slots id me (flags_at (sizes.handles + m)) (λ n. bit_or n 11) (lot_enqueued number (step slots (flags_at (sizes.handles + m)) 11 0 none) me)
lot_enqueue_of number sizes slots id m job x me c held room low numbered phase job_is =
    subst (λ l. Allows (Kept number sizes) slots id (me.0, l) (flags_at (sizes.handles + m)) (λ n. bit_or n 11) (lot_enqueued number (step slots (flags_at (sizes.handles + m)) 11 0 none) (me.0, l))) (sym held) (lot_enqueue_allowed number sizes slots id m job x me.0 c room low numbered phase job_is)
