-- What the calls on lots say, from what their steps tell.
use Rattle.std.proofs.Common.{◌≡◌, ℕ, ◌+◌, ◌<◌, ◌≤◌, Bool, true, false, not, cond, eqb, Option, Some, None, MatchOption, List, [], ◌∷◌, ◌++◌, refl, sym, ap, ◌∙◌, subst, arith}
use Rattle.std.proofs.lemmas.Bool.{and_from, ne_eqb, lt-ltb, le-ltb, ltb-false, not-true}
use Rattle.aio_model.specs.declared.loops.flags.Flags.{Flags}
use Rattle.aio_model.specs.Loop.History.{Sizes, ToCallOnce, New, Enqueue, Put, Cancel, Take, Dequeue, Free, SetEvent, ClearEvent, History}
use Rattle.aio_model.specs.Loop.FlagsWord.{flags_in}
use Rattle.aio_model.specs.Loop.Flags.{is_lot, are_due}
use Rattle.aio_model.specs.Loop.Lists.{job_of}
use Rattle.aio_model.specs.Loop.Legal.{MayFollow, IsLegal}
use Rattle.aio_model.proofs.AnnouncedOnce.{fits, lot_is_no_handle}
use Rattle.aio_model.proofs.LotLives.{may_free-dequeued}
use Rattle.aio_core.specs.Known.{Known}
use Rattle.aio_core.specs.Words.{free_word, index_count}
use Rattle.aio_core.specs.Standing.{Claims, Lifts, Dequeues, PlacesJob}
use Rattle.aio_core.specs.Plays.{Enqueued, Dequeued}
use Rattle.aio_core.specs.Calls.{IsTaken, HasLifted, DequeuesNext}
use Rattle.aio_core.proofs.Told.{dequeues_told}

-- a claimed lot isn't pending when it is enqueued
once_is_first : (sizes : Sizes) (i s : ℕ) (flags : Flags) (before : History) → IsLegal sizes (Enqueue i ToCallOnce s flags ∷ before) → flags.pending ≡ false
once_is_first sizes i s flags before legal =
    let may = legal.0 in
    ap (λ (f : Flags). f.pending) may.1 ∙ ((fits sizes before i legal.1).fresh s may.2.1).0

pub placed_of : (i job found word : ℕ) (v m w : Known) → found ≡ free_word → Claims i job found v m → Enqueued i 11 word m w → PlacesJob i job v w
placed_of i job found word v m w free claims enqueued =
    let makes = enqueued.enqueues.makes in
    record {
      claimed = m;
      flags = enqueued.flags;
      claims = subst (λ n. Claims i job n v m) free claims;
      enqueues = enqueued.enqueues;
      first = once_is_first m.sizes i m.first enqueued.flags (makes.others ++ m.seen) (subst (IsLegal m.sizes) makes.seen makes.legal);
    }

-- a seat keeps its numbers, whether the lot was free or not
pub same_placed : {J : Type 0} (i number : ℕ) (x : J) (v w : Known) (back : Option J) → MatchOption back (PlacesJob i number v w) (λ y. (y ≡ x) × IsTaken i v w) → (w.sizes ≡ v.sizes) × (w.first ≡ v.first) × (w.count ≡ v.count)
same_placed i number x v w None told =
    let claimed = told.claims.rest in
    let enqueued = told.enqueues.rest in
    (ap (λ (k : Known). k.sizes) enqueued ∙ ap (λ (k : Known). k.sizes) claimed, ap (λ (k : Known). k.first) enqueued ∙ ap (λ (k : Known). k.first) claimed, ap (λ (k : Known). k.count) enqueued ∙ ap (λ (k : Known). k.count) claimed)
same_placed i number x v w (Some y) told =
    let looked = told.1.looks.rest in
    (ap (λ (k : Known). k.sizes) looked, ap (λ (k : Known). k.first) looked, ap (λ (k : Known). k.count) looked)

-- Dequeues.

-- a handle has no job
pub handle_has_no_job : (sizes : Sizes) (i : ℕ) (h : History) → IsLegal sizes h → i < sizes.handles → job_of i h ≡ None
handle_has_no_job sizes i [] legal low = refl
handle_has_no_job sizes i (New j s job ∷ h) legal low =
    let e : eqb i j ≡ false = ne_eqb i j (λ q. lot_is_no_handle sizes j legal.0.0 (subst (λ k. k < sizes.handles) q low)) in
    rw e (handle_has_no_job sizes i h legal.1 low)
handle_has_no_job sizes i (Enqueue j asked s was ∷ h) legal low = handle_has_no_job sizes i h legal.1 low
handle_has_no_job sizes i (Put j s ∷ h) legal low = handle_has_no_job sizes i h legal.1 low
handle_has_no_job sizes i (Cancel j s was ∷ h) legal low = handle_has_no_job sizes i h legal.1 low
handle_has_no_job sizes i (Take ∷ h) legal low = handle_has_no_job sizes i h legal.1 low
handle_has_no_job sizes i (Dequeue j ran ∷ h) legal low = handle_has_no_job sizes i h legal.1 low
handle_has_no_job sizes i (Free j ∷ h) legal low = by (eqb i j) (handle_has_no_job sizes i h legal.1 low)
  where
    by : (b : Bool) → job_of i h ≡ None → cond b None (job_of i h) ≡ None
    by true e = refl
    by false e = e
handle_has_no_job sizes i (SetEvent j s ∷ h) legal low = handle_has_no_job sizes i h legal.1 low
handle_has_no_job sizes i (ClearEvent j was ∷ h) legal low = handle_has_no_job sizes i h legal.1 low

pub handle_dequeued : (sizes : Sizes) (i : ℕ) (flags : Flags) (v m w : Known) → v.sizes ≡ sizes → i < sizes.handles → HasLifted i v m → Dequeues i flags m w → DequeuesNext i flags None v w
handle_dequeued sizes i flags v m w sizes_are low lifted dequeues =
    let handle : i < v.sizes.handles = subst (λ z. i < z.handles) (sym sizes_are) low in
    let legal : IsLegal v.sizes w.seen = subst (λ z. IsLegal z w.seen) (ap (λ (k : Known). k.sizes) lifted.lifts.rest) dequeues.makes.legal in
    record {
      found = lifted.found;
      more = lifted.more;
      lifted = m;
      below = omega arith;
      first = lifted.first;
      lifts = lifted.lifts;
      dequeues = dequeues;
      job_is = handle_has_no_job v.sizes i w.seen legal handle;
      of_lot = sym (ap not (lt-ltb i v.sizes.handles handle));
    }

pub lot_dequeued_next : (sizes : Sizes) (i word found job : ℕ) (flags : Flags) (more : List ℕ) (v m w : Known) → v.sizes ≡ sizes → (sizes.handles ≤ i) × (i < index_count sizes) → v.stage.slices ≡ (i + 1) ∷ more → Lifts i word (Some job) more v m → Dequeued i found m w → flags ≡ flags_in found → job_of i w.seen ≡ Some job → DequeuesNext i flags (Some job) v w
lot_dequeued_next sizes i word found job flags more v m w sizes_are lot first lifts told is job_is =
    let above : v.sizes.handles ≤ i = subst (λ z. z.handles ≤ i) (sym sizes_are) lot.0 in
    record {
      found = word;
      more = more;
      lifted = m;
      below = subst (λ z. i < index_count z) (sym sizes_are) lot.1;
      first = first;
      lifts = lifts;
      dequeues = dequeues_told i found flags m w told is;
      job_is = job_is;
      of_lot = sym (ap not (le-ltb i v.sizes.handles above));
    }

-- a lot that was dequeued may be freed
pub may_free-lot : (i : ℕ) (job : Option ℕ) (flags : Flags) (v w : Known) → v.sizes.handles ≤ i → DequeuesNext i flags job v w → MayFollow v.sizes (Free i) w.seen
may_free-lot i job flags v w above next =
    let makes = next.dequeues.makes in
    let sizes : next.lifted.sizes ≡ v.sizes = ap (λ (k : Known). k.sizes) next.lifts.rest in
    let legal : IsLegal v.sizes (Dequeue i (are_due flags) ∷ (makes.others ++ next.lifted.seen)) = subst (λ z. IsLegal z (Dequeue i (are_due flags) ∷ (makes.others ++ next.lifted.seen))) sizes (subst (IsLegal next.lifted.sizes) makes.seen makes.legal) in
    let lot : is_lot v.sizes i ≡ true = and_from _ _ (ap not (le-ltb i v.sizes.handles above)) (lt-ltb i (v.sizes.handles + v.sizes.lots) next.below) in
    subst (MayFollow v.sizes (Free i)) (sym makes.seen) (may_free-dequeued v.sizes i (are_due flags) (makes.others ++ next.lifted.seen) legal lot)

-- what had a job is a lot
pub may_free-next : (i job : ℕ) (flags : Flags) (v w : Known) → DequeuesNext i flags (Some job) v w → MayFollow v.sizes (Free i) w.seen
may_free-next i job flags v w next =
    may_free-lot i (Some job) flags v w (ltb-false i v.sizes.handles (not-true _ (sym next.of_lot))) next
