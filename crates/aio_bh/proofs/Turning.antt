-- What the calls of the home's seat tell a poll: its take, its next dequeue, and an entry into a callback.
use Rattle.std.proofs.Common.{◌≡◌, ℕ, ◌+◌, ◌-◌, ◌<◌, ◌≤◌, Bool, true, false, not, ◌&&◌, ◌||◌, cond, ltb, Option, None, Some, is_some, option_map, MatchBool, List, length, length-append, eqb, arith, [], ◌∷◌, ◌++◌, refl, sym, ap, ◌∙◌, subst}
use Rattle.std.proofs.lemmas.Bool.{false≢true, lt-ltb, ltb-true}
use Rattle.aio_model.specs.declared.loops.flags.Flags.{Flags}
use Rattle.aio_model.specs.Loop.History.{Sizes, Take, Dequeue, Free, History}
use Rattle.aio_model.specs.Loop.Flags.{is_idle, is_lot, are_due}
use Rattle.aio_model.specs.Loop.Lists.{out_of, job_of}
use Rattle.aio_model.specs.Loop.Legal.{IsLegal}
use Rattle.aio_model.specs.Loop.Seats.{home, entries_of}
use Rattle.aio_model.specs.Loop.Frame.{PollPlace, Entered, Makes, are_of_callback}
use Rattle.aio_model.specs.Loop.InFlight.{AtRest}
use Rattle.aio_model.proofs.AnnouncedOnce.{out_of-dequeue, lot_is_no_handle}
use Rattle.aio_core.specs.Known.{Known, empty_stage, numbers_of}
use Rattle.aio_core.specs.Words.{index_count}
use Rattle.aio_core.specs.Standing.{is_empty, with_slice, without_first, Frees}
use Rattle.aio_core.specs.Calls.{TableState, SeatState, IsSeatOf, HasTaken, DequeuesNext, number_in}
use Rattle.aio_core.proofs.OneShots.{may_free-next}
use Rattle.aio_bh.specs.declared.polled.Polled.{Polled}
use Rattle.aio_bh.specs.HomeSteps.{home_steps, steps_for}
use Rattle.aio_bh.specs.Running.{SeatComesBack}
use Rattle.aio_bh.specs.Polling.{HomeGoesOn}
use Rattle.aio_bh.specs.PollFrames.{far, poll_place_of, GoesFurther, CanTake, IsBetween, MayEnd, TakesNext, FreesLot, TakesAndSome}
use Rattle.aio_bh.proofs.Entries.{none_of_home, out_beside, out_kept}
use Rattle.aio_bh.proofs.HomeSteps.{none_added, more_added, two_steps}
use Rattle.aio_bh.proofs.Parts.{changes, EntersSome-same, some-none}

-- The take.

pub HomeGoesOn-take : (a b : Known) → a.first ≡ 64 → a.count ≡ 1 → HasTaken a b → HomeGoesOn a b
HomeGoesOn-take a b first count taken =
    let makes = taken.takes.makes in
    let none = none_of_home (numbers_of a) makes.others first count makes.not_own in
    record {
      between = Take ∷ makes.others;
      seen = makes.seen;
      mine = makes.mine ∙ ap (λ (l : History). Take ∷ (l ++ a.mine)) (sym none);
      legal = makes.legal;
      rest = changes a b _ _ taken.takes.rest;
      steps = more_added (home_steps b.did) (home_steps a.did) 1 (steps_for (entries_of home makes.others)) (ap (λ (k : Known). home_steps k.did) taken.takes.rest) (ap steps_for none);
    }

pub GoesFurther-take : {R : Type 0} (sizes : Sizes) (frame : PollPlace → PollPlace → Type 0) (nests : ℕ) (does : R → Entered → R → Type 0) (a b : Known) (r : R) (p : Polled) → a.first ≡ 64 → a.count ≡ 1 → HasTaken a b → GoesFurther (TakesAndSome sizes frame nests) does (far a r p) (far b r p)
GoesFurther-take sizes frame nests does a b r p first count taken =
    let makes = taken.takes.makes in
    let none = none_of_home (numbers_of a) makes.others first count makes.not_own in
    record {
      at = λ log.
          record {
            log_after = log;
            goes = some-none sizes frame nests (poll_place_of (far a r p) log) (poll_place_of (far b r p) log) (record { others = makes.others; not_home = none; seen = makes.seen; log = refl; progress = refl });
            enters = EntersSome-same does r log;
            counts = λ before. before;
          };
      goes_on = HomeGoesOn-take a b first count taken;
    }

one_slice_more : (slices : List ℕ) (found : ℕ) → length (with_slice slices found) ≤ length slices + 1
one_slice_more slices found = by (eqb found 0)
  where
    by : (none : Bool) → length (cond none slices (slices ++ (found ∷ []))) ≤ length slices + 1
    by true = omega arith
    by false = omega (arith, length-append slices (found ∷ []))

pub between-take : (table : TableState) (deeper : ℕ) (a b : SeatState) → IsSeatOf table b → CanTake table deeper a → HasTaken a.known b.known → IsBetween table deeper b
between-take table deeper a b of can taken =
    let takes = taken.takes in
    record {
      of_table = of;
      rest = ap (λ (k : Known). k.phase) takes.rest ∙ can.rest;
      legal = subst (λ s. IsLegal s b.known.seen) (sym (ap (λ (k : Known). k.sizes) takes.rest) ∙ of.sizes) takes.makes.legal;
      hand = ap (λ (k : Known). k.stage.hand) takes.rest ∙ can.hand;
      job = ap (λ (k : Known). k.stage.job) takes.rest ∙ can.job;
      left = takes.left can.hand;
      few = omega (arith, can.few, one_slice_more a.known.stage.slices taken.found, ap (λ (k : Known). length k.stage.slices) takes.rest);
    }

-- a poll that stands in no other
pub can_take-empty : (table : TableState) (a : SeatState) → IsSeatOf table a → a.known.phase ≡ AtRest → a.known.stage ≡ empty_stage → CanTake table 7 a
can_take-empty table a of rest empty = record {
  of_table = of;
  rest = rest;
  hand = ap (λ s. s.hand) empty;
  job = ap (λ s. s.job) empty;
  few = omega (arith, ap (λ s. length s.slices) empty);
}

-- one that a callback nests
pub can_take-nested : (table : TableState) (deeper : ℕ) (a : SeatState) → 0 < deeper → IsBetween table deeper a → CanTake table (deeper - 1) a
can_take-nested table deeper a some between = record {
  of_table = between.of_table;
  rest = between.rest;
  hand = between.hand;
  job = between.job;
  few = omega (arith, between.few, some);
}

-- once nothing is out no slice is left, so that the frame around goes on
pub no_slices : (slices out : List ℕ) → is_empty slices ≡ is_empty out → out ≡ [] → length slices ≡ 0
no_slices [] out same none = refl
no_slices (i ∷ slices) out same none = absurd (false≢true (same ∙ ap is_empty none))

pub between-drained : (table : TableState) (deeper around : ℕ) (a : SeatState) → around ≤ 8 → IsBetween table deeper a → out_of a.known.seen ≡ [] → IsBetween table around a
between-drained table deeper around a most between none = record {
  of_table = between.of_table;
  rest = between.rest;
  legal = between.legal;
  hand = between.hand;
  job = between.job;
  left = between.left;
  few = omega (arith, most, no_slices a.known.stage.slices (out_of a.known.seen) between.left none);
}

-- The next dequeue.

-- whether it is a lot is whether it has a job
module _ (sizes : Sizes) (i : ℕ) where
  lot_has_job : (job : Option ℕ) → i < index_count sizes → is_some job ≡ not (ltb i sizes.handles) → is_lot sizes i ≡ is_some job
  lot_has_job job below of_lot =
      ap (λ b. not (ltb i sizes.handles) && b) (lt-ltb i (sizes.handles + sizes.lots) below) ∙ and_true (not (ltb i sizes.handles)) ∙ sym of_lot
    where
      and_true : (b : Bool) → (b && true) ≡ b
      and_true true = refl
      and_true false = refl

  jobless_is_handle : (job : Option ℕ) → is_some job ≡ not (ltb i sizes.handles) → job ≡ None → i < sizes.handles
  jobless_is_handle job of_lot none =
      ltb-true i sizes.handles (low (ltb i sizes.handles) (sym (ap is_some none) ∙ of_lot))
    where
      low : (b : Bool) → false ≡ not b → b ≡ true
      low true h = refl
      low false h = absurd (false≢true h)

job_lent : (lot : Bool) (job told : Option ℕ) → lot ≡ is_some job → told ≡ job → cond lot told None ≡ job
job_lent true job told is same = same
job_lent false None told is same = refl
job_lent false (Some n) told is same = absurd (false≢true is)

next_may_end : (i : ℕ) (was : Flags) (job : Option ℕ) (a c : Known) → DequeuesNext i was job a c → MayEnd a.sizes i c.seen
next_may_end i was None a c next lot =
    absurd (false≢true (sym (lot_has_job a.sizes i None next.below next.of_lot) ∙ lot))
next_may_end i was (Some n) a c next lot = may_free-next i n was a c next

fewer_slices : (found : ℕ) (more : List ℕ) → length (without_first found more) ≤ length more + 1
fewer_slices found more = by (eqb found 0)
  where
    by : (none : Bool) → length (cond none more (found ∷ more)) ≤ length more + 1
    by true = omega arith
    by false = omega arith

TakesNext-of : (i : ℕ) (was : Flags) (job : Option ℕ) (a c : Known) (p q : Polled) → a.first ≡ 64 → a.count ≡ 1 → DequeuesNext i was job a c → q ≡ record p { progress = p.progress || (are_due was && not was.idle) } → TakesNext i (are_due was) job a c p q
TakesNext-of i was job a c p q first count next noted =
    let b : Known = next.lifted in
    let makes = next.dequeues.makes in
    let up = next.lifts.rest in
    let same_seen : b.seen ≡ a.seen = ap (λ (k : Known). k.seen) up in
    let same_sizes : b.sizes ≡ a.sizes = ap (λ (k : Known). k.sizes) up in
    let none = none_of_home (numbers_of b) makes.others (ap (λ (k : Known). k.first) up ∙ first) (ap (λ (k : Known). k.count) up ∙ count) makes.not_own in
    let before : makes.others ++ b.seen ≡ makes.others ++ a.seen = ap (λ l. makes.others ++ l) same_seen in
    let seen : c.seen ≡ Dequeue i (are_due was) ∷ (makes.others ++ a.seen) = makes.seen ∙ ap (λ l. Dequeue i (are_due was) ∷ l) before in
    let legal : IsLegal a.sizes c.seen = subst (λ s. IsLegal s c.seen) same_sizes makes.legal in
    let here : IsLegal a.sizes (Dequeue i (are_due was) ∷ (makes.others ++ a.seen)) = subst (IsLegal a.sizes) seen legal in
    record {
      others = makes.others;
      not_home = none;
      seen = seen;
      mine = makes.mine ∙ ap (λ (k : Known). Dequeue i (are_due was) ∷ k.mine) up;
      legal = legal;
      index = next.below;
      job_is = job_lent (is_lot a.sizes i) job (job_of i c.seen) (lot_has_job a.sizes i job next.below next.of_lot) next.job_is;
      handle = jobless_is_handle a.sizes i job next.of_lot;
      may_end = next_may_end i was job a c next;
      was_out = sym (out_beside a.seen makes.others none) ∙ out_of-dequeue (makes.others ++ a.seen) i (are_due was) here.0.0 ∙ ap (λ h. i ∷ out_of h) (sym seen);
      rest = changes b c _ _ next.dequeues.rest ∙ ap (λ (k : Known). record k { seen = c.seen; mine = c.mine; did = c.did; stage = c.stage; told = c.told }) up;
      fewer = omega (arith, ap length next.first, fewer_slices next.found next.more, ap (λ (k : Known). length k.stage.slices) up, ap (λ (k : Known). length k.stage.slices) next.dequeues.rest);
      steps = two_steps (home_steps c.did) (home_steps b.did) (home_steps a.did) (ap (λ (k : Known). home_steps k.did) next.dequeues.rest) (ap (λ (k : Known). home_steps k.did) up);
      progress = noted ∙ ap (λ b. record p { progress = p.progress || (are_due was && not b) }) (ap (λ (f : Flags). f.idle) next.dequeues.were ∙ ap (λ h. is_idle i h) before);
    }

number_mapped : {J : Type 0} (number : J → ℕ) (job : Option J) → number_in number job ≡ option_map number job
number_mapped number None = refl
number_mapped number (Some job) = refl

pub takes_next : {J : Type 0} (number : J → ℕ) (i : ℕ) (was : Flags) (job : Option J) (a c : Known) (p q : Polled) → a.first ≡ 64 → a.count ≡ 1 → DequeuesNext i was (number_in number job) a c → q ≡ record p { progress = p.progress || (are_due was && not was.idle) } → TakesNext i (are_due was) (option_map number job) a c p q
takes_next number i was job a c p q first count next noted =
    TakesNext-of i was (option_map number job) a c p q first count (subst (λ n. DequeuesNext i was n a c) (number_mapped number job) next) noted

-- An entry into a callback.

pub back_same_out : (made : History) (a b : Known) → a.first ≡ 64 → SeatComesBack made a b → out_of b.seen ≡ out_of a.seen
back_same_out made a b first back =
    let own : entries_of home back.between ≡ made = ap (λ n. entries_of n back.between) (sym first) ∙ back.just_these in
    ap out_of back.seen ∙ out_kept a.seen back.between (ap are_of_callback own ∙ back.of_callback)

pub between-back : (table : TableState) (deeper : ℕ) (made : History) (a b : SeatState) → IsSeatOf table b → IsBetween table deeper a → a.known.first ≡ 64 → SeatComesBack made a.known b.known → IsBetween table deeper b
between-back table deeper made a b of between first back =
    record {
      of_table = of;
      rest = ap (λ (k : Known). k.phase) back.rest ∙ between.rest;
      legal = subst (λ s. IsLegal s b.known.seen) (sym (ap (λ (k : Known). k.sizes) back.rest) ∙ of.sizes) back.legal;
      hand = ap (λ (k : Known). k.stage.hand) back.rest ∙ between.hand;
      job = ap (λ (k : Known). k.stage.job) back.rest ∙ between.job;
      left = ap (λ (k : Known). is_empty k.stage.slices) back.rest ∙ between.left ∙ ap is_empty (sym (back_same_out made a.known b.known first back));
      few = omega (arith, between.few, ap (λ (k : Known). length k.stage.slices) back.rest);
    }

-- The end of a turn: a lot is freed, and of a handle nothing is done.

abbrev Finishes : Bool → ℕ → Known → Known → Type 0
Finishes lot i a b = MatchBool lot (Frees i a b) (b ≡ a)

freed_same_out : (i : ℕ) (a b : Known) → a.first ≡ 64 → a.count ≡ 1 → Frees i a b → out_of b.seen ≡ out_of a.seen
freed_same_out i a b first count frees =
    let makes = frees.makes in
    ap out_of makes.seen ∙ out_beside a.seen makes.others (none_of_home (numbers_of a) makes.others first count makes.not_own)

pub finished_same_out : (lot : Bool) (i : ℕ) (a b : Known) → a.first ≡ 64 → a.count ≡ 1 → Finishes lot i a b → out_of b.seen ≡ out_of a.seen
finished_same_out true i a b first count frees = freed_same_out i a b first count frees
finished_same_out false i a b first count same = ap (λ (k : Known). out_of k.seen) same

pub between-finished : (table : TableState) (deeper : ℕ) (lot : Bool) (i : ℕ) (a b : SeatState) → IsSeatOf table b → IsBetween table deeper a → a.known.first ≡ 64 → a.known.count ≡ 1 → Finishes lot i a.known b.known → IsBetween table deeper b
between-finished table deeper true i a b of between first count frees =
    let rest = frees.rest in
    record {
      of_table = of;
      rest = ap (λ (k : Known). k.phase) rest ∙ between.rest;
      legal = subst (λ s. IsLegal s b.known.seen) (sym (ap (λ (k : Known). k.sizes) rest) ∙ of.sizes) frees.makes.legal;
      hand = ap (λ (k : Known). k.stage.hand) rest ∙ between.hand;
      job = ap (λ (k : Known). k.stage.job) rest ∙ between.job;
      left = ap (λ (k : Known). is_empty k.stage.slices) rest ∙ between.left ∙ ap is_empty (sym (freed_same_out i a.known b.known first count frees));
      few = omega (arith, between.few, ap (λ (k : Known). length k.stage.slices) rest);
    }
between-finished table deeper false i a b of between first count same = record {
  of_table = of;
  rest = ap (λ (k : Known). k.phase) same ∙ between.rest;
  legal = subst (λ (k : Known). IsLegal table.sizes k.seen) (sym same) between.legal;
  hand = ap (λ (k : Known). k.stage.hand) same ∙ between.hand;
  job = ap (λ (k : Known). k.stage.job) same ∙ between.job;
  left = ap (λ (k : Known). is_empty k.stage.slices) same ∙ between.left ∙ ap (λ (k : Known). is_empty (out_of k.seen)) (sym same);
  few = omega (arith, between.few, ap (λ (k : Known). length k.stage.slices) same);
}

HomeGoesOn-freed : (i : ℕ) (a b : Known) → a.first ≡ 64 → a.count ≡ 1 → Frees i a b → HomeGoesOn a b
HomeGoesOn-freed i a b first count frees =
    let makes = frees.makes in
    let none = none_of_home (numbers_of a) makes.others first count makes.not_own in
    record {
      between = Free i ∷ makes.others;
      seen = makes.seen;
      mine = makes.mine ∙ ap (λ (l : History). Free i ∷ (l ++ a.mine)) (sym none);
      legal = makes.legal;
      rest = changes a b _ a.stage frees.rest;
      steps = more_added (home_steps b.did) (home_steps a.did) 1 (steps_for (entries_of home makes.others)) (ap (λ (k : Known). home_steps k.did) frees.rest) (ap steps_for none);
    }

pub HomeGoesOn-same : (a : Known) → IsLegal a.sizes a.seen → HomeGoesOn a a
HomeGoesOn-same a legal = record { between = []; seen = refl; mine = refl; legal = legal; rest = refl; steps = none_added (home_steps a.did) (home_steps a.did) 0 refl refl }

GoesFurther-finished : {R : Type 0} (lot : Bool) (i : ℕ) (does : R → Entered → R → Type 0) (a b : Known) (r : R) (p : Polled) → a.first ≡ 64 → a.count ≡ 1 → IsLegal a.sizes a.seen → Finishes lot i a b → GoesFurther (λ x y. MatchBool lot (Makes (Free i) x y) (y ≡ x)) does (far a r p) (far b r p)
GoesFurther-finished true i does a b r p first count legal frees =
    let makes = frees.makes in
    let none = none_of_home (numbers_of a) makes.others first count makes.not_own in
    record {
      at = λ log. record {
        log_after = log;
        goes = record { others = makes.others; not_home = none; seen = makes.seen; log = refl; progress = refl };
        enters = EntersSome-same does r log;
        counts = λ before. before;
      };
      goes_on = HomeGoesOn-freed i a b first count frees;
    }
GoesFurther-finished false i does a b r p first count legal same =
    subst (λ k. GoesFurther (λ x y. y ≡ x) does (far a r p) (far k r p)) (sym same)
    (record { at = λ log. record { log_after = log; goes = refl; enters = EntersSome-same does r log; counts = λ before. before }; goes_on = HomeGoesOn-same a legal })

pub GoesFurther-ends : {R : Type 0} (sizes : Sizes) (i : ℕ) (does : R → Entered → R → Type 0) (a b : Known) (r : R) (p : Polled) → a.first ≡ 64 → a.count ≡ 1 → a.sizes ≡ sizes → IsLegal sizes a.seen → Finishes (is_lot sizes i) i a b → GoesFurther (FreesLot sizes i) does (far a r p) (far b r p)
GoesFurther-ends sizes i does a b r p first count of legal finishes =
    GoesFurther-finished (is_lot sizes i) i does a b r p first count (subst (λ s. IsLegal s a.seen) (sym of) legal) finishes

-- of a handle nothing is done at the end of its turn
pub finishes_handle : (sizes : Sizes) (i : ℕ) (a : Known) → i < sizes.handles → Finishes (is_lot sizes i) i a a
finishes_handle sizes i a below = by (is_lot sizes i) refl
  where
    by : (lot : Bool) → is_lot sizes i ≡ lot → Finishes lot i a a
    by true is = absurd (lot_is_no_handle sizes i is below)
    by false is = refl
