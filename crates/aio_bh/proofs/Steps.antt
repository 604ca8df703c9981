-- The loop of a frame: turns are added, and at its end stands the whole frame; at the end of the outermost, the whole poll.
use Rattle.std.proofs.Common.{◌≡◌, ℕ, zero, suc, ◌+◌, ◌-◌, ◌<◌, ◌≤◌, ◌⊎◌, None, [], ◌∷◌, List, ◌++◌, length, refl, sym, ◌∙◌, subst, append-nil, arith, inl, inr, Bool, true, false, Option}
use Rattle.aio_model.specs.Loop.History.{Sizes}
use Rattle.aio_model.specs.Loop.Lists.{out_of}
use Rattle.aio_model.specs.Loop.Legal.{IsLegal}
use Rattle.aio_model.specs.Loop.Frame.{Answer, Ended, Nests, PollPlace, Entered, EntersRunner, Body, Turn, Frame, nests_above, start_of, DoesEntries, lent_of}
use Rattle.aio_core.specs.Known.{Known, Stage, empty_stage}
use Rattle.lot_pool.specs.Pools.{PoolState, PassState, GivesAll, kept_lots}
use Rattle.lot_pool.proofs.Passes.{gives_then}
use Rattle.aio_bh.specs.declared.polled.Polled.{Polled}
use Rattle.aio_bh.specs.Polling.{Polls}
use Rattle.aio_bh.specs.OneShots.{frees_of, GivesFreed, ReturnsLots}
use Rattle.aio_bh.specs.PollFrames.{Far, far, poll_place_of, GoesFurther, CallsBody, TakesAndSome, FindsNone, BehindNest}
use Rattle.aio_bh.proofs.Lasting.{dequeues_taken}
use Rattle.aio_bh.proofs.Turning.{HomeGoesOn-same}
use Rattle.aio_bh.proofs.Parts.{Body-cut, Body-ended, EntersSome-same, GoesFurther-as, GoesFurther-then, some-more, frame-from-some}

-- How many nested polls are left.

some_depth : (deeper nests : ℕ) → 0 < nests → nests ≤ nests_above deeper → 0 < deeper
some_depth zero nests some few = absurd (omega (arith, some, few))
some_depth (suc deeper) nests some few = omega arith

pub nests_below : (deeper nests : ℕ) → 0 < nests → nests ≤ nests_above deeper → (0 < deeper) × (nests - 1 ≤ nests_above deeper) × (nests ≤ 4)
nests_below zero nests some few = absurd (omega (arith, some, few))
nests_below (suc deeper) nests some few = (omega arith, omega (arith, few), few)

pub one_less : (n : ℕ) → 0 < n → n ≡ suc (n - 1)
one_less n some = omega (arith, some)

-- The body of a callback.

module _ {R : Type 0} (does : R → Entered → R → Type 0) (frame : PollPlace → PollPlace → Type 0) (bh : ℕ) (job : Option ℕ) (first : Bool) where
  -- it has ended, or is cut
  pub GoesFurther-last : (nests : ℕ) (answer : Answer) (old new : Far R) → (answer ≡ Ended) ⊎ (nests ≡ 0) → GoesFurther (EntersRunner (lent_of bh job first nests) answer) does old new → GoesFurther (Body frame bh job first nests) does old new
  GoesFurther-last nests answer old new last entry =
      elim last as (λ _. GoesFurther (Body frame bh job first nests) does old new) [
        | inl ended ↦
            GoesFurther-as (EntersRunner (lent_of bh job first nests) Ended) (Body frame bh job first nests) does old new (Body-ended frame bh job first nests)
            (subst (λ x. GoesFurther (EntersRunner (lent_of bh job first nests) x) does old new) ended entry)
        | inr none ↦
            subst (λ n. GoesFurther (Body frame bh job first n) does old new) (sym none)
            (GoesFurther-as (EntersRunner (lent_of bh job first 0) answer) (Body frame bh job first 0) does old new (Body-cut frame bh job first answer)
            (subst (λ n. GoesFurther (EntersRunner (lent_of bh job first n) answer) does old new) none entry))
      ]

  -- it nests, and goes on
  pub GoesFurther-on : (nests left : ℕ) (answer : Answer) (old asked new : Far R) → nests ≡ suc left → answer ≡ Nests → GoesFurther (EntersRunner (lent_of bh job first nests) answer) does old asked → GoesFurther (BehindNest frame bh left) does asked new → GoesFurther (Body frame bh job first nests) does old new
  GoesFurther-on nests left answer old asked new one nested entry later =
      subst (λ n. GoesFurther (Body frame bh job first n) does old new) (sym one)
      (GoesFurther-then (EntersRunner (lent_of bh job first (suc left)) Nests) (BehindNest frame bh left) (Body frame bh job first (suc left)) does old asked new
      (λ a b c enters behind. inr (b, behind.0, enters, behind.1, behind.2))
      (subst (λ n. GoesFurther (EntersRunner (lent_of bh job first n) Nests) does old asked) one (subst (λ x. GoesFurther (EntersRunner (lent_of bh job first nests) x) does old asked) nested entry)) later)

-- the same body by other names
pub GoesFurther-renamed : {R : Type 0} (does : R → Entered → R → Type 0) (frame : PollPlace → PollPlace → Type 0) (bh bh' nests nests' : ℕ) (job job' : Option ℕ) (first first' : Bool) (old new : Far R) → bh' ≡ bh → job' ≡ job → first' ≡ first → nests' ≡ nests → GoesFurther (Body frame bh' job' first' nests') does old new → GoesFurther (Body frame bh job first nests) does old new
GoesFurther-renamed does frame bh bh' nests nests' job job' first first' old new same_bh same_job same_first same_nests goes =
    subst (λ n. GoesFurther (Body frame bh job first n) does old new) same_nests
    (subst (λ f. GoesFurther (Body frame bh job f nests') does old new) same_first
    (subst (λ j. GoesFurther (Body frame bh j first' nests') does old new) same_job
    (subst (λ i. GoesFurther (Body frame i job' first' nests') does old new) same_bh goes)))

-- what was dequeued is called, or not
pub GoesFurther-called : {R : Type 0} (does : R → Entered → R → Type 0) (frame : PollPlace → PollPlace → Type 0) (nests bh : ℕ) (job : Option ℕ) (due : Bool) (old new : Far R) → due ≡ true → GoesFurther (Body frame bh job true nests) does old new → GoesFurther (CallsBody frame nests bh job due) does old new
GoesFurther-called does frame nests bh job due old new is goes =
    subst (λ b. GoesFurther (CallsBody frame nests bh job b) does old new) (sym is) goes

pub GoesFurther-passed : {R : Type 0} (does : R → Entered → R → Type 0) (frame : PollPlace → PollPlace → Type 0) (nests bh : ℕ) (job : Option ℕ) (due : Bool) (sizes : Sizes) (a : Known) (r : R) (p : Polled) → due ≡ false → a.sizes ≡ sizes → IsLegal sizes a.seen → GoesFurther (CallsBody frame nests bh job due) does (far a r p) (far a r p)
GoesFurther-passed does frame nests bh job due sizes a r p is of legal =
    subst (λ b. GoesFurther (CallsBody frame nests bh job b) does (far a r p) (far a r p)) (sym is)
    (record { at = λ log. record { log_after = log; goes = refl; enters = EntersSome-same does r log; counts = λ before. before }; goes_on = HomeGoesOn-same a (subst (λ s. IsLegal s a.seen) (sym of) legal) })

-- it is called, and nests
pub GoesFurther-nested : {R : Type 0} (does : R → Entered → R → Type 0) (frame : PollPlace → PollPlace → Type 0) (nests given bh : ℕ) (job : Option ℕ) (due : Bool) (old asked new : Far R) → given ≡ nests → 0 < nests → due ≡ true → GoesFurther (EntersRunner (lent_of bh job true nests) Nests) does old asked → GoesFurther (BehindNest frame bh (given - 1)) does asked new → GoesFurther (CallsBody frame nests bh job due) does old new
GoesFurther-nested does frame nests given bh job due old asked new same some is entry behind =
    GoesFurther-called does frame nests bh job due old new is (GoesFurther-on does frame bh job true nests (given - 1) Nests old asked new (omega (arith, same, some)) refl entry behind)

-- a nested frame, and then the rest of the body
pub GoesFurther-behind : {R : Type 0} (sizes : Sizes) (deeper : ℕ) (bh nests : ℕ) (does : R → Entered → R → Type 0) (old back new : Far R) → 0 < deeper → GoesFurther (Frame sizes (suc (deeper - 1))) does old back → GoesFurther (Body (Frame sizes deeper) bh None false nests) does back new → GoesFurther (BehindNest (Frame sizes deeper) bh nests) does old new
GoesFurther-behind sizes deeper bh nests does old back new some nested behind =
    GoesFurther-then (Frame sizes deeper) (Body (Frame sizes deeper) bh None false nests) (BehindNest (Frame sizes deeper) bh nests) does old back new (λ a b c framed rest. (b, framed, rest))
    (subst (λ d. GoesFurther (Frame sizes d) does old back) (sym (one_less deeper some)) nested) behind

-- The turns of a frame.

pub GoesFurther-more : {R : Type 0} (sizes : Sizes) (deeper : ℕ) (does : R → Entered → R → Type 0) (a b c : Known) (r s t : R) (p q u : Polled) → GoesFurther (TakesAndSome sizes (Frame sizes deeper) (nests_above deeper)) does (far a r p) (far b s q) → GoesFurther (Turn sizes (Frame sizes deeper) (nests_above deeper)) does (far b s q) (far c t u) → GoesFurther (TakesAndSome sizes (Frame sizes deeper) (nests_above deeper)) does (far a r p) (far c t u)
GoesFurther-more sizes deeper does a b c r s t p q u some turn =
    GoesFurther-then _ _ _ does (far a r p) (far b s q) (far c t u) (some-more sizes (Frame sizes deeper) (nests_above deeper)) some turn

-- the last look found nothing out
pub GoesFurther-frame : {R : Type 0} (sizes : Sizes) (deeper : ℕ) (does : R → Entered → R → Type 0) (a b c : Known) (r s t : R) (p q u : Polled) → GoesFurther (TakesAndSome sizes (Frame sizes deeper) (nests_above deeper)) does (far a r p) (far b s q) → FindsNone b c q u → t ≡ s → GoesFurther (Frame sizes (suc deeper)) does (far a r p) (far c t u)
GoesFurther-frame sizes deeper does a b c r s t p q u some none same =
    let some_at : Far _ → Type 0 = λ x. GoesFurther (TakesAndSome sizes (Frame sizes deeper) (nests_above deeper)) does (far a r p) x in
    let at_end = subst (λ k. some_at (far k t u)) (sym none.same) (subst (λ x. some_at (far b x u)) (sym same) (subst (λ y. some_at (far b s y)) (sym none.same_polled) some)) in
    record {
      at = λ log.
          let went = at_end.at log in
          record {
            log_after = went.log_after;
            goes = frame-from-some sizes deeper (poll_place_of (far a r p) log) (poll_place_of (far c t u) went.log_after) went.goes none.none;
            enters = went.enters;
            counts = went.counts;
          };
      goes_on = at_end.goes_on;
    }

-- The whole poll.

abbrev pub nothing : Polled
nothing = record { progress = false; ran = 0; cut_nests = 0 }

no_slices_left : (slices : List ℕ) → length slices ≡ 0 → slices ≡ []
no_slices_left [] none = refl
no_slices_left (i ∷ slices) none = absurd (omega (arith, none))

stage_empty : (stage : Stage) → stage.slices ≡ [] → stage.hand ≡ None → stage.job ≡ None → stage ≡ empty_stage
stage_empty stage none free jobless =
    λ i. record { slices = none i; hand = free i; job = jobless i }

pub Polls-of : {R : Type 0} (sizes : Sizes) (does : R → Entered → R → Type 0) (a b : Known) (r s : R) (start polled : Polled) → a.sizes ≡ sizes → start ≡ nothing → GoesFurther (Frame sizes 8) does (far a r start) (far b s polled) → out_of b.seen ≡ [] → length b.stage.slices ≡ 0 → b.stage.hand ≡ None → b.stage.job ≡ None → Polls does polled r a s b
Polls-of {R} sizes does a b r s start polled of starts goes none left hand job =
    let now : GoesFurther (Frame a.sizes 8) does (far a r nothing) (far b s polled) = subst (λ z. GoesFurther (Frame z 8) does (far a r nothing) (far b s polled)) (sym of) (subst (λ p. GoesFurther (Frame sizes 8) does (far a r p) (far b s polled)) starts goes) in
    let went = now.at [] in
    let end : PollPlace = poll_place_of (far b s polled) went.log_after in
    let counts = went.counts (record { ran = refl; cut_nests = refl }) in
    record {
      end = end;
      frame = went.goes;
      seen = refl;
      runs = subst (λ l. DoesEntries does r l s) (sym (went.enters.longer ∙ append-nil went.enters.more)) went.enters.runs;
      ran = counts.ran;
      progress = refl;
      cut_nests = counts.cut_nests;
      dequeues = dequeues_taken a.sizes 7 (start_of a.seen) end goes.goes_on.legal went.goes none;
      none_out = none;
      goes_on = now.goes_on;
      stage = stage_empty b.stage (no_slices_left b.stage.slices left) hand job;
    }

-- the lots that the pass kept were given back, and then those that were freed
pub returns_then : (pool : PoolState) (a b : Known) (p q r : PassState) → GivesAll pool (kept_lots pool p) p q → GivesFreed pool a b q r → ReturnsLots pool a b p r
returns_then pool a b p q r kept freed = record {
  made = freed.made;
  mine = freed.mine;
  gives = gives_then pool (kept_lots pool p) (frees_of freed.made) p q r kept freed.gives;
}
