-- The parts of a poll one after another, at any depth: entries, bodies, turns, and the frame.
use Rattle.std.proofs.Common.{◌≡◌, ℕ, zero, suc, ◌+◌, min, Bool, true, false, cond, Option, None, MatchBool, List, [], ◌∷◌, ◌++◌, refl, sym, ap, ◌∙◌, subst, append_assoc, arith, inl, inr}
use Rattle.table_seats.proofs.Standing.{entries-append}
use Rattle.aio_model.specs.Loop.History.{Sizes, Take, Dequeue, History}
use Rattle.aio_model.specs.Loop.Flags.{is_lot}
use Rattle.aio_model.specs.Loop.Lists.{seat_of, job_of, out_of}
use Rattle.aio_model.specs.Loop.Legal.{IsLegal}
use Rattle.aio_model.specs.Loop.Seats.{home, entries_of}
use Rattle.aio_model.specs.Loop.Frame.{Answer, Ended, Nests, PollPlace, Entered, Makes, EntersRunner, Body, Turn, Frame, lent_of, nests_above, is_cut, ran_of, cut_nests_of}
use Rattle.aio_model.proofs.Frames.{DoesEntries-append, Turns-more, Frame-from}
use Rattle.aio_core.specs.Known.{Known, Done, Stage}
use Rattle.aio_bh.specs.declared.polled.Polled.{Polled}
use Rattle.aio_bh.specs.HomeSteps.{home_steps, steps_for}
use Rattle.aio_bh.specs.Running.{SeatComesBack, RunsOnce}
use Rattle.aio_bh.specs.Polling.{HomeGoesOn}
use Rattle.aio_bh.specs.PollFrames.{Far, far, poll_place_of, CountsEntered, EntersSome, GoesFurther, TakesNext, FollowsDequeue, TakesAndSome, noted}
use Rattle.aio_bh.proofs.HomeSteps.{added_up, none_added, more_added, steps_for-append, steps_for-callback}
use Rattle.aio_model.specs.Counts.{counted}

-- What the home's seat goes through.

pub same_sizes : (a b : Known) → HomeGoesOn a b → b.sizes ≡ a.sizes
same_sizes a b on = ap (λ (k : Known). k.sizes) on.rest

-- a step of the home in the form of what a part of a poll changes
pub changes : (a b : Known) (steps : List Done) (stage : Stage) → b ≡ record a { seen = b.seen; mine = b.mine; did = steps; stage = stage } → b ≡ record a { seen = b.seen; mine = b.mine; did = b.did; stage = b.stage; told = b.told }
changes a b steps stage h =
    let did_is : b.did ≡ steps = ap (λ (k : Known). k.did) h in
    let stage_is : b.stage ≡ stage = ap (λ (k : Known). k.stage) h in
    let told_is : b.told ≡ a.told = ap (λ (k : Known). k.told) h in
    h ∙ ap (λ d. record a { seen = b.seen; mine = b.mine; did = d; stage = stage }) (sym did_is) ∙ ap (λ s. record a { seen = b.seen; mine = b.mine; did = b.did; stage = s }) (sym stage_is) ∙ ap (λ t. record a { seen = b.seen; mine = b.mine; did = b.did; stage = b.stage; told = t }) (sym told_is)

pub HomeGoesOn-then : (a b c : Known) → HomeGoesOn a b → HomeGoesOn b c → HomeGoesOn a c
HomeGoesOn-then a b c first then = record {
  between = then.between ++ first.between;
  seen = then.seen ∙ ap (λ l. then.between ++ l) first.seen ∙ sym (append_assoc then.between first.between a.seen);
  mine = then.mine ∙ ap (λ l. entries_of home then.between ++ l) first.mine ∙ sym (append_assoc (entries_of home then.between) (entries_of home first.between) a.mine) ∙ ap (λ l. l ++ a.mine) (sym (entries-append seat_of home then.between first.between));
  legal = subst (λ s. IsLegal s c.seen) (same_sizes a b first) then.legal;
  rest = then.rest ∙ ap (λ (k : Known). record k { seen = c.seen; mine = c.mine; did = c.did; stage = c.stage; told = c.told }) first.rest;
  steps = added_up (home_steps c.did) (home_steps b.did) (home_steps a.did) (steps_for (entries_of home then.between)) (steps_for (entries_of home first.between)) _ then.steps first.steps (ap steps_for (entries-append seat_of home then.between first.between) ∙ steps_for-append (entries_of home then.between) (entries_of home first.between));
}

-- Entries into the runner.

pub EntersSome-same : {R : Type 0} (does : R → Entered → R → Type 0) (r : R) (log : List Entered) → EntersSome does r log r log
EntersSome-same does r log = record { more = []; longer = refl; runs = refl }

pub EntersSome-then : {R : Type 0} (does : R → Entered → R → Type 0) (r s t : R) (a b c : List Entered) → EntersSome does r a s b → EntersSome does s b t c → EntersSome does r a t c
EntersSome-then does r s t a b c first then = record {
  more = then.more ++ first.more;
  longer = then.longer ∙ ap (λ l. then.more ++ l) first.longer ∙ sym (append_assoc then.more first.more a);
  runs = DoesEntries-append does r s t then.more first.more first.runs then.runs;
}

-- One part, and then another.
pub GoesFurther-then : {R : Type 0} (P Q T : PollPlace → PollPlace → Type 0) (does : R → Entered → R → Type 0) (old mid new : Far R) → ((a b c : PollPlace) → P a b → Q b c → T a c) → GoesFurther P does old mid → GoesFurther Q does mid new → GoesFurther T does old new
GoesFurther-then P Q T does old mid new joins first then = record {
  at = λ log.
      let a = first.at log in
      let b = then.at a.log_after in
      record {
        log_after = b.log_after;
        goes = joins _ _ _ a.goes b.goes;
        enters = EntersSome-then does old.runner mid.runner new.runner log a.log_after b.log_after a.enters b.enters;
        counts = λ before. b.counts (a.counts before);
      };
  goes_on = HomeGoesOn-then old.known mid.known new.known first.goes_on then.goes_on;
}

pub GoesFurther-as : {R : Type 0} (P T : PollPlace → PollPlace → Type 0) (does : R → Entered → R → Type 0) (old new : Far R) → ((a b : PollPlace) → P a b → T a b) → GoesFurther P does old new → GoesFurther T does old new
GoesFurther-as P T does old new as_other first = record {
  at = λ log.
      let a = first.at log in
      record { log_after = a.log_after; goes = as_other _ _ a.goes; enters = a.enters; counts = a.counts };
  goes_on = first.goes_on;
}

-- Counts.

counted_more : (n m : ℕ) → m ≡ min n 18446744073709551615 → min (m + 1) 18446744073709551615 ≡ min (1 + n) 18446744073709551615
counted_more n m is = omega (arith, is)

counts_one : (b : Bool) (n m : ℕ) → m ≡ min n 18446744073709551615 → cond b (min (m + 1) 18446744073709551615) m ≡ min (cond b 1 0 + n) 18446744073709551615
counts_one true n m is = counted_more n m is
counts_one false n m is = omega (arith, is)

pub CountsEntered-noted : (first : Bool) (answer : Answer) (nests : ℕ) (polled : Polled) (entered : Entered) (log : List Entered) → entered.lent.first ≡ first → entered.answer ≡ answer → entered.lent.nests_left ≡ nests → CountsEntered polled log → CountsEntered (noted first answer nests polled) (entered ∷ log)
CountsEntered-noted first answer nests polled entered log f a n counts = record {
  ran = subst (λ b. cond first (min (polled.ran + 1) 18446744073709551615) polled.ran ≡ counted (cond b 1 0 + ran_of log)) (sym f) (counts_one first (ran_of log) polled.ran counts.ran);
  cut_nests = subst (λ b. cond (is_cut answer nests) (min (polled.cut_nests + 1) 18446744073709551615) polled.cut_nests ≡ counted (cond b 1 0 + cut_nests_of log)) (sym (ap (λ x. is_cut x entered.lent.nests_left) a ∙ ap (is_cut answer) n)) (counts_one (is_cut answer nests) (cut_nests_of log) polled.cut_nests counts.cut_nests);
}

-- One entry into a callback.

pub HomeGoesOn-back : (made : History) (a b : Known) → a.first ≡ 64 → SeatComesBack made a b → HomeGoesOn a b
HomeGoesOn-back made a b first back = record {
  between = back.between;
  seen = back.seen;
  mine = back.mine ∙ ap (λ l. l ++ a.mine) (sym back.just_these ∙ ap (λ n. entries_of n back.between) first);
  legal = back.legal;
  rest = back.rest ∙ ap (λ s. record a { seen = b.seen; mine = b.mine; did = b.did; stage = s; told = b.told }) (sym (ap (λ (k : Known). k.stage) back.rest));
  steps = none_added (home_steps b.did) (home_steps a.did) _ back.steps (ap steps_for (ap (λ n. entries_of n back.between) (sym first) ∙ back.just_these) ∙ steps_for-callback made back.of_callback);
}

pub GoesFurther-enter : {R : Type 0} (does : R → Entered → R → Type 0) (bh : ℕ) (job : Option ℕ) (first : Bool) (nests : ℕ) (answer : Answer) (a b : Known) (r s : R) (polled : Polled) → a.first ≡ 64 → RunsOnce does (lent_of bh job first nests) answer r a s b → GoesFurther (EntersRunner (lent_of bh job first nests) answer) does (far a r polled) (far b s (noted first answer nests polled))
GoesFurther-enter does bh job first nests answer a b r s polled is_home once = record {
  at = λ log.
      let entered : Entered = record { lent = lent_of bh job first nests; answer = answer; made = once.made } in
      record {
        log_after = entered ∷ log;
        goes = record {
          between = once.back.between;
          made = once.made;
          just_these = ap (λ n. entries_of n once.back.between) (sym is_home) ∙ once.back.just_these;
          of_callback = once.back.of_callback;
          seen = once.back.seen;
          log = refl;
          progress = refl;
        };
        enters = record { more = entered ∷ []; longer = refl; runs = (r, refl, once.did) };
        counts = CountsEntered-noted first answer nests polled entered log refl refl refl;
      };
  goes_on = HomeGoesOn-back once.made a b is_home once.back;
}

-- The body of a callback: it ends, or is cut, or a frame follows and then the rest.

module _ (frame : PollPlace → PollPlace → Type 0) (bh : ℕ) (job : Option ℕ) (first : Bool) where
  pub Body-ended : (nests : ℕ) (a b : PollPlace) → EntersRunner (lent_of bh job first nests) Ended a b → Body frame bh job first nests a b
  Body-ended zero a b h = (Ended, h)
  Body-ended (suc nests) a b h = inl h

  pub Body-cut : (answer : Answer) (a b : PollPlace) → EntersRunner (lent_of bh job first 0) answer a b → Body frame bh job first 0 a b
  Body-cut answer a b h = (answer, h)

  pub Body-nests : (nests : ℕ) (a b c d : PollPlace) → EntersRunner (lent_of bh job first (suc nests)) Nests a b → frame b c → Body frame bh None false nests c d → Body frame bh job first (suc nests) a d
  Body-nests nests a b c d asked frame_between later = inr (b, c, asked, frame_between, later)

-- it nested, and went on behind the frame
pub GoesFurther-nests : {R : Type 0} (frame : PollPlace → PollPlace → Type 0) (bh : ℕ) (job : Option ℕ) (first : Bool) (nests : ℕ) (does : R → Entered → R → Type 0) (old asked back new : Far R) → GoesFurther (EntersRunner (lent_of bh job first (suc nests)) Nests) does old asked → GoesFurther frame does asked back → GoesFurther (Body frame bh None false nests) does back new → GoesFurther (Body frame bh job first (suc nests)) does old new
GoesFurther-nests frame bh job first nests does old asked back new entry nested behind =
    let later = GoesFurther-then frame (Body frame bh None false nests) (λ b d. (c : PollPlace) × frame b c × Body frame bh None false nests c d) does asked back new (λ b c d f g. (c, f, g)) nested behind in
    GoesFurther-then (EntersRunner (lent_of bh job first (suc nests)) Nests) (λ b d. (c : PollPlace) × frame b c × Body frame bh None false nests c d) (Body frame bh job first (suc nests)) does old asked new (λ a b d h g. Body-nests frame bh job first nests a b g.0 d h g.1 g.2) entry later

-- A turn is a dequeue and what follows it.

pub HomeGoesOn-next : (i : ℕ) (ran : Bool) (job : Option ℕ) (a b : Known) (p q : Polled) → TakesNext i ran job a b p q → HomeGoesOn a b
HomeGoesOn-next i ran job a b p q next = record {
  between = Dequeue i ran ∷ next.others;
  seen = next.seen;
  mine = next.mine ∙ ap (λ (l : History). Dequeue i ran ∷ (l ++ a.mine)) (sym next.not_home);
  legal = next.legal;
  rest = next.rest;
  steps = more_added (home_steps b.did) (home_steps a.did) 2 (steps_for (entries_of home next.others)) next.steps (ap steps_for next.not_home);
}

pub GoesFurther-turn : {R : Type 0} (sizes : Sizes) (frame : PollPlace → PollPlace → Type 0) (nests i : ℕ) (ran : Bool) (job : Option ℕ) (does : R → Entered → R → Type 0) (a b c : Known) (r s : R) (p q t : Polled) → a.sizes ≡ sizes → TakesNext i ran job a b p q → GoesFurther (FollowsDequeue sizes frame nests i job ran) does (far b r q) (far c s t) → GoesFurther (Turn sizes frame nests) does (far a r p) (far c s t)
GoesFurther-turn sizes frame nests i ran job does a b c r s p q t of next followed = record {
  at = λ log.
      let begun : CountsEntered p log → CountsEntered q log = λ counts. record { ran = ap (λ (x : Polled). x.ran) next.progress ∙ counts.ran; cut_nests = ap (λ (x : Polled). x.cut_nests) next.progress ∙ counts.cut_nests } in
      let went = followed.at log in
      let dequeued = poll_place_of (far b r q) log in
      let ended = went.goes.0 in
      let job_is = subst (λ (z : Sizes). cond (is_lot z i) (job_of i b.seen) None ≡ job) of next.job_is in
      record {
        log_after = went.log_after;
        goes = record {
          index = i;
          ran = ran;
          dequeued = dequeued;
          ended = ended;
          dequeue = record { others = next.others; not_home = next.not_home; seen = next.seen; log = refl; progress = ap (λ (x : Polled). x.progress) next.progress };
          body = subst (λ j. MatchBool ran (Body frame i j true nests dequeued ended) (ended ≡ dequeued)) (sym job_is) went.goes.1;
          free = went.goes.2;
        };
        enters = went.enters;
        counts = λ before. went.counts (begun before);
      };
  goes_on = HomeGoesOn-then a b c (HomeGoesOn-next i ran job a b p q next) followed.goes_on;
}

-- Turns are added to the take and turns so far.

pub some-none : (sizes : Sizes) (frame : PollPlace → PollPlace → Type 0) (nests : ℕ) (a b : PollPlace) → Makes Take a b → TakesAndSome sizes frame nests a b
some-none sizes frame nests a b take = (b, 0, take, refl)

pub some-more : (sizes : Sizes) (frame : PollPlace → PollPlace → Type 0) (nests : ℕ) (a b c : PollPlace) → TakesAndSome sizes frame nests a b → Turn sizes frame nests b c → TakesAndSome sizes frame nests a c
some-more sizes frame nests a b c some turn =
    (some.0, suc some.1, some.2, Turns-more sizes frame nests some.1 some.0 b c some.3 turn)

pub frame-from-some : (sizes : Sizes) (deeper : ℕ) (a b : PollPlace) → TakesAndSome sizes (Frame sizes deeper) (nests_above deeper) a b → out_of b.seen ≡ [] → Frame sizes (suc deeper) a b
frame-from-some sizes deeper a b some none =
    Frame-from sizes deeper a b (record { taken = some.0; count = some.1; take = some.2; turns = some.3; none_out = none })
