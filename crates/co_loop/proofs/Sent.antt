-- Whoever is kept for another loop, or scheduled there to move, was sent there by its own answer: what holds of each that answers so
-- holds of them behind all that the loop does. So does what holds of the seats of each loop, by whether the loops were asked to end.
use Rattle.std.proofs.Common.{◌≡◌, ℕ, zero, suc, ◌<◌, Bool, true, false, List, [], ◌∷◌, Option, Some, None, sym, ap, ◌∙◌, subst, ◌==◌, arith, length, length-set, slice_index_or, slice_set, MatchBool, MatchOption}
use Rattle.std.proofs.lemmas.Bool.{cases_eq, cases_lt}
use Rattle.std.proofs.lemmas.List.{get_or-set_same, get_or-set_other, set_past}
use mathlib.Core.Logic.{⊎_elim}
use Rattle.std.specs.FinMap as fin
use Rattle.aio_model.specs.declared.coroutines.causes.Cause.TheVariants.{Wake, Move}
use Rattle.aio_loop.specs.Entering.{LoopLent, ForBottom, ForReady, ForExpired, LoopEntered}
use Rattle.aio_loop.proofs.Logged.{kept_by_turn}
use Rattle.co_state.specs.Wants.{Wants}
use Rattle.co_state.specs.Entering.{answer_of}
use Rattle.co_state.specs.declared.cx.CoId.{CoId}
use Rattle.co_state.specs.declared.co.CoStep.{CoStep}
use Rattle.co_state.specs.declared.co.CoStep.TheVariants as step
use Rattle.co_state.specs.declared.store.Entered.{Entered}
use Rattle.co_state.specs.declared.store.Entered.TheVariants as entered
use Rattle.loop_rows.specs.declared.seats.Seats.{Seats}
use Rattle.loop_rows.specs.declared.shared.LoopShared.{LoopShared}
use Rattle.loop_rows.specs.LoopStates.{LoopState}
use Rattle.loop_rows.specs.Posts.{Posts, FindsMarked}
use Rattle.co_loop.specs.declared.crew.Crew.{Crew}
use Rattle.co_loop.specs.declared.leaving.Leaving.{Leaving}
use Rattle.co_loop.specs.declared.on_loop.CoLoop.{CoLoop}
use Rattle.co_loop.specs.declared.working.CoWork.{CoWork}
use Rattle.co_loop.specs.Again.{PostsAgain, PostsEachAgain}
use Rattle.co_loop.specs.Begins.{HomeFar, AdmitsGiven, BeginsThese, is_refused}
use Rattle.co_loop.specs.Crews.{Far, far, destination, SendsOn, FollowsEntered, CarriesOut, EntersOne}
use Rattle.co_loop.specs.Drains.{Drains, EntersAndDrains}
use Rattle.co_loop.specs.Loops.{OnLoop, DoesFor, RunnerDoes, on_loop}
use Rattle.co_loop.specs.Napping.{is_napping}
use Rattle.co_loop.specs.Posts.{WakesAt}
use Rattle.co_loop.specs.Quits.{SetsEnd, SetsEnds}
use Rattle.co_loop.specs.Rows.{ChangesOne}
use Rattle.co_loop.specs.Wakes.{Reach, WakesOne, WakesEach, is_somebody}
use Rattle.co_loop.specs.Working.{Works}

by_bool : {A B Q : Type 0} (b : Bool) → MatchBool b A B → (A → Q) → (B → Q) → Q
by_bool true is f g = f is
by_bool false is f g = g is

by_option : {A B Q : Type 0} {P : A → Type 0} (o : Option A) → MatchOption o B P → (B → Q) → ((a : A) → P a → Q) → Q
by_option None is f g = f is
by_option (Some a) is f g = g a is

-- a fact of each place, where one of them is set
set_each : {A : Type 0} (P : ℕ → A → Type 0) (xs : List A) (at : ℕ) (x d : A) → P at x → ((k : ℕ) → P k (slice_index_or xs k d)) → (k : ℕ) → P k (slice_index_or (slice_set xs at x) k d)
set_each {A} P xs at x d here each k =
    ⊎_elim
    (λ (low : at < length xs).
    ⊎_elim (λ (e : k ≡ at). subst (λ (j : ℕ). P j (slice_index_or (slice_set xs at x) j d)) (sym e) (subst (P at) (sym (get_or-set_same xs at x d low)) here))
    (λ (ne : k ≡ at → ⊥). subst (P k) (sym (get_or-set_other xs at k x d ne)) (each k)) (cases_eq k at))
    (λ high. subst (λ (l : List A). P k (slice_index_or l k d)) (sym (set_past xs at x high)) (each k))
    (cases_lt at (length xs))

-- two facts of what may stand at a place
by_both : {A B Q : Type 0} {P R : A → Type 0} (o : Option A) → MatchOption o B P → MatchOption o (Unit {0}) R → (B → Q) → ((a : A) → P a → R a → Q) → Q
by_both None is there f g = f is
by_both (Some a) is there f g = g a is there

module _ {C O : Type 0} (loops : ℕ) (Sent : ℕ → ℕ → Type 0) (At : Bool → ℕ → Seats C O → Type 0) where
  -- each that is kept was sent to that loop
  abbrev pub AreKeptFor : List (Option (Leaving C)) → Type 0
  AreKeptFor leaving =
      (k : ℕ) → MatchOption (slice_index_or leaving k None) (Unit {0}) (λ left. Sent left.to k)

  -- the seats of each loop have the fact
  abbrev pub HaveSeats : Bool → List (Seats C O) → Type 0
  HaveSeats quits seats =
      (t : ℕ) (s : Seats C O) → t < length seats → t < loops → At quits t (slice_index_or seats t s)

  abbrev Stands : O → Far C O → Type 0
  Stands origin here =
      (here.store.origin ≡ origin) × AreKeptFor here.leaving × HaveSeats here.quits here.seats

  -- the same of a loop's work with the row of its thread
  pub record HasSent {K : Type 0} (origin : O) (work : CoWork C K O) (loop : LoopState C O) : Type 0 where
    pub origin_is : work.crew.store.origin ≡ origin
    pub kept : AreKeptFor work.crew.leaving.items
    pub seats : HaveSeats work.crew.quits loop.row.seats.items

  -- one that goes by this answer was sent where it goes
  abbrev MayGo : ℕ → ℕ → Entered C → Type 0
  MayGo own co (entered.Moving state to) = Sent (destination own loops to) co
  MayGo own co (entered.Done state) = Unit {0}
  MayGo own co entered.Yielded = Unit {0}
  MayGo own co (entered.Slept ns) = Unit {0}
  MayGo own co entered.Absent = Unit {0}

  module _ (woken : (q : Bool) (t co : ℕ) (b a : Seats C O) → Posts co Wake false b a → At q t b → At q t a) (moved : (q : Bool) (t co : ℕ) (b a : Seats C O) → Sent t co → Posts co Move true b a → At q t b → At q t a)
      (marked : (q : Bool) (t co mark : ℕ) (b a : Seats C O) → FindsMarked co mark b a → At q t b → At q t a) (ended : (q : Bool) (t : ℕ) (b a : Seats C O) → SetsEnd b a → At q t b → At true t a) where
    wakes_at : (q : Bool) (t co : ℕ) (b a : Seats C O) → WakesAt co b a → At q t b → At q t a
    wakes_at q t co b a is =
        ⊎_elim (λ posted. woken q t co b a posted) (λ found. marked q t co found.0 b a found.1) is

    changes_one : (q : Bool) (to : ℕ) (does : Seats C O → Seats C O → Type 0) (before after : List (Seats C O)) → ((b a : Seats C O) → does b a → At q to b → At q to a) → ChangesOne to does before after → HaveSeats q before → HaveSeats q after
    changes_one q to does before after keeps is each =
        subst (HaveSeats q) (sym is.rest)
        (λ t s lt within.
        let low : t < length before = omega (arith, lt, length-set before to is.is) in
        ⊎_elim
        (λ (e : t ≡ to).
        let here : to < length before = omega (arith, low, e) in
        let inside : to < loops = omega (arith, within, e) in
        let was : At q to is.was = subst (At q to) (is.at s) (each to s here inside) in
        subst (λ (j : ℕ). At q j (slice_index_or (slice_set before to is.is) j s)) (sym e) (subst (At q to) (sym (get_or-set_same before to is.is s here)) (keeps is.was is.is is.did was)))
        (λ (ne : t ≡ to → ⊥). subst (At q t) (sym (get_or-set_other before to t is.is s ne)) (each t s low within)) (cases_eq t to))

    sets_ends : (q : Bool) (before after : List (Seats C O)) → SetsEnds loops before after → HaveSeats q before → HaveSeats true after
    sets_ends q before after is each t s lt within =
        ended q t _ _ (is.set t s within) (each t s (omega (arith, lt, is.long)) within)

    wakes_one : (q : Bool) (own n : ℕ) (id : CoId) (before after : Reach C O) → WakesOne own n loops id before after → HaveSeats q before.seats → HaveSeats q after.seats
    wakes_one q own n id before after is each =
        by_bool (is_somebody n loops id) is
        (λ some. by_bool (id.home == own) some (λ here. subst (HaveSeats q) (sym here.1) each) (λ there. changes_one q id.home _ _ _ (wakes_at q id.home id.co) there.1 each))
        (λ same. subst (λ (r : Reach C O). HaveSeats q r.seats) (sym same) each)

    wakes_each : (q : Bool) (own n : ℕ) (ids : List CoId) (before after : Reach C O) → WakesEach own n loops ids before after → HaveSeats q before.seats → HaveSeats q after.seats
    wakes_each q own n [] before after is each =
        subst (λ (r : Reach C O). HaveSeats q r.seats) (sym is) each
    wakes_each q own n (id ∷ ids) before after is each =
        wakes_each q own n ids is.0 after is.2 (wakes_one q own n id before is.0 is.1 each)

    module _ (origin : O) where
      sends_on : (to co : ℕ) (state : C) (before after : Far C O) → Sent to co → SendsOn to co state before after → Stands origin before → Stands origin after
      sends_on to co state before after may is s =
          ⊎_elim
          (λ sent. subst (Stands origin) (sym sent.1) (s.0, s.1, changes_one before.quits to _ _ _ (λ b a posts. moved before.quits to co b a may posts) sent.0 s.2))
          (λ kept.
          subst (Stands origin) (sym kept.2)
          (s.0, set_each (λ (k : ℕ) (o : Option (Leaving C)). MatchOption o (Unit {0}) (λ left. Sent left.to k)) before.leaving co (Some (record { to = to; state = state })) None may s.1, changes_one before.quits to _ _ _ (marked before.quits to co kept.0) kept.1 s.2))
          is

      follows : (own co : ℕ) (answer : Entered C) (before after : Far C O) → MayGo own co answer → FollowsEntered own loops co answer before after → Stands origin before → Stands origin after
      follows own co (entered.Done state) before after may is s = subst (Stands origin) (sym is) s
      follows own co entered.Yielded before after may is s = subst (Stands origin) (sym is) s
      follows own co (entered.Slept ns) before after may is s = subst (Stands origin) (sym is) s
      follows own co (entered.Moving state to) before after may is s =
          sends_on _ co state before after may is s
      follows own co entered.Absent before after may is s = subst (Stands origin) (sym is) s

      carries_out : (own n : ℕ) (asked : Wants) (before after : Far C O) → CarriesOut own n loops asked before after → Stands origin before → Stands origin after
      carries_out own n asked before after is s =
          let w : Stands origin is.woke = subst (Stands origin) (sym is.only) (s.0, s.1, wakes_each before.quits own n asked.wakes _ _ is.wakes s.2) in
          by_bool asked.quits is.quits (λ quits. subst (Stands origin) (sym quits.1) (w.0, w.1, sets_ends is.woke.quits _ _ quits.0 w.2)) (λ same. subst (Stands origin) (sym same) w)

      posts_again : (co : ℕ) (before after : Far C O) → PostsAgain co before after → Stands origin before → Stands origin after
      posts_again co before after is s =
          by_both (slice_index_or before.leaving co None) is (s.1 co)
          (λ same. subst (Stands origin) (sym same) s)
          (λ left sent may.
          sends_on left.to co left.state _ after may sent (s.0, set_each (λ (k : ℕ) (o : Option (Leaving C)). MatchOption o (Unit {0}) (λ gone. Sent gone.to k)) before.leaving co None None tt s.1, s.2))

      posts_each_again : (n : ℕ) (before after : Far C O) → PostsEachAgain n before after → Stands origin before → Stands origin after
      posts_each_again zero before after is s = subst (Stands origin) (sym is) s
      posts_each_again (suc co) before after is s =
          posts_again co is.0 after is.2 (posts_each_again co before is.0 is.1 s)

      module _ (is_of : ℕ → C → O → Type 0) (resumes : C → O → Wants → CoStep → C → Type 0) (answers : (own co : ℕ) (was after : C) (asked : Wants) (home : ℕ) → is_of co after origin → resumes was origin asked (step.Move home) after → Sent (destination own loops home) co) where
        may_go : (own co : ℕ) (was after : C) (asked : Wants) (by : CoStep) (source : O) → source ≡ origin → is_of co after source → resumes was source asked by after → MayGo own co (answer_of by after)
        may_go own co was after asked step.Done source e of resumed = tt
        may_go own co was after asked step.Yield source e of resumed = tt
        may_go own co was after asked (step.Sleep ns) source e of resumed = tt
        may_go own co was after asked (step.Move home) source e of resumed =
            answers own co was after asked home (subst (is_of co after) e of) (subst (λ (o : O). resumes was o asked (step.Move home) after) e resumed)

        enters_one : (own n co : ℕ) (before after : Far C O) → EntersOne is_of resumes own n loops co before after → Stands origin before → Stands origin after
        enters_one own n co before after is s =
            by_option (fin.get before.store.held co) is (λ same. subst (Stands origin) (sym same) s)
            (λ was did.
            let may : MayGo own co did.answer = subst (MayGo own co) (sym did.enters.answers) (may_go own co was did.enters.after did.asked did.enters.step before.store.origin s.0 did.enters.of did.enters.resumed) in
            let same : did.store.origin ≡ origin = ap (λ c. c.origin) did.enters.left ∙ s.0 in
            carries_out own n did.asked did.stepped after did.carries (follows own co did.answer _ did.stepped may did.follows (same, s.1, s.2)))

        drains : (own n count : ℕ) (before after : Far C O) → Drains is_of resumes own n loops count before after → Stands origin before → Stands origin after
        drains own n zero before after is s = subst (Stands origin) (sym is) s
        drains own n (suc more) before after is s =
            enters_one own n is.2.co _ after is.2.enters (drains own n more before is.0 is.1 s)

        enters_and_drains : (own n co : ℕ) (before after : Far C O) → EntersAndDrains is_of resumes own n loops co before after → Stands origin before → Stands origin after
        enters_and_drains own n co before after is s =
            drains own n is.drains.some.count _ after is.drains.some.drains (enters_one own n co before _ is.enters s)

        admits : (co : ℕ) (given : Option C) (before after : Far C O) → AdmitsGiven co given before after → Stands origin before → Stands origin after
        admits co None before after is s = subst (Stands origin) (sym is) s
        admits co (Some state) before after is s =
            by_bool (is_refused co before) is (λ same. subst (Stands origin) (sym same) s) (λ same. subst (Stands origin) (sym same) s)

        begins_these : (own n : ℕ) (cos : List ℕ) (before after : HomeFar C O) → BeginsThese is_of resumes own n loops cos before after → Stands origin before.far → Stands origin after.far
        begins_these own n [] before after is s = subst (λ (h : HomeFar C O). Stands origin h.far) (sym is) s
        begins_these own n (co ∷ cos) before after is s =
            begins_these own n cos is.0 after is.3 (enters_and_drains own n is.1.co _ _ is.1.enters (admits is.1.co is.1.given _ _ is.1.admits s))

        does_for : (what : LoopLent) (before after : OnLoop C O) → DoesFor is_of resumes loops what before after → Stands origin before.here.far → Stands origin after.here.far
        does_for (ForBottom lent answer) before after is s =
            by_bool (lent.bh == 0) is.0 (λ does. begins_these _ _ _ _ _ does.begins s) (λ same. subst (λ (h : HomeFar C O). Stands origin h.far) (sym same) s)
        does_for (ForReady ready) before after is s = subst (λ (h : HomeFar C O). Stands origin h.far) (sym is.0) s
        does_for (ForExpired id) before after is s =
            by_bool (is_napping before.here.far.naps id.number) is.0 (λ does. enters_and_drains _ _ id.number _ _ does s) (λ same. subst (Stands origin) (sym same) s)

        -- a runner of as many loops, of which this stands
        abbrev StandsOn : {E W : Type 0} → CoLoop C E W O → Type 0
        StandsOn {E} {W} e = (length e.shared.now ≡ loops) × Stands origin (far e.crew)

        runner_does : {E W : Type 0} (a : CoLoop C E W O) (e : LoopEntered) (b : CoLoop C E W O) → b.shared ≡ a.shared → RunnerDoes is_of resumes a.shared.now e (on_loop a.crew a.home a.is_ended) (on_loop b.crew b.home b.is_ended) → StandsOn a → StandsOn b
        runner_does {E} {W} a e b same did s = (
          ap (λ (r : _). length r.now) same ∙ s.0,
          does_for e.what (on_loop a.crew a.home a.is_ended) (on_loop b.crew b.home b.is_ended) (subst (λ (n : ℕ). DoesFor is_of resumes n e.what (on_loop a.crew a.home a.is_ended) (on_loop b.crew b.home b.is_ended)) s.0 did.does) s.1,
        )

        -- a turn of the loop's work
        pub turn_keeps : {E W K : Type 0} (time : K → ℕ) (shared : List (LoopShared C O)) (work : CoWork C K O) (loop : LoopState C O) (ended_run : Bool) (work_after : CoWork C K O) (loop_after : LoopState C O) → length shared ≡ loops → Works E W is_of resumes time shared work loop ended_run work_after loop_after → HasSent origin work loop → HasSent origin work_after loop_after
        turn_keeps {E} {W} {K} time shared work loop ended_run work_after loop_after many did has =
            let start : StandsOn did.runner = (
              ap length did.shared_is ∙ many,
              subst (λ (k : Crew C O). Stands origin (far k)) (sym did.runner_is.crew) (has.origin_is, has.kept, has.seats),
            ) in
            let turned : StandsOn did.turns.turned_to.runner = kept_by_turn _ (λ (e : CoLoop C E W O). StandsOn e) (λ a b e d. runner_does a e b d.0 d.2) _ _ _ _ _ _ _ _ _ did.turns.turned_to did.turns.turns start in
            let end : Stands origin (far did.runner_after.crew) = posts_each_again work.crew.coroutines _ _ did.turns.ends.posts turned.1 in
            let after = subst (λ (k : Crew C O). Stands origin (far k)) did.after_is.crew end in
            record { origin_is = after.0; kept = after.1; seats = after.2 }
