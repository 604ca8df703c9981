-- What home's history tells behind the turns of a loop: whether a coroutine was taken there, and whether event 0 was found set.
use Rattle.std.proofs.Common.{◌≡◌, ℕ, zero, suc, ◌<◌, Bool, true, false, ◌==◌, ◌||◌, nat_lt, MatchBool, List, [], ◌∷◌, ◌⊎◌, inl, inr, refl, sym, ap, ◌∙◌, subst, length, arith}
use Rattle.std.proofs.lemmas.Bool.{false≢true, eq-eqb, eqb-true, and_parts, or_parts, lt-ltb}
use mathlib.Core.Logic.{⊎_elim}
use Rattle.aio_model.specs.Loop.Frame.{Entered, DoesEntries}
use Rattle.aio_model.specs.Loop.History.{History, Sizes}
use Rattle.aio_model.specs.Loop.Laws.{some_entry}
use Rattle.aio_core.specs.Known.{Known}
use Rattle.aio_core.specs.SleepSteps.{ClearsEvent}
use Rattle.lot_pool.specs.Pools.{PoolState, PassState}
use Rattle.aio_bh.specs.declared.polled.Polled.{Polled}
use Rattle.aio_bh.specs.Polling.{depths}
use Rattle.aio_loop.specs.declared.turned.Turned.{Turned}
use Rattle.aio_loop.specs.Entering.{LoopEntered, WithSide, does_bottom}
use Rattle.aio_loop.specs.Expiring.{EntersEachExpired}
use Rattle.aio_loop.specs.Turns.{AwakesAndPolls, Turns}
use Rattle.aio_loop.specs.Walks.{LoopFar, loop_far, ClearsFirst, EntersEachReady}
use Rattle.co_state.specs.Wants.{Wants}
use Rattle.co_state.specs.declared.co.CoStep.{CoStep}
use Rattle.co_schedule.specs.Known.{Known as CoKnown}
use Rattle.co_schedule.specs.Calls.{SeatState as CoSeatState}
use Rattle.loop_rows.specs.declared.shared.LoopShared.{LoopShared}
use Rattle.loop_rows.specs.LoopStates.{LoopState}
use Rattle.co_loop.specs.declared.on_loop.CoLoop.{CoLoop}
use Rattle.co_loop.specs.declared.working.CoWork.{CoWork}
use Rattle.co_loop.specs.Begins.{HomeFar}
use Rattle.co_loop.specs.Loops.{RunnerDoes, on_loop}
use Rattle.co_loop.specs.Working.{CanWork, Works}
use Rattle.loop_threads.specs.declared.parts.Part.{Part}
use Rattle.loop_threads.specs.Parts.{TakesTurns, loop_of}
use Rattle.aio_run.specs.Posting.{HaveSizes}
use Rattle.aio_run.specs.Setting.{clears}
use Rattle.aio_run.specs.Turned.{calls}
use Rattle.aio_run.proofs.Begun.{at_place}
use Rattle.aio_run.proofs.HandleCalled.{some_for, called_in_frame}
use Rattle.aio_run.proofs.HomeGrows.{StandsOn, by_more, by_same, awakes_on, accepts_on, back_on, clear_on, bits_on}

-- Home knows of its coroutines what it did at the start, or handle 0 was called; and where event 0 was found, it was cleared.
pub record Tells (start now : CoKnown) (ended : Bool) (seen : History) : Type 0 where
  pub called : (now ≡ start) ⊎ (some_entry (calls 0) seen ≡ true)
  pub cleared : ended ≡ true → some_entry (clears 0) seen ≡ true

-- the same of what came of it, where home did nothing to its coroutines
pub tells_as : (start now now_after : CoKnown) (ended ended_after : Bool) (seen seen_after : History) → now_after ≡ now → ended_after ≡ ended → StandsOn seen seen_after → Tells start now ended seen → Tells start now_after ended_after seen_after
tells_as start now now_after ended ended_after seen seen_after same same_end on tells = record {
  called = ⊎_elim (λ (e : now ≡ start). inl (same ∙ e)) (λ (c : some_entry (calls 0) seen ≡ true). inr (on (calls 0) c)) tells.called;
  cleared = λ e. on (clears 0) (tells.cleared (sym same_end ∙ e));
}

-- an entry for another handle doesn't touch what home took
at_handle : {C O : Type 0} (X : Type 0) (bh : ℕ) (before after : HomeFar C O) → (0 == bh) ≡ false → MatchBool (bh == 0) X (after ≡ before) → after.known ≡ before.known
at_handle {C} {O} X bh before after other did = by (bh == 0) refl did
  where
    by : (b : Bool) → (bh == 0) ≡ b → MatchBool b X (after ≡ before) → after.known ≡ before.known
    by true is does = absurd (false≢true (sym other ∙ eq-eqb 0 bh (sym (eqb-true bh 0 is))))
    by false is same = ap (λ (h : HomeFar C O). h.known) same

-- a walk that gives event 0 clears it first
first_cleared : (events : ℕ) (a b : Known) → 0 < events → ClearsFirst events 0 a b → some_entry (clears 0) b.seen ≡ true
first_cleared events a b some clears_it = by (nat_lt 0 events) (lt-ltb 0 events some) clears_it
  where
    by : (c : Bool) → c ≡ true → MatchBool c ((found : ℕ) × ClearsEvent 0 found a b) (b ≡ a) → some_entry (clears 0) b.seen ≡ true
    by true is one = subst (λ (h : History). some_entry (clears 0) h ≡ true) (sym one.1.makes.seen) refl
    by false is same = absurd (false≢true is)

cleared_by : (events event : ℕ) (a b : Known) (was : Bool) → 0 < events → ClearsFirst events event a b → (was || event == 0) ≡ true → (was ≡ true → some_entry (clears 0) a.seen ≡ true) → some_entry (clears 0) b.seen ≡ true
cleared_by events event a b true some clears_it is before = clear_on events event a b clears_it (clears 0) (before refl)
cleared_by events event a b false some clears_it is before =
    first_cleared events a b some (subst (λ (n : ℕ). ClearsFirst events n a b) (eqb-true event 0 is) clears_it)

module _ {C E W O : Type 0} (is_of : ℕ → C → O → Type 0) (resumes : C → O → Wants → CoStep → C → Type 0) (start : CoKnown) where
  abbrev Does : CoLoop C E W O → LoopEntered → CoLoop C E W O → Type 0
  Does a entered b = (b.shared ≡ a.shared) × (b.env ≡ a.env) × RunnerDoes is_of resumes a.shared.now entered (on_loop a.crew a.home a.is_ended) (on_loop b.crew b.home b.is_ended)

  abbrev TellsAt : LoopFar (CoLoop C E W O) → Type 0
  TellsAt here = Tells start here.runner.home.known here.runner.is_ended here.known.seen

  bottoms : (log : List Entered) (x y : WithSide (CoLoop C E W O)) → DoesEntries (does_bottom Does) x log y → (y.runner.is_ended ≡ x.runner.is_ended) × (some_for 0 log ≡ false → y.runner.home.known ≡ x.runner.home.known)
  bottoms [] x y same = (ap (λ (w : WithSide (CoLoop C E W O)). w.runner.is_ended) same, λ none. ap (λ (w : WithSide (CoLoop C E W O)). w.runner.home.known) same)
  bottoms (e ∷ older) x y runs =
      let before = bottoms older x runs.0 runs.1 in
      let did = runs.2.did.2.does in (
        did.1 ∙ before.0,
        (λ none. at_handle _ e.lent.bh _ _ (or_parts (0 == e.lent.bh) (some_for 0 older) none).0 did.0 ∙ before.1 (or_parts (0 == e.lent.bh) (some_for 0 older) none).1),
      )

  tell_polled : (pool : PoolState) (block : Bool) (events : ℕ) (slept : Bool) (polled : Polled) (time time_after : ℕ) (pass pass_after : PassState) (before after : LoopFar (CoLoop C E W O)) → AwakesAndPolls Does pool block events slept polled time time_after pass pass_after before after → TellsAt before → TellsAt after
  tell_polled pool block events slept polled time time_after pass pass_after before after part was =
      record { called = by (some_for 0 part.polls.end.log) refl; cleared = λ e. on (clears 0) (was.cleared (sym steps.0 ∙ e)) }
    where
      on : StandsOn before.known.seen after.known.seen
      on test stands =
          by_more part.polls.goes_on.between part.accepted.seen after.known.seen part.polls.goes_on.seen test
          (accepts_on part.awake part.accepted part.accepts test (awakes_on block events before.side slept time time_after before.known part.awake part.awakes test stands))

      steps : (after.runner.is_ended ≡ before.runner.is_ended) × (some_for 0 part.polls.end.log ≡ false → after.runner.home.known ≡ before.runner.home.known)
      steps = bottoms part.polls.end.log _ _ part.polls.runs

      by : (b : Bool) → some_for 0 part.polls.end.log ≡ b → (after.runner.home.known ≡ start) ⊎ (some_entry (calls 0) after.known.seen ≡ true)
      by true is = inr (by_same part.polls.end.seen after.known.seen part.polls.seen (calls 0) (called_in_frame 0 part.accepted.sizes depths part.accepted.seen part.polls.end part.polls.frame is))
      by false is = ⊎_elim (λ (e : before.runner.home.known ≡ start). inl (steps.1 is ∙ e)) (λ (c : some_entry (calls 0) before.known.seen ≡ true). inr (on (calls 0) c)) was.called

  tell_ready : (events count : ℕ) (x y : LoopFar (CoLoop C E W O)) → 0 < events → EntersEachReady Does events count x y → TellsAt x → TellsAt y
  tell_ready events zero x y some same was = subst TellsAt (sym same) was
  tell_ready events (suc count) x y some enters was =
      let mid = enters.0 in
      let ready = enters.2 in
      let one = enters.3 in
      let did = one.runs.enters.did.2.does in
      let before = tell_ready events count x mid some enters.1 was in
      let back = back_on one.runs.made one.cleared y.known one.runs.back in
      let on : StandsOn mid.known.seen y.known.seen = λ test stands. back test (clear_on events ready.event mid.known one.cleared one.clears test stands) in
      let same : y.runner.home.known ≡ mid.runner.home.known = ap (λ (h : HomeFar C O). h.known) did.0 in
      record {
        called = ⊎_elim (λ (e : mid.runner.home.known ≡ start). inl (same ∙ e)) (λ (c : some_entry (calls 0) mid.known.seen ≡ true). inr (on (calls 0) c)) before.called;
        cleared = λ e. back (clears 0) (cleared_by events ready.event mid.known one.cleared mid.runner.is_ended some one.clears (sym did.1 ∙ e) before.cleared);
      }

  tell_expired : (count : ℕ) (x y : LoopFar (CoLoop C E W O)) → EntersEachExpired Does count x y → TellsAt x → TellsAt y
  tell_expired zero x y same was = subst TellsAt (sym same) was
  tell_expired (suc count) x y enters was =
      let mid = enters.0 in
      let one = enters.3 in
      let did = one.runs.enters.did.2.does in
      tells_as start mid.runner.home.known y.runner.home.known mid.runner.is_ended y.runner.is_ended mid.known.seen y.known.seen did.1 did.2 (back_on one.runs.made mid.known y.known one.runs.back) (tell_expired count x mid enters.1 was)

  tell_turned : (pool : PoolState) (block : Bool) (events : ℕ) (turned : Turned) (time time_after : ℕ) (pass pass_after : PassState) (before after : LoopFar (CoLoop C E W O)) → 0 < events → Turns Does pool block events turned time time_after pass pass_after before after → TellsAt before → TellsAt after
  tell_turned pool block events turned time time_after pass pass_after before after some turns was =
      let polled = tell_polled pool block events turned.slept turns.polled time turns.time_awake pass pass_after before turns.behind_poll turns.polls was in
      let walk = turns.walks in
      let a = turns.behind_poll in
      let looked = tells_as start a.runner.home.known a.runner.home.known a.runner.is_ended a.runner.is_ended a.known.seen walk.looked.seen refl refl (bits_on walk.begins.watch events walk.begins.bits a.known walk.looked walk.begins.finds) polled in
      let walked = tell_ready events walk.enters.count (loop_far walk.looked walk.begun a.runner) (loop_far turns.behind_walk.known walk.given turns.behind_walk.runner) some walk.enters.enters looked in
      tell_expired turns.expires.enters.count (loop_far turns.behind_walk.known turns.expires.begun turns.behind_walk.runner) after turns.expires.enters.enters walked

module _ {C K O : Type 0} (E W : Type 0) (is_of : ℕ → C → O → Type 0) (resumes : C → O → Wants → CoStep → C → Type 0) (time : K → ℕ) (shared : List (LoopShared C O)) (sized : HaveSizes shared) (start : CoKnown) where
  -- a turn of the loop's work
  tell_worked : (work : CoWork C K O) (loop : LoopState C O) (ended : Bool) (work_after : CoWork C K O) (loop_after : LoopState C O) → loop.number < length shared → Works E W is_of resumes time shared work loop ended work_after loop_after
      → Tells start loop.coroutines.known work.is_ended loop.home.known.seen → Tells start loop_after.coroutines.known work_after.is_ended loop_after.home.known.seen
  tell_worked work loop ended work_after loop_after low did was =
      let t = at_place shared loop.number low in
      let some : 0 < did.events = omega (arith, did.events_are t, ap (λ (z : Sizes). z.events) (sized loop.number t low)) in
      let here = tells_as start loop.coroutines.known did.runner.home.known work.is_ended did.runner.is_ended loop.home.known.seen loop.home.known.seen (ap (λ (s : CoSeatState O). s.known) did.runner_is.home) did.runner_is.is_ended (λ test stands. stands) was in
      let turned_to = did.turns.turned_to in
      let there = tell_turned is_of resumes start did.pool did.block did.events did.turned (time work.clock) did.turns.time_turned loop.lots loop_after.lots (loop_far loop.home.known loop.side did.runner) turned_to some did.turns.turns here in
      tells_as start turned_to.runner.home.known loop_after.coroutines.known turned_to.runner.is_ended work_after.is_ended turned_to.known.seen loop_after.home.known.seen
      (ap (λ (s : CoSeatState O). s.known) (sym did.after_is.home ∙ did.turns.keeps.0)) (sym did.after_is.is_ended ∙ did.turns.keeps.1)
      (by_same turned_to.known.seen loop_after.home.known.seen (ap (λ (k : Known). k.seen) did.turns.known)) there

  abbrev pub TellsPart : Part C (CoWork C K O) O → Type 0
  TellsPart part = Tells start part.coroutines.known part.work.is_ended part.home.seat.known.seen

  -- the turns of a part
  pub turns_tell : (turns : List (Part C (CoWork C K O) O)) (before after : Part C (CoWork C K O) O) → TakesTurns (CanWork is_of) (Works E W is_of resumes time) shared turns before after → before.number < length shared → TellsPart before → (after.number ≡ before.number) × TellsPart after
  turns_tell [] before after same low was = (ap (λ (p : Part C (CoWork C K O) O). p.number) same, subst TellsPart (sym same) was)
  turns_tell (mid ∷ older) before after takes low was =
      let so_far = turns_tell older before mid takes.0 low was in
      let number : mid.number ≡ before.number = so_far.0 in (
        takes.1.number_is ∙ number,
        tell_worked mid.work (loop_of mid) after.carried after.work (loop_of after) (omega (arith, low, number)) takes.1.did so_far.1,
      )

  -- a run that has ended by turns has found event 0
  pub end_found : (turns : List (Part C (CoWork C K O) O)) (before after : Part C (CoWork C K O) O) → TakesTurns (CanWork is_of) (Works E W is_of resumes time) shared turns before after → before.carried ≡ false → after.carried ≡ true → after.work.is_ended ≡ true
  end_found [] before after same not_ended ended = absurd (false≢true (sym not_ended ∙ ap (λ (p : Part C (CoWork C K O) O). p.carried) (sym same) ∙ ended))
  end_found (mid ∷ older) before after takes not_ended ended = (and_parts _ _ (sym takes.1.did.ended_is ∙ ended)).0
