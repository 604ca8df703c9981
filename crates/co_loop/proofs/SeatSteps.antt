-- What no post, no mark and no event of a loop's seats changes is the same behind all that the loop does.
use Rattle.std.proofs.Common.{◌≡◌, ℕ, zero, suc, ◌<◌, Bool, true, false, List, [], ◌∷◌, Option, Some, None, refl, sym, ap, ◌∙◌, ◌==◌, arith, length, map, slice_index_or, MatchBool, MatchOption}
use Rattle.std.proofs.Math.Seq.{map-set_same}
use Rattle.std.proofs.lemmas.Bool.{cases_lt}
use mathlib.Core.Logic.{⊎_elim}
use Rattle.std.specs.FinMap as fin
use Rattle.aio_model.specs.declared.coroutines.causes.Cause.TheVariants.{Wake, Move}
use Rattle.aio_loop.specs.Entering.{LoopLent, ForBottom, ForReady, ForExpired, LoopEntered}
use Rattle.co_state.specs.Wants.{Wants}
use Rattle.co_state.specs.declared.cx.CoId.{CoId}
use Rattle.co_state.specs.declared.co.CoStep.{CoStep}
use Rattle.co_state.specs.declared.store.Entered.{Entered}
use Rattle.co_state.specs.declared.store.Entered.TheVariants as entered
use Rattle.loop_rows.specs.declared.seats.Seats.{Seats}
use Rattle.loop_rows.specs.declared.shared.LoopShared.{LoopShared}
use Rattle.co_loop.specs.Rows.{ChangesOne}
use Rattle.loop_rows.specs.Posts.{Posts, FindsMarked}
use Rattle.co_loop.specs.Posts.{WakesAt}
use Rattle.co_loop.specs.Wakes.{Reach, WakesOne, WakesEach, is_somebody}
use Rattle.co_loop.specs.Quits.{SetsEnd, SetsEnds}
use Rattle.co_loop.specs.Crews.{Far, SendsOn, FollowsEntered, CarriesOut, EntersOne}
use Rattle.co_loop.specs.Drains.{Drains, EntersAndDrains}
use Rattle.co_loop.specs.Begins.{HomeFar, AdmitsGiven, BeginsThese, is_refused}
use Rattle.co_loop.specs.Loops.{OnLoop, DoesFor, RunnerDoes, on_loop}
use Rattle.co_loop.specs.Napping.{is_napping}
use Rattle.co_loop.specs.Again.{PostsAgain, PostsEachAgain}
use Rattle.co_loop.specs.declared.crew.Crew.{Crew}
use Rattle.co_loop.specs.declared.on_loop.CoLoop.{CoLoop}
use Rattle.co_loop.specs.declared.working.CoWork.{CoWork}
use Rattle.co_loop.specs.Working.{Works}
use Rattle.co_loop.proofs.Unchanged.{same_by_turn}
use Rattle.loop_rows.specs.LoopStates.{LoopState}

by_bool : {A B Q : Type 0} (b : Bool) → MatchBool b A B → (A → Q) → (B → Q) → Q
by_bool true is f g = f is
by_bool false is f g = g is

by_option : {A B Q : Type 0} {P : A → Type 0} (o : Option A) → MatchOption o B P → (B → Q) → ((a : A) → P a → Q) → Q
by_option None is f g = f is
by_option (Some a) is f g = g a is

module _ {C O Q : Type 0} (at : Seats C O → Q) (woken : (co : ℕ) (b a : Seats C O) → Posts co Wake false b a → at a ≡ at b) (moved : (co : ℕ) (b a : Seats C O) → Posts co Move true b a → at a ≡ at b)
    (marked : (co mark : ℕ) (b a : Seats C O) → FindsMarked co mark b a → at a ≡ at b) (ended : (b a : Seats C O) → SetsEnd b a → at a ≡ at b) where
  wakes_at : (co : ℕ) (b a : Seats C O) → WakesAt co b a → at a ≡ at b
  wakes_at co b a is =
      ⊎_elim (λ posted. woken co b a posted) (λ found. marked co found.0 b a found.1) is

  changes_one : (to : ℕ) (does : Seats C O → Seats C O → Type 0) (before after : List (Seats C O)) → ((b a : Seats C O) → does b a → at a ≡ at b) → ChangesOne to does before after → map at after ≡ map at before
  changes_one to does before after keeps is =
      ap (map at) is.rest ∙ map-set_same at before to is.is is.was (keeps is.was is.is is.did ∙ sym (ap at (is.at is.was)))

  same_each : (before after : List (Seats C O)) → length after ≡ length before → ((k : ℕ) (s : Seats C O) → k < length before → at (slice_index_or after k s) ≡ at (slice_index_or before k s)) → map at after ≡ map at before
  same_each [] [] long each = refl
  same_each [] (a ∷ after) long each = absurd (omega (arith, long))
  same_each (b ∷ before) [] long each = absurd (omega (arith, long))
  same_each (b ∷ before) (a ∷ after) long each =
      let head : at a ≡ at b = each 0 b (omega arith) in
      let tail : map at after ≡ map at before = same_each before after (omega (arith, long)) (λ k s lt. each (suc k) s (omega (arith, lt))) in
      λ i. head i ∷ tail i

  sets_ends : (upto : ℕ) (before after : List (Seats C O)) → SetsEnds upto before after → map at after ≡ map at before
  sets_ends upto before after is =
      same_each before after is.long (λ k s lt. ⊎_elim (λ low. ended _ _ (is.set k s low)) (λ high. ap at (is.rest k s high)) (cases_lt k upto))

  wakes_one : (own n loops : ℕ) (id : CoId) (before after : Reach C O) → WakesOne own n loops id before after → map at after.seats ≡ map at before.seats
  wakes_one own n loops id before after is =
      by_bool (is_somebody n loops id) is
      (λ some. by_bool (id.home == own) some (λ here. ap (map at) here.1) (λ there. changes_one id.home _ _ _ (wakes_at id.co) there.1))
      (λ same. ap (λ (r : Reach C O). map at r.seats) same)

  wakes_each : (own n loops : ℕ) (ids : List CoId) (before after : Reach C O) → WakesEach own n loops ids before after → map at after.seats ≡ map at before.seats
  wakes_each own n loops [] before after is = ap (λ (r : Reach C O). map at r.seats) is
  wakes_each own n loops (id ∷ ids) before after is =
      wakes_each own n loops ids is.0 after is.2 ∙ wakes_one own n loops id before is.0 is.1

  sends_on : (to co : ℕ) (state : C) (before after : Far C O) → SendsOn to co state before after → map at after.seats ≡ map at before.seats
  sends_on to co state before after is =
      ⊎_elim (λ sent. changes_one to _ _ _ (moved co) sent.0) (λ kept. changes_one to _ _ _ (marked co kept.0) kept.1) is

  follows : (own loops co : ℕ) (answer : Entered C) (before after : Far C O) → FollowsEntered own loops co answer before after → map at after.seats ≡ map at before.seats
  follows own loops co (entered.Done state) before after is = ap (λ (f : Far C O). map at f.seats) is
  follows own loops co entered.Yielded before after is = ap (λ (f : Far C O). map at f.seats) is
  follows own loops co (entered.Slept ns) before after is = ap (λ (f : Far C O). map at f.seats) is
  follows own loops co (entered.Moving state to) before after is = sends_on _ co state before after is
  follows own loops co entered.Absent before after is = ap (λ (f : Far C O). map at f.seats) is

  carries_out : (own n loops : ℕ) (asked : Wants) (before after : Far C O) → CarriesOut own n loops asked before after → map at after.seats ≡ map at before.seats
  carries_out own n loops asked before after is =
      by_bool asked.quits is.quits (λ quits. sets_ends loops _ _ quits.0) (λ same. ap (λ (f : Far C O). map at f.seats) same)
      ∙ wakes_each own n loops asked.wakes _ _ is.wakes

  enters_one : (is_of : ℕ → C → O → Type 0) (resumes : C → O → Wants → CoStep → C → Type 0) (own n loops co : ℕ) (before after : Far C O) → EntersOne is_of resumes own n loops co before after → map at after.seats ≡ map at before.seats
  enters_one is_of resumes own n loops co before after is =
      by_option (fin.get before.store.held co) is (λ same. ap (λ (f : Far C O). map at f.seats) same)
      (λ was did. carries_out own n loops did.asked _ after did.carries ∙ follows own loops co did.answer _ _ did.follows)

  drains : (is_of : ℕ → C → O → Type 0) (resumes : C → O → Wants → CoStep → C → Type 0) (own n loops count : ℕ) (before after : Far C O) → Drains is_of resumes own n loops count before after → map at after.seats ≡ map at before.seats
  drains is_of resumes own n loops zero before after is = ap (λ (f : Far C O). map at f.seats) is
  drains is_of resumes own n loops (suc more) before after is =
      enters_one is_of resumes own n loops is.2.co _ after is.2.enters ∙ drains is_of resumes own n loops more before is.0 is.1

  enters_and_drains : (is_of : ℕ → C → O → Type 0) (resumes : C → O → Wants → CoStep → C → Type 0) (own n loops co : ℕ) (before after : Far C O) → EntersAndDrains is_of resumes own n loops co before after → map at after.seats ≡ map at before.seats
  enters_and_drains is_of resumes own n loops co before after is =
      drains is_of resumes own n loops is.drains.some.count _ after is.drains.some.drains ∙ enters_one is_of resumes own n loops co before _ is.enters

  admits : (co : ℕ) (given : Option C) (before after : Far C O) → AdmitsGiven co given before after → map at after.seats ≡ map at before.seats
  admits co None before after is = ap (λ (f : Far C O). map at f.seats) is
  admits co (Some state) before after is =
      by_bool (is_refused co before) is (λ e. ap (λ (f : Far C O). map at f.seats) e) (λ e. ap (λ (f : Far C O). map at f.seats) e)

  begins_these : (is_of : ℕ → C → O → Type 0) (resumes : C → O → Wants → CoStep → C → Type 0) (own n loops : ℕ) (cos : List ℕ) (before after : HomeFar C O) → BeginsThese is_of resumes own n loops cos before after → map at after.far.seats ≡ map at before.far.seats
  begins_these is_of resumes own n loops [] before after is = ap (λ (h : HomeFar C O). map at h.far.seats) is
  begins_these is_of resumes own n loops (co ∷ cos) before after is =
      begins_these is_of resumes own n loops cos is.0 after is.3
      ∙ enters_and_drains is_of resumes own n loops is.1.co _ _ is.1.enters
      ∙ admits is.1.co is.1.given _ _ is.1.admits

  does_for : (is_of : ℕ → C → O → Type 0) (resumes : C → O → Wants → CoStep → C → Type 0) (loops : ℕ) (what : LoopLent) (before after : OnLoop C O) → DoesFor is_of resumes loops what before after → map at after.here.far.seats ≡ map at before.here.far.seats
  does_for is_of resumes loops (ForBottom lent answer) before after is =
      by_bool (lent.bh == 0) is.0 (λ does. begins_these is_of resumes _ _ loops _ _ _ does.begins) (λ same. ap (λ (h : HomeFar C O). map at h.far.seats) same)
  does_for is_of resumes loops (ForReady ready) before after is = ap (λ (h : HomeFar C O). map at h.far.seats) is.0
  does_for is_of resumes loops (ForExpired id) before after is =
      by_bool (is_napping before.here.far.naps id.number) is.0 (λ does. enters_and_drains is_of resumes _ _ loops id.number _ _ does) (λ same. ap (λ (f : Far C O). map at f.seats) same)

  pub runner_does : (is_of : ℕ → C → O → Type 0) (resumes : C → O → Wants → CoStep → C → Type 0) (shared : List (LoopShared C O)) (what : LoopEntered) (before after : OnLoop C O) → RunnerDoes is_of resumes shared what before after → map at after.here.far.seats ≡ map at before.here.far.seats
  runner_does is_of resumes shared what before after is =
      does_for is_of resumes (length shared) what.what before after is.does

  posts_again : (co : ℕ) (before after : Far C O) → PostsAgain co before after → map at after.seats ≡ map at before.seats
  posts_again co before after is =
      by_option (slice_index_or before.leaving co None) is (λ same. ap (λ (f : Far C O). map at f.seats) same) (λ left sent. sends_on left.to co left.state _ after sent)

  pub posts_each_again : (n : ℕ) (before after : Far C O) → PostsEachAgain n before after → map at after.seats ≡ map at before.seats
  posts_each_again zero before after is = ap (λ (f : Far C O). map at f.seats) is
  posts_each_again (suc co) before after is =
      posts_again co is.0 after is.2 ∙ posts_each_again co before is.0 is.1

  -- a turn of the loop's work
  pub turn_keeps : {E W K : Type 0} (is_of : ℕ → C → O → Type 0) (resumes : C → O → Wants → CoStep → C → Type 0) (time : K → ℕ) (shared : List (LoopShared C O)) (work : CoWork C K O) (loop : LoopState C O) (ended : Bool) (work_after : CoWork C K O) (loop_after : LoopState C O) → Works E W is_of resumes time shared work loop ended work_after loop_after → map at loop_after.row.seats.items ≡ map at loop.row.seats.items
  turn_keeps {E} {W} {K} is_of resumes time shared work loop ended work_after loop_after did =
      ap (λ (k : Crew C O). map at k.seats.items) (sym did.after_is.crew)
      ∙ posts_each_again work.crew.coroutines _ _ did.turns.ends.posts
      ∙ same_by_turn _ (λ (e : CoLoop C E W O). map at e.crew.seats.items) (λ a e b d. runner_does is_of resumes a.shared.now e (on_loop a.crew a.home a.is_ended) (on_loop b.crew b.home b.is_ended) d.2) _ _ _ _ _ _ _ _ _ did.turns.turned_to did.turns.turns
      ∙ ap (λ (k : Crew C O). map at k.seats.items) did.runner_is.crew
