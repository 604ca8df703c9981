-- What a loop keeps of coroutines.
use Rattle.std.specs.Prelude.{◌≡◌, ℕ, ◌<◌, ◌+◌, Bool, true, nat_lt, if◌then◌else◌, ◌^◌, ◌-◌, ◌⊎◌, MatchBool, MatchOption, Option, None, Some, List, length, slice_index_or, slice_set}
use Rattle.std.specs.FinMap as map
use Rattle.aio_model.specs.declared.coroutines.causes.Cause.TheVariants.{Move}
use Rattle.co_state.specs.Wants.{Wants}
use Rattle.co_state.specs.Coroutines.{Coroutines}
use Rattle.co_state.specs.Entering.{ResumesOne}
use Rattle.co_state.specs.declared.co.CoStep.{CoStep}
use Rattle.co_state.specs.declared.store.Entered.{Entered}
use Rattle.co_state.specs.declared.store.Entered.TheVariants as entered
use Rattle.co_schedule.specs.Calls.{are_within}
use Rattle.loop_rows.specs.declared.shared.LoopShared.{LoopShared}
use Rattle.loop_rows.specs.declared.seats.Seats.{Seats}
use Rattle.co_loop.specs.declared.naps.Nap.{Nap}
use Rattle.co_loop.specs.declared.naps.Nap.TheVariants as nap
use Rattle.co_loop.specs.declared.leaving.Leaving.{Leaving}
use Rattle.co_loop.specs.declared.crew.Crew.{Crew}
use Rattle.co_loop.specs.Rows.{AreSeatsOfLoops, AreOfOrigin, ChangesOne}
use Rattle.loop_rows.specs.Posts.{Posts, FindsMarked}
use Rattle.co_loop.specs.Wakes.{reach, WakesEach}
use Rattle.co_loop.specs.Quits.{SetsEnds}
use Rattle.aio_model.specs.Counts.{one_more}

-- what changes as coroutines are entered
pub record Far (C O : Type 0) : Type 0 where
  pub store : Coroutines C O
  pub woken : List ℕ
  pub naps : List Nap
  pub leaving : List (Option (Leaving C))
  pub ended : List (Option C)
  pub done : ℕ
  pub quits : Bool
  pub seats : List (Seats C O)

-- where one goes that is to move there: a loop that doesn't exist stands for the own one
abbrev pub destination : ℕ → ℕ → ℕ → ℕ
destination own loops to = if nat_lt to loops then to else own

module _ {C O : Type 0} where
  abbrev pub far : Crew C O → Far C O
  far crew =
      record { store = crew.store; woken = crew.woken.items; naps = crew.naps.items; leaving = crew.leaving.items; ended = crew.ended.items; done = crew.done; quits = crew.quits; seats = crew.seats.items }

  -- each that is kept is of the origin as its number, for a loop that there is, and isn't in the store
  pub record LeavingAreSound (is_of : ℕ → C → O → Type 0) (loops : ℕ) (store : Coroutines C O) (leaving : List (Option (Leaving C))) : Type 0 where
    pub of : (k : ℕ) (left : Leaving C) → slice_index_or leaving k None ≡ Some left → is_of k left.state store.origin
    pub to : (k : ℕ) (left : Leaving C) → slice_index_or leaving k None ≡ Some left → left.to < loops
    pub apart : (k : ℕ) (left : Leaving C) → slice_index_or leaving k None ≡ Some left → map.get store.held k ≡ None

  -- the loop is one of these, and all that it keeps has room for the same coroutines, and is of their origin, each as its number
  pub record IsCrew (is_of : ℕ → C → O → Type 0) (shared : List (LoopShared C O)) (crew : Crew C O) : Type 0 where
    pub own : crew.own < length shared
    pub row : AreSeatsOfLoops crew.coroutines shared crew.seats.items
    pub of : AreOfOrigin crew.store.origin shared
    pub room : crew.woken.room ≡ crew.coroutines
    pub within : are_within crew.coroutines crew.woken.items ≡ true
    pub naps : length crew.naps.items ≡ crew.coroutines
    pub leaving : length crew.leaving.items ≡ crew.coroutines
    pub ended : length crew.ended.items ≡ crew.coroutines
    pub kept : LeavingAreSound is_of (length shared) crew.store crew.leaving.items
    pub ended_of : (k : ℕ) (co : C) → slice_index_or crew.ended.items k None ≡ Some co → is_of k co crew.store.origin

  -- which loop, and how many coroutines, stay
  pub record SameCrew (before after : Crew C O) : Type 0 where
    pub own : after.own ≡ before.own
    pub coroutines : after.coroutines ≡ before.coroutines

  -- The coroutine was posted to that loop, to go on there. Where its number has a mark there, its state is kept for that loop.
  abbrev pub SendsOn : ℕ → ℕ → C → Far C O → Far C O → Type 0
  SendsOn to co state before after =
      (ChangesOne to (Posts co Move true) before.seats after.seats × (after ≡ record before { seats = after.seats }))
      ⊎ ((mark : ℕ) × ChangesOne to (FindsMarked co mark) before.seats after.seats × (after ≡ record before { seats = after.seats; leaving = slice_set before.leaving co (Some (record { to = to; state = state })) }))

  -- what its answer asks for: one that is done is handed to the ended, and counted; one that sleeps is noted; one that moves is sent on
  abbrev pub FollowsEntered : ℕ → ℕ → ℕ → Entered C → Far C O → Far C O → Type 0
  FollowsEntered own loops co (entered.Done state) before after =
      after ≡ record before { ended = slice_set before.ended co (Some state); done = one_more before.done }
  FollowsEntered own loops co entered.Yielded before after = after ≡ before
  FollowsEntered own loops co (entered.Slept ns) before after =
      after ≡ record before { naps = slice_set before.naps co (nap.Asked ns) }
  FollowsEntered own loops co (entered.Moving state to) before after =
      SendsOn (destination own loops to) co state before after
  FollowsEntered own loops co entered.Absent before after = after ≡ before

  -- the wakes that it asked for, in order, and then the quit mark, which is noted
  pub record CarriesOut (own n loops : ℕ) (asked : Wants) (before after : Far C O) : Type 0 where
    pub woke : Far C O
    pub wakes : WakesEach own n loops asked.wakes (reach before.woken before.seats) (reach woke.woken woke.seats)
    pub only : woke ≡ record before { woken = woke.woken; seats = woke.seats }
    pub quits : MatchBool asked.quits (SetsEnds loops woke.seats after.seats × (after ≡ record woke { quits = true; seats = after.seats })) (after ≡ woke)

  -- The coroutine, which was there, was resumed once; what its answer asks for was done, and then what it asked for.
  pub record CrewResumes (is_of : ℕ → C → O → Type 0) (resumes : C → O → Wants → CoStep → C → Type 0) (own n loops co : ℕ) (was : C) (before after : Far C O) : Type 0 where
    pub asked : Wants
    pub answer : Entered C
    pub store : Coroutines C O
    pub enters : ResumesOne is_of resumes before.store store co was asked answer
    pub stepped : Far C O
    pub follows : FollowsEntered own loops co answer (record before { store = store; naps = slice_set before.naps co nap.Awake }) stepped
    pub carries : CarriesOut own n loops asked stepped after

  -- the one that is there was resumed; where none is, nothing was done
  abbrev pub EntersOne : (ℕ → C → O → Type 0) → (C → O → Wants → CoStep → C → Type 0) → ℕ → ℕ → ℕ → ℕ → Far C O → Far C O → Type 0
  EntersOne is_of resumes own n loops co before after =
      MatchOption (map.get before.store.held co) (after ≡ before) (λ was. CrewResumes is_of resumes own n loops co was before after)
