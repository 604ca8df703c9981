-- Where a coroutine began on a loop, handle 0 of the loop was called.
use Rattle.std.proofs.Common.{◌≡◌, ℕ, zero, suc, ◌<◌, Bool, true, false, ◌||◌, cond, eqb, List, [], ◌∷◌, length, slice_index, slice_index_or, refl, sym, ap, ◌∙◌, subst, arith}
use Rattle.std.proofs.lemmas.Bool.{false≢true, cases_eq, eq-eqb, or_left, or_right}
use mathlib.Core.Logic.{⊎_elim}
use Rattle.table_seats.specs.Seats.{Numbers, owns, own_entries}
use Rattle.aio_chain.specs.LinkList.{contains}
use Rattle.aio_model.specs.declared.coroutines.causes.Cause.TheVariants.{Begin, Wake, Move}
use Rattle.aio_model.specs.Coroutines.History.{Entry, Schedule, Push, Enter, History, seat_of}
use Rattle.aio_model.specs.Loop.Laws.{some_entry}
use Rattle.co_state.specs.Wants.{Wants}
use Rattle.co_state.specs.declared.co.CoStep.{CoStep}
use Rattle.co_schedule.specs.Known.{Known as CoKnown, numbers_of}
use Rattle.co_schedule.specs.Calls.{new_known}
use Rattle.co_loop.specs.declared.working.CoWork.{CoWork}
use Rattle.co_loop.specs.Working.{CanWork, Works}
use Rattle.loop_rows.specs.declared.opening.Homes.{Homes}
use Rattle.loop_rows.specs.declared.rows.Row.{Row}
use Rattle.loop_rows.specs.declared.shared.LoopShared.{LoopShared}
use Rattle.loop_threads.specs.declared.ending.LoopRun.{LoopRun}
use Rattle.loop_threads.specs.declared.hands.Hand.{Hand}
use Rattle.aio_run.specs.Posting.{HaveSizes}
use Rattle.aio_run.specs.Readiness.{AreQuiet, HaveEntered}
use Rattle.aio_run.specs.Runs.{AreRun}
use Rattle.aio_run.specs.Serving.{begins_of, beginning_on, entries_for, AreEntered}
use Rattle.aio_run.specs.Turned.{calls}
use Rattle.aio_run.proofs.Begun.{at_place}
use Rattle.aio_run.proofs.EventCleared.{loop_tells}

abbrev home_numbers : Numbers
home_numbers = record { first = 64; count = 1 }

-- one that has this loop as its home is to begin there
begins_here : (homes : List ℕ) (loop many co : ℕ) → co < many → slice_index homes co ≡ loop → contains co (beginning_on many homes loop) ≡ true
begins_here homes loop zero co low home = absurd (omega (arith, low))
begins_here homes loop (suc many) co low home =
    by (λ (apart : co ≡ many → ⊥). begins_here homes loop many co (grind (arith, low, apart)) home) (eqb (slice_index homes many) loop) refl
  where
    by : ((co ≡ many → ⊥) → contains co (beginning_on many homes loop) ≡ true) → (b : Bool) → eqb (slice_index homes many) loop ≡ b → contains co (cond b (many ∷ beginning_on many homes loop) (beginning_on many homes loop)) ≡ true
    by earlier true is =
        ⊎_elim (λ (same : co ≡ many). or_left (eqb co many) (contains co (beginning_on many homes loop)) (eq-eqb co many same)) (λ (apart : co ≡ many → ⊥). or_right (eqb co many) (contains co (beginning_on many homes loop)) (earlier apart)) (cases_eq co many)
    by earlier false is = earlier (λ same. false≢true (sym is ∙ eq-eqb (slice_index homes many) loop (subst (λ (n : ℕ). slice_index homes n ≡ loop) same home)))

-- an entry that stands in front
not_none : (e : Entry) (xs : History) → e ∷ xs ≡ [] → ⊥
not_none e xs is = cc

-- of one that began there are entries
none_began : (co : ℕ) (h : History) → entries_for co h ≡ [] → contains co (begins_of h) ≡ false
none_began co [] none = refl
none_began co (Schedule d Begin given seat ∷ older) none = by (none_began co older) (eqb co d) none
  where
    by : (entries_for co older ≡ [] → contains co (begins_of older) ≡ false) → (b : Bool) → cond b (Schedule d Begin given seat ∷ entries_for co older) (entries_for co older) ≡ [] → (b || contains co (begins_of older)) ≡ false
    by more true is = absurd (not_none _ _ is)
    by more false is = more is
none_began co (Schedule d Wake given seat ∷ older) none = by (none_began co older) (eqb co d) none
  where
    by : (entries_for co older ≡ [] → contains co (begins_of older) ≡ false) → (b : Bool) → cond b (Schedule d Wake given seat ∷ entries_for co older) (entries_for co older) ≡ [] → contains co (begins_of older) ≡ false
    by more true is = absurd (not_none _ _ is)
    by more false is = more is
none_began co (Schedule d Move given seat ∷ older) none = by (none_began co older) (eqb co d) none
  where
    by : (entries_for co older ≡ [] → contains co (begins_of older) ≡ false) → (b : Bool) → cond b (Schedule d Move given seat ∷ entries_for co older) (entries_for co older) ≡ [] → contains co (begins_of older) ≡ false
    by more true is = absurd (not_none _ _ is)
    by more false is = more is
none_began co (Push d seat ∷ older) none = by (none_began co older) (eqb co d) none
  where
    by : (entries_for co older ≡ [] → contains co (begins_of older) ≡ false) → (b : Bool) → cond b (Push d seat ∷ entries_for co older) (entries_for co older) ≡ [] → contains co (begins_of older) ≡ false
    by more true is = absurd (not_none _ _ is)
    by more false is = more is
none_began co (Enter d ∷ older) none = by (none_began co older) (eqb co d) none
  where
    by : (entries_for co older ≡ [] → contains co (begins_of older) ≡ false) → (b : Bool) → cond b (Enter d ∷ entries_for co older) (entries_for co older) ≡ [] → contains co (begins_of older) ≡ false
    by more true is = absurd (not_none _ _ is)
    by more false is = more is

-- what home made none of, none of the rest is home's
rest_none : (e : Entry) (older : History) → own_entries seat_of home_numbers (e ∷ older) ≡ [] → own_entries seat_of home_numbers older ≡ []
rest_none e older none = by (owns home_numbers (seat_of e)) none
  where
    by : (b : Bool) → cond b (e ∷ own_entries seat_of home_numbers older) (own_entries seat_of home_numbers older) ≡ [] → own_entries seat_of home_numbers older ≡ []
    by true is = absurd (not_none _ _ is)
    by false is = is

-- where home entered nobody, and whatever was scheduled was entered, nothing stands of anybody
none_entered : (co : ℕ) (h : History) → own_entries seat_of home_numbers h ≡ [] → AreEntered (entries_for co h) → entries_for co h ≡ []
none_entered co [] none entered = refl
none_entered co (Schedule d cause given seat ∷ older) none entered =
    by (none_entered co older (rest_none (Schedule d cause given seat) older none)) (eqb co d) entered
  where
    by : (AreEntered (entries_for co older) → entries_for co older ≡ []) → (b : Bool) → AreEntered (cond b (Schedule d cause given seat ∷ entries_for co older) (entries_for co older)) → cond b (Schedule d cause given seat ∷ entries_for co older) (entries_for co older) ≡ []
    by more true is = absurd is
    by more false is = more is
none_entered co (Push d seat ∷ older) none entered =
    by (none_entered co older (rest_none (Push d seat) older none)) (eqb co d) entered
  where
    by : (AreEntered (entries_for co older) → entries_for co older ≡ []) → (b : Bool) → AreEntered (cond b (Push d seat ∷ entries_for co older) (entries_for co older)) → cond b (Push d seat ∷ entries_for co older) (entries_for co older) ≡ []
    by more true is = absurd is
    by more false is = more is
none_entered co (Enter d ∷ older) none entered = absurd (not_none (Enter d) _ none)

module _ {C K O : Type 0} (E R : Type 0) (is_of : ℕ → C → O → Type 0) (resumes : C → O → Wants → CoStep → C → Type 0) (time : K → ℕ) (shared : List (LoopShared C O)) (sized : HaveSizes shared)
    (homes : List (Homes C O)) (hands : List (Hand (CoWork C K O))) (row : Row C O) (ends : List (LoopRun C (CoWork C K O) O)) (are : AreRun (CanWork is_of) (Works E R is_of resumes time) shared homes hands row ends)
    (homes_long : length homes ≡ length shared) (hands_long : length hands ≡ length shared) (quiet : AreQuiet (length shared) hands) (k : ℕ) (r : LoopRun C (CoWork C K O) O) (low : k < length shared) where
  pub called_where_began : (coroutines : ℕ) → HaveEntered (length shared) coroutines homes → (many : ℕ) (homes_are : List ℕ) → begins_of (slice_index_or ends k r).coroutines.history ≡ beginning_on many homes_are k → ((c : ℕ) → AreEntered (entries_for c (slice_index_or ends k r).coroutines.history))
      → (co : ℕ) → co < many → slice_index homes_are co ≡ k → some_entry (calls 0) (slice_index_or ends k r).calls.known.seen ≡ true
  called_where_began coroutines none many homes_are began entered co below home =
      let h = at_place homes k (omega (arith, low, homes_long)) in
      let m = at_place are.joined.members.items k (omega (arith, low, are.members)) in
      let t = at_place shared k low in
      let s = at_place are.joined.row.seats.items k (omega (arith, low, are.is_row.long)) in
      let known = (slice_index_or are.joined.members.items k m).coroutines.known in
      let history = (slice_index_or ends k r).coroutines.history in
      ⊎_elim
      (λ (same : known ≡ (slice_index_or homes k h).coroutines.known).
      let new : known ≡ new_known coroutines 64 1 = same ∙ none k h low in
      let made : own_entries seat_of (numbers_of known) history ≡ known.mine = (are.ends k t m s r low).coroutines.whole.made_by_joining in
      let empty : own_entries seat_of home_numbers history ≡ [] = subst (λ (v : CoKnown). own_entries seat_of (numbers_of v) history ≡ v.mine) new made in
      let nobody = none_began co history (none_entered co history empty (entered co)) in
      absurd (false≢true (sym nobody ∙ ap (contains co) began ∙ begins_here homes_are k many co below home)))
      (λ (called : some_entry (calls 0) (slice_index_or ends k r).calls.known.seen ≡ true). called)
      (loop_tells E R is_of resumes time shared sized homes hands row ends are homes_long hands_long quiet k r low h m).called
