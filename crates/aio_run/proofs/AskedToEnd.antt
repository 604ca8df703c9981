-- Where a coroutine asked that the loops end, event 0 was set on each of them.
use Rattle.std.proofs.Common.{◌≡◌, ℕ, ◌-◌, ◌<◌, zero, suc, Bool, true, false, ◌||◌, ◌==◌, eqb, MatchOption, Option, None, Some, List, [], ◌∷◌, length, slice_index_or, refl, sym, ap, ◌∙◌, subst, arith}
use Rattle.std.proofs.lemmas.Bool.{false≢true, eqb-true}
use Rattle.aio_model.specs.declared.coroutines.causes.Cause.{Cause}
use Rattle.aio_model.specs.declared.coroutines.causes.Cause.TheVariants.{Wake, Move}
use Rattle.aio_model.specs.Loop.Laws.{some_entry}
use Rattle.aio_core.specs.Calls.{SeatState}
use Rattle.co_state.specs.Wants.{Wants}
use Rattle.co_state.specs.declared.co.CoStep.{CoStep}
use Rattle.loop_rows.specs.declared.opening.Homes.{Homes}
use Rattle.loop_rows.specs.declared.rows.Row.{Row}
use Rattle.loop_rows.specs.declared.seats.Seats.{Seats}
use Rattle.loop_rows.specs.declared.shared.LoopShared.{LoopShared}
use Rattle.loop_rows.specs.Posts.{Posts, FindsMarked}
use Rattle.co_loop.specs.declared.working.CoWork.{CoWork}
use Rattle.co_loop.specs.Quits.{SetsEnd}
use Rattle.co_loop.specs.Working.{CanWork, Works}
use Rattle.co_loop.proofs.Sent.{HasSent, turn_keeps}
use Rattle.loop_threads.specs.declared.ending.LoopRun.{LoopRun}
use Rattle.loop_threads.specs.declared.hands.Hand.{Hand}
use Rattle.loop_threads.specs.declared.parts.Part.{Part}
use Rattle.loop_threads.specs.Parts.{TakesTurns, loop_of}
use Rattle.aio_run.specs.Ends.{has_asked}
use Rattle.aio_run.specs.Posting.{HaveSet}
use Rattle.aio_run.specs.Readiness.{AreQuiet}
use Rattle.aio_run.specs.Runs.{AreRun}
use Rattle.aio_run.specs.Setting.{sets}
use Rattle.aio_run.proofs.Begun.{at_place}
use Rattle.aio_run.proofs.FoundSet.{set_seen, set_before}
use Rattle.aio_run.proofs.HomeGrows.{by_more}

module _ {C O : Type 0} where
  -- once a coroutine has asked, these seats have seen event 0 set
  abbrev pub SetOnceAsked : Bool → ℕ → Seats C O → Type 0
  SetOnceAsked asked t s =
      asked ≡ true → some_entry (sets 0) s.bottoms.known.seen ≡ true

  posted : (cause : Cause) (given asked : Bool) (t co : ℕ) (b a : Seats C O) → Posts co cause given b a → SetOnceAsked asked t b → SetOnceAsked asked t a
  posted cause given asked t co b a is was e =
      let stands = is.handle.stands.stands.stands in
      by_more stands.rest b.bottoms.known.seen a.bottoms.known.seen stands.longer (sets 0) (was e)

  marked : (asked : Bool) (t co mark : ℕ) (b a : Seats C O) → FindsMarked co mark b a → SetOnceAsked asked t b → SetOnceAsked asked t a
  marked asked t co mark b a is was e =
      subst (λ (s : SeatState). some_entry (sets 0) s.known.seen ≡ true) (sym is.same) (was e)

  ended : (asked : Bool) (t : ℕ) (b a : Seats C O) → SetsEnd b a → SetOnceAsked asked t b → SetOnceAsked true t a
  ended asked t b a is was e = set_seen b.bottoms.known a.bottoms.known is.steps

-- nothing is asked of what may stand there
nothing : {A : Type 0} (o : Option A) → MatchOption o (Unit {0}) (λ a. Unit {0})
nothing None = tt
nothing (Some a) = tt

-- whoever asked is on one of the loops
module _ {C K O : Type 0} where
  record AskedAt (ends : List (LoopRun C (CoWork C K O) O)) : Type 0 where
    place : ℕ
    within : place < length ends
    asked : (r : LoopRun C (CoWork C K O) O) → (slice_index_or ends place r).work.crew.quits ≡ true

  asked_at : (ends : List (LoopRun C (CoWork C K O) O)) → has_asked ends ≡ true → AskedAt ends
  asked_at [] has = absurd (false≢true has)
  asked_at (x ∷ ends) has =
      by x.work.crew.quits refl has (λ older. asked_at ends older)
    where
      later : AskedAt ends → AskedAt (x ∷ ends)
      later older =
          record { place = suc older.place; within = omega (arith, older.within); asked = older.asked }

      by : (q : Bool) → x.work.crew.quits ≡ q → q || has_asked ends ≡ true → (has_asked ends ≡ true → AskedAt ends) → AskedAt (x ∷ ends)
      by true is has older = record { place = zero; within = omega arith; asked = λ r. is }
      by false is has older = later (older has)

module _ {C K O : Type 0} (E R : Type 0) (is_of : ℕ → C → O → Type 0) (resumes : C → O → Wants → CoStep → C → Type 0) (time : K → ℕ) (shared : List (LoopShared C O)) where
  abbrev SetOn : O → Part C (CoWork C K O) O → Type 0
  SetOn origin part =
      HasSent (length shared) (λ t co. Unit {0}) SetOnceAsked origin part.work (loop_of part)

  turns_keep : (origin : O) (turns : List (Part C (CoWork C K O) O)) (before after : Part C (CoWork C K O) O) → TakesTurns (CanWork is_of) (Works E R is_of resumes time) shared turns before after → SetOn origin before → SetOn origin after
  turns_keep origin [] before after same set = subst (SetOn origin) (sym same) set
  turns_keep origin (mid ∷ older) before after takes set =
      turn_keeps (length shared) (λ t co. Unit {0}) SetOnceAsked (posted Wake false) (λ q t co b a sent. posted Move true q t co b a) marked ended origin is_of resumes (λ own co was now asked home of did. tt) time shared mid.work (loop_of mid) after.carried after.work (loop_of after) refl takes.1.did (turns_keep origin older before mid takes.0 set)

  module _ (homes : List (Homes C O)) (hands : List (Hand (CoWork C K O))) (row : Row C O) (ends : List (LoopRun C (CoWork C K O) O)) (are : AreRun (CanWork is_of) (Works E R is_of resumes time) shared homes hands row ends) (long : length homes ≡ length shared) (hands_long : length hands ≡ length shared) (quiet : AreQuiet (length shared) hands) where
    -- a coroutine of this loop has asked
    set_by : (p : ℕ) (q : LoopRun C (CoWork C K O) O) (lt : p < length shared) → (slice_index_or ends p q).work.crew.quits ≡ true → (k : ℕ) (r : LoopRun C (CoWork C K O) O) (low : k < length shared) → some_entry (sets 0) (slice_index_or ends k r).calls.known.seen ≡ true
    set_by p q lt asked k r low =
        let j = length shared - p - 1 in
        let part = at_place are.carried.parts j (omega (arith, lt, are.carried.many)) in
        let first = slice_index_or are.carried.parts j part in
        let there = at_place are.joined.members.items p (omega (arith, lt, are.members)) in
        let runs = are.carried.runs p j part there (omega (arith, lt)) in
        let comes = runs.carried.comes in
        let last = runs.last in
        let h = at_place homes p (omega (arith, lt, long)) in
        let d = at_place hands p (omega (arith, lt, hands_long)) in
        let begins = are.carried.begins p j h d part (omega (arith, lt)) in
        let not_yet : first.work.crew.quits ≡ false = ap (λ (w : CoWork C K O). w.crew.quits) begins.work_is ∙ (quiet p d lt).1 in
        let start : SetOn first.work.crew.store.origin first = record { origin_is = refl; kept = λ co. nothing (slice_index_or first.work.crew.leaving.items co None); seats = λ t s within low e. absurd (false≢true (sym not_yet ∙ e)) } in
        let end = turns_keep first.work.crew.store.origin comes.turns first last comes.takes start in
        let t = at_place shared k low in
        let m = at_place are.joined.members.items k (omega (arith, low, are.members)) in
        let s = at_place are.joined.row.seats.items k (omega (arith, low, are.is_row.long)) in
        let ended_there = are.ends p (at_place shared p lt) there (at_place are.joined.row.seats.items p (omega (arith, lt, are.is_row.long))) q lt in
        let has : last.work.crew.quits ≡ true = sym (ap (λ (w : CoWork C K O). w.crew.quits) (ended_there.work_is ∙ runs.is.work_is)) ∙ asked in
        let stands = (are.ends k t m s r low).keeps (slice_index_or last.row.seats.items k s) last.row.first last.row.count (comes.part.station.row.each k t s low) comes.part.station.row.below (runs.within k s s low) in
        by_more stands.seen.0 (slice_index_or last.row.seats.items k s).bottoms.known.seen (slice_index_or ends k r).calls.known.seen stands.seen.1 (sets 0) (end.seats k s (omega (arith, low, comes.part.station.row.long)) low has)

    set_once_asked : has_asked ends ≡ true → (k : ℕ) (r : LoopRun C (CoWork C K O) O) → k < length shared → some_entry (sets 0) (slice_index_or ends k r).calls.known.seen ≡ true
    set_once_asked has k r low =
        let at = asked_at ends has in
        set_by at.place r (omega (arith, at.within, are.many)) (at.asked r) k r low

    -- so event 0 was set on each loop, also where there was nobody to ask and it was set before
    pub set_on_each : (many : ℕ) → (many == 0 || has_asked ends) ≡ true → 0 < length shared → (many ≡ 0 → HaveSet (length shared) row.seats.items) → (k : ℕ) (r : LoopRun C (CoWork C K O) O) → k < length shared → some_entry (sets 0) (slice_index_or ends k r).calls.known.seen ≡ true
    set_on_each many either some set k r low = by (eqb many 0) refl either
      where
        by : (b : Bool) → eqb many 0 ≡ b → b || has_asked ends ≡ true → some_entry (sets 0) (slice_index_or ends k r).calls.known.seen ≡ true
        by true is either = set_before (CanWork is_of) (Works E R is_of resumes time) shared homes hands row ends are k r low some (set (eqb-true many 0 is))
        by false is either = set_once_asked either k r low
