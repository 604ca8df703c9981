-- Seats that post coroutines list all that was made under their numbers.
use Rattle.std.proofs.Common.{◌≡◌, ◌≢◌, ℕ, Bool, List, [], ◌∷◌, ◌++◌, slice_index_or, refl, sym, ap, ◌∙◌, subst, true}
use Rattle.std.proofs.lemmas.Bool.{cases_eq}
use mathlib.Core.Logic.{⊎_elim}
use Rattle.table_seats.specs.Seats.{Numbers, owns, own_entries}
use Rattle.table_seats.proofs.Entries.{own-append, own-here, owns_first}
use Rattle.aio_model.specs.declared.coroutines.causes.Cause.{Cause}
use Rattle.aio_model.specs.Coroutines.History.{Entry, Schedule, Push, History, seat_of}
use Rattle.co_schedule.specs.Known.{Known, numbers_of}
use Rattle.co_schedule.specs.Standing.{Makes, Missed, SchedulesAtLast}
use Rattle.loop_rows.specs.declared.seats.Seats.{Seats}
use Rattle.loop_rows.specs.Posts.{Posts, DoesAt}
use Rattle.loop_rows.specs.Stepping.{OthersStay}
use Rattle.aio_run.specs.Posting.{AllHaveOwn}

abbrev Owns : Known → Type 0
Owns known = known.mine ≡ own_entries seat_of (numbers_of known) known.seen

makes_own : (e : Entry) (v w : Known) → Makes e v w → seat_of e ≡ v.first → numbers_of w ≡ numbers_of v → Owns v → Owns w
makes_own e v w makes by same own =
    let n = numbers_of v in
    let mine : owns n (seat_of e) ≡ true = subst (λ (k : ℕ). owns n k ≡ true) (sym by) (owns_first n makes.numbered) in
    let older : own_entries seat_of n (makes.others ++ v.seen) ≡ own_entries seat_of n v.seen = own-append seat_of n makes.others v.seen ∙ ap (λ (l : History). l ++ own_entries seat_of n v.seen) makes.not_own in
    makes.mine ∙ ap (λ (l : History). e ∷ l) (own ∙ sym older) ∙ sym (own-here seat_of n e (makes.others ++ v.seen) mine) ∙ ap (own_entries seat_of n) (sym makes.seen) ∙ ap (λ (m : Numbers). own_entries seat_of m w.seen) (sym same)

missed_own : (c : ℕ) (v w : Known) (tries : List (ℕ × ℕ)) → Missed c v w tries → Owns v → Owns w
missed_own c v w [] same own = subst Owns (sym same) own
missed_own c v w (t ∷ ts) missed own = subst Owns (sym missed.2) (missed_own c v missed.0 ts missed.1 own)

scheduled_own : (c : ℕ) (cause : Cause) (given : Bool) (v w : Known) → SchedulesAtLast c cause given v w → Owns v → Owns w
scheduled_own c cause given v w steps own =
    let marked = steps.marked in
    let last = steps.pushes.last in
    let first : Owns marked = makes_own (Schedule c cause given v.first) v marked steps.schedules.makes refl (ap numbers_of steps.schedules.rest) own in
    makes_own (Push c last.first) last w steps.pushes.pushes.makes refl (ap numbers_of steps.pushes.pushes.rest) (missed_own c marked last steps.pushes.tries steps.pushes.missed first)

module _ {C O : Type 0} where
  -- behind a post to one loop
  pub own_posted : (loops to co : ℕ) (cause : Cause) (given : Bool) (before after : List (Seats C O)) → AllHaveOwn loops before → OthersStay to before after → DoesAt to (Posts co cause given) before after → AllHaveOwn loops after
  own_posted loops to co cause given before after was others does t s below =
      ⊎_elim
      (λ (same : t ≡ to).
      subst (λ (k : ℕ). Owns (slice_index_or after k s).coroutines.known) (sym same)
      (scheduled_own co cause given (slice_index_or before to s).coroutines.known (slice_index_or after to s).coroutines.known (does s s).scheduled.steps (subst (λ (k : ℕ). Owns (slice_index_or before k s).coroutines.known) same (was t s below))))
      (λ (apart : t ≢ to). subst (λ (x : Seats C O). Owns x.coroutines.known) (sym (others t s apart)) (was t s below))
      (cases_eq t to)
