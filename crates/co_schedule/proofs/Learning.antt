-- The load after a join keeps the rule, and tells that what each of the two had seen is a part of the one history.
use Rattle.std.proofs.Common.{◌≡◌, ℕ, ◌<◌, Bool, set, slice_index, refl, sym, subst}
use mathlib.Core.Option.{none}
use Rattle.atomic_table.specs.Table.{Me, keeps, step, Allows}
use Rattle.atomic_table.proofs.Lists.{set_again}
use Rattle.table_seats.specs.Seats.{longer_of, AreParts}
use Rattle.table_seats.specs.Calls.{IsJoined}
use Rattle.table_seats.proofs.Joining.{joined_of}
use Rattle.aio_model.specs.Coroutines.History.{seat_of, IsLegal}
use Rattle.co_schedule.specs.Words.{head_at}
use Rattle.co_schedule.specs.Known.{Known}
use Rattle.co_schedule.specs.Plays.{learned}
use Rattle.co_schedule.specs.Rule.{Stands}
use Rattle.co_schedule.specs.Slots.{SlotsStand, Kept}
use Rattle.aio_model.proofs.CoroutineHistories.{legal_cut}
use Rattle.co_schedule.proofs.Keeping.{loaded_words}

module _ {S : Type 0} (given_in : S → Bool) (IsOf : ℕ → S → Type 0) where
  pub learn_allowed : (n slots id : ℕ) (me : Me S Known) → 0 < me.0.count → Allows (Kept given_in IsOf n) slots id me head_at (λ k. k) (learned (step slots head_at 0 0 none) me)
  learn_allowed n slots id me numbered s kept long at fits =
      let h = kept.0 in
      let stand = kept.1 in
      let v = me.0 in
      let same : set s.views id v ≡ s.views = set_again s.views id v at in
      let sized : v.coroutines ≡ n = (stand.knows id v at).coroutines_are numbered in
      let loaded : Stands n h (set s.words head_at (slice_index s.words head_at)) s.views = subst (λ ws. Stands n h ws s.views) (sym (loaded_words s.words head_at)) stand in (
        v,
        keeps,
        tt,
        (h, subst (λ vs. Stands n h (set s.words head_at (slice_index s.words head_at)) vs) (sym same) loaded, subst (λ vs. SlotsStand given_in IsOf n h s.homes vs) (sym same) kept.2),
        (
          refl,
          λ told eq.
              subst (λ k. IsJoined seat_of (IsLegal k) told (longer_of told.staying told.joining)) (sym sized) (joined_of seat_of (IsLegal n) h told (legal_cut n) stand.legal (subst (AreParts seat_of h) eq (stand.seats.each id v at).told_of)),
        ),
      )
