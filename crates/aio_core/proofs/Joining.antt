-- Two seats that are joined keep the rule, and a load after it tells that what each had seen is a part of the one history.
use Rattle.std.proofs.Common.{Option, ◌≡◌, ◌≢◌, ℕ, ◌+◌, ◌<◌, Bool, true, false, cond, List, set, slice_index, refl, sym, ◌∙◌, subst, ⊎_elim, arith}
use mathlib.Core.Option.{some, none}
use lib.ListN.{get_elem?}
use Rattle.atomic_table.specs.Table.{Me, keeps, step, Joins, Allows}
use Rattle.atomic_table.proofs.Lists.{set_else, set_again}
use Rattle.table_seats.specs.Seats.{owns, home, longer_of, AreParts}
use Rattle.table_seats.proofs.Joining.{both_owned, none_owned, each_joined, seats_join, joined_of}
use Rattle.aio_model.specs.Loop.History.{Sizes, History}
use Rattle.aio_model.specs.Loop.Lists.{seat_of, out_of, job_of}
use Rattle.aio_model.specs.Loop.Legal.{IsLegal}
use Rattle.aio_model.specs.Loop.InFlight.{Phase, AtRest}
use Rattle.aio_model.proofs.Rounds.{legal_cut}
use Rattle.aio_core.specs.Words.{head_at, next_in}
use Rattle.aio_core.specs.Known.{Known, calmed, part_of, numbers_of}
use Rattle.aio_core.specs.Rule.{IsOfTable, Owes, IsOut, NoneEmpty, HasOut, SomeSeat, Sleeps, HasSleep, Stands, IsFull, HasJob, SlotsStand, Kept}
use Rattle.aio_core.specs.Joining.{joined_known, spent_known, IsJoined}
use Rattle.aio_core.specs.Plays.{learned}
use Rattle.aio_core.proofs.Splitting.{HasSlots}
use Rattle.aio_core.proofs.Keeping.{loaded_words}
use Rattle.aio_core.proofs.Sleeping.{some_set, sleeps_more, sleeps_calmed, pushers_more}

-- what isn't of the one is of the other
other_owns : (v w : Known) (n : ℕ) → w.first ≡ v.first + v.count → owns (numbers_of w) n ≡ false → owns (numbers_of (joined_known v w)) n ≡ true → owns (numbers_of v) n ≡ true
other_owns v w n next not_its own =
    ⊎_elim (λ q. q) (λ q. absurd cc) (both_owned (numbers_of v) (numbers_of w) n next own)

module _ (sizes : Sizes) (h : History) (words : List ℕ) (views : List Known) (id other : ℕ) (v w : Known) (next : w.first ≡ v.first + v.count) where
  joined_out : Stands sizes h words views → get_elem? views id ≡ some v → get_elem? views other ≡ some w → HasOut words h (joined_known v w)
  joined_out stand at atw own = by (owns (numbers_of w) home) refl
    where
      by : (b : Bool) → owns (numbers_of w) home ≡ b → IsOut (next_in words) (cond b w.stage v.stage).slices (cond b w.stage v.stage).hand (out_of h) × NoneEmpty (cond b w.stage v.stage).slices
      by true is = stand.lists.out other w atw is
      by false is = stand.lists.out id v at (other_owns v w home next is own)

  abbrev after : List Known
  after = set (set views id (joined_known v w)) other spent_known

  -- who is under way is so still
  some_join : get_elem? views id ≡ some v → get_elem? views other ≡ some w → other ≢ id → w.phase ≡ AtRest → (P : Phase → Type 0) → (P AtRest → ⊥) → SomeSeat P views → SomeSeat P after
  some_join at atw away rest P no_rest one =
      some_set P (set views id (joined_known v w)) other w spent_known (set_else views id other (joined_known v w) away ∙ atw) (λ e. absurd (no_rest (subst P rest e))) (some_set P views id v (joined_known v w) at (λ e. e) one)

  joined_sleep : Stands sizes h words views → get_elem? views id ≡ some v → get_elem? views other ≡ some w → ((P : Phase → Type 0) → (P AtRest → ⊥) → SomeSeat P views → SomeSeat P after) → HasSleep h words after (joined_known v w)
  joined_sleep stand at atw more own = by (owns (numbers_of w) home) refl
    where
      by : (b : Bool) → owns (numbers_of w) home ≡ b → Sleeps h words after v.did (cond b (calmed w.sleep) v.sleep)
      by true is =
          sleeps_calmed h words views after more w.did v.did w.sleep (stand.sleep.home other w atw is)
      by false is =
          sleeps_more h words views after more v.did v.sleep (stand.sleep.home id v at (other_owns v w home next is own))

  pub join_stands : Stands sizes h words views → get_elem? views id ≡ some v → get_elem? views other ≡ some w → other ≢ id → 0 < v.count → w.phase ≡ AtRest → Stands sizes h words (set (set views id (joined_known v w)) other spent_known)
  join_stands stand at atw away numbered rest =
      let more = some_join at atw away rest in
      let table = stand.seats.tables id v at in
      let each_of = each_joined seat_of part_of views id other v w (joined_known v w) spent_known next refl refl at atw away in
      record {
        long = stand.long;
        legal = stand.legal;
        seats = record {
          parts = seats_join seat_of part_of views id other v w (joined_known v w) spent_known next refl refl at atw away h stand.seats.parts;
          tables = each_of (IsOfTable sizes) stand.seats.tables
              (record { sizes_are = λ _. table.sizes_are numbered; active = λ _. omega arith })
              (record { sizes_are = λ none_left. absurd (omega arith); active = λ q. absurd cc });
        };
        flags = stand.flags;
        lists = record {
          stack = stand.lists.stack;
          owed = each_of (λ u. Owes sizes words h u.first u.phase) stand.lists.owed (stand.lists.owed id v at) tt;
          out = each_of (HasOut words h) stand.lists.out (joined_out stand at atw) (λ own. absurd (let nobody = none_owned home in cc));
        };
        events = stand.events;
        sleep = record {
          notified = stand.sleep.notified;
          notifier = stand.sleep.notifier;
          pushers = pushers_more h words views after more stand.sleep;
          home = each_of (HasSleep h words after)
              (λ far u atu own. sleeps_more h words views after more u.did u.sleep (stand.sleep.home far u atu own))
              (joined_sleep stand at atw more)
              (λ own. absurd (let nobody = none_owned home in cc));
        };
      }

pub join_allowed : {J : Type 0} (number : J → ℕ) (sizes : Sizes) (id other : ℕ) (v w : Known) → w.first ≡ v.first + v.count → 0 < v.count → w.phase ≡ AtRest → Joins (Kept number sizes) id v other w (joined_known v w) spent_known
join_allowed number sizes id other v w next numbered rest s kept at away at_later =
    let atw = sym (set_else s.views id other (joined_known v w) away) ∙ at_later in (
      kept.0,
      join_stands sizes kept.0 s.words s.views id other v w next kept.1 at atw away numbered rest,
      record {
        vacant = kept.2.vacant;
        emptied = kept.2.emptied;
        full = each_joined seat_of part_of s.views id other v w (joined_known v w) spent_known next refl refl at atw away (HasSlots number sizes kept.0 s.homes) kept.2.full
            (λ own m low is. by (owns (numbers_of w) home) refl own m low is)
            (λ own. absurd (let nobody = none_owned home in cc));
      },
    )
  where
    by : (b : Bool) → owns (numbers_of w) home ≡ b → owns (numbers_of (joined_known v w)) home ≡ true → (m : ℕ) → m < sizes.lots → IsFull kept.0 (sizes.handles + m) → HasJob number (sizes.handles + m) (cond b w.stage v.stage) (job_of (sizes.handles + m) kept.0) (get_elem? s.homes m)
    by true is own = kept.2.full other w (sym (set_else s.views id other (joined_known v w) away) ∙ at_later) is
    by false is own = kept.2.full id v at (other_owns v w home next is own)

-- The load that tells of it.

pub learn_allowed : {J : Type 0} (number : J → ℕ) (sizes : Sizes) (slots id : ℕ) (me : Me (Option J) Known) → 0 < me.0.count → Allows (Kept number sizes) slots id me head_at (λ n. n) (learned (step slots head_at 0 0 none) me)
learn_allowed number sizes slots id me numbered s kept long at fits =
    let h = kept.0 in
    let stand = kept.1 in
    let v = me.0 in
    let same = set_again s.views id v at in
    let sized = (stand.seats.tables id v at).sizes_are numbered in
    let loaded : Stands sizes h (set s.words head_at (slice_index s.words head_at)) s.views = subst (λ ws. Stands sizes h ws s.views) (sym (loaded_words s.words head_at)) stand in (
      v,
      keeps,
      tt,
      (h, subst (λ vs. Stands sizes h (set s.words head_at (slice_index s.words head_at)) vs) (sym same) loaded, subst (λ vs. SlotsStand number sizes h s.homes vs) (sym same) kept.2),
      (
        refl,
        λ told eq.
            subst (λ z. IsJoined z told (longer_of told.staying told.joining)) (sym sized) (joined_of seat_of (IsLegal sizes) h told (legal_cut sizes) stand.legal (subst (AreParts seat_of h) eq (stand.seats.parts.each id v at).told_of)),
      ),
    )
