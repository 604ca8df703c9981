-- A seat that is split keeps the rule.
use Rattle.std.proofs.Common.{◌≡◌, ℕ, ◌+◌, ◌<◌, ◌≤◌, true, List, [], ◌∷◌, ◌++◌, set, refl, arith}
use mathlib.Core.Option.{some}
use lib.ListN.{get_elem?}
use Rattle.atomic_table.specs.Table.{Splits}
use Rattle.atomic_table.proofs.Lists.{at_longer}
use Rattle.table_seats.specs.Seats.{owns, home}
use Rattle.table_seats.proofs.Splitting.{front_owned, back_owned, each_split, seats_split}
use Rattle.aio_model.specs.Loop.InFlight.{Phase, AtRest}
use Rattle.aio_model.specs.Loop.History.{Sizes, History}
use Rattle.aio_model.specs.Loop.Lists.{seat_of, job_of}
use Rattle.aio_core.specs.Known.{Known, part_of, numbers_of}
use Rattle.aio_core.specs.Rule.{IsOfTable, Owes, HasOut, SomeSeat, HasSleep, Stands, IsFull, HasJob, Kept, SlotOf}
use Rattle.aio_core.specs.Splitting.{front_known, back_known}
use Rattle.aio_core.proofs.Sleeping.{some_set, sleeps_more, sleeps_calmed, pushers_more}

module _ (sizes : Sizes) (h : History) (words : List ℕ) (views : List Known) (id cut : ℕ) (v : Known) where
  abbrev after : List Known
  after = set views id (front_known cut v) ++ back_known cut v ∷ []

  -- who is under way is so still
  some_split : get_elem? views id ≡ some v → (P : Phase → Type 0) → (P AtRest → ⊥) → SomeSeat P views → SomeSeat P after
  some_split at P rest one =
      let kept = some_set P views id v (front_known cut v) at (λ e. e) one in
      record { id = kept.id; known = kept.known; at = at_longer (set views id (front_known cut v)) (back_known cut v ∷ []) kept.id kept.known kept.at; is = kept.is }

  pub split_stands : Stands sizes h words views → get_elem? views id ≡ some v → 0 < cut → cut ≤ v.count → Stands sizes h words (set views id (front_known cut v) ++ back_known cut v ∷ [])
  split_stands stand at full low =
      let table = stand.seats.tables id v at in
      record {
        long = stand.long;
        legal = stand.legal;
        seats = record {
          parts = seats_split seat_of part_of views id cut v (front_known cut v) (back_known cut v) low refl refl h stand.seats.parts at;
          tables = each_split (IsOfTable sizes) views id (front_known cut v) (back_known cut v) stand.seats.tables
              (record { sizes_are = λ _. table.sizes_are (omega arith); active = λ _. full })
              (record { sizes_are = λ _. table.sizes_are (omega arith); active = λ q. absurd cc });
        };
        flags = stand.flags;
        lists = record {
          stack = stand.lists.stack;
          owed = each_split (λ u. Owes sizes words h u.first u.phase) views id (front_known cut v) (back_known cut v) stand.lists.owed (stand.lists.owed id v at) tt;
          out = each_split (HasOut words h) views id (front_known cut v) (back_known cut v) stand.lists.out (λ own. stand.lists.out id v at (front_owned (numbers_of v) cut home low own)) (λ own. stand.lists.out id v at (back_owned (numbers_of v) cut home low own));
        };
        events = stand.events;
        sleep = record {
          notified = stand.sleep.notified;
          notifier = stand.sleep.notifier;
          pushers = pushers_more h words views after (some_split at) stand.sleep;
          home = each_split (HasSleep h words after) views id (front_known cut v) (back_known cut v)
              (λ other u atu own. sleeps_more h words views after (some_split at) u.did u.sleep (stand.sleep.home other u atu own))
              (λ own. sleeps_more h words views after (some_split at) v.did v.sleep (stand.sleep.home id v at (front_owned (numbers_of v) cut home low own)))
              (λ own. sleeps_calmed h words views after (some_split at) v.did [] v.sleep (stand.sleep.home id v at (back_owned (numbers_of v) cut home low own)));
        };
      }

-- what a home's view says of a full lot's slot
abbrev pub HasSlots : {J : Type 0} → (J → ℕ) → Sizes → History → List (SlotOf J) → Known → Type 0
HasSlots number sizes h homes u =
    owns (numbers_of u) home ≡ true → (m : ℕ) → m < sizes.lots → IsFull h (sizes.handles + m) → HasJob number (sizes.handles + m) u.stage (job_of (sizes.handles + m) h) (get_elem? homes m)

pub split_allowed : {J : Type 0} (number : J → ℕ) (sizes : Sizes) (id cut : ℕ) (v : Known) → 0 < cut → cut ≤ v.count → Splits (Kept number sizes) id v (front_known cut v) (back_known cut v)
split_allowed number sizes id cut v full low s kept at = (
  kept.0,
  split_stands sizes kept.0 s.words s.views id cut v kept.1 at full low,
  record {
    vacant = kept.2.vacant;
    emptied = kept.2.emptied;
    full = each_split (HasSlots number sizes kept.0 s.homes) s.views id (front_known cut v) (back_known cut v) kept.2.full (λ own. kept.2.full id v at (front_owned (numbers_of v) cut home low own)) (λ own. kept.2.full id v at (back_owned (numbers_of v) cut home low own));
  },
)
