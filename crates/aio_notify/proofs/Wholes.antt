-- All numbers in one seat: what it knows, and what comes of it.
use Rattle.std.proofs.Common.{Some, None, ◌≡◌, ℕ, zero, suc, Bool, true, false, eqb, cond, List, [], refl, sym, ap, ◌∙◌, subst, ⊎_elim}
use Rattle.std.proofs.lemmas.Bool.{cases_Bool}
use Rattle.aio_model.specs.Loop.History.{Sizes}
use Rattle.aio_model.specs.Loop.Lists.{is_set}
use Rattle.aio_model.specs.Loop.Legal.{IsLegal}
use Rattle.aio_model.specs.Loop.Log.{first_from}
use Rattle.aio_model.specs.Loop.InFlight.{Reason, ForIndex, ForEvent, AtRest}
use Rattle.aio_core.specs.Words.{notifier_at, index_count}
use Rattle.aio_core.specs.Known.{NotifierLoad, Sleep, Running, Scanning, Armed, ToDisarm, Committed, Known, calmed}
use Rattle.aio_core.specs.Rule.{is_wanted, is_open}
use Rattle.aio_core.specs.Joining.{joined_known, told_of, IsJoined}
use Rattle.aio_core.specs.Splitting.{front_known, back_known}
use Rattle.aio_core.specs.Standing.{Looks}
use Rattle.aio_core.specs.SleepSteps.{watched_in, OwnsAll}
use Rattle.aio_notify.specs.Settling.{is_committed, least_pending, least_set, LooksAtFlags, LooksAtEvents, SameButDone, IsWhole, HomeHasAll, NotifierStands, EndsQuiet, IsGivenBack, FindsPending, FindsSetEvent}

committed_is : (s : Sleep) → is_committed s ≡ true → s ≡ Committed (watched_in s)
committed_is Running is = absurd cc
committed_is (Scanning made scan) is = absurd cc
committed_is (Armed made watched) is = absurd cc
committed_is ToDisarm is = absurd cc
committed_is (Committed watched) is = refl

calmed_is : (s : Sleep) → is_committed s ≡ true → calmed s ≡ s
calmed_is s is = let e = committed_is s is in ap calmed e ∙ sym e

pub whole_is : (notifier : Bool) (sizes : Sizes) (seat home united whole : Known) → seat.sizes ≡ sizes → united ≡ joined_known seat home → OwnsAll united → IsJoined sizes (told_of seat home) united.seen → IsLegal united.sizes united.seen × (united.mine ≡ united.seen) → (found : ℕ) × (notifier ≡ eqb found 1) × Looks NotifierLoad notifier_at found united whole → IsWhole notifier seat home whole
whole_is notifier sizes seat home united whole sizes_are both all parts history look =
    let step = look.2.rest in
    record {
      parts = subst (λ (k : Known). IsJoined seat.sizes (told_of seat home) k.seen) (sym step) (subst (λ z. IsJoined z (told_of seat home) united.seen) (sym sizes_are) parts);
      all = record { first = ap (λ (k : Known). k.first) step ∙ all.first; count = ap (λ (k : Known). k.count) step ∙ all.count };
      only = ap (λ (k : Known). k.mine) step ∙ history.1 ∙ sym (ap (λ (k : Known). k.seen) step);
      legal = subst (λ (k : Known). IsLegal k.sizes k.seen) (sym step) history.0;
      found = look.0;
      told = look.1;
      loads = subst (λ k. Looks NotifierLoad notifier_at look.0 k whole) both look.2;
    }

pub at_home : (found : ℕ) (home united whole : Known) → is_committed home.sleep ≡ true → united.phase ≡ AtRest → (united.stage ≡ home.stage) × (united.sleep ≡ calmed home.sleep) → Looks NotifierLoad notifier_at found united whole → HomeHasAll home whole
at_home found home united whole committed rest same look =
    record {
      stage = ap (λ (k : Known). k.stage) look.rest ∙ same.0;
      sleep = ap (λ (k : Known). k.sleep) look.rest ∙ same.1 ∙ calmed_is home.sleep committed;
      rest = ap (λ (k : Known). k.phase) look.rest ∙ rest;
    }

pub it_rings : (found : ℕ) (notifier : Bool) (home united whole : Known) → is_committed home.sleep ≡ true → united.phase ≡ AtRest → united.sleep ≡ calmed home.sleep → Looks NotifierLoad notifier_at found united whole → (united.phase ≡ AtRest → (watched : List ℕ) → united.sleep ≡ Committed watched → (reason : Reason) → is_wanted reason united.seen ≡ true → is_open [] watched reason ≡ false → notifier ≡ true) → NotifierStands notifier home whole
it_rings found notifier home united whole committed rest same look told reason wanted closed =
    told rest (watched_in home.sleep) (same ∙ calmed_is home.sleep committed ∙ committed_is home.sleep committed) reason (ap (is_wanted reason) (sym (ap (λ (k : Known). k.seen) look.rest)) ∙ wanted) closed

-- what a search found passes
pub first_passes : (test : ℕ → Bool) (start count n : ℕ) → first_from test start count ≡ Some n → test n ≡ true
first_passes test start zero n is = absurd cc
first_passes test start (suc count) n is =
    ⊎_elim (λ (yes : test start ≡ true). let here : Some start ≡ Some n = ap (λ (b : Bool). cond b (Some start) (first_from test (suc start) count)) (sym yes) ∙ is in let same : start ≡ n = cc in ap test (sym same) ∙ yes) (λ (nay : test start ≡ false). first_passes test (suc start) count n (ap (λ (b : Bool). cond b (Some start) (first_from test (suc start) count)) (sym nay) ∙ is)) (cases_Bool (test start))

pub given_back : (seat home whole looked seat_after home_after : Known) → is_committed home.sleep ≡ true → HomeHasAll home whole → SameButDone whole looked → seat_after ≡ front_known 64 looked → home_after ≡ back_known 64 looked → IsGivenBack seat home looked seat_after home_after
given_back seat home whole looked seat_after home_after committed kept same front back =
    record {
      seat_is = front;
      home_is = back;
      at_home = (ap (λ (k : Known). k.stage) (back ∙ ap (back_known 64) same) ∙ kept.stage, ap (λ (k : Known). k.sleep) (back ∙ ap (back_known 64) same) ∙ ap calmed kept.sleep ∙ calmed_is home.sleep committed);
      rest = (ap (λ (k : Known). k.phase) (front ∙ ap (front_known 64) same) ∙ kept.rest, ap (λ (k : Known). k.phase) back);
    }

-- of the answers

module _ (notifier : Bool) (sizes : Sizes) (seat home whole : Known) (sizes_are : seat.sizes ≡ sizes) (is : IsWhole notifier seat home whole) (kept : HomeHasAll home whole) (rings : NotifierStands notifier home whole) (committed : is_committed home.sleep ≡ true) where
  pub finds_pending : (i : ℕ) (looked seat_after home_after : Known) → LooksAtFlags (suc i) whole looked → Some i ≡ least_pending sizes whole.seen → SameButDone whole looked → seat_after ≡ front_known 64 looked → home_after ≡ back_known 64 looked → FindsPending i notifier seat home seat_after home_after
  finds_pending i looked seat_after home_after flags least same front back =
      record {
        whole = whole;
        looked = looked;
        is_whole = is;
        flags = flags;
        same = same;
        least = ap (λ (z : Sizes). least_pending z whole.seen) sizes_are ∙ sym least;
        rings = λ urgent. rings (ForIndex i) urgent refl;
        back = given_back seat home whole looked seat_after home_after committed kept same front back;
      }

  none_at : {looked : Known} → SameButDone whole looked → looked.seen ≡ whole.seen
  none_at same = ap (λ (k : Known). k.seen) same

  same_twice : (looked found : Known) → SameButDone whole looked → SameButDone looked found → SameButDone whole found
  same_twice looked found same more =
      more ∙ ap (λ (k : Known). record k { did = found.did }) same

  pub finds_event : (e : ℕ) (looked found seat_after home_after : Known) → LooksAtFlags (index_count sizes) whole looked → None ≡ least_pending sizes whole.seen → SameButDone whole looked → LooksAtEvents (suc e) looked found → Some e ≡ least_set sizes looked.seen → SameButDone looked found → seat_after ≡ front_known 64 found → home_after ≡ back_known 64 found → FindsSetEvent e notifier seat home seat_after home_after
  finds_event e looked found seat_after home_after flags none same events least more front back =
      let set : least_set seat.sizes whole.seen ≡ Some e = ap (λ (z : Sizes). least_set z whole.seen) sizes_are ∙ ap (least_set sizes) (sym (none_at same)) ∙ sym least in
      record {
        whole = whole;
        looked = looked;
        found = found;
        is_whole = is;
        flags = subst (λ (z : Sizes). LooksAtFlags (index_count z) whole looked) (sym sizes_are) flags;
        events = events;
        same = same_twice looked found same more;
        none_pending = ap (λ (z : Sizes). least_pending z whole.seen) sizes_are ∙ sym none;
        least = set;
        rings = λ watched. rings (ForEvent e) (first_passes (λ k. is_set k whole.seen) 0 seat.sizes.events e set) (rw watched refl);
        back = given_back seat home whole found seat_after home_after committed kept (same_twice looked found same more) front back;
      }

  pub it_ends : (looked end : Known) → LooksAtFlags (index_count sizes) whole looked → None ≡ least_pending sizes whole.seen → SameButDone whole looked → LooksAtEvents sizes.events looked end → None ≡ least_set sizes looked.seen → SameButDone looked end → EndsQuiet seat home end
  it_ends looked end flags none same events unset more =
      let all = same_twice looked end same more in
      let of_seat : whole.sizes ≡ sizes = ap (λ (k : Known). k.sizes) is.loads.rest ∙ sizes_are in
      record {
        notifier = notifier;
        whole = whole;
        looked = looked;
        is_whole = is;
        flags = subst (λ (z : Sizes). LooksAtFlags (index_count z) whole looked) (sym sizes_are) flags;
        events = subst (λ (z : Sizes). LooksAtEvents z.events looked end) (sym sizes_are) events;
        same = all;
        is_end = record {
          all = record { first = ap (λ (k : Known). k.first) all ∙ is.all.first; count = ap (λ (k : Known). k.count) all ∙ is.all.count };
          only = ap (λ (k : Known). k.mine) all ∙ is.only ∙ sym (ap (λ (k : Known). k.seen) all);
          legal = subst (λ (k : Known). IsLegal k.sizes k.seen) (sym all) is.legal;
          none_pending = ap (λ (k : Known). least_pending k.sizes k.seen) all ∙ ap (λ (z : Sizes). least_pending z whole.seen) of_seat ∙ sym none;
          none_set = ap (λ (k : Known). least_set k.sizes k.seen) all ∙ ap (λ (z : Sizes). least_set z whole.seen) of_seat ∙ ap (least_set sizes) (sym (none_at same)) ∙ sym unset;
        };
      }
