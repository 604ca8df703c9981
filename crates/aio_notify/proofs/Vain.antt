-- Looks at a notifier that isn't set yet.
use Rattle.std.proofs.Common.{◌≡◌, ◌≢◌, ℕ, suc, ◌+◌, ◌≤◌, Bool, true, false, eqb, refl, sym, ◌∙◌, subst, arith}
use Rattle.std.proofs.lemmas.Bool.{eqb-true, eqb-false}
use Rattle.aio_core.specs.Words.{notifier_at}
use Rattle.aio_core.specs.Known.{NotifierLoad, Known}
use Rattle.aio_core.specs.Standing.{Looks}
use Rattle.aio_core.specs.Calls.{TableState, SeatState, IsSeatOf}
use Rattle.aio_notify.specs.Settling.{SameButDone}
use Rattle.aio_notify.specs.Waiting.{LooksInVain, FindsNotifier, PassesTime}
use Rattle.aio_notify.proofs.Ends.{same_further}

-- so far no look found it set
pub record IsWaiting (table : TableState) (start now : SeatState) : Type 0 where
  pub seat : IsSeatOf table now
  pub looks : ℕ
  pub vain : LooksInVain looks start.known now.known
  pub same : SameButDone start.known now.known

pub waits_first : (table : TableState) (start : SeatState) → IsSeatOf table start → IsWaiting table start start
waits_first table start seat =
    record { seat = seat; looks = 0; vain = refl; same = refl }

pub waits_on : (table : TableState) (start now next : SeatState) (found : ℕ) → IsWaiting table start now → IsSeatOf table next → Looks NotifierLoad notifier_at found now.known next.known → found ≡ 0 → IsWaiting table start next
waits_on table start now next found so_far seat look is =
    record {
      seat = seat;
      looks = suc so_far.looks;
      vain = (now.known, so_far.vain, subst (λ n. Looks NotifierLoad notifier_at n now.known next.known) is look);
      same = same_further start.known now.known next.known NotifierLoad notifier_at found so_far.same look;
    }

-- what a load found, and what it answered
pub none_found : (found : ℕ) (answer : Bool) → found ≤ 1 → answer ≡ eqb found 1 → answer ≡ false → found ≡ 0
none_found found answer bit is no_answer =
    let other : found ≢ 1 = eqb-false found 1 (sym is ∙ no_answer) in
    omega arith

pub one_found : (found : ℕ) (answer : Bool) → answer ≡ eqb found 1 → answer ≡ true → found ≡ 1
one_found found answer is yes_answer = eqb-true found 1 (sym is ∙ yes_answer)

abbrev pub Loaded : Bool → Known → Known → Type 0
Loaded answer before after =
    (found : ℕ) × (found ≤ 1) × (answer ≡ eqb found 1) × Looks NotifierLoad notifier_at found before after

pub waits_again : (table : TableState) (start now next : SeatState) (answer : Bool) → IsWaiting table start now → IsSeatOf table next → Loaded answer now.known next.known → answer ≡ false → IsWaiting table start next
waits_again table start now next answer so_far seat look no_answer =
    waits_on table start now next look.0 so_far seat look.3 (none_found look.0 answer look.1 look.2 no_answer)

pub finds_it : (table : TableState) (start now next : SeatState) (answer : Bool) → IsWaiting table start now → Loaded answer now.known next.known → answer ≡ true → FindsNotifier start.known next.known
finds_it table start now next answer so_far look yes_answer =
    record { looks = so_far.looks; last = now.known; vain = so_far.vain; set = subst (λ n. Looks NotifierLoad notifier_at n now.known next.known) (one_found look.0 answer look.2 yes_answer) look.3 }

pub same_found : (table : TableState) (start now next : SeatState) (answer : Bool) → IsWaiting table start now → Loaded answer now.known next.known → SameButDone start.known next.known
same_found table start now next answer so_far look =
    same_further start.known now.known next.known NotifierLoad notifier_at look.0 so_far.same look.3

pub passes_time : (table : TableState) (start now next : SeatState) (answer : Bool) (left from to : ℕ) → IsWaiting table start now → IsSeatOf table next → Loaded answer now.known next.known → answer ≡ false → from + left ≤ to → PassesTime left from to start.known next.known
unfolding waits_again waits_on
passes_time table start now next answer left from to so_far seat look no_answer passed =
    let more = waits_again table start now next answer so_far seat look no_answer in
    record { looks = suc so_far.looks; some = omega arith; vain = more.vain; passed = passed }
