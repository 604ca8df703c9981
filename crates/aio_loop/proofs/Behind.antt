-- What the parts of a turn leave of home.
use Rattle.std.proofs.Common.{◌≡◌, ℕ, zero, suc, Bool, true, false, cond, eqb, MatchBool, ◌∷◌, length, refl, sym, ap, ◌∙◌, subst}
use Rattle.std.proofs.lemmas.Bool.{false≢true}
use Rattle.aio_model.specs.Loop.History.{History}
use Rattle.aio_model.specs.Loop.Legal.{IsLegal}
use Rattle.aio_core.specs.Known.{Known, Sleep, Running, Scanning, Armed, ToDisarm, Committed, is_running}
use Rattle.aio_core.specs.SleepSteps.{LoadsEvent, after_any_load}
use Rattle.aio_core.specs.Calls.{TableState, SeatState, IsSeatOf}
use Rattle.aio_notify.specs.Watching.{watches, LooksAt, FindsBits}
use Rattle.aio_bh.specs.Running.{SeatComesBack}
use Rattle.aio_loop.specs.Homes.{IsHomeFree}

-- behind an entry into the runner
pub free_behind : (table : TableState) (made : History) (a b : SeatState) → IsHomeFree table a → IsSeatOf table b → SeatComesBack made a.known b.known → IsHomeFree table b
free_behind table made a b free of back = record {
  of_table = of;
  rest = ap (λ (k : Known). k.phase) back.rest ∙ free.rest;
  running = ap (λ (k : Known). is_running k.sleep) back.rest ∙ free.running;
  empty = ap (λ (k : Known). k.stage) back.rest ∙ free.empty;
}

pub legal_behind : (table : TableState) (made : History) (a b : SeatState) → IsHomeFree table a → SeatComesBack made a.known b.known → IsLegal table.sizes b.known.seen
legal_behind table made a b free back =
    subst (λ s. IsLegal s b.known.seen) free.of_table.sizes back.legal

-- a look at an event leaves home running
loads_running : (found e made : ℕ) (s : Sleep) → is_running s ≡ true → is_running (after_any_load found e made s) ≡ true
loads_running found e made Running running = refl
loads_running found e made (Scanning m scan) running =
    by (eqb m made) (eqb found 0)
  where
    by : (b z : Bool) → is_running (cond b (cond z (Scanning (suc made) (record scan { watched = e ∷ scan.watched })) Running) (Scanning m scan)) ≡ true
    by true true = refl
    by true false = refl
    by false z = refl
loads_running found e made (Armed m watched) running = absurd (false≢true running)
loads_running found e made ToDisarm running = absurd (false≢true running)
loads_running found e made (Committed watched) running =
    absurd (false≢true running)

-- home saw nothing new, and runs if it did
pub record LeavesRunning (before after : Known) : Type 0 where
  pub running : is_running before.sleep ≡ true → is_running after.sleep ≡ true
  pub seen : after.seen ≡ before.seen

looks_running : (watch e : ℕ) (set : Bool) (a b : Known) → LooksAt watch e set a b → LeavesRunning a b
looks_running watch e set a b = by (watches watch e)
  where
    by : (w : Bool) → MatchBool w ((found : ℕ) × (set ≡ eqb found 1) × LoadsEvent e found a b) ((set ≡ false) × (b ≡ a)) → LeavesRunning a b
    by true h = record {
      running = λ running. ap (λ (k : Known). is_running k.sleep) h.2.rest ∙ loads_running h.0 e (length a.did) a.sleep running;
      seen = ap (λ (k : Known). k.seen) h.2.rest;
    }
    by false h =
        subst (λ k. LeavesRunning a k) (sym h.1) (record { running = λ running. running; seen = refl })

-- and so do looks at several
pub finds_running : (watch events bits : ℕ) (a b : Known) → FindsBits watch events bits a b → LeavesRunning a b
finds_running watch zero bits a b finds =
    subst (λ k. LeavesRunning a k) (sym finds.1) (record { running = λ running. running; seen = refl })
finds_running watch (suc e) bits a b finds =
    let before = finds_running watch e finds.1 a finds.0 finds.3 in
    let last = looks_running watch e finds.2 finds.0 b finds.4 in
    record {
      running = λ running. last.running (before.running running);
      seen = last.seen ∙ before.seen;
    }
