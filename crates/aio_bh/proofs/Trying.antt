-- Tries in a loop.
use Rattle.std.proofs.Common.{◌≡◌, ℕ, suc, ◌∙◌, subst}
use Rattle.aio_model.specs.Loop.InFlight.{Announced}
use Rattle.aio_core.specs.Calls.{TableState, SeatState, IsSeatOf}
use Rattle.aio_bh.specs.Enqueuing.{MissesOnce, Tries}

-- so far each try has missed
pub record IsTrying (table : TableState) (i : ℕ) (start now : SeatState) (owed : ℕ) : Type 0 where
  pub seat : IsSeatOf table now
  pub phase : now.known.phase ≡ Announced owed
  pub same : owed ≡ i
  pub misses : ℕ
  pub tries : Tries i misses start.known now.known

pub trying_on : (table : TableState) (i : ℕ) (start now next : SeatState) (owed again : ℕ) → IsTrying table i start now owed → IsSeatOf table next → again ≡ owed → MissesOnce owed now.known next.known → next.known.phase ≡ Announced again → IsTrying table i start next again
trying_on table i start now next owed again h seat is misses phase =
    record {
      seat = seat;
      phase = phase;
      same = is ∙ h.same;
      misses = suc h.misses;
      tries = (now.known, h.tries, subst (λ k. MissesOnce k now.known next.known) h.same misses);
    }
