-- A lock is what begins it, and what finishes it.
use Rattle.std.proofs.Common.{◌≡◌, ◌≢◌, ℕ, true, Some, None, List, [], ◌∷◌, ◌⊎◌, ⊎_elim, inr, refl, ap, subst}
use Rattle.aio_model.specs.Lock.History.{LockEntry}
use Rattle.co_mutex.specs.declared.answers.Lock.{Lock}
use Rattle.co_mutex.specs.declared.answers.Lock.TheVariants.{Held, Queued as Waits}
use Rattle.co_mutex.specs.LockWords.{locked_at}
use Rattle.co_mutex.specs.Places.{PassPlace, Counted}
use Rattle.co_mutex.specs.Known.{Kind, LockedCompare, LockedFetchAdd, Done, Known, advances}
use Rattle.co_mutex.specs.Plays.{done}
use Rattle.co_mutex.specs.Calls.{finishes, locks, Did, Comes, Finishes, Locks}
use Rattle.co_mutex.proofs.Finishing.{all_wider, did_more}

from_finishes : (k : Kind) → finishes k ≡ true → locks k ≡ true
from_finishes Rattle.co_mutex.specs.Known.LockedCompare e = refl
from_finishes Rattle.co_mutex.specs.Known.LockedFetchAdd e = refl
from_finishes Rattle.co_mutex.specs.Known.LockedFetchSub e = absurd cc
from_finishes Rattle.co_mutex.specs.Known.WhoStore e = refl
from_finishes Rattle.co_mutex.specs.Known.HeadLoad e = refl
from_finishes Rattle.co_mutex.specs.Known.NextStore e = refl
from_finishes Rattle.co_mutex.specs.Known.HeadCompare e = refl
from_finishes Rattle.co_mutex.specs.Known.HeadSwap e = refl
from_finishes Rattle.co_mutex.specs.Known.NextLoad e = refl
from_finishes Rattle.co_mutex.specs.Known.WhoLoad e = refl
from_finishes Rattle.co_mutex.specs.Known.GrantStore e = refl
from_finishes Rattle.co_mutex.specs.Known.GrantSwap e = refl
from_finishes Rattle.co_mutex.specs.Known.HandoffLoad e = refl
from_finishes Rattle.co_mutex.specs.Known.HandoffStore e = absurd cc
from_finishes Rattle.co_mutex.specs.Known.HandoffCompare e = refl
from_finishes Rattle.co_mutex.specs.Known.SecondLook e = absurd cc

module _ {T : Type 0} where
  comes_from : (place p : PassPlace) (entries : List (LockEntry T)) (v w : Known T) (steps : List Done) → Comes place entries (advances v p steps) w → Comes place entries v w
  comes_from place p entries v w steps c = record { place_is = c.place_is; number_is = c.number_is; stands = c.stands }

  pub did_lock : (v mid w : Known T) (x more : ℕ) → mid ≡ advances v Counted (done LockedFetchAdd locked_at more ∷ done LockedCompare locked_at x ∷ []) → Did finishes mid.did w.did → Did locks v.did w.did
  did_lock v mid w x more e d =
      let start : Did locks v.did mid.did = record { steps = done LockedFetchAdd locked_at more ∷ done LockedCompare locked_at x ∷ []; is = ap (λ (z : Known T). z.did) e; kinds = (refl, (refl, tt)) } in
      did_more locks v.did mid.did w.did d.steps start (all_wider finishes locks from_finishes d.steps d.kinds) d.is

module _ {P T N : Type 0} (note : T → ℕ → N) (built : T) where
  pub locks_later : (who : ℕ) (v mid w : Known T) (steps : List Done) (lock : Lock P T N) → mid ≡ advances v Counted steps → Finishes note built who mid lock w → Locks note built who v lock w
  locks_later who v mid w steps lock e f = by lock (subst (λ (z : Known T). Finishes note built who z lock w) e f)
    where
      by : (lock : Lock P T N) → Finishes note built who (advances v Counted steps) lock w → Locks note built who v lock w
      by (Held guard) h = inr record { comes = comes_from _ Counted _ v w steps h.comes; value_is = h.value_is; noted = h.noted; own = h.own }
      by (Waits None) c = comes_from _ Counted _ v w steps c
      by (Waits (Some co)) c =
          (c.0, c.1, comes_from _ Counted _ v w steps c.2, record { older = c.3.older; last = c.3.last; named = c.3.named })

pub did_begun : (before after : List Done) → (after ≡ done LockedCompare locked_at 0 ∷ before) ⊎ ((w : ℕ) × (w ≢ 0) × (after ≡ done LockedFetchAdd locked_at 0 ∷ done LockedCompare locked_at w ∷ before)) → Did locks before after
did_begun before after told =
    ⊎_elim
    (λ e. record { steps = done LockedCompare locked_at 0 ∷ []; is = e; kinds = (refl, tt) })
    (λ t. record { steps = done LockedFetchAdd locked_at 0 ∷ done LockedCompare locked_at t.0 ∷ []; is = t.2; kinds = (refl, (refl, tt)) })
    told
