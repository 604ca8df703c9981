-- A new image's accounts.
use Rattle.std.proofs.Common.{◌≡◌, ℕ, zero, suc, List, [], length, replicate, slice_index, Option, refl, sym, subst}
use Rattle.aio_model.specs.Serving.Asked.{Asked}
use Rattle.aio_model.specs.Holds.WhoHolds.{ReadersWriter}
use Rattle.img_shared.specs.declared.phases.Phase.{Phase}
use Rattle.img_shared.specs.declared.phases.Phase.TheVariants.{Idle}
use Rattle.img_shared.specs.Notes.{note, told_in}
use Rattle.img_shared.specs.Phases.{phase_at}
use Rattle.img_join.specs.Accounts.{Account, Doing}

idle_all : (n k : ℕ) → phase_at (replicate n Idle) k ≡ Idle
idle_all zero k = refl
idle_all (suc n) zero = refl
idle_all (suc n) (suc k) = idle_all n k

pub account_new : {D : Type 0} → (bytes : D → Option (List ℕ)) (device : D) (size : ℕ) (requests homes : List ℕ) (access : ReadersWriter)
    (asked : List Asked) (id s : ℕ) (buffer : List ℕ)
    → Account bytes asked id s size (slice_index requests s)
    (note bytes (record {
      device = device;
      size = size;
      opening = device;
      left = device;
      requests = requests;
      journal = [];
      phases = replicate (length requests) Idle;
      access = access;
      homes = homes;
    }) s)
    [] buffer
account_new bytes device size requests homes access asked id s buffer = record {
  sized = refl;
  many = refl;
  answered = tt;
  doing = λ request here. subst (λ (p : Phase). Doing s size request buffer p (told_in p (bytes device) (bytes device))) (sym (idle_all (length requests) s)) tt;
}
