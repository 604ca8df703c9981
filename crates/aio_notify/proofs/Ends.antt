-- Searches over indices and events by looks.
use Rattle.std.proofs.Common.{Some, None, ◌≡◌, ℕ, zero, suc, ◌+◌, ◌<◌, ◌≤◌, Bool, true, false, cond, List, ◌∷◌, refl, sym, ap, ◌∙◌, subst, arith}
use Rattle.aio_model.specs.Loop.Log.{first_from}
use Rattle.aio_core.specs.Words.{flags_at, event_at}
use Rattle.aio_core.specs.Known.{ScanFlagsLoad, EventLoad, Kind, Done, Known}
use Rattle.aio_core.specs.Standing.{done, Looks}
use Rattle.aio_notify.specs.Settling.{LooksAtFlags, LooksAtEvents, SameButDone}

-- none of the numbers before this one passes
pub record NoneSoFar (test : ℕ → Bool) (count at : ℕ) : Type 0 where
  pub left : ℕ
  pub counts : at + left ≡ count
  pub same : first_from test 0 count ≡ first_from test at left

pub none_at_first : (test : ℕ → Bool) (count : ℕ) → NoneSoFar test count 0
none_at_first test count = record { left = count; counts = omega arith; same = refl }

pub none_next : (test : ℕ → Bool) (count at : ℕ) → NoneSoFar test count at → at < count → test at ≡ false → NoneSoFar test count (at + 1)
none_next test count at so_far below fails =
    let one : suc at ≡ at + 1 = omega arith in
    subst (NoneSoFar test count) one (go so_far.left so_far.counts so_far.same)
  where
    go : (left : ℕ) → at + left ≡ count → first_from test 0 count ≡ first_from test at left → NoneSoFar test count (suc at)
    go zero counts same = absurd (omega arith)
    go (suc left) counts same =
        record { left = left; counts = omega arith; same = same ∙ ap (λ (b : Bool). cond b (Some at) (first_from test (suc at) left)) fails }

pub found_here : (test : ℕ → Bool) (count at : ℕ) → NoneSoFar test count at → at < count → test at ≡ true → Some at ≡ first_from test 0 count
found_here test count at so_far below passes = go so_far.left so_far.counts so_far.same
  where
    go : (left : ℕ) → at + left ≡ count → first_from test 0 count ≡ first_from test at left → Some at ≡ first_from test 0 count
    go zero counts same = absurd (omega arith)
    go (suc left) counts same =
        sym (same ∙ ap (λ (b : Bool). cond b (Some at) (first_from test (suc at) left)) passes)

pub found_none : (test : ℕ → Bool) (count at : ℕ) → NoneSoFar test count at → count ≤ at → None ≡ first_from test 0 count
found_none test count at so_far all = go so_far.left so_far.counts so_far.same
  where
    go : (left : ℕ) → at + left ≡ count → first_from test 0 count ≡ first_from test at left → None ≡ first_from test 0 count
    go zero counts same = sym same
    go (suc left) counts same = absurd (omega arith)

-- One look more.

pub flags_further : (bh : ℕ) (before mid after : Known) → LooksAtFlags bh before mid → (found : ℕ) × Looks ScanFlagsLoad (flags_at bh) found mid after → LooksAtFlags (bh + 1) before after
flags_further bh before mid after so_far look =
    let one : suc bh ≡ bh + 1 = omega arith in
    subst (λ n. LooksAtFlags n before after) one (mid, so_far, look.0, look.1)

pub events_further : (e : ℕ) (before mid after : Known) → LooksAtEvents e before mid → (found : ℕ) × Looks EventLoad (event_at e) found mid after → LooksAtEvents (e + 1) before after
events_further e before mid after so_far look =
    let one : suc e ≡ e + 1 = omega arith in
    subst (λ n. LooksAtEvents n before after) one (mid, so_far, look.0, look.1)

pub same_further : (before mid after : Known) (kind : Kind) (word found : ℕ) → SameButDone before mid → Looks kind word found mid after → SameButDone before after
same_further before mid after kind word found same look =
    let grown : after.did ≡ done kind word found ∷ mid.did = ap (λ (k : Known). k.did) look.rest in
    let over : after ≡ record mid { did = after.did } = look.rest ∙ ap (λ (d : List Done). record mid { did = d }) (sym grown) in
    over ∙ ap (λ (k : Known). record k { did = after.did }) same
