-- Lots that a home frees go back to their pool.
use Rattle.std.proofs.Common.{◌≡◌, ℕ, ◌&&◌, true, Bool, Option, [], ◌∷◌, ◌++◌, refl, sym, ap, ◌∙◌, subst, append_assoc}
use Rattle.std.proofs.lemmas.Bool.{false≢true}
use Rattle.aio_model.specs.Loop.History.{New, Enqueue, Put, Cancel, Take, Dequeue, Free, SetEvent, ClearEvent, History}
use Rattle.aio_model.specs.Loop.Frame.{are_of_callback}
use Rattle.aio_core.specs.Known.{Known}
use Rattle.aio_core.specs.Standing.{Frees}
use Rattle.aio_core.specs.Calls.{HasTaken}
use Rattle.lot_pool.specs.Pools.{PoolState, PassState, GivesAll}
use Rattle.lot_pool.specs.Pools.{GivesBack as GivesLotBack}
use Rattle.lot_pool.proofs.Passes.{gives_then}
use Rattle.aio_bh.specs.declared.polled.Polled.{Polled}
use Rattle.aio_bh.specs.Running.{SeatComesBack}
use Rattle.aio_bh.specs.PollFrames.{FindsNone, TakesNext}
use Rattle.aio_bh.specs.OneShots.{frees_of, FreesNone, GivesFreed}

pub frees_of-append : (newer older : History) → frees_of (newer ++ older) ≡ frees_of newer ++ frees_of older
frees_of-append [] older = refl
frees_of-append (New i s j ∷ newer) older = frees_of-append newer older
frees_of-append (Enqueue i a s w ∷ newer) older = frees_of-append newer older
frees_of-append (Put i s ∷ newer) older = frees_of-append newer older
frees_of-append (Cancel i s w ∷ newer) older = frees_of-append newer older
frees_of-append (Take ∷ newer) older = frees_of-append newer older
frees_of-append (Dequeue i r ∷ newer) older = frees_of-append newer older
frees_of-append (Free i ∷ newer) older = ap (λ l. i ∷ l) (frees_of-append newer older)
frees_of-append (SetEvent e s ∷ newer) older = frees_of-append newer older
frees_of-append (ClearEvent e w ∷ newer) older = frees_of-append newer older

frees_of-callback : (made : History) → are_of_callback made ≡ true → frees_of made ≡ []
frees_of-callback [] h = refl
frees_of-callback (New i s j ∷ made) h = frees_of-callback made h
frees_of-callback (Enqueue i a s w ∷ made) h = frees_of-callback made h
frees_of-callback (Put i s ∷ made) h = frees_of-callback made h
frees_of-callback (Cancel i s w ∷ made) h = frees_of-callback made h
frees_of-callback (Take ∷ made) h = absurd (false≢true h)
frees_of-callback (Dequeue i r ∷ made) h = absurd (false≢true h)
frees_of-callback (Free i ∷ made) h = absurd (false≢true h)
frees_of-callback (SetEvent e s ∷ made) h = frees_of-callback made h
frees_of-callback (ClearEvent e w ∷ made) h = absurd (false≢true h)

-- Where nothing is freed.

pub frees_nothing : (a : Known) → FreesNone a a
frees_nothing a = record { made = []; mine = refl; none = refl }

pub callback_frees_none : (made : History) (a b : Known) → SeatComesBack made a b → FreesNone a b
callback_frees_none made a b back =
    record { made = made; mine = back.mine; none = frees_of-callback made back.of_callback }

pub next_frees_none : (i : ℕ) (ran : Bool) (job : Option ℕ) (a b : Known) (p q : Polled) → TakesNext i ran job a b p q → FreesNone a b
next_frees_none i ran job a b p q next =
    record { made = Dequeue i ran ∷ []; mine = next.mine; none = refl }

pub take_frees_none : (a b : Known) → HasTaken a b → FreesNone a b
take_frees_none a b taken = record { made = Take ∷ []; mine = taken.takes.makes.mine; none = refl }

-- What a part of a poll does with the pass.

pub gives_nothing : (pool : PoolState) (a b : Known) (p : PassState) → FreesNone a b → GivesFreed pool a b p p
gives_nothing pool a b p frees =
    record { made = frees.made; mine = frees.mine; gives = subst (λ l. GivesAll pool l p p) (sym frees.none) refl }

pub none_out_gives_nothing : (pool : PoolState) (a b : Known) (q u : Polled) (p : PassState) → FindsNone a b q u → GivesFreed pool a b p p
none_out_gives_nothing pool a b q u p none =
    subst (λ k. GivesFreed pool a k p p) (sym none.same) (gives_nothing pool a a p (frees_nothing a))

pub gives_freed : (pool : PoolState) (lot : ℕ) (a b : Known) (p q : PassState) → Frees lot a b → GivesLotBack pool lot p q → GivesFreed pool a b p q
gives_freed pool lot a b p q frees gives =
    record { made = Free lot ∷ []; mine = frees.makes.mine; gives = (p, refl, gives) }

made_then : (a b c : Known) (first then : History) → b.mine ≡ first ++ a.mine → c.mine ≡ then ++ b.mine → c.mine ≡ (then ++ first) ++ a.mine
made_then a b c first then one two =
    two ∙ ap (λ l. then ++ l) one ∙ sym (append_assoc then first a.mine)

pub gives_freed-then : (pool : PoolState) (a b c : Known) (p q r : PassState) → GivesFreed pool a b p q → GivesFreed pool b c q r → GivesFreed pool a c p r
gives_freed-then pool a b c p q r first then = record {
  made = then.made ++ first.made;
  mine = made_then a b c first.made then.made first.mine then.mine;
  gives = subst (λ l. GivesAll pool l p r) (sym (frees_of-append then.made first.made)) (gives_then pool (frees_of first.made) (frees_of then.made) p q r first.gives then.gives);
}

pub gives_behind : (pool : PoolState) (a b c : Known) (p q : PassState) → FreesNone a b → GivesFreed pool b c p q → GivesFreed pool a c p q
gives_behind pool a b c p q none then =
    gives_freed-then pool a b c p p q (gives_nothing pool a b p none) then
