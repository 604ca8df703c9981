-- What an enqueue, or a cancel, through a lent seat says is what a callback owes.
use Rattle.std.proofs.Common.{◌≡◌, ℕ, Bool, true, false, [], Result, Ok, Err, MatchResult, refl, sym, ap, ◌∙◌, subst}
use Rattle.aio_model.specs.declared.loops.flags.Flags.{Flags}
use Rattle.aio_model.specs.Loop.History.{EnqueueAsks, History}
use Rattle.aio_model.specs.Loop.InFlight.{AtRest}
use Rattle.aio_model.specs.Loop.Legal.{IsLegal}
use Rattle.aio_model.specs.Loop.Frame.{are_of_callback}
use Rattle.aio_core.specs.Known.{Known}
use Rattle.aio_bh.specs.Enqueuing.{AddsOnly, enqueue_entries}
use Rattle.lot_pool.specs.Pools.{PassState}
use Rattle.aio_bh.specs.OneShots.{FindsNoRoom, PlacesOnce, one_shot_entries}
use Rattle.aio_bh.specs.Running.{SeatComesBack}

-- a callback may make the entries of an enqueue
pub enqueue_of_callback : (i : ℕ) (asked : EnqueueAsks) (seat : ℕ) (flags : Flags) → are_of_callback (enqueue_entries i asked seat flags) ≡ true
enqueue_of_callback i asked seat flags = by flags.pending refl
  where
    by : (b : Bool) → flags.pending ≡ b → are_of_callback (enqueue_entries i asked seat flags) ≡ true
    by true is = rw is refl
    by false is = rw is refl

pub SeatComesBack-stands : (made : History) (a b : Known) → are_of_callback made ≡ true → a.phase ≡ AtRest → b.phase ≡ AtRest → AddsOnly made a b → SeatComesBack made a b
SeatComesBack-stands made a b fits rest still stands =
    let s = stands.stands.stands in
    let told_is : b.told ≡ a.told = ap (λ (k : Known). k.told) stands.rest in
    record {
      between = s.rest;
      just_these = s.just_these;
      of_callback = fits;
      seen = s.longer;
      mine = s.mine_grows;
      legal = s.legal;
      rest = stands.rest ∙ ap (λ p. record a { seen = b.seen; mine = b.mine; did = b.did; phase = p }) (still ∙ sym rest) ∙ ap (λ t. record a { seen = b.seen; mine = b.mine; did = b.did; told = t }) (sym told_is);
      steps = stands.steps;
    }

-- an enqueue, from what it promises
pub SeatComesBack-enqueued : (i : ℕ) (asked : EnqueueAsks) (flags : Flags) (a b : Known) → a.phase ≡ AtRest → b.phase ≡ AtRest → AddsOnly (enqueue_entries i asked a.first flags) a b → SeatComesBack (enqueue_entries i asked a.first flags) a b
SeatComesBack-enqueued i asked flags a b rest still stands =
    SeatComesBack-stands (enqueue_entries i asked a.first flags) a b (enqueue_of_callback i asked a.first flags) rest still stands

-- nothing was done
pub SeatComesBack-nothing : (a : Known) → IsLegal a.sizes a.seen → SeatComesBack [] a a
SeatComesBack-nothing a legal = record { between = []; just_these = refl; of_callback = refl; seen = refl; mine = refl; legal = legal; rest = refl; steps = refl }

-- a one-shot that was placed
pub SeatComesBack-once : (job : ℕ) (pass : PassState) (a : Known) (pass_after : PassState) (b : Known) (placed : PlacesOnce job pass a pass_after b) → a.phase ≡ AtRest → b.phase ≡ AtRest → SeatComesBack (one_shot_entries placed.lot job a.first placed.places.places.flags) a b
SeatComesBack-once job pass a pass_after b placed rest still =
    SeatComesBack-stands (one_shot_entries placed.lot job a.first placed.places.places.flags) a b refl rest still placed.stands

-- one for which there was no room
pub SeatComesBack-refused : (pass : PassState) (a : Known) (pass_after : PassState) (b : Known) → IsLegal a.sizes a.seen → FindsNoRoom pass a pass_after b → SeatComesBack [] a b
SeatComesBack-refused pass a pass_after b legal refused =
    let same = refused.same in
    let seen_is : b.seen ≡ a.seen = ap (λ (k : Known). k.seen) same in
    let mine_is : b.mine ≡ a.mine = ap (λ (k : Known). k.mine) same in
    let told_is : b.told ≡ a.told = ap (λ (k : Known). k.told) same in
    record {
      between = [];
      just_these = refl;
      of_callback = refl;
      seen = seen_is;
      mine = mine_is;
      legal = subst (IsLegal a.sizes) (sym seen_is) legal;
      rest = same ∙ ap (λ l. record a { seen = l; did = b.did }) (sym seen_is) ∙ ap (λ m. record a { seen = b.seen; mine = m; did = b.did }) (sym mine_is) ∙ ap (λ t. record a { seen = b.seen; mine = b.mine; did = b.did; told = t }) (sym told_is);
      steps = refused.steps;
    }

-- a one-shot, whatever came of it
pub SeatComesBack-tried : {A E : Type 0} (answer : Result A E) (P : E → Type 0) (job : ℕ) (pass : PassState) (a : Known) (pass_after : PassState) (b : Known) → a.phase ≡ AtRest → b.phase ≡ AtRest → IsLegal a.sizes a.seen → MatchResult answer (λ _. PlacesOnce job pass a pass_after b) (λ refused. P refused × FindsNoRoom pass a pass_after b) → (made : History) × SeatComesBack made a b
SeatComesBack-tried (Ok x) P job pass a pass_after b rest still legal placed =
    (one_shot_entries placed.lot job a.first placed.places.places.flags, SeatComesBack-once job pass a pass_after b placed rest still)
SeatComesBack-tried (Err e) P job pass a pass_after b rest still legal refused = ([], SeatComesBack-refused pass a pass_after b legal refused.1)
