use Rattle.std.proofs.Common.{◌≡◌, ℕ, true, false, not, Some, ap, refl, sym, ◌∙◌}
use Rattle.std.proofs.lemmas.Bool.{not-true, lt-ltb, le-ltb}
use Rattle.aio_model.specs.Loop.Flags.{lives, is_lot}
use Rattle.aio_model.specs.Loop.Log.{history_of, vacant_of}
use Rattle.aio_model.specs.Loop.State.{half_at}
use Rattle.aio_model.proofs.Searches.{first_from-some, first_from-agree}
use Rattle.aio_model.proofs.OnceFollows.{once_follows}
use Rattle.aio_model.proofs.loops.one_loop.OneLoop.once.Goals as goal

pub begin-requires : goal.begin-requires
begin-requires c =
    let st = c.args.self.now in
    (first_from-some (λ i. not (half_at i st).lives) st.sizes.handles st.sizes.lots c.in_ok-lot.lot (sym c.in_ok-lot.ensures.vacant)).1

pub enqueue-requires-clause-known : goal.enqueue-requires-clause-known
enqueue-requires-clause-known c =
    let st = c.args.self.now in
    rw c.begin.ensures.state (first_from-some (λ i. not (half_at i st).lives) st.sizes.handles st.sizes.lots c.in_ok-lot.lot (sym c.in_ok-lot.ensures.vacant)).1

pub returns-clause-follows : goal.returns-clause-follows
returns-clause-follows c seat log stands =
    let st = c.args.self.now in
    let i = c.in_ok-lot.lot in
    let t = λ (k : ℕ). not (half_at k st).lives in
    let u = λ (k : ℕ). not (lives k (history_of log)) in
    let found = sym c.in_ok-lot.ensures.vacant in
    let some = first_from-some t st.sizes.handles st.sizes.lots i found in
    let same : (k : ℕ) → t k ≡ u k = λ k. ap (λ h. not h.lives) (stands.halves k) in
    let vacant : vacant_of st.sizes log ≡ Some i = sym (first_from-agree t u same st.sizes.handles st.sizes.lots) ∙ found in
    let dead : lives i (history_of log) ≡ false = not-true _ (sym (same i) ∙ some.2) in
    let lot : is_lot st.sizes i ≡ true = rw (le-ltb i st.sizes.handles some.0, lt-ltb i _ some.1) refl in
    (sym vacant, rw (vacant, c.enqueue.ensures.state, c.begin.ensures.state) (once_follows st log stands i seat c.args.tag lot dead c.begin.ensures.in_range))
