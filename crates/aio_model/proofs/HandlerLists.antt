-- Lists of handlers, and the bits of events.
use Rattle.std.proofs.Common.{◌≡◌, ℕ, ◌+◌, ◌^◌, ◌/◌, ◌%◌, ◌<◌, ◌≤◌, true, false, List, length, drop, get_or, is_some, refl, ap, eqb, eq-eqb, add-one, arith}
use Rattle.std.proofs.Math.Seq.{drop-cons}
use Rattle.std.proofs.lemmas.Bool.Decides.{nat_tests}
use Rattle.std.proofs.Math.Nat.{div-eq_of_lt}
use Rattle.std.proofs.Math.Pow.{pow_mono}
use Rattle.aio_model.specs.declared.handlers.calls.Handler.{Handler}
use Rattle.aio_model.specs.Handlers.Calls.{named, has_event}

module _ (id at : ℕ) (handlers : List Handler) (default : Handler) (inside : at < length handlers) where
  -- a handler at this place has the number
  pub named_here : (get_or handlers at default).id ≡ id → is_some (named id (drop at handlers)) ≡ true
  named_here same =
      let e : eqb (get_or handlers at default).id id ≡ true = eq-eqb (get_or handlers at default).id id same in
      rw (drop-cons handlers at default inside, e) refl

  -- it has another one
  pub named_later : ((get_or handlers at default).id ≡ id → ⊥) → is_some (named id (drop at handlers)) ≡ is_some (named id (drop (at + 1) handlers))
  named_later other =
      let e : eqb (get_or handlers at default).id id ≡ false = grind (arith, nat_tests) in
      rw (drop-cons handlers at default inside, e, add-one at) refl

-- a word of 64 bits has no bit behind them
pub no_event_behind : (events event : ℕ) → events < 2 ^ 64 → 64 ≤ event → has_event events event ≡ false
no_event_behind events event fits behind =
    let room : 2 ^ 64 ≤ 2 ^ event = pow_mono behind in
    let small : events < 2 ^ event = omega arith in
    let none : events / 2 ^ event ≡ 0 = div-eq_of_lt small in
    ap (λ rest. eqb (rest % 2) 1) none
