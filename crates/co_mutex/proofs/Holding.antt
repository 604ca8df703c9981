-- How a pass comes to hold, by its steps; and that it is the lock's pass then.
use Rattle.std.proofs.Common.{◌≡◌, ◌≢◌, ℕ, eqb, MatchBool, List, [], ◌∷◌, ◌++◌, refl, sym, ap, ◌∙◌, subst, get_or}
use Rattle.std.proofs.lemmas.Bool.{eq-eqb, ne_eqb}
use Rattle.aio_model.specs.Lock.History.{LockEntry, Got, value_of}
use Rattle.aio_model.specs.Lock.Notes.{IsNoted}
use Rattle.aio_model.specs.Lock.Seats.{StandsInLock}
use Rattle.co_mutex.specs.declared.slot.Slot.{Slot}
use Rattle.co_mutex.specs.declared.slot.Slot.TheVariants.{Value, Out}
use Rattle.co_mutex.specs.declared.lock.CoMutex.{CoMutex}
use Rattle.co_mutex.specs.declared.lock.Pass.{Pass}
use Rattle.co_mutex.specs.LockWords.{locked_at}
use Rattle.co_mutex.specs.Places.{PassPlace, AtRest, Holds}
use Rattle.co_mutex.specs.Known.{Kind, GrantSwap, Done, Known, advances}
use Rattle.co_mutex.specs.Plays.{done, Gets, FindsGrant}
use Rattle.co_mutex.specs.Passes.{IsOf, IsPassOf, hand_of}
use Rattle.co_mutex.specs.Calls.{HoldsNow}
use Rattle.co_mutex.proofs.Calls.{stands_one, stands_none, own_note}
use Rattle.co_mutex.proofs.Codes.{M}
use Rattle.co_mutex.proofs.OwnerSteps.{value_same}

module _ {P T N : Type 0} where
  pub pass_free : (m : CoMutex P T N) (p : Pass P T N) (place : PassPlace) → IsOf m p → p.seat.me.1 ≡ [] → p.seat.me.0.place ≡ place → hand_of {T = T} place ≡ [] → IsPassOf m p
  pass_free m p place is none_there here empty =
      record { of = is; hand = none_there ∙ sym empty ∙ ap hand_of (sym here) }

  pub pass_holds : (m : CoMutex P T N) (p : Pass P T N) → IsOf m p → p.seat.me.1 ≡ (0, Out) ∷ [] → p.seat.me.0.place ≡ Holds → IsPassOf m p
  pass_holds m p is one here = record { of = is; hand = one ∙ ap hand_of (sym here) }

  pub hand_free : (m : CoMutex P T N) (p : Pass P T N) (place : PassPlace) → IsPassOf m p → p.seat.me.0.place ≡ place → hand_of {T = T} place ≡ [] → p.seat.me.1 ≡ []
  hand_free m p place is here empty = is.hand ∙ ap hand_of here ∙ empty

module _ {T : Type 0} where
  pub rest_start : (v : Known T) → v.place ≡ AtRest → v ≡ advances v AtRest []
  rest_start v e = ap (λ p. record v { place = p }) e

  pub first_value : (x y : T) → ◌≡◌ {A = List (ℕ × Slot T)} ((0, Value x) ∷ []) ((0, Value y) ∷ []) → x ≡ y
  first_value x y e =
      value_same x y (ap (λ (l : List (ℕ × Slot T)). (get_or l 0 (0, Value x)).1) e)

module _ {T N : Type 0} (note : T → ℕ → N) (built : T) where
  pub held_of : (entries : List (LockEntry T)) (value : T) (v w : Known T) → w.place ≡ Holds → w.number ≡ v.number → StandsInLock v.number entries v.seen v.mine w.seen w.mine → value ≡ value_of built w.seen → IsNoted note built w.seen → HoldsNow note built entries value v w
  held_of entries value v w place number stands is noted =
      record { comes = record { place_is = place; number_is = number; stands = stands }; value_is = is; noted = noted; own = ap (λ x. note x v.number) is ∙ own_note note built v.number w.seen w.mine noted stands.all_mine }

  pub got_hand : (kind : Kind) (before after : M T) → Gets note kind built before after → (x : T) × (after.1 ≡ (0, Value x) ∷ [])
  got_hand kind before after g = (value_of built g.older, ap (λ (z : M T). z.1) g.makes.is)

  pub find_hand : (at : ℕ) (before after : M T) → FindsGrant note at built before after → (x : T) × (after.1 ≡ (0, Value x) ∷ [])
  find_hand at before after f = (value_of built f.all, ap (λ (z : M T). z.1) f.is)

  module _ (kind : Kind) (v : Known T) (before after last : M T) (pre : List Done) (start : before.0 ≡ advances v AtRest pre) where
    -- the lock was free, and the value was taken out
    pub got_holds : (value : T) → Gets note kind built before after → after.1 ≡ (0, Value value) ∷ [] → last ≡ (after.0, (0, Out) ∷ []) → HoldsNow note built (Got v.number ∷ []) value v last.0 × (last.0.did ≡ done kind locked_at 0 ∷ pre ++ v.did)
    got_holds value g had is =
        (held_of (Got v.number ∷ []) value v last.0 (ap (λ (z : Known T). z.place) now) (ap (λ (z : Known T). z.number) now) (subst (λ (z : Known T). StandsInLock v.number (Got v.number ∷ []) v.seen v.mine z.seen z.mine) (sym now) (stands_one v.number (Got v.number) g.older v.seen v.mine refl goes legal)) (value_now ∙ ap (λ (z : Known T). value_of built z.seen) (sym now)) (subst (λ (z : Known T). IsNoted note built z.seen) (sym now) g.noted), ap (λ (z : Known T). z.did) now)
      where
        w : Known T
        w = Rattle.co_mutex.specs.Known.makes (advances v AtRest pre) Holds (done kind locked_at 0) g.older (Got v.number)

        now : last.0 ≡ w
        now =
            ap (λ (z : M T). z.0) is ∙ ap (λ (z : M T). z.0) g.makes.is ∙ ap (λ (z : Known T). Rattle.co_mutex.specs.Known.makes z Holds (done kind locked_at 0) g.older (Got z.number)) start

        goes : Rattle.co_mutex.specs.Known.GoesOn v.number v.seen v.mine g.older
        goes = subst (λ (z : Known T). Rattle.co_mutex.specs.Known.KnownGoesOn z g.older) start g.makes.goes

        legal : Rattle.aio_model.specs.Lock.History.IsLegalLock (Got v.number ∷ g.older)
        legal =
            subst (λ (z : Known T). Rattle.aio_model.specs.Lock.History.IsLegalLock (Got z.number ∷ g.older)) start g.makes.legal

        value_now : value ≡ value_of built g.older
        value_now = first_value value (value_of built g.older) (sym had ∙ ap (λ (z : M T). z.1) g.makes.is)

  module _ (at : ℕ) (before after last : M T) where
    -- the grant was found, and the value was taken out
    pub find_holds : (value : T) → FindsGrant note at built before after → after.1 ≡ (0, Value value) ∷ [] → last ≡ (after.0, (0, Out) ∷ []) → HoldsNow note built [] value before.0 last.0 × (last.0.did ≡ done GrantSwap at 1 ∷ before.0.did)
    find_holds value f had is =
        (held_of [] value before.0 last.0 (ap (λ (z : Known T). z.place) now) (ap (λ (z : Known T). z.number) now) (subst (λ (z : Known T). StandsInLock before.0.number [] before.0.seen before.0.mine z.seen z.mine) (sym now) (stands_none before.0.number before.0.seen before.0.mine f.all f.goes)) (first_value value (value_of built f.all) (sym had ∙ ap (λ (z : M T). z.1) f.is) ∙ ap (λ (z : Known T). value_of built z.seen) (sym now)) (subst (λ (z : Known T). IsNoted note built z.seen) (sym now) f.noted), ap (λ (z : Known T). z.did) now)
      where
        now : last.0 ≡ Rattle.co_mutex.specs.Known.learns before.0 Holds (done GrantSwap at 1) f.all
        now = ap (λ (z : M T). z.0) is ∙ ap (λ (z : M T). z.0) f.is

-- which of two things a step told
pub told_true : (A B : Type 0) (x y : ℕ) → MatchBool (eqb x y) A B → x ≡ y → A
told_true A B x y m e = subst (λ b. MatchBool b A B) (eq-eqb x y e) m

pub told_false : (A B : Type 0) (x y : ℕ) → MatchBool (eqb x y) A B → x ≢ y → B
told_false A B x y m ne = subst (λ b. MatchBool b A B) (ne_eqb x y ne) m
