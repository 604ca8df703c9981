-- The loop of a push: so far other passes were pushed in between.
use Rattle.std.proofs.Common.{◌≡◌, ◌≢◌, ℕ, MatchBool, List, [], ◌∷◌, refl, ap, ◌∙◌, subst}
use Rattle.std.proofs.lemmas.Bool.{eq-eqb, ne_eqb}
use Rattle.co_mutex.specs.declared.lock.CoMutex.{CoMutex}
use Rattle.co_mutex.specs.declared.lock.Pass.{Pass}
use Rattle.aio_model.specs.Lock.History.{Wait}
use Rattle.co_mutex.specs.LockWords.{head_at, who_at}
use Rattle.co_mutex.specs.Places.{Named, HeadLoaded, Linked, Pushed}
use Rattle.co_mutex.specs.Known.{WhoStore, HeadLoad, NextStore, HeadCompare, Done, Known, moves, advances}
use Rattle.co_mutex.specs.Plays.{done, Pushes}
use Rattle.co_mutex.specs.Passes.{IsOf, known, carried}
use Rattle.co_mutex.specs.Waking.{pushes, AllOfKinds, PushedFor}
use Rattle.co_mutex.proofs.Codes.{M}

module _ {P T N : Type 0} where
  pub record IsPushing (m : CoMutex P T N) (who : ℕ) (start now : Pass P T N) : Type 0 where
    pub pass : IsOf m now
    pub steps : List Done
    pub kinds : AllOfKinds pushes steps
    pub is : now.seat.me ≡ (advances (known start) (Named who) steps, [])

  pub push_init : (m : CoMutex P T N) (who : ℕ) (start now : Pass P T N) → IsOf m now → now.seat.me ≡ (moves (known start) (Named who) (done WhoStore (who_at (known start).number) who), []) → IsPushing m who start now
  push_init m who start now pass is =
      record { pass = pass; steps = done WhoStore (who_at (known start).number) who ∷ []; kinds = (refl, tt); is = is }

  module _ (m : CoMutex P T N) (who : ℕ) (start now : Pass P T N) (h : IsPushing m who start now) where
    pub push_named : (known now).place ≡ Named who
    push_named = ap (λ (z : M T). z.0.place) h.is

    pub push_free : carried now ≡ []
    push_free = ap (λ (z : M T). z.1) h.is

    module _ (loaded stored : Pass P T N) (head : ℕ) (loads : loaded.seat.me ≡ (moves (known now) (HeadLoaded who head) (done HeadLoad head_at head), [])) where
      pub loaded_place : (known loaded).place ≡ HeadLoaded who head
      loaded_place = ap (λ (z : M T). z.0.place) loads

      pub loaded_free : carried loaded ≡ []
      loaded_free = ap (λ (z : M T). z.1) loads

      module _ (at : ℕ) (links : stored.seat.me ≡ (moves (known loaded) (Linked who head) (done NextStore at head), [])) where
        pub stored_place : (known stored).place ≡ Linked who head
        stored_place = ap (λ (z : M T). z.0.place) links

        pub stored_free : carried stored ≡ []
        stored_free = ap (λ (z : M T). z.1) links

        stored_is : known stored ≡ advances (known start) (Linked who head) (done NextStore at head ∷ done HeadLoad head_at head ∷ h.steps)
        stored_is =
            ap (λ (z : M T). z.0) links ∙ ap (λ (z : M T). moves z.0 (Linked who head) (done NextStore at head)) loads ∙ ap (λ (z : M T). moves (moves z.0 (HeadLoaded who head) (done HeadLoad head_at head)) (Linked who head) (done NextStore at head)) h.is

        pub push_on : (after : Pass P T N) (found : ℕ) → IsOf m after → MatchBool (Rattle.std.proofs.Common.eqb found head) (Pushes who found stored.seat.me after.seat.me) (after.seat.me ≡ (moves (known stored) (Named who) (done HeadCompare head_at found), [])) → found ≢ head → IsPushing m who start after
        push_on after found pass told ne =
            let lost : after.seat.me ≡ (moves (known stored) (Named who) (done HeadCompare head_at found), []) = subst (λ b. MatchBool b (Pushes who found stored.seat.me after.seat.me) (after.seat.me ≡ (moves (known stored) (Named who) (done HeadCompare head_at found), []))) (ne_eqb found head ne) told in
            record { pass = pass; steps = done HeadCompare head_at found ∷ done NextStore at head ∷ done HeadLoad head_at head ∷ h.steps; kinds = (refl, (refl, (refl, h.kinds))); is = lost ∙ ap (λ (z : Known T). (moves z (Named who) (done HeadCompare head_at found), [])) stored_is }

        pub push_end : (after : Pass P T N) (found : ℕ) → MatchBool (Rattle.std.proofs.Common.eqb found head) (Pushes who found stored.seat.me after.seat.me) (after.seat.me ≡ (moves (known stored) (Named who) (done HeadCompare head_at found), [])) → found ≡ head → PushedFor who (known start) after.seat.me
        push_end after found told e =
            let won : Pushes who found stored.seat.me after.seat.me = subst (λ b. MatchBool b (Pushes who found stored.seat.me after.seat.me) (after.seat.me ≡ (moves (known stored) (Named who) (done HeadCompare head_at found), []))) (eq-eqb found head e) told in
            let steps = done NextStore at head ∷ done HeadLoad head_at head ∷ h.steps in
            let t = subst (λ (z : Known T). Rattle.co_mutex.specs.Plays.Makes (Wait z.number who) Pushed (done HeadCompare head_at found) won.older [] z after.seat.me) stored_is (subst (λ (l : List (ℕ × Rattle.co_mutex.specs.declared.slot.Slot.Slot T)). Rattle.co_mutex.specs.Plays.Makes (Wait (known stored).number who) Pushed (done HeadCompare head_at found) won.older l (known stored) after.seat.me) stored_free won.makes) in
            record { older = won.older; found = found; steps = steps; kinds = (refl, (refl, h.kinds)); makes = record { is = t.is; goes = t.goes; legal = t.legal } }
