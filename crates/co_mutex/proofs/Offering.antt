-- A hand-off that was published, and what became of it.
use Rattle.std.proofs.Common.{◌≡◌, ◌≢◌, ℕ, Bool, true, false, eqb, cond, not, MatchBool, [], ◌∷◌, refl, ap, ◌∙◌}
use Rattle.std.proofs.lemmas.Bool.{eq-eqb, ne_eqb}
use Rattle.co_mutex.specs.LockWords.{handoff_at, head_at}
use Rattle.co_mutex.specs.Places.{Unlocking, AtRest, Published, Found}
use Rattle.co_mutex.specs.Known.{HandoffStore, HandoffCompare, SecondLook, Known, moves, advances}
use Rattle.co_mutex.specs.Plays.{done, TakesDuty}
use Rattle.co_mutex.specs.Waking.{Offered}
use Rattle.co_mutex.proofs.Codes.{M}

module _ {T : Type 0} (v : Known T) (put stored looked : M T) (number found : ℕ) (some : number ≢ 0) (same : put.0 ≡ v) (publishes : stored ≡ (moves put.0 (Published number) (done HandoffStore handoff_at number), [])) (looks : looked ≡ (moves stored.0 (cond (eqb found 0) AtRest (Found number)) (done SecondLook head_at found), [])) where
  numbered : not (eqb number 0) ≡ true
  numbered = ap not (ne_eqb number 0 some)

  looked_is : looked ≡ (advances v (cond (eqb found 0) AtRest (Found number)) (done SecondLook head_at found ∷ done HandoffStore handoff_at number ∷ []), [])
  looked_is =
      looks ∙ ap (λ (z : M T). (moves z.0 (cond (eqb found 0) AtRest (Found number)) (done SecondLook head_at found), [])) publishes ∙ ap (λ (z : Known T). (advances z (cond (eqb found 0) AtRest (Found number)) (done SecondLook head_at found ∷ done HandoffStore handoff_at number ∷ []), [])) same

  -- nobody was pushed
  pub offered_none : found ≡ 0 → Offered false v looked
  offered_none e =
      record { steps = done SecondLook head_at found ∷ done HandoffStore handoff_at number ∷ []; kinds = (refl, (numbered, tt)); is = looked_is ∙ ap (λ b. (advances v (cond b AtRest (Found number)) (done SecondLook head_at found ∷ done HandoffStore handoff_at number ∷ []), [])) (eq-eqb found 0 e) }

  pub looked_found : found ≢ 0 → looked ≡ (advances v (Found number) (done SecondLook head_at found ∷ done HandoffStore handoff_at number ∷ []), [])
  looked_found ne =
      looked_is ∙ ap (λ b. (advances v (cond b AtRest (Found number)) (done SecondLook head_at found ∷ done HandoffStore handoff_at number ∷ []), [])) (ne_eqb found 0 ne)

  -- the number was compared
  pub offered_back : found ≢ 0 → (after : M T) (there : ℕ) → MatchBool (eqb there number) (TakesDuty Unlocking there looked.0 after) (after ≡ (moves looked.0 AtRest (done HandoffCompare handoff_at there), [])) → Offered (eqb there number) v after
  offered_back ne after there told = by (eqb there number) told
    where
      known_is : looked.0 ≡ advances v (Found number) (done SecondLook head_at found ∷ done HandoffStore handoff_at number ∷ [])
      known_is = ap (λ (z : M T). z.0) (looked_found ne)

      by : (b : Bool) → MatchBool b (TakesDuty Unlocking there looked.0 after) (after ≡ (moves looked.0 AtRest (done HandoffCompare handoff_at there), [])) → Offered b v after
      by true t =
          record { steps = done HandoffCompare handoff_at there ∷ done SecondLook head_at found ∷ done HandoffStore handoff_at number ∷ []; kinds = (refl, (refl, (numbered, tt))); is = (t.last, t.is ∙ ap (λ (z : Known T). (moves z (Rattle.co_mutex.specs.Places.OnDuty Unlocking (Rattle.co_mutex.specs.Places.ToPop [])) (done HandoffCompare handoff_at there), (1, Rattle.co_mutex.specs.Rule.Popped [] t.last) ∷ [])) known_is) }
      by false t =
          record { steps = done HandoffCompare handoff_at there ∷ done SecondLook head_at found ∷ done HandoffStore handoff_at number ∷ []; kinds = (refl, (refl, (numbered, tt))); is = t ∙ ap (λ (z : Known T). (moves z AtRest (done HandoffCompare handoff_at there), [])) known_is }
