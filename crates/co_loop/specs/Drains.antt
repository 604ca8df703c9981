-- Those that were woken at home are entered, one after another.
use Rattle.std.specs.Prelude.{◌≡◌, ℕ, zero, suc, Bool, MatchBool, List, [], ◌∷◌}
use Rattle.co_state.specs.Wants.{Wants}
use Rattle.co_state.specs.declared.co.CoStep.{CoStep}
use Rattle.co_loop.specs.Crews.{Far, EntersOne}

module _ {C O : Type 0} where
  -- the first of those that were woken was taken off the queue and entered
  pub record EntersFirst (is_of : ℕ → C → O → Type 0) (resumes : C → O → Wants → CoStep → C → Type 0) (own n loops : ℕ) (before after : Far C O) : Type 0 where
    pub co : ℕ
    pub rest : List ℕ
    pub first : before.woken ≡ co ∷ rest
    pub enters : EntersOne is_of resumes own n loops co (record before { woken = rest }) after

  -- that, or nobody was woken
  abbrev pub EntersNext : (ℕ → C → O → Type 0) → (C → O → Wants → CoStep → C → Type 0) → ℕ → ℕ → ℕ → Bool → Far C O → Far C O → Type 0
  EntersNext is_of resumes own n loops some before after =
      MatchBool some (EntersFirst is_of resumes own n loops before after) ((before.woken ≡ []) × (after ≡ before))

  -- so many were entered, each the first of those that were woken when it was
  abbrev pub Drains : (ℕ → C → O → Type 0) → (C → O → Wants → CoStep → C → Type 0) → ℕ → ℕ → ℕ → ℕ → Far C O → Far C O → Type 0
  Drains is_of resumes own n loops zero before after = after ≡ before
  Drains is_of resumes own n loops (suc more) before after =
      (mid : Far C O) × Drains is_of resumes own n loops more before mid × EntersFirst is_of resumes own n loops mid after

  pub record DrainsSome (is_of : ℕ → C → O → Type 0) (resumes : C → O → Wants → CoStep → C → Type 0) (own n loops : ℕ) (before after : Far C O) : Type 0 where
    pub count : ℕ
    pub drains : Drains is_of resumes own n loops count before after

  -- and nobody is left
  pub record DrainsAll (is_of : ℕ → C → O → Type 0) (resumes : C → O → Wants → CoStep → C → Type 0) (own n loops : ℕ) (before after : Far C O) : Type 0 where
    pub some : DrainsSome is_of resumes own n loops before after
    pub none_left : after.woken ≡ []

  -- one was entered, and then those that were woken
  pub record EntersAndDrains (is_of : ℕ → C → O → Type 0) (resumes : C → O → Wants → CoStep → C → Type 0) (own n loops co : ℕ) (before after : Far C O) : Type 0 where
    pub entered : Far C O
    pub enters : EntersOne is_of resumes own n loops co before entered
    pub drains : DrainsAll is_of resumes own n loops entered after
