-- Parts that came from others by turns, one and many.
use Rattle.std.proofs.Common.{◌≡◌, ℕ, ◌<◌, ◌≤◌, ◌+◌, ◌-◌, suc, Bool, List, [], ◌∷◌, ◌++◌, length, slice_index_or, subst, sym, ap, ◌∙◌, refl, arith}
use Rattle.std.proofs.lemmas.List.{get_or_at, get_or_default}
use Rattle.loop_rows.specs.declared.shared.LoopShared.{LoopShared}
use Rattle.loop_threads.specs.declared.parts.Part.{Part}
use Rattle.loop_rows.specs.LoopStates.{LoopState}
use Rattle.loop_threads.specs.Parts.{IsLoopPart, AllParts, HaveEnded, TakesTurn, TakesTurns, ComesFrom, IsCarried, AllComeFrom, AllComeReversed, AllCarried}
use Rattle.loop_rows.proofs.Places.{at_push, longer}

module _ {C W O : Type 0} (can_work : W → List (LoopShared C O) → LoopState C O → Type 0) (does : List (LoopShared C O) → W → LoopState C O → Bool → W → LoopState C O → Type 0) (shared : List (LoopShared C O)) where
  pub comes_here : (part : Part C W O) → IsLoopPart can_work shared part → ComesFrom can_work does shared part part
  comes_here part is = record { part = is; number_is = refl; turns = []; takes = refl }

  pub comes_on : {before mid after : Part C W O} → ComesFrom can_work does shared before mid → TakesTurn can_work does shared mid after → ComesFrom can_work does shared before after
  comes_on {before} {mid} {after} comes turn =
      record { part = turn.part; number_is = turn.number_is ∙ comes.number_is; turns = mid ∷ comes.turns; takes = (comes.takes, turn) }

  pub turns_more : (first more : List (Part C W O)) (before mid after : Part C W O) → TakesTurns can_work does shared first before mid → TakesTurns can_work does shared more mid after → TakesTurns can_work does shared (more ++ first) before after
  turns_more first [] before mid after was now = subst (TakesTurns can_work does shared first before) (sym now) was
  turns_more first (last ∷ more) before mid after was now = (turns_more first more before mid last was now.0, now.1)

  pub comes_through : {before mid after : Part C W O} → ComesFrom can_work does shared before mid → ComesFrom can_work does shared mid after → ComesFrom can_work does shared before after
  comes_through {before} {mid} {after} was now =
      record { part = now.part; number_is = now.number_is ∙ was.number_is; turns = now.turns ++ was.turns; takes = turns_more was.turns now.turns before mid after was.takes now.takes }

  pub carried_through : {before mid after : Part C W O} → ComesFrom can_work does shared before mid → IsCarried can_work does shared mid after → IsCarried can_work does shared before after
  carried_through was now = record { comes = comes_through was now.comes; ended = now.ended }

  -- each list reversed gives back the order
  pub reversed_twice : (n : ℕ) (before mid after : List (Part C W O)) → AllComeReversed can_work does shared n before mid → AllComeReversed can_work does shared n mid after → AllComeFrom can_work does shared n before after
  reversed_twice n before mid after first second k p q lt =
      comes_through (first k (n - suc k) p q (omega (arith, lt))) (second (n - suc k) k q q (omega (arith, lt)))

  pub all_through : (n : ℕ) (before mid after : List (Part C W O)) → AllComeFrom can_work does shared n before mid → AllComeFrom can_work does shared n mid after → AllComeFrom can_work does shared n before after
  all_through n before mid after first second k p q lt = comes_through (first k p q lt) (second k q q lt)

  pub all_here : (parts : List (Part C W O)) → AllParts can_work shared parts → AllComeFrom can_work does shared (length parts) parts parts
  all_here parts are k p q lt =
      subst (ComesFrom can_work does shared (slice_index_or parts k p)) (get_or_default parts k p q lt) (comes_here (slice_index_or parts k p) (are k p lt))

  -- all are parts
  pub all_parts : (n : ℕ) (before after : List (Part C W O)) → length after ≡ n → AllComeFrom can_work does shared n before after → AllParts can_work shared after
  all_parts n before after long comes k p lt = (comes k p p (omega (arith, lt, long))).part

  pub reversed_parts : (n : ℕ) (before after : List (Part C W O)) → length after ≡ n → AllComeReversed can_work does shared n before after → AllParts can_work shared after
  reversed_parts n before after long comes k p lt = (comes (n - suc k) k p p (omega (arith, lt, long))).part

  -- all have ended
  pub all_ended : (n : ℕ) (before after : List (Part C W O)) → length after ≡ n → AllComeFrom can_work does shared n before after → HaveEnded after → AllCarried can_work does shared n before after
  all_ended n before after long comes ended k p q lt = record { comes = comes k p q lt; ended = ended k q (omega (arith, lt, long)) }

  -- the last of a list, where the list it was taken from stands as it was
  pub last_is : (orig all rest : List (Part C W O)) (v : Part C W O) → all ≡ rest ++ v ∷ [] → slice_index_or all (length rest) v ≡ slice_index_or orig (length rest) v → v ≡ slice_index_or orig (length rest) v
  last_is orig all rest v e same = sym (ap (λ l. slice_index_or l (length rest) v) e ∙ get_or_at rest v [] v (length rest) refl) ∙ same

  -- one more came from the last of those that are left
  pub reversed_more : (orig all rest to : List (Part C W O)) (v r : Part C W O) (n : ℕ) → all ≡ rest ++ v ∷ [] → length all + length to ≡ n → n ≤ length orig → slice_index_or all (length rest) v ≡ slice_index_or orig (length rest) v → ComesFrom can_work does shared v r
      → ((k j : ℕ) (p q : Part C W O) → k + j + 1 ≡ n → j < length to → ComesFrom can_work does shared (slice_index_or orig k p) (slice_index_or to j q))
      → (k j : ℕ) (p q : Part C W O) → k + j + 1 ≡ n → j < length to + 1 → ComesFrom can_work does shared (slice_index_or orig k p) (slice_index_or (to ++ r ∷ []) j q)
  reversed_more orig all rest to v r n e long few same comes was k j p q at lt =
      at_push (λ (i : ℕ) (x : Part C W O). k + i + 1 ≡ n → ComesFrom can_work does shared (slice_index_or orig k p) x) to (length to) r refl
      (λ here.
      let ke : length rest ≡ k = omega (arith, here, long, longer all rest v e) in
      subst (λ (i : ℕ). ComesFrom can_work does shared (slice_index_or orig i p) r) ke
      (subst (λ (x : Part C W O). ComesFrom can_work does shared x r) (last_is orig all rest v e same ∙ get_or_default orig (length rest) v p (omega (arith, long, few, longer all rest v e))) comes))
      j q lt (λ low before. was k j p q before low) at
