-- Lists of parts, as one more waits, is handed back or is done.
use Rattle.std.proofs.Common.{◌≡◌, ℕ, Bool, List, [], ◌∷◌, ◌++◌, length, slice_index_or, subst, sym, ap, ◌∙◌, refl, arith}
use Rattle.std.proofs.lemmas.List.{get_or_at, get_or_append_left}
use Rattle.loop_rows.specs.declared.shared.LoopShared.{LoopShared}
use Rattle.loop_threads.specs.declared.parts.Part.{Part}
use Rattle.loop_rows.specs.LoopStates.{LoopState}
use Rattle.loop_threads.specs.Parts.{IsLoopPart, AllParts, IsCarried, AllCarried}
use Rattle.loop_rows.proofs.Places.{at_push, at_last, at_front, both_pushed, longer}

module _ {C W O : Type 0} (can_work : W → List (LoopShared C O) → LoopState C O → Type 0) (does : List (LoopShared C O) → W → LoopState C O → Bool → W → LoopState C O → Type 0) (shared : List (LoopShared C O)) where
  pub parts_popped : (all rest : List (Part C W O)) (v : Part C W O) → all ≡ rest ++ v ∷ [] → AllParts can_work shared all → AllParts can_work shared rest × IsLoopPart can_work shared v
  parts_popped all rest v e parts =
      let n = longer all rest v e in (
        (λ k p lt. at_front (λ (j : ℕ) (x : Part C W O). IsLoopPart can_work shared x) all rest v e k p lt (parts k p (omega (arith, lt, n)))),
        at_last (λ (j : ℕ) (x : Part C W O). IsLoopPart can_work shared x) all rest (length rest) v e refl (parts (length rest) v (omega (arith, n))),
      )

  pub parts_pushed : (all xs : List (Part C W O)) (v : Part C W O) → all ≡ xs ++ v ∷ [] → AllParts can_work shared xs → IsLoopPart can_work shared v → AllParts can_work shared all
  parts_pushed all xs v e parts here k p lt =
      subst (λ (l : List (Part C W O)). IsLoopPart can_work shared (slice_index_or l k p)) (sym e)
      (at_push (λ (j : ℕ) (x : Part C W O). IsLoopPart can_work shared x) xs (length xs) v refl here k p (omega (arith, lt, longer all xs v e)) (λ low. parts k p low))

  -- one more of the waiting, which is the last of them, is done
  pub carried_pushed : (waiting rest all done : List (Part C W O)) (v part : Part C W O) → waiting ≡ rest ++ v ∷ [] → all ≡ done ++ part ∷ [] → length done ≡ length rest → AllCarried can_work does shared (length rest) rest done → IsCarried can_work does shared v part → AllCarried can_work does shared (length waiting) waiting all
  carried_pushed waiting rest all done v part e f long was here k p q lt =
      subst (λ (l : List (Part C W O)). IsCarried can_work does shared (slice_index_or l k p) (slice_index_or all k q)) (sym e)
      (subst (λ (l : List (Part C W O)). IsCarried can_work does shared (slice_index_or (rest ++ v ∷ []) k p) (slice_index_or l k q)) (sym f)
      (both_pushed (λ (x y : Part C W O). IsCarried can_work does shared x y) rest done (length rest) v part refl long was here k p q (omega (arith, lt, longer waiting rest v e))))

  -- What comes back of those for which no thread was started: one more was put behind them, all were carried, and the last was taken.
  pub record Taken (before after : List (Part C W O)) (v part : Part C W O) : Type 0 where
    pub long : length after ≡ length before
    pub carried : AllCarried can_work does shared (length before) before after
    pub here : IsCarried can_work does shared v part

  pub taken : (before pushed carried after : List (Part C W O)) (v part : Part C W O) → pushed ≡ before ++ v ∷ [] → length carried ≡ length pushed → AllCarried can_work does shared (length pushed) pushed carried → carried ≡ after ++ part ∷ [] → Taken before after v part
  taken before pushed carried after v part e long was f =
      let n = longer pushed before v e in
      let m = longer carried after part f in
      let same : length after ≡ length before = omega (arith, n, m, long) in
      record {
        long = same;
        carried = λ k p q lt. at_front (λ (j : ℕ) (x : Part C W O). IsCarried can_work does shared (slice_index_or before k p) x) carried after part f k q (omega (arith, lt, same))
            (subst (λ (x : Part C W O). IsCarried can_work does shared x (slice_index_or carried k q)) (ap (λ l. slice_index_or l k p) e ∙ get_or_append_left before (v ∷ []) p k lt) (was k p q (omega (arith, lt, n))));
        here = at_last (λ (j : ℕ) (x : Part C W O). IsCarried can_work does shared v x) carried after (length after) part f refl
            (subst (λ (x : Part C W O). IsCarried can_work does shared x (slice_index_or carried (length after) part)) (ap (λ l. slice_index_or l (length after) v) e ∙ get_or_at before v [] v (length after) (sym same)) (was (length after) v part (omega (arith, n, same))));
      }
