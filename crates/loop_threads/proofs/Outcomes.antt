-- What a run comes to, from what its parts came to.
use Rattle.std.proofs.Common.{◌≡◌, ℕ, Bool, List, length, slice_index_or, arith}
use Rattle.co_loop.specs.Working.{}
use Rattle.loop_rows.specs.declared.shared.LoopShared.{LoopShared}
use Rattle.loop_rows.specs.declared.rows.Row.{Row}
use Rattle.loop_threads.specs.Within.{RowsWithin}
use Rattle.loop_threads.specs.declared.parts.Part.{Part}
use Rattle.loop_threads.specs.declared.members.Member.{Member}
use Rattle.loop_rows.specs.LoopStates.{LoopState}
use Rattle.loop_threads.specs.Parts.{AllParts, InReverse, AllCarried}
use Rattle.loop_threads.specs.Members.{AreOfParts}
use Rattle.loop_threads.specs.Running.{RunsEach}
use Rattle.loop_threads.proofs.Coming.{carried_through}

module _ {C W O : Type 0} (can_work : W → List (LoopShared C O) → LoopState C O → Type 0) (does : List (LoopShared C O) → W → LoopState C O → Bool → W → LoopState C O → Type 0) (shared : List (LoopShared C O)) where
  pub carried_parts : (n : ℕ) (before after : List (Part C W O)) → length after ≡ n → AllCarried can_work does shared n before after → AllParts can_work shared after
  carried_parts n before after long was k p lt = (was k p p (omega (arith, lt, long))).comes.part

  pub carried_twice : (n : ℕ) (before mid after : List (Part C W O)) → AllCarried can_work does shared n before mid → AllCarried can_work does shared n mid after → AllCarried can_work does shared n before after
  carried_twice n before mid after first second k p q lt =
      carried_through can_work does shared (first k p q lt).comes (second k q q lt)

  pub carried_order : (n : ℕ) (before after : List (Part C W O)) → length before ≡ n → length after ≡ n → AllCarried can_work does shared n before after → InReverse before → InReverse after
  carried_order n before after long also was order k p lt =
      omega (arith, (was k p p (omega (arith, lt, also))).comes.number_is, order k p (omega (arith, lt, long, also)), long, also)

  pub runs_each : (n : ℕ) (parts done : List (Part C W O)) (members : List (Member C W O)) (row : Row C O) → AllCarried can_work does shared n parts done → AreOfParts n done members → RowsWithin 0 n (length shared) done row.seats.items → RunsEach can_work does shared row n parts members
  runs_each n parts done members row carried are within k j p m at =
      record { last = slice_index_or done j p; carried = carried j p p (omega (arith, at)); is = are k j p m at; within = within j p (omega arith) (omega (arith, at)) }
