use Rattle.std.proofs.Common.{◌≡◌, ℕ, ◌+◌, ◌-◌, ◌≤◌, Some, [], vec_len, vec_capacity}
use mathlib.Core.Option.{some}
use lib.ListN.{get_elem?}
use Rattle.co_mutex.specs.Known.{new_known}
use Rattle.co_mutex.specs.Opening.{new_parts}
use Rattle.co_mutex.specs.Passes.{built_of, passes_of, IsNew}
use Rattle.co_mutex.specs.declared.lock.Pass.{Pass}
use Rattle.co_mutex.proofs.lock.CoMutex.deal.Given as goal

abbrev pub invariant-loop-number : goal.invariant-loop-number
invariant-loop-number g l =
    (l.seat.table_id ≡ l.fn.self.table.shared.table_id) × (l.seat.me ≡ (new_known (Some (built_of l.fn.self)) (passes_of l.fn.self) (l.number - 1) (new_parts l.number (l.fn.coroutines - l.number)), [])) × (vec_len l.passes + 1 ≡ l.number) × (l.fn.coroutines ≤ vec_capacity l.passes) × ((k : ℕ) (p : Pass g.row.P.Denot g.row.P-Value.Denot g.row.P-Note.Denot) → get_elem? l.passes.items k ≡ some p → IsNew l.fn.self k p)
