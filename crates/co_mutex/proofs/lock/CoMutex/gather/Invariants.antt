use Rattle.std.proofs.Common.{◌≡◌, ◌⊎◌, true, vec_len}
use Rattle.co_mutex.specs.Closing.{In}
use Rattle.co_mutex.specs.Opening.{part_of, parts_of}
use Rattle.co_mutex.specs.Passes.{known}
use Rattle.co_mutex.specs.Places.{AtRest}
use Rattle.co_mutex.specs.declared.lock.Pass.{Pass}
use Rattle.co_mutex.proofs.lock.CoMutex.gather.Given as goal

abbrev pub invariant-loop-pass : goal.invariant-loop-pass
invariant-loop-pass g l =
    (l.all.table_id ≡ l.fn.self.table.shared.table_id) × (l.all.me.0.live ≡ true) × (l.all.me.0.place ≡ AtRest) × ((p : Pass g.row.P.Denot g.row.P-Value.Denot g.row.P-Note.Denot) → In p l.passes.items → In p l.fn.passes.items) × ((p : Pass g.row.P.Denot g.row.P-Value.Denot g.row.P-Note.Denot) → In p l.fn.passes.items → In p l.passes.items ⊎ In (part_of (known p)) (parts_of l.all.me.0))

abbrev pub decreases-loop-pass : goal.decreases-loop-pass
decreases-loop-pass g l = vec_len l.passes
