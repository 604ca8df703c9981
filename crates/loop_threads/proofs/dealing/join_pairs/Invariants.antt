use Rattle.std.proofs.Common.{◌≡◌, ◌<◌, ◌+◌, ◌*◌, List, length, vec_len}
use Rattle.loop_rows.specs.declared.seats.Seats.{Seats}
use Rattle.loop_rows.specs.Rows.{IsRow}
use Rattle.loop_threads.specs.Dealing.{ArePairs, RowSees, RowsSee}
use Rattle.loop_threads.proofs.dealing.join_pairs.Given as goal

abbrev pub invariant-loop-pair : goal.invariant-loop-pair
invariant-loop-pair g l = record {
  pairs : ArePairs l.shared l.pairs.items;
  is_row : IsRow l.shared l.row;
  first : l.row.first ≡ 2 * vec_len l.pairs;
  some : 0 < l.row.count;
  all : l.row.first + l.row.count ≡ 2 * vec_len l.fn.pairs;
  sees : (whole : List (Seats _ _)) → RowsSee (length l.shared) whole l.fn.pairs.items → RowsSee (length l.shared) whole l.pairs.items × RowSees (length l.shared) whole l.row.seats.items;
}

abbrev pub decreases-loop-pair : goal.decreases-loop-pair
decreases-loop-pair g l = vec_len l.pairs
