use Rattle.std.proofs.Common.{◌≡◌, ◌≤◌, take, length, vec_capacity}
use Rattle.shared_tests.specs.Tables.{AreFresh}
use Rattle.shared_tests.proofs.table.players_of.Given as goal

abbrev pub invariant-loop-stream : goal.invariant-loop-stream
invariant-loop-stream l =
    AreFresh 0 (take l.stream l.requests) l.players.items
    × (length l.players.items ≡ l.stream)
    × (length l.requests ≤ vec_capacity l.players)
