use Rattle.std.proofs.Common.{◌≡◌, ◌+◌, ◌++◌, length, map, vec_capacity}
use Rattle.stream_ends.specs.Stops.{bytes_filled}
use Rattle.stream_ends.proofs.gathering.gather.Given as goal

abbrev pub invariant-loop-co : goal.invariant-loop-co
invariant-loop-co g l = record {
  passes : l.ends.passes.items ≡ l.initial.ends.passes.items ++ map (λ co. co.pass) l.yielded;
  rows : map (λ row. map (λ buffer. buffer.items) row.items) l.ends.rows.items
      ≡ map (λ row. map (λ buffer. buffer.items) row.items) l.initial.ends.rows.items ++ map bytes_filled l.yielded;
  many : length l.ends.rows.items ≡ length l.initial.ends.rows.items + length l.yielded;
  room : (vec_capacity l.ends.passes ≡ vec_capacity l.initial.ends.passes) × (vec_capacity l.ends.rows ≡ vec_capacity l.initial.ends.rows);
  same : (l.ends.ids ≡ l.initial.ends.ids) × (l.ends.served ≡ l.initial.ends.served);
}
