use Rattle.std.proofs.Common.{◌≡◌, ◌≤◌, [], ◌∷◌, None}
use Rattle.img_requests.specs.Journal.{entry_count}
use Rattle.stream_bench.proofs.serially.serve_lines.Given as goal

abbrev pub invariant-loop-line : goal.invariant-loop-line
invariant-loop-line g l =
    (l.image.present ≡ None) × (l.image.requests ≡ 4096 ∷ []) × (entry_count 0 l.image.journal ≤ l.line-index)
