use Rattle.std.proofs.Common.{rules}
use Rattle.std.proofs.lemmas.Slice.{overwrites}
use Rattle.img_requests.proofs.calls.serve_piece.Goals as goal

pub returns-in-Read-clause-touched : goal.returns-in-Read-clause-touched
returns-in-Read-clause-touched g c = rw c.in-Read.is (search (rules, overwrites), search (rules, overwrites))
