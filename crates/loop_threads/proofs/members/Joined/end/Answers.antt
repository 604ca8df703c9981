use Rattle.std.proofs.Common.{arith}
use Rattle.loop_rows.proofs.Rowing.{renumbered}
use Rattle.loop_threads.proofs.members.Joined.end.Goals as goal

pub end_rest-requires-clause-rest : goal.end_rest-requires-clause-rest
end_rest-requires-clause-rest g c =
    let row = c.requires.row in
    record {
      homes_long = c.requires.members.0;
      seats_long = omega (arith, row.0.long, c.args.shared.ok.0, c.args.self.row.seats.ok.0);
      members = c.requires.members.1;
      own = c.requires.own;
      seats = λ k t s lt. renumbered row.1.first_is row.1.count_is (row.0.each k t s (omega (arith, lt, c.args.shared.ok.0)));
    }
