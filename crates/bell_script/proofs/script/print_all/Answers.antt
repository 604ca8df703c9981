use Rattle.aio_script.proofs.Gathered.{OnOk-first, Prints-gathered}
use Rattle.bell_script.proofs.script.print_all.Goals as goal

pub returns-clause-writes : goal.returns-clause-writes
returns-clause-writes g c =
    let all = c.in_ok-answer_all.ensures.collects in
    let e = c.hand_over.ensures in
    record {
      replies = all.replies;
      answers = all.answers;
      prints = Prints-gathered c.hand_over.result c.requires.empty all.gathers (record { ok = OnOk-first _ _ c.hand_over.result e.ok; err = e.err; counted = e.counted; cause = e.cause });
    }
