use Rattle.std.proofs.Common.{ℕ, ◌++◌, ap, codes, decimal}
use Rattle.aio_model.specs.declared.loops.commits.Commit.TheVariants.{Awake}
use Rattle.aio_script.proofs.LoopTexts.{PutsOnPage-commit}
use Rattle.aio_script.proofs.Gathered.{PutsOnPage-same}
use Rattle.aio_script.proofs.loops.print.print_awake.Goals as goal

pub returns-in-Urgent : goal.returns-in-Urgent
returns-in-Urgent g c =
    let number = ap (λ (n : ℕ). codes "commit awake urgent " ++ (decimal n ++ codes "\n")) c.from.ensures in
    PutsOnPage-commit (ap Awake c.in-Urgent.is) (PutsOnPage-same number c.put_counted.ensures)

pub returns-in-Event : goal.returns-in-Event
returns-in-Event g c =
    let number = ap (λ (n : ℕ). codes "commit awake event " ++ (decimal n ++ codes "\n")) c.from-in-Event.ensures in
    PutsOnPage-commit (ap Awake c.in-Event.is) (PutsOnPage-same number c.put_counted-in-Event.ensures)

pub returns-in-Notified : goal.returns-in-Notified
returns-in-Notified g c = PutsOnPage-commit (ap Awake c.in-Notified.is) c.put_parts.ensures
