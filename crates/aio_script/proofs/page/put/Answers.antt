use Rattle.aio_script.proofs.Gathered.{PutsOnPage-behind}
use Rattle.aio_script.proofs.page.put.Goals as goal

pub returns : goal.returns
returns g c =
    let handed = c.in_ok-hand_over.ensures in
    PutsOnPage-behind handed.ok.0 handed.ok.1 handed.counted c.put_first.ensures
