use Rattle.std.proofs.lemmas.List.{take-replicate}
use Rattle.img_requests.proofs.calls.zeros.Goals as goal

pub returns : goal.returns
returns c = take-replicate c.args.n 4096 0 c.requires
