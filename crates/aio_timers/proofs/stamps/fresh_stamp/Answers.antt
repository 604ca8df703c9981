use Rattle.std.proofs.Common.{◌≡◌, ◌∙◌, length, arith}
use Rattle.aio_timers.proofs.Ranked.{restamps, stamped_anew}
use Rattle.aio_timers.proofs.stamps.fresh_stamp.Goals as goal

pub returns-clause-restamps : goal.returns-clause-restamps
returns-clause-restamps c =
    let ranks = c.count_ranks.new.ranks in
    let due_long : length ranks ≡ length c.args.due.now = c.count_ranks.auto.ranks ∙ c.requires.in_due in
    let waiting_long : length ranks ≡ length c.args.waiting.now = c.count_ranks.auto.ranks ∙ c.requires.in_waiting in
    restamps c.args.due.now c.args.waiting.now c.restamp.new.keys c.restamp-2.new.keys ranks (omega (arith, c.requires.in_due, c.requires.in_waiting, c.requires.fits)) c.count_ranks.ensures due_long waiting_long c.restamp.ensures.each c.restamp-2.ensures.each c.restamp.ensures.sized c.restamp-2.ensures.sized

pub returns-clause-stamped : goal.returns-clause-stamped
returns-clause-stamped c = λ made stamped.
    let ranks = c.count_ranks.new.ranks in
    let due_long : length ranks ≡ length c.args.due.now = c.count_ranks.auto.ranks ∙ c.requires.in_due in
    let waiting_long : length ranks ≡ length c.args.waiting.now = c.count_ranks.auto.ranks ∙ c.requires.in_waiting in
    stamped_anew c.args.due.now c.args.waiting.now c.restamp.new.keys c.restamp-2.new.keys ranks (omega (arith, c.requires.in_due, c.requires.in_waiting, c.requires.fits)) c.count_ranks.ensures due_long waiting_long c.restamp.ensures.each c.restamp-2.ensures.each made c.args.next stamped
