use Rattle.std.proofs.Common.{◌≡◌, false, get_or, length, refl, ap, ◌∙◌}
use Rattle.aio_model.specs.Loop.Log.{first_from, commit_from}
use Rattle.bell_loop.specs.Machines.{machine_state_of}
use Rattle.bell_loop.proofs.Commanding.{Answers-commit}
use Rattle.bell_loop.proofs.machine.Machine.commit.Goals as goal

pub returns-clause-answers : goal.returns-clause-answers
returns-clause-answers g c =
    let old = c.args.self.now in
    let scanned = c.look-scanned.result in
    let answer : c.verdict-answer.result ≡ commit_from scanned.urgent (first_from (λ e. get_or old.marks e false) 0 (length old.marks)) old.callbacks.rang scanned.idle = c.verdict-answer.ensures.is ∙ ap (λ s. commit_from scanned.urgent s old.callbacks.rang scanned.idle) c.first.ensures in
    Answers-commit c.verdict-answer.result scanned.urgent scanned.idle c.look-scanned.new.home.seat.known.seen (machine_state_of old) _ refl c.look-scanned.ensures.others c.sleep_and_accept.ensures.others c.look-scanned.ensures.finds c.requires.ready.marks_are answer
