use Rattle.std.proofs.Common.{◌≡◌, ap, sym, ◌∙◌, length, count_by, List, ℕ, subst, arith}
use Rattle.std.proofs.lemmas.List.{take_at}
use Rattle.aio_model.specs.declared.scripts.image_scripts.Step.{Step}
use Rattle.aio_model.specs.Serving.Asked.{asked, is_ask}
use Rattle.aio_model.specs.Serving.SerialHistory.{bytes_left}
use Rattle.served_check.specs.Cursors.{none_done}
use Rattle.served_check.specs.Judging.{RepliesGoOn}
use Rattle.served_check.proofs.Named.{length-asked}
use Rattle.served_check.proofs.Whole.{RepliesGoOn-whole, whole-long}
use Rattle.served_check.proofs.judging.replay.Goals as goal

pub returns-then-served-count_requests : goal.returns-then-served-count_requests
returns-then-served-count_requests c = λ history.
    let lines = c.args.script.now.lines in
    let long : length c.args.served.now ≡ length (asked lines) = whole-long c.args.script.now.image (asked lines) c.args.opening.now c.args.served.now history in
    let counted : c.count_requests.result ≡ count_by (λ (step : Step). is_ask step.what) lines =
    c.count_requests.ensures ∙ ap (count_by (λ (step : Step). is_ask step.what)) c.as_slice-lines.ensures in
    c.if-served-count_requests.true (long ∙ length-asked lines ∙ sym counted)

pub returns : goal.returns
returns c =
    let size = c.args.script.now.image in
    let lines = c.args.script.now.lines in
    let served = c.args.served.now in
    let read = c.as_slice-lines.result.now in
    let opened : c.as_mut_slice.result.now ≡ c.args.opening.now = c.as_mut_slice.ensures.value ∙ c.in-Ok.ensures.items in
    let counted : c.count_requests.result ≡ count_by (λ (step : Step). is_ask step.what) lines =
    c.count_requests.ensures ∙ ap (count_by (λ (step : Step). is_ask step.what)) c.as_slice-lines.ensures in
    let goes : RepliesGoOn size (asked lines) none_done c.args.opening.now served =
    subst (λ (l : List Step). RepliesGoOn size (asked l) none_done c.args.opening.now served) c.as_slice-lines.ensures
    (subst (λ (b : List ℕ). RepliesGoOn size (asked read) none_done b served) opened (c.in_ok-replay_all.ensures.goes.0 c.if-not-branch.false)) in
    let all : length c.replay_all.new.bytes ≡ c.in-Ok.bytes.len = omega (arith, c.in-Ok.bytes.ok.0, c.replay_all.auto.bytes, ap length c.as_mut_slice.ensures.value) in (
      RepliesGoOn-whole size (asked lines) c.args.opening.now served (c.if-served-count_requests.false ∙ counted ∙ sym (length-asked lines)) goes,
      take_at c.replay_all.new.bytes _ c.in-Ok.bytes.len all
          ∙ c.in_ok-replay_all.ensures.left c.if-not-branch.false
          ∙ ap (λ (l : List Step). bytes_left (asked l) served c.as_mut_slice.result.now) c.as_slice-lines.ensures
          ∙ ap (bytes_left (asked lines) served) opened,
    )
