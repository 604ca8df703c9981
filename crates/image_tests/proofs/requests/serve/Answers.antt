use Rattle.std.proofs.Common.{◌≡◌, ◌++◌, ◌∷◌, [], ap, ◌∙◌}
use Rattle.img_requests.specs.ImageState.{ImageState}
use Rattle.img_requests.specs.Journal.{entry_next, mark_of_present}
use Rattle.image_tests.proofs.requests.serve.Goals as goal

pub returns-in-Begun-clause-journal : goal.returns-in-Begun-clause-journal
returns-in-Begun-clause-journal g c =
    let ended = c.serve_pieces-pieces.new.image in
    let begun : c.enter.new.self.journal ≡ c.args.image.now.journal =
    ap (λ (i : ImageState _). i.journal) c.in-Begun.ensures.entered.1 in
    let kept : ended.journal ≡ c.args.image.now.journal =
    ap (λ (i : ImageState _). i.journal) c.serve_pieces-pieces.ensures.kept ∙ begun in (
      mark_of_present ended.present,
      ap (λ (i : ImageState _). i.journal) c.leave-left.ensures.image
          ∙ ap (λ journal. journal ++ entry_next c.args.stream journal (mark_of_present ended.present) ∷ []) kept,
    )
