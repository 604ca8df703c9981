use Rattle.std.proofs.lemmas.Option.{MatchOption-at_some}
use Rattle.aio_script.proofs.Words.{AreSeveral-cons}
use Rattle.aio_script.proofs.text.one_word.Goals as goal

pub returns-in-Some : goal.returns-in-Some
returns-in-Some c =
    AreSeveral-cons c.args.text.now _ c.in-Some.field-0.now (MatchOption-at_some _ _ c.in-Some.field-0 c.in-Some.is c.cut.ensures.parts)
