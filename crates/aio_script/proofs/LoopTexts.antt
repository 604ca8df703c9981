-- The text of a commit, where it is known which one it is.
use Rattle.std.proofs.Common.{◌≡◌, ℕ, List, Option, Result, ap, sym}
use Rattle.aio_model.specs.declared.loops.commits.Commit.{Commit}
use Rattle.aio_model.specs.declared.scripts.loop_replies.LoopReply.TheVariants.{Committed}
use Rattle.aio_model.specs.Scripts.LoopLines.{reply_text}
use Rattle.aio_script.specs.declared.print.WriteFault.{WriteFault}
use Rattle.aio_script.specs.Printing.{PutsOnPage}
use Rattle.aio_script.proofs.Gathered.{PutsOnPage-same}

pub PutsOnPage-commit : {commit other : Commit} {page last : List ℕ} {before after : Option (List ℕ)} {f g : ℕ} {result : Result Unit WriteFault}
    → commit ≡ other
    → PutsOnPage (reply_text (Committed other)) page last before after f g result
    → PutsOnPage (reply_text (Committed commit)) page last before after f g result
PutsOnPage-commit e h = PutsOnPage-same (ap (λ (commit : Commit). reply_text (Committed commit)) (sym e)) h
