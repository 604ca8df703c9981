-- What a call that prints a text does to its sink.
use Rattle.std.specs.Prelude.{◌≡◌, ℕ, ◌≤◌, List, ◌++◌, Option, Result, OnOk, OnErr}
use Rattle.aio_words.specs.Content.{with_piece, AppendsFront}
use Rattle.aio_words.specs.Faults.{HasRisen}
use Rattle.aio_script.specs.declared.print.WriteFault.{WriteFault}

-- The text was printed: whole, or a front of it, where the sink failed. The sink held the first content before and the
-- second one after, and its count of faults went from the one to the other.
pub record Prints (text : List ℕ) (before after : Option (List ℕ)) (faults_before faults_after : ℕ) (result : Result Unit WriteFault) : Type 0 where
  pub ok : OnOk result (after ≡ with_piece text before)
  pub err : OnErr result (AppendsFront before after text)
  pub counted : faults_before ≤ faults_after
  pub cause : OnErr result (HasRisen faults_before faults_after)

-- So much of a text was handed to the sink that this is left of it.
pub record HandsOver (text left : List ℕ) (before after : Option (List ℕ)) : Type 0 where
  pub front : List ℕ
  pub whole : text ≡ front ++ left
  pub holds : after ≡ with_piece front before

-- The text was put behind what stood on the page, and so much of both was handed to the sink that the page has the
-- rest; or the sink failed, and has a front of both.
pub record PutsOnPage (text page_before page_after : List ℕ) (before after : Option (List ℕ)) (faults_before faults_after : ℕ) (result : Result Unit WriteFault) : Type 0 where
  pub ok : OnOk result (HandsOver (page_before ++ text) page_after before after)
  pub err : OnErr result (AppendsFront before after (page_before ++ text))
  pub counted : faults_before ≤ faults_after
  pub cause : OnErr result (HasRisen faults_before faults_after)
