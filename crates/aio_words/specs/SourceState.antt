-- A source in memory, as contracts see it.
use Rattle.std.specs.Prelude.{ℕ, List, length, min}
use Rattle.aio_words.specs.declared.called.SourceCall.{SourceCall}

pub record SourceState : Type 0 where
  -- the bytes that are still to come
  pub left : List ℕ
  -- at most so many of them come at a call
  pub step : ℕ
  -- the numbers of the calls that fail
  pub fails : List ℕ
  -- how many calls there were: the number of the next
  pub calls : ℕ
  -- how many of them failed
  pub faults : ℕ
  -- the calls, the newest first
  pub called : List SourceCall

-- how many bytes a call gives into so much room
abbrev pub count_given : SourceState → ℕ → ℕ
count_given source room = min (min source.step room) (length source.left)
