-- A sink in memory, as contracts see it.
use Rattle.std.specs.Prelude.{ℕ, ◌+◌, ◌||◌, Bool, List, length, nat_lt}
use Rattle.aio_words.specs.Calls.{is_listed}
use Rattle.aio_words.specs.declared.called.SinkCall.{SinkCall}

pub record SinkState : Type 0 where
  -- the bytes that it got
  pub held : List ℕ
  -- how many it has room for in all
  pub room : ℕ
  -- the numbers of the calls that fail
  pub fails : List ℕ
  -- how many calls there were: the number of the next
  pub calls : ℕ
  -- how many of them failed
  pub faults : ℕ
  -- the calls, the newest first
  pub called : List SinkCall

-- the next call fails, where it brings this piece: its number is listed, or the piece doesn't fit whole
abbrev pub sink_fails : SinkState → List ℕ → Bool
sink_fails sink piece =
    is_listed sink.fails sink.calls || nat_lt sink.room (length sink.held + length piece)
