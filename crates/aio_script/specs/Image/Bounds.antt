-- What holds of each script.
use Rattle.std.specs.Prelude.{◌≡◌, ℕ, ◌<◌, ◌≤◌, nat_eq, true, List, length, map}
use Rattle.std.specs.List.{AllByRecursion, IsDistinct}
use Rattle.aio_model.specs.declared.scripts.image_scripts.Stream.{Stream}
use Rattle.aio_model.specs.declared.scripts.image_scripts.Step.{Step}
use Rattle.aio_model.specs.declared.scripts.image_scripts.What.{What}
use Rattle.aio_model.specs.declared.scripts.image_scripts.What.TheVariants.{Ask, Delay, Move}
use Rattle.aio_model.specs.declared.scripts.image_scripts.Script.{Script}
use Rattle.aio_model.specs.Serving.{length_of}
use Rattle.aio_script.specs.Image.Grammar.{counts_of, has_stream}

-- no number twice
abbrev pub AreApart : List Stream → Type 0
AreApart streams = IsDistinct nat_eq (map (λ stream. stream.id) streams)

-- a request of at most 65,536 bytes, a delay of at most a second, or a move to one of the loops
abbrev pub AsksLittle : ℕ → What → Type 0
AsksLittle loops (Ask request) = length_of request ≤ 65536
AsksLittle loops (Delay ns) = ns ≤ 1000000000
AsksLittle loops (Move loop) = loop < loops

-- a step of one of the streams
pub record IsWithin (loops : ℕ) (streams : List Stream) (step : Step) : Type 0 where
  pub known : has_stream step.stream streams ≡ true
  pub little : AsksLittle loops step.what

-- a stream that begins on one of the loops
pub record IsAtHome (loops : ℕ) (stream : Stream) : Type 0 where
  pub id : stream.id ≤ 63
  pub home : stream.home < loops

pub record IsBounded (script : Script) : Type 0 where
  pub image : script.image ≤ 1048576
  pub some_loop : 1 ≤ script.loops
  pub few_loops : script.loops ≤ 16
  pub few_streams : length script.streams ≤ 64
  pub apart : AreApart script.streams
  pub at_home : AllByRecursion (IsAtHome script.loops) script.streams
  pub few : (counts_of script.lines).requests ≤ 4096
  pub few_pauses : (counts_of script.lines).pauses ≤ 4096
  pub moved : (counts_of script.lines).moved ≤ 67108864
  pub each : AllByRecursion (IsWithin script.loops script.streams) script.lines
