-- How far a text was read, line by line.
use Rattle.std.specs.Prelude.{◌≡◌, ℕ, ◌+◌, ◌≤◌, List, []}
use Rattle.aio_model.specs.declared.scripts.image_scripts.Stream.{Stream}
use Rattle.aio_model.specs.declared.scripts.image_scripts.Step.{Step}
use Rattle.aio_script.specs.declared.image.said.Said.{Said}
use Rattle.aio_script.specs.declared.image.said.Counts.{Counts}
use Rattle.aio_model.specs.declared.scripts.image_scripts.What.{What}
use Rattle.aio_model.specs.declared.scripts.image_scripts.What.TheVariants.{Ask, Delay, Move}
use Rattle.aio_script.specs.declared.image.said.Said.TheVariants.{Declares, Does}
use Rattle.aio_script.specs.Image.Grammar.{all_said, bytes_moved, steps_in, streams_in}
use Rattle.aio_script.specs.Lines.{Numbered}

-- Some lines were read, which say these streams and steps; what the whole says is what they say and those that are left.
pub record HasRead (loops : ℕ) (whole left : List Numbered) (streams : List Stream) (steps : List Step) : Type 0 where
  pub above : List Said
  pub same_streams : streams ≡ streams_in above
  pub same_steps : steps ≡ steps_in above
  pub goes_on : all_said loops [] whole ≡ all_said loops above left

-- the counts with a step more
abbrev pub counts_after : Counts → What → Counts
counts_after counts (Ask request) =
    record { requests = counts.requests + 1; pauses = counts.pauses; moved = counts.moved + bytes_moved (Ask request) }
counts_after counts (Delay ns) = record { requests = counts.requests; pauses = counts.pauses + 1; moved = counts.moved }
counts_after counts (Move loop) = record { requests = counts.requests; pauses = counts.pauses + 1; moved = counts.moved }

-- the counts with what a line says
abbrev pub counts_with : Counts → Said → Counts
counts_with counts (Declares stream) = counts
counts_with counts (Does step) = counts_after counts step.what

-- counts within the limits
pub record AreLow (counts : Counts) : Type 0 where
  pub requests : counts.requests ≤ 4096
  pub pauses : counts.pauses ≤ 4096
  pub moved : counts.moved ≤ 67108864
