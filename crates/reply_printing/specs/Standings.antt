-- The replies of each stream among the served ones, and the links that lead through them.
use Rattle.std.specs.Prelude.{◌≡◌, ℕ, ◌+◌, ◌<◌, ◌==◌, List, [], ◌∷◌, length, map, get_or, slice_index, if◌then◌else◌, IsPermutation}
use Rattle.std.specs.List.{AllByRecursion}
use Rattle.aio_model.specs.declared.serving.replies.Placed.{Placed}
use Rattle.aio_model.specs.declared.scripts.image_scripts.Step.{Step}
use Rattle.aio_model.specs.Serving.Asked.{asked}
use Rattle.aio_model.specs.Serving.SerialHistory.{asked_name, placed_name, CountsFrom, indices_of}
use Rattle.aio_model.specs.Scripts.PrintedText.{Standing}

-- each line is of a stream below this number
abbrev pub HaveStreamsBelow : ℕ → List Step → Type 0
HaveStreamsBelow streams lines = AllByRecursion (λ (step : Step). step.stream < streams) lines

-- each reply is
abbrev pub AreOfStreamsBelow : ℕ → List Placed → Type 0
AreOfStreamsBelow streams served = (place : ℕ) (d : Placed) → place < length served → (get_or served place d).stream < streams

-- The lines' requests have one reply each, and each stream's replies stand in the order of its requests.
pub record AreInOrder (lines : List Step) (served : List Placed) : Type 0 where
  pub each_once : IsPermutation (map asked_name (asked lines)) (map placed_name served)
  pub in_order : (stream : ℕ) → CountsFrom 0 (indices_of stream served)

-- a stream's replies, each with its place, where the first of the served ones stands at this one
abbrev pub standings_of : ℕ → ℕ → List Placed → List Standing
standings_of stream place [] = []
standings_of stream place (placed ∷ served) =
    if placed.stream == stream
    then record { place = place; reply = placed.reply } ∷ standings_of stream (place + 1) served
    else standings_of stream (place + 1) served

-- this reply of the stream stands at its place among the served ones
pub record StandsAmong (served : List Placed) (stream : ℕ) (standing : Standing) : Type 0 where
  pub inside : standing.place < length served
  pub own : (d : Placed) → (get_or served standing.place d).stream ≡ stream
  pub same : (d : Placed) → (get_or served standing.place d).reply ≡ standing.reply

-- from this place on the links lead through these replies of the stream
abbrev pub LeadThrough : List Placed → ℕ → List ℕ → ℕ → List Standing → Type 0
LeadThrough served stream behind place [] = Unit {0}
LeadThrough served stream behind place (standing ∷ rest) =
    (place ≡ standing.place) × StandsAmong served stream standing × LeadThrough served stream behind (slice_index behind place) rest

-- from each stream's next place they lead through all its replies
abbrev pub LeadThroughAll : List Placed → List ℕ → List ℕ → Type 0
LeadThroughAll served next behind = (stream : ℕ) → LeadThrough served stream behind (slice_index next stream) (standings_of stream 0 served)
