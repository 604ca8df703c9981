-- Links through the lines of each stream.
use Rattle.std.specs.Prelude.{◌≡◌, ℕ, ◌+◌, ◌<◌, ◌≤◌, List, length, get_or, slice_index}
use Rattle.aio_model.specs.declared.scripts.image_scripts.Step.{Step}
use Rattle.img_streams.specs.declared.links.LineLinks.{LineLinks}
use Rattle.img_streams.specs.Lines.{line_from}

-- from this place on they lead through the lines of each stream whose id is below 64
pub record LeadFrom (lines : List Step) (at : ℕ) (first next : List ℕ) : Type 0 where
  pub many : length next ≡ length lines
  pub firsts : (id : ℕ) → id < 64 → slice_index first id ≡ line_from id lines at
  pub nexts : (place : ℕ) (step : Step) → at ≤ place → place < length lines → (get_or lines place step).stream < 64
      → slice_index next place ≡ line_from (get_or lines place step).stream lines (place + 1)

-- they lead through all of them
abbrev pub AreLinksOf : List Step → LineLinks → Type 0
AreLinksOf lines links = LeadFrom lines 0 links.first links.next.items
