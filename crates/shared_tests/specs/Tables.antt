-- An image and a player for each of its streams.
use Rattle.std.specs.Prelude.{◌≡◌, ℕ, ◌+◌, List, [], ◌∷◌}
use Rattle.img_shared.specs.Images.{ImageState}
use Rattle.shared_tests.specs.declared.player.Player.{Player}
use Rattle.shared_tests.specs.declared.turn.Turn.TheVariants.{Rest}
use Rattle.shared_tests.specs.Sits.{Sits}

pub record SharedTable (D : Type 0) : Type 0 where
  pub image : ImageState D
  pub players : List Player

abbrev pub SitsAt : {D : Type 0} → ℕ → Player → ImageState D → Type 0
SitsAt i player image = (player.stream ≡ i) × Sits player.stream player.left player.turn player.request image

-- each player sits at its place, of which the first is this one
abbrev pub AllSit : {D : Type 0} → ℕ → List Player → ImageState D → Type 0
AllSit i [] image = Unit {0}
AllSit i (player ∷ players) image = SitsAt i player image × AllSit (i + 1) players image

-- players of streams that have so many requests
abbrev pub AreFresh : ℕ → List ℕ → List Player → Type 0
AreFresh i [] [] = Unit {0}
AreFresh i (left ∷ lefts) (player ∷ players) =
    (player.stream ≡ i) × (player.left ≡ left) × (player.turn ≡ Rest) × AreFresh (i + 1) lefts players
AreFresh i [] (player ∷ players) = ⊥
AreFresh i (left ∷ lefts) [] = ⊥
