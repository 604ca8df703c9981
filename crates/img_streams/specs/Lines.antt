-- A stream's lines in a script.
use Rattle.std.specs.Prelude.{◌≡◌, ℕ, ◌+◌, ◌<◌, ◌≤◌, ◌==◌, if◌then◌else◌, List, [], ◌∷◌, length, get_or, drop, Some}
use Rattle.aio_model.specs.declared.serving.requests.Request.{Request}
use Rattle.aio_model.specs.declared.scripts.image_scripts.Step.{Step}
use Rattle.aio_model.specs.declared.scripts.image_scripts.What.{What}
use Rattle.aio_model.specs.declared.scripts.image_scripts.What.TheVariants.{Ask, Delay, Move}
use Rattle.aio_model.specs.Serving.Asked.{Asked, request_named}
use Rattle.aio_model.specs.Serving.{length_of}
use Rattle.img_requests.specs.Pieces.{HasRoom}

-- how many lines stand before the stream's first; all of them, if it has none
abbrev pub next_own : ℕ → List Step → ℕ
next_own id [] = 0
next_own id (step ∷ lines) = if step.stream == id then 0 else 1 + next_own id lines

-- where the stream's next line stands, from this place on; the end, if it has none
abbrev pub line_from : ℕ → List Step → ℕ → ℕ
line_from id lines from = from + next_own id (drop from lines)

-- where the stream's lines stand, first to last, where the first of these lines stands at this place
abbrev pub places_from : ℕ → ℕ → List Step → List ℕ
places_from id at [] = []
places_from id at (step ∷ lines) = if step.stream == id then at ∷ places_from id (at + 1) lines else places_from id (at + 1) lines

-- where the stream's lines stand in a script
abbrev pub places_of : ℕ → List Step → List ℕ
places_of id lines = places_from id 0 lines

-- this is the stream's line at this place
pub record StandsAt (lines : List Step) (id at : ℕ) (what : What) : Type 0 where
  pub inside : at < length lines
  pub is : (other : Step) → get_or lines at other ≡ record { stream = id; what = what }

-- the stream's line at this place is a request
abbrev pub Asks : List Step → ℕ → ℕ → Type 0
Asks lines id at = (request : Request) × StandsAt lines id at (Ask request)

-- a request has at most 65,536 bytes
abbrev pub IsShort : What → Type 0
IsShort (Ask request) = length_of request ≤ 65536
IsShort (Delay ns) = Unit {0}
IsShort (Move loop) = Unit {0}

abbrev pub AreShort : List Step → Type 0
AreShort [] = Unit {0}
AreShort (step ∷ lines) = IsShort step.what × AreShort lines

-- each buffer has the room that its request needs; the first is for the stream's request of this index
abbrev pub HaveRoom : List Asked → ℕ → ℕ → List (List ℕ) → Type 0
HaveRoom asked id index [] = Unit {0}
HaveRoom asked id index (buffer ∷ buffers) =
    ((request : Request) → request_named asked id index ≡ Some request → HasRoom request buffer)
    × HaveRoom asked id (index + 1) buffers
