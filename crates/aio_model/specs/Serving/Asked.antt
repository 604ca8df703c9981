-- The requests of a script by their names. A request's name is its stream, and its place among that stream's
-- requests, from 0; delays and moves don't count.
use Rattle.std.specs.Prelude.{ℕ, ◌==◌, ◌&&◌, Bool, true, false, List, [], ◌∷◌, ◌++◌, count_by, Option, Some, None, if◌then◌else◌}
use Rattle.aio_model.specs.declared.serving.requests.Request.{Request}
use Rattle.aio_model.specs.declared.scripts.image_scripts.Step.{Step}
use Rattle.aio_model.specs.declared.scripts.image_scripts.What.{What}
use Rattle.aio_model.specs.declared.scripts.image_scripts.What.TheVariants.{Ask, Delay, Move}

pub record Asked : Type 0 where
  pub stream : ℕ
  pub index : ℕ
  pub request : Request

abbrev pub is_ask : What → Bool
is_ask (Ask request) = true
is_ask (Delay ns) = false
is_ask (Move loop) = false

-- how many of the lines are requests of the stream
abbrev pub requests_of : ℕ → List Step → ℕ
requests_of stream lines = count_by (λ step. step.stream == stream && is_ask step.what) lines

-- the request of a line, if it has one, under this name
abbrev pub asked_by : ℕ → ℕ → What → List Asked
asked_by stream index (Ask request) = record { stream = stream; index = index; request = request } ∷ []
asked_by stream index (Delay ns) = []
asked_by stream index (Move loop) = []

-- the requests of these lines, where the lines above stand before them
abbrev pub asked_below : List Step → List Step → List Asked
asked_below above [] = []
asked_below above (step ∷ lines) =
    asked_by step.stream (requests_of step.stream above) step.what ++ asked_below (above ++ step ∷ []) lines

-- the requests of a script's lines, in their order
abbrev pub asked : List Step → List Asked
asked lines = asked_below [] lines

-- the request of this name
abbrev pub request_named : List Asked → ℕ → ℕ → Option Request
request_named [] stream index = None
request_named (a ∷ rest) stream index =
    if a.stream == stream && a.index == index then Some a.request else request_named rest stream index
