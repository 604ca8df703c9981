-- How many replies each stream has: as many as requests.
use Rattle.std.proofs.Common.{◌≡◌, ℕ, ◌+◌, ◌<◌, ◌==◌, ◌&&◌, true, false, cond, List, [], ◌∷◌, ◌++◌, length, map, get_or, inl, inr, refl, sym, ◌∙◌, ap, subst, arith}
use Rattle.std.specs.List.{All, AllByRecursion, count_by}
use Rattle.std.proofs.lemmas.Bool.{cases_Bool, and_left, and_right, and_from, cond-true, cond-false}
use Rattle.std.proofs.lemmas.List.{map-append, get_or-map, length-map}
use Rattle.std.proofs.lemmas.List.Sums.{sum_by-append, sum_by-cons}
use Rattle.std.proofs.lemmas.List.Elements.{All-from_recursion}
use Rattle.std.proofs.lemmas.List.Sorted.{All-permutation, length_permutation, sum_by-IsPermutation}
use Rattle.aio_model.specs.declared.serving.replies.Placed.{Placed}
use Rattle.aio_model.specs.declared.scripts.image_scripts.Step.{Step}
use Rattle.aio_model.specs.declared.scripts.image_scripts.What.{What}
use Rattle.aio_model.specs.declared.scripts.image_scripts.What.TheVariants.{Ask, Delay, Move}
use Rattle.aio_model.specs.Serving.Asked.{is_ask, requests_of, asked_by, asked_below, asked}
use Rattle.aio_model.specs.Serving.SerialHistory.{asked_name, placed_name}
use Rattle.reply_printing.specs.Standings.{AreInOrder, AreOfStreamsBelow, HaveStreamsBelow, standings_of}

-- a name of the stream
abbrev is_of : ℕ → ℕ × ℕ → ℕ
is_of stream name = cond (name.0 == stream) 1 0

-- how many names are of the stream
abbrev names_of : ℕ → List (ℕ × ℕ) → ℕ
names_of stream names = count_by (λ (name : ℕ × ℕ). name.0 == stream) names

names_of-cons : (stream : ℕ) (name : ℕ × ℕ) (names : List (ℕ × ℕ)) → names_of stream (name ∷ names) ≡ is_of stream name + names_of stream names
names_of-cons stream name names = sum_by-cons (is_of stream) name names

names_of-append : (stream : ℕ) (first second : List (ℕ × ℕ)) → names_of stream (first ++ second) ≡ names_of stream first + names_of stream second
names_of-append stream first second = sum_by-append (is_of stream) first second

length-standings : (stream place : ℕ) (served : List Placed) → length (standings_of stream place served) ≡ names_of stream (map placed_name served)
length-standings stream place [] = refl
length-standings stream place (placed ∷ served) =
    let rest = standings_of stream (place + 1) served in
    let more = record { place = place; reply = placed.reply } ∷ rest in
    let same : length rest ≡ names_of stream (map placed_name served) = length-standings stream (place + 1) served in
    let count : names_of stream (map placed_name (placed ∷ served)) ≡ is_of stream (placed_name placed) + names_of stream (map placed_name served) =
    names_of-cons stream (placed_name placed) (map placed_name served) in
    elim (cases_Bool (placed.stream == stream)) [
      | inl h ↦
          let all : length (standings_of stream place (placed ∷ served)) ≡ length more = ap length (cond-true (placed.stream == stream) more rest h) in
          let one : is_of stream (placed_name placed) ≡ 1 = cond-true (placed.stream == stream) 1 0 h in
          omega (arith, all, one, count, same)
      | inr h ↦
          let all : length (standings_of stream place (placed ∷ served)) ≡ length rest = ap length (cond-false (placed.stream == stream) more rest h) in
          let one : is_of stream (placed_name placed) ≡ 0 = cond-false (placed.stream == stream) 1 0 h in
          omega (arith, all, one, count, same)
    ]

-- a line's request counts where it is the stream's own
names_of-line : (stream own index : ℕ) (what : What)
    → names_of stream (map asked_name (asked_by own index what)) ≡ cond (own == stream && is_ask what) 1 0
names_of-line stream own index (Ask request) =
    let one : names_of stream ((own, index) ∷ []) ≡ cond (own == stream) 1 0 + 0 = names_of-cons stream (own, index) [] in
    elim (cases_Bool (own == stream)) [
      | inl h ↦ omega (arith, one, cond-true {A = ℕ} (own == stream) 1 0 h, cond-true {A = ℕ} (own == stream && true) 1 0 (and_from _ _ h refl))
      | inr h ↦ omega (arith, one, cond-false {A = ℕ} (own == stream) 1 0 h, cond-false {A = ℕ} (own == stream && true) 1 0 (and_left _ _ h))
    ]
names_of-line stream own index (Delay ns) = sym (cond-false (own == stream && false) 1 0 (and_right _ _ refl))
names_of-line stream own index (Move loop) = sym (cond-false (own == stream && false) 1 0 (and_right _ _ refl))

names_of-asked : (stream : ℕ) (above lines : List Step) → names_of stream (map asked_name (asked_below above lines)) ≡ requests_of stream lines
names_of-asked stream above [] = refl
names_of-asked stream above (step ∷ lines) =
    let first = asked_by step.stream (requests_of step.stream above) step.what in
    let rest = asked_below (above ++ step ∷ []) lines in
    let parts : names_of stream (map asked_name (first ++ rest)) ≡ names_of stream (map asked_name first) + names_of stream (map asked_name rest) =
    ap (names_of stream) (map-append asked_name first rest) ∙ names_of-append stream (map asked_name first) (map asked_name rest) in
    let own : names_of stream (map asked_name first) ≡ cond (step.stream == stream && is_ask step.what) 1 0 =
    names_of-line stream step.stream (requests_of step.stream above) step.what in
    let tail : names_of stream (map asked_name rest) ≡ requests_of stream lines = names_of-asked stream (above ++ step ∷ []) lines in
    let whole : requests_of stream (step ∷ lines) ≡ cond (step.stream == stream && is_ask step.what) 1 0 + requests_of stream lines =
    sum_by-cons (λ (other : Step). cond (other.stream == stream && is_ask other.what) 1 0) step lines in
    omega (arith, parts, own, tail, whole)

-- each stream has as many replies as requests
pub standings-many : (stream : ℕ) (lines : List Step) (served : List Placed) → AreInOrder lines served
    → length (standings_of stream 0 served) ≡ requests_of stream lines
standings-many stream lines served order =
    length-standings stream 0 served
    ∙ sum_by-IsPermutation (is_of stream) (map asked_name (asked lines)) (map placed_name served) order.each_once
    ∙ names_of-asked stream [] lines

-- there are as many replies as requests
pub served-many : (lines : List Step) (served : List Placed) → AreInOrder lines served → length served ≡ length (asked lines)
served-many lines served order =
    sym (length-map served placed_name) ∙ length_permutation (map asked_name (asked lines)) (map placed_name served) order.each_once
    ∙ length-map (asked lines) asked_name

-- ---- the streams that the replies are of

abbrev IsBelow : ℕ → ℕ × ℕ → Type 0
IsBelow streams name = name.0 < streams

below-line : (streams own index : ℕ) (what : What) (rest : List (ℕ × ℕ)) → own < streams
    → AllByRecursion (IsBelow streams) rest → AllByRecursion (IsBelow streams) (map asked_name (asked_by own index what) ++ rest)
below-line streams own index (Ask request) rest low below = (low, below)
below-line streams own index (Delay ns) rest low below = below
below-line streams own index (Move loop) rest low below = below

below-asked : (streams : ℕ) (above lines : List Step) → HaveStreamsBelow streams lines
    → AllByRecursion (IsBelow streams) (map asked_name (asked_below above lines))
below-asked streams above [] low = tt
below-asked streams above (step ∷ lines) low =
    let first = asked_by step.stream (requests_of step.stream above) step.what in
    let rest = asked_below (above ++ step ∷ []) lines in
    subst (AllByRecursion (IsBelow streams)) (sym (map-append asked_name first rest))
    (below-line streams step.stream (requests_of step.stream above) step.what (map asked_name rest) low.0 (below-asked streams (above ++ step ∷ []) lines low.1))

pub streams-below : (streams : ℕ) (lines : List Step) (served : List Placed) → AreInOrder lines served → HaveStreamsBelow streams lines
    → AreOfStreamsBelow streams served
streams-below streams lines served order low place d inside =
    let asked_low : All (IsBelow streams) (map asked_name (asked lines)) =
    All-from_recursion (IsBelow streams) (map asked_name (asked lines)) (below-asked streams [] lines low) in
    let served_low : All (IsBelow streams) (map placed_name served) =
    All-permutation (IsBelow streams) (map asked_name (asked lines)) (map placed_name served) order.each_once asked_low in
    let name : get_or (map placed_name served) place (placed_name d) ≡ placed_name (get_or served place d) = get_or-map placed_name served place d (placed_name d) inside in
    subst (IsBelow streams) name (served_low place (placed_name d) (omega (arith, inside, length-map served placed_name)))
