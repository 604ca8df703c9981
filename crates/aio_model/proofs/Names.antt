-- The names of a script's requests: each is there once, and each stream's count up from 0.
use Rattle.std.proofs.Common.{◌≡◌, ℕ, ◌+◌, ◌<◌, ◌≤◌, ◌==◌, ◌&&◌, true, false, cond, List, [], ◌∷◌, ◌++◌, length, map, Some, inl, inr, refl, sym, ◌∙◌, ap, subst, arith}
use Rattle.std.proofs.lemmas.List.{append_assoc, append-nil, map-append}
use Rattle.std.proofs.lemmas.List.Sums.{sum_by-append, sum_by-cons}
use Rattle.std.proofs.lemmas.Bool.{eqb-true, eq-eqb, ne_eqb, cases_Bool, and_left, and_right, and_from, cond-true, cond-false}
use Rattle.aio_model.specs.declared.serving.replies.Placed.{Placed}
use Rattle.aio_model.specs.declared.scripts.image_scripts.Step.{Step}
use Rattle.aio_model.specs.declared.scripts.image_scripts.What.{What}
use Rattle.aio_model.specs.declared.scripts.image_scripts.What.TheVariants.{Ask, Delay, Move}
use Rattle.aio_model.specs.Serving.Asked.{Asked, is_ask, requests_of, asked_by, asked_below, asked, request_named}
use Rattle.aio_model.specs.Serving.SerialHistory.{asked_name, placed_name, CountsFrom, indices_of}
use Rattle.aio_model.specs.Scripts.PrintedText.{standing_from}

-- the requests of lines that stand one part above the other
pub asked_below-append : (above first second : List Step)
    → asked_below above (first ++ second) ≡ asked_below above first ++ asked_below (above ++ first) second
asked_below-append above [] second = ap (λ lines. asked_below lines second) (sym (append-nil above))
asked_below-append above (step ∷ first) second =
    let head = asked_by step.stream (requests_of step.stream above) step.what in
    let joined : (above ++ step ∷ []) ++ first ≡ above ++ step ∷ first = append_assoc above (step ∷ []) first in
    ap (λ rest. head ++ rest) (asked_below-append (above ++ step ∷ []) first second)
    ∙ ap (λ lines. head ++ (asked_below (above ++ step ∷ []) first ++ asked_below lines second)) joined
    ∙ sym (append_assoc head (asked_below (above ++ step ∷ []) first) (asked_below (above ++ step ∷ first) second))

-- how many requests of a stream there are above, in and below a line
requests_of-append : (stream : ℕ) (first second : List Step) → requests_of stream (first ++ second) ≡ requests_of stream first + requests_of stream second
requests_of-append stream first second = sum_by-append _ first second

requests_of-ask : (step : Step) (lines : List Step) → is_ask step.what ≡ true → requests_of step.stream (step ∷ lines) ≡ 1 + requests_of step.stream lines
requests_of-ask step lines h =
    let counted : Step → ℕ = λ other. cond (other.stream == step.stream && is_ask other.what) 1 0 in
    let here : counted step ≡ 1 = cond-true _ 1 0 (and_from _ _ (eq-eqb step.stream step.stream refl) h) in
    sum_by-cons counted step lines ∙ ap (λ n. n + requests_of step.stream lines) here

-- each index is below the number of requests of its stream
abbrev AllBelow : List Step → List Asked → Type 0
AllBelow lines [] = Unit {0}
AllBelow lines (a ∷ rest) = (a.index < requests_of a.stream lines) × AllBelow lines rest

AllBelow-by : (lines : List Step) (stream index : ℕ) (what : What) (rest : List Asked)
    → (is_ask what ≡ true → index < requests_of stream lines) → AllBelow lines rest → AllBelow lines (asked_by stream index what ++ rest)
AllBelow-by lines stream index (Ask request) rest here below = (here refl, below)
AllBelow-by lines stream index (Delay ns) rest here below = below
AllBelow-by lines stream index (Move loop) rest here below = below

AllBelow-asked : (above lines : List Step) → AllBelow (above ++ lines) (asked_below above lines)
AllBelow-asked above [] = tt
AllBelow-asked above (step ∷ lines) =
    AllBelow-by (above ++ step ∷ lines) step.stream (requests_of step.stream above) step.what (asked_below (above ++ step ∷ []) lines)
    (λ h. omega (arith, requests_of-append step.stream above (step ∷ lines), requests_of-ask step lines h))
    (subst (λ all. AllBelow all (asked_below (above ++ step ∷ []) lines)) (append_assoc above (step ∷ []) lines) (AllBelow-asked (above ++ step ∷ []) lines))

-- no name of the list is this one
abbrev pub Absent : ℕ → ℕ → List (ℕ × ℕ) → Type 0
Absent stream index [] = Unit {0}
Absent stream index (name ∷ names) = ((name.0 == stream && name.1 == index) ≡ false) × Absent stream index names

-- two names are one only if streams and indices are
different : (a b i j : ℕ) → (a ≡ b → i ≡ j → ⊥) → (a == b && i == j) ≡ false
different a b i j h =
    elim (cases_Bool (a == b)) [
      | inl e ↦ and_right _ _ (ne_eqb i j (h (eqb-true a b e)))
      | inr e ↦ and_left _ _ e
    ]

Absent-above : (lines : List Step) (stream index : ℕ) (named : List Asked)
    → requests_of stream lines ≤ index → AllBelow lines named → Absent stream index (map asked_name named)
Absent-above lines stream index [] h below = tt
Absent-above lines stream index (a ∷ rest) h below =
    let other : a.stream ≡ stream → a.index ≡ index → ⊥ =
    λ s i. let fewer : a.index < requests_of stream lines = subst (λ x. a.index < requests_of x lines) s below.0 in omega arith in
    (different a.stream stream a.index index other, Absent-above lines stream index rest h below.1)

-- each name is absent from those before it
abbrev pub EachNew : List (ℕ × ℕ) → List (ℕ × ℕ) → Type 0
EachNew seen [] = Unit {0}
EachNew seen (name ∷ names) = Absent name.0 name.1 seen × EachNew (seen ++ name ∷ []) names

EachNew-by : (above : List Step) (step : Step) (what : What) (rest : List Asked) (seen : List (ℕ × ℕ))
    → Absent step.stream (requests_of step.stream above) seen
    → EachNew (seen ++ map asked_name (asked_by step.stream (requests_of step.stream above) what)) (map asked_name rest)
    → EachNew seen (map asked_name (asked_by step.stream (requests_of step.stream above) what ++ rest))
EachNew-by above step (Ask request) rest seen absent new = (absent, new)
EachNew-by above step (Delay ns) rest seen absent new = subst (λ names. EachNew names (map asked_name rest)) (append-nil seen) new
EachNew-by above step (Move loop) rest seen absent new = subst (λ names. EachNew names (map asked_name rest)) (append-nil seen) new

EachNew-below : (above lines : List Step)
    → EachNew (map asked_name (asked_below [] above)) (map asked_name (asked_below above lines))
EachNew-below above [] = tt
EachNew-below above (step ∷ lines) =
    let seen = asked_below [] above in
    let here = asked_by step.stream (requests_of step.stream above) step.what in
    let more : asked_below [] (above ++ step ∷ []) ≡ seen ++ here =
    asked_below-append [] above (step ∷ []) ∙ ap (λ tail. seen ++ tail) (append-nil here) in
    let next : EachNew (map asked_name (seen ++ here)) (map asked_name (asked_below (above ++ step ∷ []) lines)) =
    subst (λ named. EachNew (map asked_name named) (map asked_name (asked_below (above ++ step ∷ []) lines))) more (EachNew-below (above ++ step ∷ []) lines) in
    EachNew-by above step step.what (asked_below (above ++ step ∷ []) lines) (map asked_name seen)
    (Absent-above above step.stream (requests_of step.stream above) seen (omega arith) (AllBelow-asked [] above))
    (subst (λ names. EachNew names (map asked_name (asked_below (above ++ step ∷ []) lines))) (map-append asked_name seen here) next)

EachNew-asked : (lines : List Step) → EachNew [] (map asked_name (asked lines))
EachNew-asked lines = EachNew-below [] lines

-- a name is absent from those before it, wherever it stands
Absent-before : (seen front rest : List (ℕ × ℕ)) (name : ℕ × ℕ)
    → EachNew seen (front ++ name ∷ rest) → Absent name.0 name.1 (seen ++ front)
Absent-before seen [] rest name new = subst (Absent name.0 name.1) (sym (append-nil seen)) new.0
Absent-before seen (other ∷ front) rest name new =
    subst (Absent name.0 name.1) (append_assoc seen (other ∷ []) front) (Absent-before (seen ++ other ∷ []) front rest name new.1)

-- the first request of a name is found
request_named-first : (front : List Asked) (a : Asked) (rest : List Asked)
    → Absent a.stream a.index (map asked_name front) → request_named (front ++ a ∷ rest) a.stream a.index ≡ Some a.request
request_named-first [] a rest absent =
    cond-true _ _ _ (and_from _ _ (eq-eqb a.stream a.stream refl) (eq-eqb a.index a.index refl))
request_named-first (other ∷ front) a rest absent =
    cond-false _ _ _ absent.0 ∙ request_named-first front a rest absent.1

-- each request of a script is found by its name
pub request_named-asked : (lines : List Step) (front : List Asked) (a : Asked) (rest : List Asked)
    → asked lines ≡ front ++ a ∷ rest → request_named (asked lines) a.stream a.index ≡ Some a.request
request_named-asked lines front a rest e =
    let new : EachNew [] (map asked_name front ++ asked_name a ∷ map asked_name rest) =
    subst (EachNew []) (ap (map asked_name) e ∙ map-append asked_name front (a ∷ rest)) (EachNew-asked lines) in
    ap (λ all. request_named all a.stream a.index) e
    ∙ request_named-first front a rest (Absent-before [] (map asked_name front) (map asked_name rest) (asked_name a) new)

-- the first reply of a name is found, at its place
standing_from-first : (n : ℕ) (front : List Placed) (placed : Placed) (rest : List Placed)
    → Absent placed.stream placed.index (map placed_name front)
    → standing_from n (front ++ placed ∷ rest) placed.stream placed.index ≡ Some (record { place = n + length front; reply = placed.reply })
standing_from-first n [] placed rest absent =
    cond-true _ _ _ (and_from _ _ (eq-eqb placed.stream placed.stream refl) (eq-eqb placed.index placed.index refl))
    ∙ ap (λ place. Some (record { place = place; reply = placed.reply })) (omega arith)
standing_from-first n (other ∷ front) placed rest absent =
    cond-false _ _ _ absent.0 ∙ standing_from-first (n + 1) front placed rest absent.1
    ∙ ap (λ place. Some (record { place = place; reply = placed.reply })) (omega arith)

-- of replies that have the names of a script's requests, in the same order, each is found at its place
pub standing_from-asked : (lines : List Step) (front : List Placed) (placed : Placed) (rest : List Placed)
    → map placed_name (front ++ placed ∷ rest) ≡ map asked_name (asked lines)
    → standing_from 0 (front ++ placed ∷ rest) placed.stream placed.index ≡ Some (record { place = length front; reply = placed.reply })
standing_from-asked lines front placed rest e =
    let new : EachNew [] (map placed_name front ++ placed_name placed ∷ map placed_name rest) =
    subst (EachNew []) (sym e ∙ map-append placed_name front (placed ∷ rest)) (EachNew-asked lines) in
    standing_from-first 0 front placed rest (Absent-before [] (map placed_name front) (map placed_name rest) (placed_name placed) new)
    ∙ ap (λ place. Some (record { place = place; reply = placed.reply })) (omega arith)

-- the indices of a stream's names
abbrev indices_in : ℕ → List (ℕ × ℕ) → List ℕ
indices_in stream [] = []
indices_in stream (name ∷ names) = cond (name.0 == stream) (name.1 ∷ indices_in stream names) (indices_in stream names)

indices_of-names : (stream : ℕ) (served : List Placed) → indices_of stream served ≡ indices_in stream (map placed_name served)
indices_of-names stream [] = refl
indices_of-names stream (placed ∷ served) =
    let e = indices_of-names stream served in
    elim (cases_Bool (placed.stream == stream)) [
      | inl h ↦ ap (map (λ (p : Placed). p.index)) (cond-true _ _ _ h) ∙ ap (λ rest. placed.index ∷ rest) e ∙ sym (cond-true _ _ _ h)
      | inr h ↦ ap (map (λ (p : Placed). p.index)) (cond-false _ _ _ h) ∙ e ∙ sym (cond-false _ _ _ h)
    ]

-- how many requests of a stream there are with one line more
pub requests_of-push : (stream : ℕ) (above : List Step) (step : Step)
    → requests_of stream (above ++ step ∷ []) ≡ requests_of stream above + cond (step.stream == stream && is_ask step.what) 1 0
requests_of-push stream above step =
    let counted : Step → ℕ = λ other. cond (other.stream == stream && is_ask other.what) 1 0 in
    let one : requests_of stream (step ∷ []) ≡ counted step + 0 = sum_by-cons counted step [] in
    requests_of-append stream above (step ∷ []) ∙ omega (arith, one)

CountsFrom-by : (stream n own index : ℕ) (what : What) (rest : List Asked)
    → (own ≡ stream → index ≡ n)
    → CountsFrom (n + cond (own == stream && is_ask what) 1 0) (indices_in stream (map asked_name rest))
    → CountsFrom n (indices_in stream (map asked_name (asked_by own index what ++ rest)))
CountsFrom-by stream n own index (Ask request) rest here counts =
    elim (cases_Bool (own == stream)) [
      | inl h ↦
          let one : n + cond (own == stream && true) 1 0 ≡ n + 1 = ap (λ k. n + k) (cond-true _ 1 0 (and_from _ _ h refl)) in
          let tail : CountsFrom (n + 1) (indices_in stream (map asked_name rest)) = subst (λ k. CountsFrom k (indices_in stream (map asked_name rest))) one counts in
          let whole : CountsFrom n (index ∷ indices_in stream (map asked_name rest)) = (here (eqb-true own stream h), tail) in
          subst (CountsFrom n) (sym (cond-true (own == stream) (index ∷ indices_in stream (map asked_name rest)) (indices_in stream (map asked_name rest)) h)) whole
      | inr h ↦
          let none : n + cond (own == stream && true) 1 0 ≡ n = ap (λ k. n + k) (cond-false _ 1 0 (and_left _ _ h)) ∙ omega arith in
          let tail : CountsFrom n (indices_in stream (map asked_name rest)) = subst (λ k. CountsFrom k (indices_in stream (map asked_name rest))) none counts in
          subst (CountsFrom n) (sym (cond-false (own == stream) (index ∷ indices_in stream (map asked_name rest)) (indices_in stream (map asked_name rest)) h)) tail
    ]
CountsFrom-by stream n own index (Delay ns) rest here counts =
    let none : n + cond (own == stream && false) 1 0 ≡ n = ap (λ k. n + k) (cond-false _ 1 0 (and_right _ _ refl)) ∙ omega arith in
    subst (λ k. CountsFrom k (indices_in stream (map asked_name rest))) none counts
CountsFrom-by stream n own index (Move loop) rest here counts =
    let none : n + cond (own == stream && false) 1 0 ≡ n = ap (λ k. n + k) (cond-false _ 1 0 (and_right _ _ refl)) ∙ omega arith in
    subst (λ k. CountsFrom k (indices_in stream (map asked_name rest))) none counts

CountsFrom-below : (stream : ℕ) (above lines : List Step)
    → CountsFrom (requests_of stream above) (indices_in stream (map asked_name (asked_below above lines)))
CountsFrom-below stream above [] = tt
CountsFrom-below stream above (step ∷ lines) =
    CountsFrom-by stream (requests_of stream above) step.stream (requests_of step.stream above) step.what (asked_below (above ++ step ∷ []) lines)
    (λ e. ap (λ s. requests_of s above) e)
    (subst (λ k. CountsFrom k (indices_in stream (map asked_name (asked_below (above ++ step ∷ []) lines)))) (requests_of-push stream above step) (CountsFrom-below stream (above ++ step ∷ []) lines))

-- replies that have the names of a script's requests, in the same order, have each stream's indices in order
pub CountsFrom-asked : (lines : List Step) (served : List Placed)
    → map placed_name served ≡ map asked_name (asked lines) → (stream : ℕ) → CountsFrom 0 (indices_of stream served)
CountsFrom-asked lines served e stream =
    let counts : CountsFrom 0 (indices_in stream (map asked_name (asked lines))) = CountsFrom-below stream [] lines in
    subst (CountsFrom 0) (sym (indices_of-names stream served ∙ ap (indices_in stream) e)) counts
