-- A buffer for each request of a stream.
use Rattle.std.proofs.Common.{◌≡◌, ℕ, suc, ◌+◌, ◌<◌, ◌==◌, ◌&&◌, Bool, true, false, cond, MatchBool, List, [], ◌∷◌, ◌++◌, length, get_or, take, Some, inl, inr, refl, sym, ap, ◌∙◌, subst, arith, length-append, append_assoc}
use Rattle.std.proofs.lemmas.List.{get_or_default}
use Rattle.std.proofs.lemmas.List.Sums.{sum_by-append, sum_by-cons, sum_by_more}
use Rattle.std.proofs.lemmas.Bool.{cases_Bool, eqb-true, and_from, and_parts, cond-true, cond-false}
use Rattle.aio_model.specs.declared.serving.requests.Request.{Request}
use Rattle.aio_model.specs.declared.scripts.image_scripts.Step.{Step}
use Rattle.aio_model.specs.declared.scripts.image_scripts.What.{What}
use Rattle.aio_model.specs.declared.scripts.image_scripts.What.TheVariants.{Ask, Delay, Move}
use Rattle.aio_model.specs.Serving.Asked.{Asked, is_ask, requests_of, asked_by, asked_below, asked, request_named}
use Rattle.img_requests.specs.Pieces.{HasRoom}
use Rattle.img_streams.specs.Lines.{StandsAt, HaveRoom}
use Rattle.img_streams.specs.Rooms.{HasRoomFor, AddsFor, HaveBuffers}
use Rattle.img_streams.proofs.LinesAlong.{named_here}

pub push_room : (all : List Asked) (id n : ℕ) (buffers : List (List ℕ)) (buffer : List ℕ) → HaveRoom all id n buffers
    → ((request : Request) → request_named all id (n + length buffers) ≡ Some request → HasRoom request buffer)
    → HaveRoom all id n (buffers ++ buffer ∷ [])
push_room all id n [] buffer have last = (λ request named. last request (ap (λ (k : ℕ). request_named all id k) (let e : n + 0 ≡ n = omega arith in e) ∙ named), tt)
push_room all id n (first ∷ buffers) buffer have last =
    (have.0, push_room all id (n + 1) buffers buffer have.1 (λ request named. last request (ap (λ (k : ℕ). request_named all id k) (let e : n + suc (length buffers) ≡ n + 1 + length buffers = omega arith in e) ∙ named)))

-- no request has an index that high
abbrev counted : ℕ → Step → ℕ
counted id step = cond (step.stream == id && is_ask step.what) 1 0

named_low : (above lines : List Step) (id n : ℕ) (request : Request) → request_named (asked_below above lines) id n ≡ Some request → n < requests_of id (above ++ lines)
named_low above [] id n request named = absurd cc
named_low above (step ∷ lines) id n request named =
    by step.what refl (λ e. named_low (above ++ step ∷ []) lines id n request e) named
  where
    more : (above ++ step ∷ []) ++ lines ≡ above ++ step ∷ lines
    more = append_assoc above (step ∷ []) lines

    by : (what : What) → step.what ≡ what
        → (request_named (asked_below (above ++ step ∷ []) lines) id n ≡ Some request → n < requests_of id ((above ++ step ∷ []) ++ lines))
        → request_named (asked_by step.stream (requests_of step.stream above) what ++ asked_below (above ++ step ∷ []) lines) id n ≡ Some request
        → n < requests_of id (above ++ step ∷ lines)
    by (Delay ns) is older named = subst (λ (l : List Step). n < requests_of id l) more (older named)
    by (Move loop) is older named = subst (λ (l : List Step). n < requests_of id l) more (older named)
    by (Ask q) is older named =
        elim (cases_Bool (step.stream == id && requests_of step.stream above == n)) [
          | inl e ↦
              let parts = and_parts _ _ e in
              let own : step.stream ≡ id = eqb-true step.stream id parts.0 in
              let index : requests_of step.stream above ≡ n = eqb-true (requests_of step.stream above) n parts.1 in
              let one : counted id step ≡ 1 = cond-true (step.stream == id && is_ask step.what) 1 0 (and_from (step.stream == id) (is_ask step.what) parts.0 (ap is_ask is)) in
              let same : requests_of id above ≡ n = ap (λ (s : ℕ). requests_of s above) (sym own) ∙ index in
              omega (arith, same, one, sum_by-append (counted id) above (step ∷ lines), sum_by-cons (counted id) step lines)
          | inr e ↦
              subst (λ (l : List Step). n < requests_of id l) more
              (older
              (sym (cond-false (step.stream == id && requests_of step.stream above == n) (Some q) (request_named (asked_below (above ++ step ∷ []) lines) id n) e) ∙ named))
        ]

pub none_named : (lines : List Step) (id : ℕ) (request : Request) → request_named (asked lines) id (requests_of id lines) ≡ Some request → ⊥
none_named lines id request named = omega (arith, named_low [] lines id (requests_of id lines) request named)

some_same : (p q : Request) → Some p ≡ Some q → p ≡ q
some_same p q e = cc

module _ (lines : List Step) (id i : ℕ) (step : Step) (inside : i < length lines) (read : step ≡ get_or lines i step) where
  more_above : requests_of id (take (i + 1) lines) ≡ requests_of id (take i lines) + counted id step
  more_above = sum_by_more (counted id) lines i step inside ∙ ap (λ (s : Step). requests_of id (take i lines) + counted id s) (sym read)

  room_of : (what : What) (buffer : List ℕ) → step.what ≡ what → step.stream ≡ id → HasRoomFor what buffer → is_ask what ≡ true
      → (request : Request) → request_named (asked lines) id (requests_of id (take i lines)) ≡ Some request → HasRoom request buffer
  room_of (Delay ns) buffer is own room asks request named = absurd cc
  room_of (Move loop) buffer is own room asks request named = absurd cc
  room_of (Ask q) buffer is own room asks request named =
      let stands : StandsAt lines id i (Ask q) = record {
        inside = inside;
        is = λ other. get_or_default lines i other step inside ∙ sym read ∙ ap (λ (n : ℕ). record { stream = n; what = step.what }) own ∙ ap (λ (w : What). record { stream = id; what = w }) is;
      } in
      subst (λ (r : Request). HasRoom r buffer) (some_same q request (sym (named_here lines id i q stands) ∙ named)) room

  pub adds : (old new : List (List ℕ)) → HaveBuffers lines id (requests_of id (take i lines)) old → AddsFor id step old new
      → HaveBuffers lines id (requests_of id (take (i + 1) lines)) new
  adds old new have added = by (step.stream == id && is_ask step.what) refl added
    where
      by : (b : Bool) → (step.stream == id && is_ask step.what) ≡ b → MatchBool b ((buffer : List ℕ) × (new ≡ old ++ buffer ∷ []) × HasRoomFor step.what buffer) (new ≡ old)
          → HaveBuffers lines id (requests_of id (take (i + 1) lines)) new
      by true e (buffer, is, room) =
          let parts = and_parts _ _ e in
          let one : counted id step ≡ 1 = cond-true (step.stream == id && is_ask step.what) 1 0 e in
          record {
            room = subst (HaveRoom (asked lines) id 0) (sym is)
                (push_room (asked lines) id 0 old buffer have.room
                (λ request named. room_of step.what buffer refl (eqb-true step.stream id parts.0) room parts.1 request
                (ap (λ (k : ℕ). request_named (asked lines) id k) (sym (let z : 0 + length old ≡ requests_of id (take i lines) = omega (arith, have.many) in z)) ∙ named)));
            many = omega (arith, ap (λ (l : List (List ℕ)). length l) is, length-append old (buffer ∷ []), have.many, more_above, one);
          }
      by false e same =
          let none : counted id step ≡ 0 = cond-false (step.stream == id && is_ask step.what) 1 0 e in
          record {
            room = subst (HaveRoom (asked lines) id 0) (sym same) have.room;
            many = omega (arith, ap (λ (l : List (List ℕ)). length l) same, have.many, more_above, none);
          }

-- the rooms of all requests, and a last buffer
pub all_room : (lines : List Step) (id : ℕ) (buffers : List (List ℕ)) (last : List ℕ) → HaveBuffers lines id (requests_of id lines) buffers
    → HaveRoom (asked lines) id 0 (buffers ++ last ∷ [])
all_room lines id buffers last have =
    push_room (asked lines) id 0 buffers last have.room
    (λ request named. absurd (none_named lines id request (ap (λ (k : ℕ). request_named (asked lines) id k) (sym (let z : 0 + length buffers ≡ requests_of id lines = omega (arith, have.many) in z)) ∙ named)))

pub rooms : (lines : List Step) (id : ℕ) (rows : List (List ℕ)) (first : List ℕ) (rest : List (List ℕ)) → HaveBuffers lines id (requests_of id lines) rows
    → rows ++ [] ∷ [] ≡ first ∷ rest → (length rest ≡ requests_of id lines) × HaveRoom (asked lines) id 0 (first ∷ rest)
rooms lines id rows first rest have is = (
  omega (arith, ap (λ (l : List (List ℕ)). length l) is, length-append rows ([] ∷ []), have.many),
  subst (HaveRoom (asked lines) id 0) is (all_room lines id rows [] have),
)
