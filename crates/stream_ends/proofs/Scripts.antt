-- What a script that was read keeps.
use Rattle.std.proofs.Common.{◌≡◌, ℕ, zero, suc, ◌+◌, ◌^◌, ◌<◌, ◌≤◌, ◌==◌, ◌&&◌, ◌||◌, ◌⊎◌, inl, inr, Bool, true, false, not, cond, sum, List, [], ◌∷◌, length, slice_index, count_by, refl, sym, ap, subst, arith}
use Rattle.std.specs.List.{All, AllByRecursion, IsDistinct, sum_by}
use Rattle.std.specs.Prelude.{nat_eq}
use Rattle.std.proofs.lemmas.Bool.{cases_Bool, cases_lt, eq-eqb, eqb-true}
use Rattle.std.proofs.lemmas.List.Sums.{sum_by-cons, sum-map, sum_by-le-sum_by, count_by-le-length}
use Rattle.std.proofs.lemmas.Map.Keys.{IsDistinct-head, IsDistinct-tail, apart_from_distinct}
use Rattle.aio_model.specs.declared.scripts.image_scripts.Script.{Script}
use Rattle.aio_model.specs.declared.scripts.image_scripts.Step.{Step}
use Rattle.aio_model.specs.declared.scripts.image_scripts.Stream.{Stream}
use Rattle.aio_model.specs.declared.scripts.image_scripts.What.{What}
use Rattle.aio_model.specs.declared.scripts.image_scripts.What.TheVariants.{Ask, Delay, Move}
use Rattle.aio_model.specs.Serving.Asked.{is_ask, requests_of}
use Rattle.aio_script.specs.Image.Bounds.{AsksLittle, IsAtHome, IsBounded, IsWithin}
use Rattle.aio_script.specs.Image.Grammar.{has_stream}
use Rattle.img_join.specs.Ended.{HaveOwnIds, AreOurs}
use Rattle.img_streams.specs.Lines.{AreShort, IsShort}
use Rattle.stream_ends.specs.Images.{counts_for, ids_of_lines}

-- how many of the lines are requests
abbrev pub asks_of : List Step → ℕ
asks_of lines = count_by (λ step. is_ask step.what) lines

abbrev one_if : Bool → ℕ
one_if b = cond b 1 0

-- ---- no line is long

short_what : (loops : ℕ) (what : What) → AsksLittle loops what → IsShort what
short_what loops (Ask request) little = little
short_what loops (Delay ns) little = tt
short_what loops (Move loop) little = tt

pub are_short : (loops : ℕ) (streams : List Stream) (lines : List Step) → AllByRecursion (IsWithin loops streams) lines → AreShort lines
are_short loops streams [] each = tt
are_short loops streams (step ∷ lines) each = (short_what loops step.what each.0.little, are_short loops streams lines each.1)

-- ---- there are few lines

one_or_other : (b : Bool) → one_if b + one_if (not b) ≡ 1
one_or_other true = refl
one_or_other false = refl

asks_and_pauses : (lines : List Step) → asks_of lines + count_by (λ (step : Step). not (is_ask step.what)) lines ≡ length lines
asks_and_pauses [] = refl
asks_and_pauses (step ∷ lines) = omega (
  arith,
  sum_by-cons (λ (s : Step). one_if (is_ask s.what)) step lines,
  sum_by-cons (λ (s : Step). one_if (not (is_ask s.what))) step lines,
  one_or_other (is_ask step.what),
  asks_and_pauses lines,
)

pub few_asks : (script : Script) → IsBounded script → asks_of script.lines ≤ 4096
few_asks script bounded = bounded.few

pub few_lines : (script : Script) → IsBounded script → length script.lines < 2 ^ 32
few_lines script bounded =
    let asks : asks_of script.lines ≤ 4096 = bounded.few in
    let pauses : count_by (λ (step : Step). not (is_ask step.what)) script.lines ≤ 4096 = bounded.few_pauses in
    omega (arith, asks_and_pauses script.lines, asks, pauses)

-- ---- each line is of one of the streams

first_or_later : (a b : Bool) → (a || b) ≡ true → (a ≡ true) ⊎ (b ≡ true)
first_or_later true b known = inl refl
first_or_later false b known = inr known

stream_known : (s : ℕ) (streams : List Stream) → has_stream s streams ≡ true → (k : ℕ) × (k < length (ids_of_lines streams)) × (slice_index (ids_of_lines streams) k ≡ s)
stream_known s [] known = cc known
stream_known s (first ∷ streams) known =
    elim (first_or_later (first.id == s) (has_stream s streams) known) [
      | inl h ↦ (0, omega arith, eqb-true first.id s h)
      | inr h ↦ let later = stream_known s streams h in (suc later.0, omega (arith, later.1), later.2)
    ]

pub are_ours : (loops : ℕ) (streams : List Stream) (lines : List Step) → AllByRecursion (IsWithin loops streams) lines → AreOurs (ids_of_lines streams) lines
are_ours loops streams [] each = tt
are_ours loops streams (step ∷ lines) each = (stream_known step.stream streams each.0.known, are_ours loops streams lines each.1)

-- ---- no two streams have the same id

pub are_apart : (ids : List ℕ) → IsDistinct nat_eq ids → HaveOwnIds ids
are_apart ids distinct i j below_i below_j same =
    elim (cases_lt i j) [
      | inl h ↦ absurd (cc (apart_from_distinct nat_eq ids i j 0 distinct h below_j, eq-eqb (slice_index ids i) (slice_index ids j) same))
      | inr h ↦ elim (cases_lt j i) [
        | inl other ↦ absurd (cc (apart_from_distinct nat_eq ids j i 0 distinct other below_i, eq-eqb (slice_index ids j) (slice_index ids i) (sym same)))
        | inr other ↦ omega (arith, h, other)
      ]
    ]

-- ---- the streams' requests together are no more than the lines that ask

-- a line counts for none of these streams
none_counts : (s : ℕ) (b : Bool) (ids : List ℕ) → AllByRecursion (λ id. nat_eq s id ≡ false) ids → sum_by (λ id. one_if (s == id && b)) ids ≡ 0
none_counts s b [] apart = refl
none_counts s b (id ∷ ids) apart =
    let here : one_if (s == id && b) ≡ 0 = ap (λ (c : Bool). one_if (c && b)) apart.0 in
    omega (arith, sum_by-cons (λ n. one_if (s == n && b)) id ids, here, none_counts s b ids apart.1)

at_most : (c b : Bool) → one_if (c && b) ≤ one_if b
at_most true b = omega arith
at_most false b = omega arith

-- a line counts for one of them at most
one_counts : (s : ℕ) (b : Bool) (ids : List ℕ) → IsDistinct nat_eq ids → sum_by (λ id. one_if (s == id && b)) ids ≤ one_if b
one_counts s b [] distinct = omega arith
one_counts s b (id ∷ ids) distinct =
    let step = sum_by-cons (λ n. one_if (s == n && b)) id ids in
    elim (cases_Bool (s == id)) [
      | inl h ↦
          let same : id ≡ s = sym (eqb-true s id h) in
          let rest : sum_by (λ n. one_if (s == n && b)) ids ≡ 0 =
          none_counts s b ids (subst (λ (n : ℕ). AllByRecursion (λ m. nat_eq n m ≡ false) ids) same (IsDistinct-head nat_eq id ids distinct)) in
          omega (arith, step, rest, at_most (s == id) b)
      | inr h ↦
          let here : one_if (s == id && b) ≡ 0 = ap (λ (c : Bool). one_if (c && b)) h in
          omega (arith, step, here, one_counts s b ids (IsDistinct-tail nat_eq id ids distinct))
    ]

sum_of_both : (f g h : ℕ → ℕ) (ids : List ℕ) → ((id : ℕ) → h id ≡ f id + g id) → sum_by h ids ≡ sum_by f ids + sum_by g ids
sum_of_both f g h [] both = refl
sum_of_both f g h (id ∷ ids) both =
    omega (arith, sum_by-cons f id ids, sum_by-cons g id ids, sum_by-cons h id ids, both id, sum_of_both f g h ids both)

none_yet : (ids : List ℕ) → sum_by (λ id. requests_of id []) ids ≡ 0
none_yet [] = refl
none_yet (id ∷ ids) = omega (arith, sum_by-cons (λ n. requests_of n []) id ids, none_yet ids)

requests_together : (ids : List ℕ) (lines : List Step) → IsDistinct nat_eq ids → sum_by (λ id. requests_of id lines) ids ≤ asks_of lines
requests_together ids [] distinct = omega (arith, none_yet ids)
requests_together ids (step ∷ lines) distinct =
    let own : ℕ → ℕ = λ id. one_if (step.stream == id && is_ask step.what) in
    let both = sum_of_both own (λ id. requests_of id lines) (λ id. requests_of id (step ∷ lines)) ids
    (λ id. sum_by-cons (λ (s : Step). one_if (s.stream == id && is_ask s.what)) step lines) in
    omega (
      arith,
      both,
      one_counts step.stream (is_ask step.what) ids distinct,
      requests_together ids lines distinct,
      sum_by-cons (λ (s : Step). one_if (is_ask s.what)) step lines,
    )

pub counts_together : (script : Script) → IsBounded script → sum (counts_for script.lines (ids_of_lines script.streams)) ≤ asks_of script.lines
counts_together script bounded =
    omega (arith, sum-map (λ id. requests_of id script.lines) (ids_of_lines script.streams), requests_together (ids_of_lines script.streams) script.lines bounded.apart)

-- nor than all lines
pub counts_fit : (script : Script) → IsBounded script → sum (counts_for script.lines (ids_of_lines script.streams)) ≤ length script.lines
counts_fit script bounded = omega (arith, counts_together script bounded, count_by-le-length (λ (s : Step). is_ask s.what) script.lines)

-- a stream has no more requests than there are
pub own_asks : (id : ℕ) (lines : List Step) → requests_of id lines ≤ asks_of lines
own_asks id lines = sum_by-le-sum_by (λ (s : Step). one_if (s.stream == id && is_ask s.what)) (λ (s : Step). one_if (is_ask s.what)) lines
    (λ s. at_most (s.stream == id) (is_ask s.what))

-- ---- ids

-- each is below 64
low_ids : (loops : ℕ) (streams : List Stream) → AllByRecursion (IsAtHome loops) streams → All (λ id. id < 64) (ids_of_lines streams)
low_ids loops [] home k d inside = absurd (omega arith)
low_ids loops (stream ∷ streams) home zero d inside = omega (arith, home.0.id)
low_ids loops (stream ∷ streams) home (suc k) d inside = low_ids loops streams home.1 k d (omega arith)

pub ids_low : (script : Script) (ids : List ℕ) → IsBounded script → ids ≡ ids_of_lines script.streams → All (λ id. id < 64) ids
ids_low script ids bounded is = subst (All (λ id. id < 64)) (sym is) (low_ids script.loops script.streams bounded.at_home)
