-- The journal and the streams' replies are a serial history of the script.
use Rattle.std.proofs.Common.{◌≡◌, ◌≢◌, ℕ, zero, suc, ◌+◌, ◌<◌, ◌==◌, ◌&&◌, true, false, cond, List, [], ◌∷◌, ◌++◌, length, map, Option, Some, None, option_map, inl, inr, ◌⊎◌, refl, sym, ◌∙◌, ap, subst, arith, length-append}
use Rattle.std.specs.List.{AllByRecursion}
use Rattle.std.proofs.lemmas.Bool.{eq-eqb, ne_eqb, cases_Bool, cases_eq, cond-true, cond-false, and_left}
use Rattle.std.proofs.lemmas.List.{map-append, length-map}
use Rattle.std.proofs.lemmas.List.Sums.{sum_by-cons}
use Rattle.aio_model.specs.declared.serving.requests.Request.{Request}
use Rattle.aio_model.specs.declared.serving.replies.Reply.{Reply}
use Rattle.aio_model.specs.declared.serving.replies.Reply.TheVariants.{Einval}
use Rattle.aio_model.specs.declared.serving.replies.Placed.{Placed}
use Rattle.aio_model.specs.declared.scripts.image_scripts.Step.{Step}
use Rattle.aio_model.specs.declared.scripts.image_scripts.What.{What}
use Rattle.aio_model.specs.declared.scripts.image_scripts.What.TheVariants.{Ask, Delay, Move}
use Rattle.aio_model.specs.Serving.Asked.{Asked, is_ask, requests_of, asked_by, asked_below, asked, request_named}
use Rattle.aio_model.specs.Serving.{Fits, bytes_after}
use Rattle.aio_model.specs.Serving.SerialHistory.{asked_name, placed_name, CountsFrom, indices_of, bytes_behind, bytes_left, FitAlong, IsSerialHistory}
use Rattle.aio_model.proofs.Names.{CountsFrom-asked}
use Rattle.img_shared.specs.Journals.{Noted, Chain, of_stream}
use Rattle.img_join.specs.Answers.{IsAnswered, placed_of}
use Rattle.img_join.proofs.Orders.{indices_in, indices_in-append, permuted, counts_same}

-- ---- the asked names

pub indices_of-names : (stream : ℕ) (served : List Placed) → indices_of stream served ≡ indices_in stream (map placed_name served)
indices_of-names stream [] = refl
indices_of-names stream (placed ∷ served) =
    let e = indices_of-names stream served in
    elim (cases_Bool (placed.stream == stream)) [
      | inl h ↦ ap (map (λ (p : Placed). p.index)) (cond-true _ _ _ h) ∙ ap (λ rest. placed.index ∷ rest) e ∙ sym (cond-true _ _ _ h)
      | inr h ↦ ap (map (λ (p : Placed). p.index)) (cond-false _ _ _ h) ∙ e ∙ sym (cond-false _ _ _ h)
    ]

abbrev unserved : Asked → Placed
unserved a = record { stream = a.stream; index = a.index; reply = Einval }

unserved_names : (all : List Asked) → map placed_name (map unserved all) ≡ map asked_name all
unserved_names [] = refl
unserved_names (a ∷ all) = ap (λ (l : List (ℕ × ℕ)). asked_name a ∷ l) (unserved_names all)

asked_counts : (lines : List Step) (stream : ℕ) → CountsFrom 0 (indices_in stream (map asked_name (asked lines)))
asked_counts lines stream =
    let named = unserved_names (asked lines) in
    subst (CountsFrom 0) (indices_of-names stream (map unserved (asked lines)) ∙ ap (indices_in stream) named)
    (CountsFrom-asked lines (map unserved (asked lines)) named stream)

long_by : (s stream index : ℕ) (what : What)
    → length (indices_in s (map asked_name (asked_by stream index what))) ≡ cond (stream == s && is_ask what) 1 0
long_by s stream index (Ask request) = elim (stream == s) as (λ b. length (cond b (index ∷ []) []) ≡ cond (b && true) 1 0) [ true ↦ refl | false ↦ refl ]
long_by s stream index (Delay ns) = elim (stream == s) as (λ b. ◌≡◌ {A = ℕ} 0 (cond (b && false) 1 0)) [ true ↦ refl | false ↦ refl ]
long_by s stream index (Move loop) = elim (stream == s) as (λ b. ◌≡◌ {A = ℕ} 0 (cond (b && false) 1 0)) [ true ↦ refl | false ↦ refl ]

requests_of-cons : (s : ℕ) (step : Step) (lines : List Step) → requests_of s (step ∷ lines) ≡ cond (step.stream == s && is_ask step.what) 1 0 + requests_of s lines
requests_of-cons s step lines = sum_by-cons (λ (other : Step). cond (other.stream == s && is_ask other.what) 1 0) step lines

long_below : (s : ℕ) (above lines : List Step) → length (indices_in s (map asked_name (asked_below above lines))) ≡ requests_of s lines
long_below s above [] = refl
long_below s above (step ∷ lines) =
    let here = asked_by step.stream (requests_of step.stream above) step.what in
    let rest = asked_below (above ++ step ∷ []) lines in
    ap (λ (l : List (ℕ × ℕ)). length (indices_in s l)) (map-append asked_name here rest)
    ∙ ap (λ (l : List ℕ). length l) (indices_in-append s (map asked_name here) (map asked_name rest))
    ∙ length-append (indices_in s (map asked_name here)) (indices_in s (map asked_name rest))
    ∙ omega (arith, long_by s step.stream (requests_of step.stream above) step.what, long_below s (above ++ step ∷ []) lines, requests_of-cons s step lines)

none_asked : (s : ℕ) (lines : List Step) → AllByRecursion (λ (step : Step). step.stream ≢ s) lines → requests_of s lines ≡ 0
none_asked s [] ne = refl
none_asked s (step ∷ lines) ne =
    let none : cond {A = ℕ} (step.stream == s && is_ask step.what) 1 0 ≡ 0 = cond-false (step.stream == s && is_ask step.what) 1 0 (and_left _ _ (ne_eqb step.stream s ne.0)) in
    omega (arith, requests_of-cons s step lines, none, none_asked s lines ne.1)

no_more : {A : Type 0} → (xs : List A) → length xs ≡ 0 → xs ≡ []
no_more [] e = refl
no_more (x ∷ xs) e = absurd (omega arith)

-- ---- the served names

module _ (id : ℕ → ℕ) (reply : ℕ → ℕ → Reply) (streams : ℕ) where
  abbrev pub IsApart : Type 0
  IsApart = (i j : ℕ) → i < streams → j < streams → id i ≡ id j → i ≡ j

  abbrev pub AreKnown : List Noted → Type 0
  AreKnown journal = AllByRecursion (λ (entry : Noted). entry.stream < streams) journal

  same_test : IsApart → (k e : ℕ) → k < streams → e < streams → (id e == id k) ≡ (e == k)
  same_test apart k e below known = elim (cases_eq e k) [
    | inl h ↦ eq-eqb (id e) (id k) (ap id h) ∙ sym (eq-eqb e k h)
    | inr ne ↦ ne_eqb (id e) (id k) (λ same. ne (apart e k known below same)) ∙ sym (ne_eqb e k ne)
  ]

  served_indices : IsApart → (k : ℕ) → k < streams → (journal : List Noted) → AreKnown journal
      → indices_in (id k) (map placed_name (map (placed_of id reply) journal)) ≡ map (λ (entry : Noted). entry.index) (of_stream k journal)
  served_indices apart k below [] known = refl
  served_indices apart k below (e ∷ journal) known =
      let ih = served_indices apart k below journal known.1 in
      let test = same_test apart k e.stream below known.0 in
      elim (cases_Bool (e.stream == k)) [
        | inl h ↦ cond-true _ _ _ (test ∙ h) ∙ ap (λ (l : List ℕ). e.index ∷ l) ih ∙ sym (ap (map (λ (entry : Noted). entry.index)) (cond-true _ _ _ h))
        | inr h ↦ cond-false _ _ _ (test ∙ h) ∙ ih ∙ sym (ap (map (λ (entry : Noted). entry.index)) (cond-false _ _ _ h))
      ]

  none_served : (s : ℕ) → ((k : ℕ) → k < streams → id k ≢ s) → (journal : List Noted) → AreKnown journal
      → indices_in s (map placed_name (map (placed_of id reply) journal)) ≡ []
  none_served s away [] known = refl
  none_served s away (e ∷ journal) known =
      cond-false _ _ _ (ne_eqb (id e.stream) s (away e.stream known.0)) ∙ none_served s away journal known.1

  -- each line is of one of the streams
  abbrev pub AreOurs : List Step → Type 0
  AreOurs lines = AllByRecursion (λ (step : Step). (k : ℕ) × (k < streams) × (id k ≡ step.stream)) lines

  not_ours : (s : ℕ) → ((k : ℕ) → k < streams → id k ≢ s) → (lines : List Step) → AreOurs lines → AllByRecursion (λ (step : Step). step.stream ≢ s) lines
  not_ours s away [] ours = tt
  not_ours s away (step ∷ lines) ours = ((λ e. away ours.0.0 ours.0.1 (ours.0.2 ∙ e)), not_ours s away lines ours.1)

  find_id : (s n : ℕ) → ((k : ℕ) × (k < n) × (id k ≡ s)) ⊎ ((k : ℕ) → k < n → id k ≢ s)
  find_id s zero = inr (λ k below. absurd (omega arith))
  find_id s (suc n) = elim (find_id s n) [
    | inl (k, below, e) ↦ inl (k, omega arith, e)
    | inr away ↦ elim (cases_eq (id n) s) [
      | inl e ↦ inl (n, omega arith, e)
      | inr ne ↦ inr (λ k below. elim (cases_eq k n) [
        | inl e ↦ subst (λ (m : ℕ). id m ≢ s) (sym e) ne
        | inr other ↦ away k (omega arith)
      ])
    ]
  ]

  -- ---- the bytes along the journal

  told_left-none : (all : List Asked) (bytes : Option (List ℕ)) → option_map (bytes_left all []) bytes ≡ bytes
  told_left-none all None = refl
  told_left-none all (Some bytes) = refl

  told_left-first : (all : List Asked) (served : List Placed) (first : Placed) (request : Request) (bytes : Option (List ℕ))
      → request_named all first.stream first.index ≡ Some request
      → option_map (bytes_left all (first ∷ served)) bytes ≡ option_map (bytes_left all served) (option_map (bytes_after request first.reply) bytes)
  told_left-first all served first request None named = refl
  told_left-first all served first request (Some bytes) named =
      ap (λ found. Some (bytes_left all served (bytes_behind found first.reply bytes))) named

  -- each stream's entries were answered
  abbrev pub AreAnswered : List Asked → ℕ → List Noted → Type 0
  AreAnswered all size journal = (k : ℕ) → k < streams → AllByRecursion (IsAnswered all (id k) (reply k) size) (of_stream k journal)

  answered_rest : (all : List Asked) (size : ℕ) (e : Noted) (journal : List Noted) → AreAnswered all size (e ∷ journal) → AreAnswered all size journal
  answered_rest all size e journal answered k below = elim (cases_Bool (e.stream == k)) [
    | inl h ↦ (subst (AllByRecursion (IsAnswered all (id k) (reply k) size)) (cond-true (e.stream == k) (e ∷ of_stream k journal) (of_stream k journal) h) (answered k below)).1
    | inr h ↦ subst (AllByRecursion (IsAnswered all (id k) (reply k) size)) (cond-false (e.stream == k) (e ∷ of_stream k journal) (of_stream k journal) h) (answered k below)
  ]

  pub along : (all : List Asked) (size : ℕ) (opening left : Option (List ℕ)) (journal : List Noted)
      → AreKnown journal → AreAnswered all size journal → Chain opening journal left
      → FitAlong size all opening (map (placed_of id reply) journal) × (left ≡ option_map (bytes_left all (map (placed_of id reply) journal)) opening)
  along all size opening left [] known answered chain = (tt, chain ∙ sym (told_left-none all opening))
  along all size opening left (e ∷ journal) known answered chain =
      let k = e.stream in
      let served = map (placed_of id reply) journal in
      let here : IsAnswered all (id k) (reply k) size e =
      (subst (AllByRecursion (IsAnswered all (id k) (reply k) size)) (cond-true (k == k) (e ∷ of_stream k journal) (of_stream k journal) (eq-eqb k k refl)) (answered k known.0)).0 in
      let request = here.0 in
      let answer = reply k e.index in
      let next : e.after ≡ option_map (bytes_after request answer) opening =
      here.2.leaves ∙ ap (option_map (bytes_after request answer)) chain.0 in
      let ih = along all size e.after left journal known.1 (answered_rest all size e journal answered) chain.1 in (
        (
          request,
          here.1,
          subst (λ (bytes : Option (List ℕ)). Fits size bytes request answer) chain.0 here.2.fits,
          subst (λ (bytes : Option (List ℕ)). FitAlong size all bytes served) next ih.0,
        ),
        ih.1 ∙ ap (option_map (bytes_left all served)) next ∙ sym (told_left-first all served (placed_of id reply e) request opening here.1),
      )

  -- ---- all together

  -- What is known once all streams have ended: of the streams' numbers, of the journal by the image's own invariant, and
  -- of each stream by its note and its own replies.
  pub record HasEnded (lines : List Step) (size : ℕ) (opening left : Option (List ℕ)) (journal : List Noted) : Type 0 where
    pub apart : IsApart
    pub ours : AreOurs lines
    pub known : AreKnown journal
    pub chain : Chain opening journal left
    pub counts : (k : ℕ) → k < streams → CountsFrom 0 (map (λ (entry : Noted). entry.index) (of_stream k journal))
    pub many : (k : ℕ) → k < streams → length (of_stream k journal) ≡ requests_of (id k) lines
    pub answered : AreAnswered (asked lines) size journal

  module _ (lines : List Step) (size : ℕ) (opening left : Option (List ℕ)) (journal : List Noted) (ended : HasEnded lines size opening left journal) where
    abbrev served : List Placed
    served = map (placed_of id reply) journal

    same_indices : (s : ℕ) → indices_in s (map asked_name (asked lines)) ≡ indices_in s (map placed_name served)
    same_indices s = elim (find_id s streams) [
      | inl (k, below, e) ↦
          let mine = served_indices ended.apart k below journal ended.known in
          let asks : length (indices_in (id k) (map asked_name (asked lines))) ≡ requests_of (id k) lines = long_below (id k) [] lines in
          let done : length (map (λ (entry : Noted). entry.index) (of_stream k journal)) ≡ requests_of (id k) lines =
          length-map (of_stream k journal) (λ (entry : Noted). entry.index) ∙ ended.many k below in
          subst (λ (t : ℕ). indices_in t (map asked_name (asked lines)) ≡ indices_in t (map placed_name served)) e (
          counts_same 0 (indices_in (id k) (map asked_name (asked lines))) (map (λ (entry : Noted). entry.index) (of_stream k journal))
          (asked_counts lines (id k)) (ended.counts k below) (asks ∙ sym done)
          ∙ sym mine
          )
      | inr away ↦
          no_more (indices_in s (map asked_name (asked lines))) (long_below s [] lines ∙ none_asked s lines (not_ours s away lines ended.ours))
          ∙ sym (none_served s away journal ended.known)
    ]

    pub joined : IsSerialHistory size (asked lines) opening served × (left ≡ option_map (bytes_left (asked lines) served) opening)
    joined =
        let both = along (asked lines) size opening left journal ended.known ended.answered ended.chain in (
          record {
            each_once = permuted (map asked_name (asked lines)) (map placed_name served) same_indices;
            in_order = λ s. subst (CountsFrom 0) (same_indices s ∙ sym (indices_of-names s served)) (asked_counts lines s);
            fits = both.0;
          },
          both.1,
        )
