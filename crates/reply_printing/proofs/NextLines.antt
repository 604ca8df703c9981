-- The lines that are printed one by one, each with the next reply of its stream.
use Rattle.std.proofs.Common.{◌≡◌, ℕ, ◌+◌, ◌<◌, ◌≢◌, ◌==◌, ◌&&◌, false, true, cond, List, [], ◌∷◌, ◌++◌, length, take, drop, get_or, set, slice_index, Some, inl, inr, refl, sym, ◌∙◌, ap, subst, arith, get_or-set_other, get_or-set_same}
use Rattle.std.specs.List.{flat_map}
use Rattle.std.proofs.lemmas.Bool.{cases_Bool, true≢false, eqb-true, eqb-false, eq-eqb, and_left, and_right, and_from, cond-true, cond-false}
use Rattle.std.proofs.lemmas.List.{append-nil, take_more, drop_more, take-append-drop}
use Rattle.std.proofs.lemmas.List.Sums.{sum_by-append}
use Rattle.std.proofs.lemmas.List.Elements.{All-from_recursion}
use Rattle.std.proofs.lemmas.Grind.{flat_map-append}
use Rattle.aio_model.specs.declared.serving.requests.Request.{Request}
use Rattle.aio_model.specs.declared.serving.replies.Placed.{Placed}
use Rattle.aio_model.specs.declared.serving.replies.Reply.TheVariants.{Flushed}
use Rattle.aio_model.specs.declared.scripts.image_scripts.Step.{Step}
use Rattle.aio_model.specs.declared.scripts.image_scripts.What.{What}
use Rattle.aio_model.specs.declared.scripts.image_scripts.What.TheVariants.{Ask, Delay, Move}
use Rattle.aio_model.specs.Serving.Asked.{Asked, is_ask, requests_of, asked_by, asked}
use Rattle.aio_model.specs.Scripts.PrintedText.{Standing, line_of, line_for, line_standing, standing_from}
use Rattle.aio_model.proofs.InOrder.{asked_at, asked_rest, asked-more, asked-split}
use Rattle.aio_model.proofs.Names.{requests_of-push}
use Rattle.reply_printing.specs.Standings.{AreInOrder, HaveStreamsBelow, LeadThrough, standings_of}
use Rattle.reply_printing.proofs.FoundReplies.{standing_from-counts}
use Rattle.reply_printing.proofs.StreamCounts.{standings-many}

-- the text of the lines before k
abbrev pub printed_before : List Step → List Placed → ℕ → List ℕ
printed_before lines served k = flat_map (line_for served) (asked (take k lines))

-- each stream's next place leads through the replies to its requests from the line at k on
abbrev pub AreNext : List Step → List Placed → List ℕ → List ℕ → ℕ → Type 0
AreNext lines served next behind k =
    (stream : ℕ) → LeadThrough served stream behind (slice_index next stream) (drop (requests_of stream (take k lines)) (standings_of stream 0 served))

-- where no line was printed, those are all
pub AreNext-first : (lines : List Step) (served : List Placed) (next behind : List ℕ)
    → ((stream : ℕ) → LeadThrough served stream behind (slice_index next stream) (standings_of stream 0 served)) → AreNext lines served next behind 0
AreNext-first lines served next behind all = all

is_ask-ask : (what : What) (request : Request) → what ≡ Ask request → is_ask what ≡ true
is_ask-ask what request asks = ap is_ask asks

pub is_ask-other : (what : What) → ((request : Request) → what ≡ Ask request → ⊥) → is_ask what ≡ false
is_ask-other (Ask request) other = absurd (other request refl)
is_ask-other (Delay ns) other = refl
is_ask-other (Move loop) other = refl

module _ (lines : List Step) (served : List Placed) (k : ℕ) (step : Step) (inside : k < length lines) (here : step ≡ get_or lines k step) where
  pub stream-below : (streams : ℕ) → HaveStreamsBelow streams lines → step.stream < streams
  stream-below streams low = subst (λ (s : Step). s.stream < streams) (sym here) (All-from_recursion (λ (s : Step). s.stream < streams) lines low k step inside)

  upto : take (k + 1) lines ≡ take k lines ++ step ∷ []
  upto = take_more lines k step inside ∙ ap (λ (s : Step). take k lines ++ s ∷ []) (sym here)

  requests-more : (stream : ℕ) → requests_of stream (take (k + 1) lines) ≡ requests_of stream (take k lines) + cond (step.stream == stream && is_ask step.what) 1 0
  requests-more stream = ap (requests_of stream) upto ∙ requests_of-push stream (take k lines) step

  requests-same : (stream : ℕ) → (step.stream == stream && is_ask step.what) ≡ false → requests_of stream (take (k + 1) lines) ≡ requests_of stream (take k lines)
  requests-same stream h = omega (arith, requests-more stream, cond-false {A = ℕ} (step.stream == stream && is_ask step.what) 1 0 h)

  -- ---- a line that asks nothing

  silent_at : (what : What) (stream index : ℕ) → is_ask what ≡ false → asked_by stream index what ≡ []
  silent_at (Ask request) stream index h = absurd (true≢false h)
  silent_at (Delay ns) stream index h = refl
  silent_at (Move loop) stream index h = refl

  pub printed-silent : is_ask step.what ≡ false → printed_before lines served k ≡ printed_before lines served (k + 1)
  printed-silent silent =
      ap (flat_map (line_for served))
      (sym (
      asked-more lines k step inside here
      ∙ ap (λ a. asked (take k lines) ++ a) (silent_at step.what step.stream (requests_of step.stream (take k lines)) silent)
      ∙ append-nil (asked (take k lines))
      ))

  pub AreNext-silent : (next behind : List ℕ) → is_ask step.what ≡ false → AreNext lines served next behind k → AreNext lines served next behind (k + 1)
  AreNext-silent next behind silent before stream =
      subst (λ n. LeadThrough served stream behind (slice_index next stream) (drop n (standings_of stream 0 served)))
      (sym (requests-same stream (and_right _ _ silent))) (before stream)

  -- ---- a line that asks

  module _ (order : AreInOrder lines served) (next behind : List ℕ) (before : AreNext lines served next behind k)
      (request : Request) (asks : step.what ≡ Ask request) where
    asking : is_ask step.what ≡ true
    asking = is_ask-ask step.what request asks

    abbrev index : ℕ
    index = requests_of step.stream (take k lines)

    own-more : requests_of step.stream (take (k + 1) lines) ≡ index + 1
    own-more =
        omega (
          arith,
          requests-more step.stream,
          cond-true {A = ℕ} (step.stream == step.stream && is_ask step.what) 1 0 (and_from _ _ (eq-eqb step.stream step.stream refl) asking),
        )

    -- the stream has a reply to it
    index-inside : index < length (standings_of step.stream 0 served)
    index-inside =
        let counted : Step → ℕ = λ (other : Step). cond (other.stream == step.stream && is_ask other.what) 1 0 in
        let parts : requests_of step.stream (take (k + 1) lines ++ drop (k + 1) lines) ≡ requests_of step.stream (take (k + 1) lines) + requests_of step.stream (drop (k + 1) lines) =
        sum_by-append counted (take (k + 1) lines) (drop (k + 1) lines) in
        let whole : requests_of step.stream lines ≡ requests_of step.stream (take (k + 1) lines ++ drop (k + 1) lines) =
        ap (requests_of step.stream) (sym (take-append-drop (k + 1) lines)) in
        omega (arith, own-more, parts, whole, standings-many step.stream lines served order)

    abbrev none : Standing
    none = record { place = 0; reply = Flushed }

    abbrev standing : Standing
    standing = get_or (standings_of step.stream 0 served) index none

    leads : LeadThrough served step.stream behind (slice_index next step.stream) (standing ∷ drop (index + 1) (standings_of step.stream 0 served))
    leads = subst (LeadThrough served step.stream behind (slice_index next step.stream)) (drop_more (standings_of step.stream 0 served) index none index-inside) (before step.stream)

    pub next-inside : slice_index next step.stream < length served
    next-inside = omega (arith, leads.0, leads.1.inside)

    found : standing_from 0 served step.stream index ≡ Some standing
    found =
        let whole : index ≡ 0 + index = omega arith in
        ap (λ n. standing_from 0 served step.stream n) whole
        ∙ standing_from-counts step.stream none 0 0 served index (order.in_order step.stream) index-inside

    module _ (known : step.stream < length next) (place : ℕ) (is : place ≡ slice_index next step.stream) where
      abbrev after : List ℕ
      after = set next step.stream (slice_index behind place)

      own_next : LeadThrough served step.stream behind (slice_index after step.stream) (drop (index + 1) (standings_of step.stream 0 served))
      own_next =
          let then : slice_index after step.stream ≡ slice_index behind (slice_index next step.stream) =
          get_or-set_same next step.stream (slice_index behind place) 0 known ∙ ap (slice_index behind) is in
          subst (λ n. LeadThrough served step.stream behind n (drop (index + 1) (standings_of step.stream 0 served))) (sym then) leads.2

      pub AreNext-more : AreNext lines served after behind (k + 1)
      AreNext-more stream =
          elim (cases_Bool (step.stream == stream)) [
            | inl h ↦
                let own : LeadThrough served step.stream behind (slice_index after step.stream) (drop (requests_of step.stream (take (k + 1) lines)) (standings_of step.stream 0 served)) =
                subst (λ n. LeadThrough served step.stream behind (slice_index after step.stream) (drop n (standings_of step.stream 0 served))) (sym own-more) own_next in
                subst (λ s. LeadThrough served s behind (slice_index after s) (drop (requests_of s (take (k + 1) lines)) (standings_of s 0 served)))
                (eqb-true step.stream stream h) own
            | inr h ↦
                let other : stream ≢ step.stream = λ e. eqb-false step.stream stream h (sym e) in
                let same : slice_index after stream ≡ slice_index next stream = get_or-set_other next step.stream stream (slice_index behind place) 0 other in
                let kept : LeadThrough served stream behind (slice_index next stream) (drop (requests_of stream (take (k + 1) lines)) (standings_of stream 0 served)) =
                subst (λ n. LeadThrough served stream behind (slice_index next stream) (drop n (standings_of stream 0 served)))
                (sym (requests-same stream (and_left _ _ h))) (before stream) in
                subst (λ n. LeadThrough served stream behind n (drop (requests_of stream (take (k + 1) lines)) (standings_of stream 0 served))) (sym same) kept
          ]

      module _ (placed : Placed) (stands : placed ≡ get_or served place placed) where
        abbrev one : Asked
        one = record { stream = step.stream; index = index; request = request }

        at_place : placed ≡ get_or served standing.place placed
        at_place = stands ∙ ap (λ n. get_or served n placed) (is ∙ leads.0)

        line : line_for served one ≡ line_of place placed.stream request placed.reply
        line =
            ap (line_standing step.stream request) found
            ∙ ap (λ n. line_of n step.stream request standing.reply) (sym (is ∙ leads.0))
            ∙ ap (λ n. line_of place n request standing.reply) (sym (ap (λ (p : Placed). p.stream) at_place ∙ leads.1.own placed))
            ∙ ap (line_of place placed.stream request) (sym (ap (λ (p : Placed). p.reply) at_place ∙ leads.1.same placed))

        at_here : asked_at lines k step ≡ one ∷ []
        at_here = ap (asked_by step.stream index) asks

        -- with this line
        pub printed-more : printed_before lines served k ++ line_of place placed.stream request placed.reply ≡ printed_before lines served (k + 1)
        printed-more =
            ap (λ text. printed_before lines served k ++ text) (sym line ∙ sym (append-nil (line_for served one)))
            ∙ sym (flat_map-append (line_for served) (asked (take k lines)) (one ∷ []))
            ∙ ap (flat_map (line_for served)) (sym (asked-more lines k step inside here ∙ ap (λ a. asked (take k lines) ++ a) at_here))

        -- and with those behind it
        pub printed-whole : printed_before lines served k
            ++ (line_of place placed.stream request placed.reply ++ flat_map (line_for served) (asked_rest lines k step inside here))
            ≡ flat_map (line_for served) (asked lines)
        printed-whole =
            ap (λ text. printed_before lines served k ++ (text ++ flat_map (line_for served) (asked_rest lines k step inside here))) (sym line)
            ∙ sym (flat_map-append (line_for served) (asked (take k lines)) (one ∷ asked_rest lines k step inside here))
            ∙ ap (flat_map (line_for served))
            (sym (asked-split lines k step inside here ∙ ap (λ a. asked (take k lines) ++ (a ++ asked_rest lines k step inside here)) at_here))
