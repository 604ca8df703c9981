-- In a poll each entry into the runner for an index stands behind a dequeue of it that called.
use Rattle.std.proofs.Common.{◌≡◌, ℕ, zero, suc, Bool, true, false, ◌==◌, ◌||◌, Option, None, MatchBool, List, [], ◌∷◌, ◌++◌, refl, sym, ap, ◌∙◌, subst, inl, inr}
use Rattle.std.proofs.lemmas.Bool.{false≢true}
use Rattle.aio_model.specs.Loop.History.{Sizes, Take, Dequeue, Free, History}
use Rattle.aio_model.specs.Loop.Flags.{is_lot}
use Rattle.aio_model.specs.Loop.Frame.{Lent, Answer, Entered, PollPlace, Makes, EntersRunner, Body, Turn, Turns, nests_above, Frame, lent_of, start_of}
use Rattle.aio_model.specs.Loop.Laws.{some_entry}
use Rattle.aio_run.specs.Turned.{calls}
use Rattle.aio_run.proofs.HomeGrows.{StandsOn, by_more}

-- the runner was entered for the index
abbrev pub some_for : ℕ → List Entered → Bool
some_for k [] = false
some_for k (entered ∷ older) = (k == entered.lent.bh) || some_for k older

-- then a dequeue of it called
abbrev IsCalled : ℕ → PollPlace → Type 0
IsCalled k p = some_for k p.log ≡ true → some_entry (calls k) p.seen ≡ true

module _ (k : ℕ) where
  record Goes (a b : PollPlace) : Type 0 where
    on : StandsOn a.seen b.seen
    called : IsCalled k a → IsCalled k b

  goes_same : (a b : PollPlace) → b ≡ a → Goes a b
  goes_same a b same = subst (Goes a) (sym same) (record { on = λ test stands. stands; called = λ was. was })

  goes_then : (a b c : PollPlace) → Goes a b → Goes b c → Goes a c
  goes_then a b c first then =
      record { on = λ test stands. then.on test (first.on test stands); called = λ was. then.called (first.called was) }

  goes_longer : (more : History) (a b : PollPlace) → b.seen ≡ more ++ a.seen → b.log ≡ a.log → Goes a b
  goes_longer more a b seen log =
      let on = by_more more a.seen b.seen seen in
      record { on = on; called = λ was some. on (calls k) (was (sym (ap (some_for k) log) ∙ some)) }

  -- an entry for an index of which a dequeue called, if it is this one
  goes_entered : (lent : Lent) (answer : Answer) (a b : PollPlace) → EntersRunner lent answer a b → ((k == lent.bh) ≡ true → some_entry (calls k) a.seen ≡ true) → Goes a b
  goes_entered lent answer a b enters due =
      let on = by_more enters.between a.seen b.seen enters.seen in
      record { on = on; called = λ was some. on (calls k) (by (k == lent.bh) refl (sym (ap (some_for k) enters.log) ∙ some) was) }
    where
      by : (c : Bool) → (k == lent.bh) ≡ c → (c || some_for k a.log) ≡ true → IsCalled k a → some_entry (calls k) a.seen ≡ true
      by true is some was = due is
      by false is some was = was some

  module _ (frame : PollPlace → PollPlace → Type 0) (frames : (a b : PollPlace) → frame a b → Goes a b) where
    goes_body : (bh : ℕ) (job : Option ℕ) (first : Bool) (nests : ℕ) (a b : PollPlace) → ((k == bh) ≡ true → some_entry (calls k) a.seen ≡ true) → Body frame bh job first nests a b → Goes a b
    goes_body bh job first zero a b due body = goes_entered (lent_of bh job first zero) body.0 a b body.1 due
    goes_body bh job first (suc nests) a b due body =
        elim body as (λ _. Goes a b) [
          | inl enters ↦ goes_entered (lent_of bh job first (suc nests)) _ a b enters due
          | inr more ↦
              let one = goes_entered (lent_of bh job first (suc nests)) _ a more.0 more.2 due in
              let two = frames more.0 more.1 more.3 in
              let three = goes_body bh None false nests more.1 b (λ is. two.on (calls k) (one.on (calls k) (due is))) more.4 in
              goes_then a more.0 b one (goes_then more.0 more.1 b two three)
        ]

    goes_dequeued : (i : ℕ) (job : Option ℕ) (ran : Bool) (nests : ℕ) (a m b : PollPlace) (others : History) → m.seen ≡ Dequeue i ran ∷ (others ++ a.seen) → m.log ≡ a.log → MatchBool ran (Body frame i job true nests m b) (b ≡ m) → Goes a b
    goes_dequeued i job true nests a m b others seen log body =
        goes_then a m b (goes_longer (Dequeue i true ∷ others) a m seen log)
        (goes_body i job true nests m b (λ is. subst (λ (h : History). some_entry (calls k) h ≡ true) (sym seen) (rw is refl)) body)
    goes_dequeued i job false nests a m b others seen log same =
        goes_then a m b (goes_longer (Dequeue i false ∷ others) a m seen log) (goes_same m b same)

    goes_freed : (i : ℕ) (lot : Bool) (a b : PollPlace) → MatchBool lot (Makes (Free i) a b) (b ≡ a) → Goes a b
    goes_freed i true a b make = goes_longer (Free i ∷ make.others) a b make.seen make.log
    goes_freed i false a b same = goes_same a b same

    goes_turn : (sizes : Sizes) (nests : ℕ) (a b : PollPlace) → Turn sizes frame nests a b → Goes a b
    goes_turn sizes nests a b turn =
        let d = turn.dequeue in
        goes_then a turn.ended b (goes_dequeued turn.index _ turn.ran nests a turn.dequeued turn.ended d.others d.seen d.log turn.body) (goes_freed turn.index (is_lot sizes turn.index) turn.ended b turn.free)

    goes_turns : (sizes : Sizes) (nests count : ℕ) (a b : PollPlace) → Turns sizes frame nests count a b → Goes a b
    goes_turns sizes nests zero a b same = goes_same a b same
    goes_turns sizes nests (suc count) a b turns =
        goes_then a turns.0 b (goes_turn sizes nests a turns.0 turns.1) (goes_turns sizes nests count turns.0 b turns.2)

  goes_frame : (sizes : Sizes) (depth : ℕ) (a b : PollPlace) → Frame sizes depth a b → Goes a b
  unfolding Frame
  goes_frame sizes zero a b frame = absurd frame
  goes_frame sizes (suc deeper) a b frame =
      let take = frame.take in
      goes_then a frame.taken b (goes_longer (Take ∷ take.others) a frame.taken take.seen take.log)
      (goes_turns (Frame sizes deeper) (goes_frame sizes deeper) sizes (nests_above deeper) frame.count frame.taken b frame.turns)

  -- from the place where a poll begins
  pub called_in_frame : (sizes : Sizes) (depth : ℕ) (seen : History) (end : PollPlace) → Frame sizes depth (start_of seen) end → some_for k end.log ≡ true → some_entry (calls k) end.seen ≡ true
  called_in_frame sizes depth seen end frame =
      (goes_frame sizes depth (start_of seen) end frame).called (λ none. absurd (false≢true none))
