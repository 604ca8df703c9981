-- The first entries of a frame, of any depth, are the dequeues that called.
use Rattle.std.proofs.Common.{◌≡◌, ℕ, zero, suc, ◌+◌, Bool, true, false, cond, eqb, Option, None, MatchBool, [], ◌∷◌, ◌++◌, refl, sym, ap, ◌∙◌, subst, arith, inl, inr}
use Rattle.aio_model.specs.Loop.FlagsWord.{bit}
use Rattle.aio_model.specs.Loop.History.{Sizes, Take, Dequeue, Free, History}
use Rattle.aio_model.specs.Loop.Flags.{is_lot}
use Rattle.aio_model.specs.Loop.Seats.{home, entries_of}
use Rattle.aio_model.specs.Loop.Frame.{Lent, Answer, PollPlace, Makes, EntersRunner, Body, Turn, Turns, nests_above, Frame, are_of_callback, lent_of}
use Rattle.aio_model.specs.Loop.Calls.{call_times, entry_time, entry_times}
use Rattle.aio_model.proofs.Awaiting.{call_times-append, none_dequeued, calls_most}

-- as many first entries of the index as dequeues of it that called
pub record Along (k : ℕ) (a b : PollPlace) : Type 0 where
  pub same : entry_times k b.log + call_times k a.seen ≡ entry_times k a.log + call_times k b.seen

module _ (k : ℕ) where
  none_called : (xs : History) → are_of_callback (entries_of home xs) ≡ true → call_times k xs ≡ 0
  none_called xs q = omega (arith, calls_most k xs, none_dequeued k xs q)

  Along-same : (a b : PollPlace) → b ≡ a → Along k a b
  Along-same a b is = subst (λ p. Along k a p) (sym is) (record { same = refl })

  Along-then : (a b c : PollPlace) → Along k a b → Along k b c → Along k a c
  Along-then a b c first then = record { same = omega (arith, first.same, then.same) }

  Along-none : (more : History) (a b : PollPlace) → b.seen ≡ more ++ a.seen → b.log ≡ a.log → call_times k more ≡ 0 → Along k a b
  Along-none more a b seen log none = record {
    same = omega (arith, ap (entry_times k) log, ap (call_times k) seen, call_times-append k more a.seen, none);
  }

  -- a body, with the first entry that the dequeue before it made due
  record Owed (due : ℕ) (a b : PollPlace) : Type 0 where
    same : entry_times k b.log + call_times k a.seen ≡ entry_times k a.log + due + call_times k b.seen

  Owed-enters : (lent : Lent) (answer : Answer) (a b : PollPlace) → EntersRunner lent answer a b → Owed (entry_time k (record { lent = lent; answer = answer; made = [] })) a b
  Owed-enters lent answer a b enters =
      let quiet = none_called enters.between (ap are_of_callback enters.just_these ∙ enters.of_callback) in
      record { same = omega (arith, ap (entry_times k) enters.log, ap (call_times k) enters.seen, call_times-append k enters.between a.seen, quiet) }

  module _ (frame : PollPlace → PollPlace → Type 0) (frames : (a b : PollPlace) → frame a b → Along k a b) where
    Owed-body : (bh : ℕ) (job : Option ℕ) (first : Bool) (nests : ℕ) (a b : PollPlace) → Body frame bh job first nests a b → Owed (cond first (bit (eqb k bh)) 0) a b
    Owed-body bh job first zero a b body = Owed-enters (lent_of bh job first zero) body.0 a b body.1
    Owed-body bh job first (suc nests) a b body =
        elim body as (λ _. Owed (cond first (bit (eqb k bh)) 0) a b) [
          | inl enters ↦ Owed-enters (lent_of bh job first (suc nests)) _ a b enters
          | inr more ↦
              let one = Owed-enters (lent_of bh job first (suc nests)) _ a more.0 more.2 in
              let two = frames more.0 more.1 more.3 in
              let three = Owed-body bh None false nests more.1 b more.4 in
              record { same = omega (arith, one.same, two.same, three.same) }
        ]

    called : (i : ℕ) (job : Option ℕ) (ran : Bool) (nests : ℕ) (a m b : PollPlace) (others : History) → m.seen ≡ Dequeue i ran ∷ (others ++ a.seen) → entries_of home others ≡ [] → m.log ≡ a.log → MatchBool ran (Body frame i job true nests m b) (b ≡ m) → Along k a b
    called i job true nests a m b others seen none log body =
        let owed = Owed-body i job true nests m b body in
        record { same = omega (arith, owed.same, ap (entry_times k) log, ap (call_times k) seen, call_times-append k others a.seen, none_called others (ap are_of_callback none)) }
    called i job false nests a m b others seen none log same =
        let step : Along k a m = record { same = omega (arith, ap (entry_times k) log, ap (call_times k) seen, call_times-append k others a.seen, none_called others (ap are_of_callback none)) } in
        Along-then a m b step (Along-same m b same)

    freed : (i : ℕ) (lot : Bool) (a b : PollPlace) → MatchBool lot (Makes (Free i) a b) (b ≡ a) → Along k a b
    freed i true a b make =
        Along-none (Free i ∷ make.others) a b make.seen make.log (none_called make.others (ap are_of_callback make.not_home))
    freed i false a b same = Along-same a b same

    Along-turn : (sizes : Sizes) (nests : ℕ) (a b : PollPlace) → Turn sizes frame nests a b → Along k a b
    Along-turn sizes nests a b turn =
        let d = turn.dequeue in
        Along-then a turn.ended b (called turn.index _ turn.ran nests a turn.dequeued turn.ended d.others d.seen d.not_home d.log turn.body) (freed turn.index (is_lot sizes turn.index) turn.ended b turn.free)

    Along-turns : (sizes : Sizes) (nests count : ℕ) (a b : PollPlace) → Turns sizes frame nests count a b → Along k a b
    Along-turns sizes nests zero a b same = Along-same a b same
    Along-turns sizes nests (suc count) a b turns =
        Along-then a turns.0 b (Along-turn sizes nests a turns.0 turns.1) (Along-turns sizes nests count turns.0 b turns.2)

  pub Along-frame : (sizes : Sizes) (depth : ℕ) (a b : PollPlace) → Frame sizes depth a b → Along k a b
  unfolding Frame
  Along-frame sizes zero a b frame = absurd frame
  Along-frame sizes (suc deeper) a b frame =
      let take = frame.take in
      Along-then a frame.taken b (Along-none (Take ∷ take.others) a frame.taken take.seen take.log (none_called take.others (ap are_of_callback take.not_home)))
      (Along-turns (Frame sizes deeper) (Along-frame sizes deeper) sizes (nests_above deeper) frame.count frame.taken b frame.turns)
