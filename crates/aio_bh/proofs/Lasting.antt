-- What any part of a poll leaves: what was seen is only longer, and a lot that may be freed still may, also over nested frames.
use Rattle.std.proofs.Common.{◌≡◌, ℕ, zero, suc, Bool, true, false, eqb, Option, None, MatchBool, [], ◌∷◌, ◌++◌, refl, sym, ap, ◌∙◌, subst, append_assoc, append-nil, inl, inr}
use Rattle.std.proofs.lemmas.Bool.{ne_eqb}
use Rattle.aio_model.specs.Loop.History.{Sizes, New, Enqueue, Put, Cancel, Take, Dequeue, Free, SetEvent, ClearEvent, History}
use Rattle.aio_model.specs.Loop.Flags.{is_lot, is_pending}
use Rattle.aio_model.specs.Loop.Lists.{stack_of, out_of}
use Rattle.aio_model.specs.Loop.Legal.{MayFollow, IsLegal}
use Rattle.aio_model.specs.Loop.Seats.{home, entries_of}
use Rattle.aio_model.specs.Loop.Frame.{Lent, Answer, Entered, PollPlace, Makes, EntersRunner, Body, Turn, Turns, Frame, nests_above, are_of_callback, lent_of}
use Rattle.aio_model.proofs.AnnouncedOnce.{fits, head_is_pending, out_of-dequeue, out_of-take}
use Rattle.aio_model.proofs.LotLives.{may_free-after, may_free-between}
use Rattle.aio_model.proofs.Rounds.{legal_cut}
use Rattle.aio_bh.specs.Polling.{dequeued_in, stacks_since, DequeuesTaken}
use Rattle.aio_bh.specs.PollFrames.{Far, GoesFurther, CallsBody, MayEnd, poll_place_of}

pub record Lasts (sizes : Sizes) (a b : PollPlace) : Type 0 where
  pub later : History
  pub seen : b.seen ≡ later ++ a.seen
  pub lots : (i : ℕ) → IsLegal sizes b.seen → MayFollow sizes (Free i) a.seen → MayFollow sizes (Free i) b.seen

module _ (sizes : Sizes) where
  legal_before : (a b : PollPlace) → Lasts sizes a b → IsLegal sizes b.seen → IsLegal sizes a.seen
  legal_before a b lasts legal =
      legal_cut sizes lasts.later a.seen (subst (IsLegal sizes) lasts.seen legal)

  pub Lasts-same : (a b : PollPlace) → b ≡ a → Lasts sizes a b
  Lasts-same a b same = record {
    later = [];
    seen = ap (λ (p : PollPlace). p.seen) same;
    lots = λ i legal may. subst (λ (p : PollPlace). MayFollow sizes (Free i) p.seen) (sym same) may;
  }

  pub Lasts-then : (a b c : PollPlace) → Lasts sizes a b → Lasts sizes b c → Lasts sizes a c
  Lasts-then a b c first then = record {
    later = then.later ++ first.later;
    seen = then.seen ∙ ap (λ l. then.later ++ l) first.seen ∙ sym (append_assoc then.later first.later a.seen);
    lots = λ i legal may. then.lots i legal (first.lots i (legal_before b c then legal) may);
  }

  -- what others did, and what a callback did with them
  Lasts-between : (between : History) (a b : PollPlace) → are_of_callback (entries_of home between) ≡ true → b.seen ≡ between ++ a.seen → Lasts sizes a b
  Lasts-between between a b of_callback seen = record {
    later = between;
    seen = seen;
    lots = λ i legal may. subst (MayFollow sizes (Free i)) (sym seen) (may_free-between sizes i between a.seen (subst (IsLegal sizes) seen legal) of_callback may);
  }

  Lasts-enters : (lent : Lent) (answer : Answer) (a b : PollPlace) → EntersRunner lent answer a b → Lasts sizes a b
  Lasts-enters lent answer a b enters =
      Lasts-between enters.between a b (ap are_of_callback enters.just_these ∙ enters.of_callback) enters.seen

  Lasts-take : (a b : PollPlace) → Makes Take a b → Lasts sizes a b
  Lasts-take a b take = record {
    later = Take ∷ take.others;
    seen = take.seen;
    lots = λ i legal may.
        let whole = subst (IsLegal sizes) take.seen legal in
        subst (MayFollow sizes (Free i)) (sym take.seen)
        (may_free-after sizes i Take (take.others ++ a.seen) whole.0 refl (may_free-between sizes i take.others a.seen whole.1 (ap are_of_callback take.not_home) may));
  }

  -- a lot that may be freed isn't pending, so that it is not the one that is dequeued
  other_than : (i j : ℕ) (ran : Bool) (h : History) → IsLegal sizes (Dequeue j ran ∷ h) → MayFollow sizes (Free i) h → eqb i j ≡ false
  other_than i j ran h legal may =
      let idle : is_pending i h ≡ false = (fits sizes h i legal.1).done may.0 may.2 in
      let pending : is_pending j h ≡ true = head_is_pending sizes h j ran (fits sizes h j legal.1) legal.0.0 in
      ne_eqb i j (λ same. let both : true ≡ false = sym pending ∙ ap (λ k. is_pending k h) (sym same) ∙ idle in cc)

  Lasts-dequeue : (j : ℕ) (ran : Bool) (others : History) (a b : PollPlace) → entries_of home others ≡ [] → b.seen ≡ Dequeue j ran ∷ (others ++ a.seen) → Lasts sizes a b
  Lasts-dequeue j ran others a b none seen = record {
    later = Dequeue j ran ∷ others;
    seen = seen;
    lots = λ i legal may.
        let whole = subst (IsLegal sizes) seen legal in
        subst (MayFollow sizes (Free i)) (sym seen)
        (may_free-after sizes i (Dequeue j ran) (others ++ a.seen) whole.0 refl (may_free-between sizes i others a.seen whole.1 (ap are_of_callback none) may));
  }

  Lasts-free : (j : ℕ) (others : History) (a b : PollPlace) → entries_of home others ≡ [] → b.seen ≡ Free j ∷ (others ++ a.seen) → (i : ℕ) → eqb i j ≡ false → IsLegal sizes b.seen → MayFollow sizes (Free i) a.seen → MayFollow sizes (Free i) b.seen
  Lasts-free j others a b none seen i other legal may =
      let whole = subst (IsLegal sizes) seen legal in
      subst (MayFollow sizes (Free i)) (sym seen)
      (may_free-after sizes i (Free j) (others ++ a.seen) whole.0 other (may_free-between sizes i others a.seen whole.1 (ap are_of_callback none) may))

  module _ (frame : PollPlace → PollPlace → Type 0) (frames : (a b : PollPlace) → frame a b → Lasts sizes a b) where
    pub Lasts-body : (bh : ℕ) (job : Option ℕ) (first : Bool) (nests : ℕ) (a b : PollPlace) → Body frame bh job first nests a b → Lasts sizes a b
    Lasts-body bh job first zero a b body = Lasts-enters (lent_of bh job first zero) body.0 a b body.1
    Lasts-body bh job first (suc nests) a b body =
        elim body as (λ _. Lasts sizes a b) [
          | inl enters ↦ Lasts-enters (lent_of bh job first (suc nests)) _ a b enters
          | inr more ↦
              Lasts-then a more.0 b (Lasts-enters (lent_of bh job first (suc nests)) _ a more.0 more.2)
              (Lasts-then more.0 more.1 b (frames more.0 more.1 more.3) (Lasts-body bh None false nests more.1 b more.4))
        ]

    pub Lasts-calls : (nests bh : ℕ) (job : Option ℕ) (ran : Bool) (a b : PollPlace) → CallsBody frame nests bh job ran a b → Lasts sizes a b
    Lasts-calls nests bh job true a b body = Lasts-body bh job true nests a b body
    Lasts-calls nests bh job false a b same = Lasts-same a b same

    freed : (j : ℕ) (ran lot : Bool) (a m n b : PollPlace) → Lasts sizes a m → Lasts sizes m n → MatchBool lot (Makes (Free j) n b) (b ≡ n) → ((i : ℕ) → IsLegal sizes m.seen → MayFollow sizes (Free i) a.seen → eqb i j ≡ false) → Lasts sizes a b
    freed j ran true a m n b dequeue body free other =
        let so_far = Lasts-then a m n dequeue body in
        record {
          later = (Free j ∷ free.others) ++ so_far.later;
          seen = free.seen ∙ ap (λ l. Free j ∷ (free.others ++ l)) so_far.seen ∙ sym (append_assoc (Free j ∷ free.others) so_far.later a.seen);
          lots = λ i legal may.
              let at_end = legal_cut sizes (Free j ∷ free.others) n.seen (subst (IsLegal sizes) free.seen legal) in
              Lasts-free j free.others n b free.not_home free.seen i (other i (legal_before m n body at_end) may) legal (so_far.lots i at_end may);
        }
    freed j ran false a m n b dequeue body same other =
        Lasts-then a n b (Lasts-then a m n dequeue body) (Lasts-same n b same)

    pub Lasts-turn : (nests : ℕ) (a b : PollPlace) → Turn sizes frame nests a b → Lasts sizes a b
    Lasts-turn nests a b turn =
        let d = turn.dequeue in
        freed turn.index turn.ran (is_lot sizes turn.index) a turn.dequeued turn.ended b (Lasts-dequeue turn.index turn.ran d.others a turn.dequeued d.not_home d.seen)
        (Lasts-calls nests turn.index _ turn.ran turn.dequeued turn.ended turn.body) turn.free
        (λ i legal may.
        let whole = subst (IsLegal sizes) d.seen legal in
        other_than i turn.index turn.ran (d.others ++ a.seen) whole (may_free-between sizes i d.others a.seen whole.1 (ap are_of_callback d.not_home) may))

    pub Lasts-turns : (nests count : ℕ) (a b : PollPlace) → Turns sizes frame nests count a b → Lasts sizes a b
    Lasts-turns nests zero a b same = Lasts-same a b same
    Lasts-turns nests (suc count) a b turns =
        Lasts-then a turns.0 b (Lasts-turn nests a turns.0 turns.1) (Lasts-turns nests count turns.0 b turns.2)

  pub Lasts-frame : (depth : ℕ) (a b : PollPlace) → Frame sizes depth a b → Lasts sizes a b
  unfolding Frame
  Lasts-frame zero a b frame = absurd frame
  Lasts-frame (suc deeper) a b frame =
      Lasts-then a frame.taken b (Lasts-take a frame.taken frame.take) (Lasts-turns (Frame sizes deeper) (Lasts-frame deeper) (nests_above deeper) frame.count frame.taken b frame.turns)

  -- the lot of a turn may still be freed once its callback has ended
  pub may_end_behind : {R : Type 0} (deeper nests bh : ℕ) (job : Option ℕ) (due : Bool) (does : R → Entered → R → Type 0) (old new : Far R) → GoesFurther (CallsBody (Frame sizes deeper) nests bh job due) does old new → IsLegal sizes new.known.seen → MayEnd sizes bh old.known.seen → MayEnd sizes bh new.known.seen
  may_end_behind deeper nests bh job due does old new goes legal may lot =
      let went = goes.at [] in
      (Lasts-calls (Frame sizes deeper) (Lasts-frame deeper) nests bh job due (poll_place_of old []) (poll_place_of new went.log_after) went.goes).lots bh legal (may lot)

  -- What was out, and then what was taken since, is what was dequeued since and what is out still.
  module _ (h : History) where
    pub out_since_takes : (xs : History) → IsLegal sizes (xs ++ h) → out_of h ++ stacks_since xs h ≡ dequeued_in xs ++ out_of (xs ++ h)
    out_since_takes [] legal = append-nil (out_of h)
    out_since_takes (New i s j ∷ xs) legal = out_since_takes xs legal.1
    out_since_takes (Enqueue i a s w ∷ xs) legal = out_since_takes xs legal.1
    out_since_takes (Put i s ∷ xs) legal = out_since_takes xs legal.1
    out_since_takes (Cancel i s w ∷ xs) legal = out_since_takes xs legal.1
    out_since_takes (Take ∷ xs) legal =
        sym (append_assoc (out_of h) (stacks_since xs h) (stack_of (xs ++ h))) ∙ ap (λ l. l ++ stack_of (xs ++ h)) (out_since_takes xs legal.1) ∙ append_assoc (dequeued_in xs) (out_of (xs ++ h)) (stack_of (xs ++ h)) ∙ ap (λ l. dequeued_in xs ++ l) (sym (out_of-take sizes (xs ++ h) legal.1))
    out_since_takes (Dequeue i r ∷ xs) legal =
        out_since_takes xs legal.1 ∙ ap (λ l. dequeued_in xs ++ l) (out_of-dequeue (xs ++ h) i r legal.0.0) ∙ sym (append_assoc (dequeued_in xs) (i ∷ []) (out_of (Dequeue i r ∷ (xs ++ h))))
    out_since_takes (Free i ∷ xs) legal = out_since_takes xs legal.1
    out_since_takes (SetEvent e s ∷ xs) legal = out_since_takes xs legal.1
    out_since_takes (ClearEvent e w ∷ xs) legal = out_since_takes xs legal.1

  -- a frame dequeues what its takes took, and nothing else
  pub dequeues_taken : (deeper : ℕ) (a b : PollPlace) → IsLegal sizes b.seen → Frame sizes (suc deeper) a b → out_of b.seen ≡ [] → DequeuesTaken a.seen b.seen
  unfolding Frame
  dequeues_taken deeper a b legal frame none =
      let take = frame.take in
      let on = Lasts-turns (Frame sizes deeper) (Lasts-frame deeper) (nests_above deeper) frame.count frame.taken b frame.turns in
      let start : History = Take ∷ (take.others ++ a.seen) in
      let seen : b.seen ≡ on.later ++ start = on.seen ∙ ap (λ l. on.later ++ l) take.seen in
      let since = out_since_takes start on.later (subst (IsLegal sizes) seen legal) in
      let all : dequeued_in on.later ++ out_of (on.later ++ start) ≡ dequeued_in on.later = ap (λ l. dequeued_in on.later ++ l) (ap out_of (sym seen) ∙ none) ∙ append-nil (dequeued_in on.later) in
      record { others = take.others; not_home = take.not_home; later = on.later; seen = seen; each_once = sym (since ∙ all) }
