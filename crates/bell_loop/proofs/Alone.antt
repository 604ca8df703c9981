-- A history that home alone made, and what a poll then adds to it.
use Rattle.std.proofs.Common.{◌≡◌, ℕ, zero, suc, ◌≤◌, Bool, true, false, ◌||◌, cond, eqb, MatchBool, Option, None, List, [], ◌∷◌, ◌++◌, length, arith, inl, inr, refl, sym, ap, ◌∙◌, subst, append_assoc}
use Rattle.aio_model.specs.Loop.History.{Sizes, Entry, Take, Dequeue, Free, History}
use Rattle.aio_model.specs.Loop.Flags.{is_lot}
use Rattle.aio_model.specs.Loop.Lists.{seat_of}
use Rattle.aio_model.specs.Loop.Log.{rings}
use Rattle.aio_model.specs.Loop.Seats.{home, entries_of}
use Rattle.aio_model.specs.Loop.Frame.{Lent, Answer, Nests, Entered, PollPlace, Makes, EntersRunner, Body, Turn, Turns, Frame, lent_of, nests_above}
use Rattle.bell_loop.specs.Actions.{some_rings}
use Rattle.bell_loop.specs.Running.{IsAlone, any_rings}
use Rattle.bell_loop.proofs.Entries.{some_rings-append, or_assoc}

fewer : (n : ℕ) (xs : History) → length (entries_of n xs) ≤ length xs
fewer n [] = omega arith
fewer n (e ∷ xs) = chosen (eqb (seat_of e) n) (fewer n xs)
  where
    chosen : (b : Bool) → length (entries_of n xs) ≤ length xs → length (cond b (e ∷ entries_of n xs) (entries_of n xs)) ≤ length (e ∷ xs)
    chosen true h = omega (arith, h)
    chosen false h = omega (arith, h)

abbrev older_of : History → History
older_of [] = []
older_of (e ∷ older) = older

front_is : (b : Bool) (e : Entry) (es xs : History) → length es ≤ length xs → cond b (e ∷ es) es ≡ e ∷ xs → (b ≡ true) × (es ≡ xs)
front_is true e es xs few h = (refl, ap older_of h)
front_is false e es xs few h = let l : length es ≡ length (e ∷ xs) = ap length h in absurd (omega (arith, l, few))

-- so is each part of it
pub alone_parts : (newer older : History) → IsAlone (newer ++ older) → IsAlone newer × IsAlone older
alone_parts [] older h = (refl, h)
alone_parts (e ∷ newer) older h =
    let front = front_is (eqb (seat_of e) home) e (entries_of home (newer ++ older)) (newer ++ older) (fewer home (newer ++ older)) h in
    let parts = alone_parts newer older front.1 in
    (ap (λ b. cond b (e ∷ entries_of home newer) (entries_of home newer)) front.0 ∙ ap (λ (l : History). e ∷ l) parts.0, parts.1)

pub none_else : (others : History) → IsAlone others → entries_of home others ≡ [] → others ≡ []
none_else others alone none = sym alone ∙ none

-- from place to place the callbacks were entered some more, and some entry notifies where one did that a callback made
pub record Grown (a b : PollPlace) : Type 0 where
  pub more : List Entered
  pub added : History
  pub longer : b.log ≡ more ++ a.log
  pub seen : b.seen ≡ added ++ a.seen
  pub rings : IsAlone b.seen → some_rings added ≡ any_rings more

any_rings-append : (newer older : List Entered) → any_rings (newer ++ older) ≡ (any_rings older || any_rings newer)
any_rings-append [] older = or_false (any_rings older)
  where
    or_false : (b : Bool) → b ≡ (b || false)
    or_false true = refl
    or_false false = refl
any_rings-append (e ∷ newer) older =
    ap (λ b. b || some_rings e.made) (any_rings-append newer older) ∙ or_assoc (any_rings older) (any_rings newer) (some_rings e.made)

Grown-same : (a b : PollPlace) → b ≡ a → Grown a b
Grown-same a b same = record { more = []; added = []; longer = ap (λ (p : PollPlace). p.log) same; seen = ap (λ (p : PollPlace). p.seen) same; rings = λ _. refl }

Grown-then : (a b c : PollPlace) → Grown a b → Grown b c → Grown a c
Grown-then a b c first then = record {
  more = then.more ++ first.more;
  added = then.added ++ first.added;
  longer = then.longer ∙ ap (λ l. then.more ++ l) first.longer ∙ sym (append_assoc then.more first.more a.log);
  seen = then.seen ∙ ap (λ l. then.added ++ l) first.seen ∙ sym (append_assoc then.added first.added a.seen);
  rings = λ alone.
      let before : IsAlone b.seen = (alone_parts then.added b.seen (subst IsAlone then.seen alone)).1 in
      some_rings-append then.added first.added ∙ ap (λ b. b || some_rings then.added) (first.rings before) ∙ ap (λ b. any_rings first.more || b) (then.rings alone) ∙ sym (any_rings-append then.more first.more);
}

Grown-made : (e : Entry) (others : History) (a b : PollPlace) → rings e ≡ false → entries_of home others ≡ [] → b.seen ≡ e ∷ (others ++ a.seen) → b.log ≡ a.log → Grown a b
Grown-made e others a b quiet none seen log = record {
  more = [];
  added = e ∷ others;
  longer = log;
  seen = seen;
  rings = λ alone.
      let parts = alone_parts (e ∷ []) (others ++ a.seen) (subst IsAlone seen alone) in
      let empty : others ≡ [] = none_else others (alone_parts others a.seen parts.1).0 none in
      ap (λ l. rings e || some_rings l) empty ∙ ap (λ b. b || false) quiet;
}

Grown-enters : (lent : Lent) (answer : Answer) (a b : PollPlace) → EntersRunner lent answer a b → Grown a b
Grown-enters lent answer a b enters = record {
  more = record { lent = lent; answer = answer; made = enters.made } ∷ [];
  added = enters.between;
  longer = enters.log;
  seen = enters.seen;
  rings = λ alone.
      let parts = alone_parts enters.between a.seen (subst IsAlone enters.seen alone) in
      ap some_rings (sym parts.0 ∙ enters.just_these);
}

module _ (frame : PollPlace → PollPlace → Type 0) (frames : (a b : PollPlace) → frame a b → Grown a b) where
  Grown-body : (bh : ℕ) (job : Option ℕ) (first : Bool) (nests : ℕ) (a b : PollPlace) → Body frame bh job first nests a b → Grown a b
  Grown-body bh job first zero a b body = Grown-enters (lent_of bh job first zero) body.0 a b body.1
  Grown-body bh job first (suc nests) a b body =
      elim body as (λ _. Grown a b) [
        | inl enters ↦ Grown-enters (lent_of bh job first (suc nests)) _ a b enters
        | inr more ↦
            Grown-then a more.0 b (Grown-enters (lent_of bh job first (suc nests)) Nests a more.0 more.2)
            (Grown-then more.0 more.1 b (frames more.0 more.1 more.3) (Grown-body bh None false nests more.1 b more.4))
      ]

  Grown-calls : (bh : ℕ) (job : Option ℕ) (ran : Bool) (nests : ℕ) (a b : PollPlace) → MatchBool ran (Body frame bh job true nests a b) (b ≡ a) → Grown a b
  Grown-calls bh job true nests a b body = Grown-body bh job true nests a b body
  Grown-calls bh job false nests a b same = Grown-same a b same

  Grown-free : (index : ℕ) (lot : Bool) (a b : PollPlace) → MatchBool lot (Makes (Free index) a b) (b ≡ a) → Grown a b
  Grown-free index true a b free = Grown-made (Free index) free.others a b refl free.not_home free.seen free.log
  Grown-free index false a b same = Grown-same a b same

  Grown-turn : (sizes : Sizes) (nests : ℕ) (a b : PollPlace) → Turn sizes frame nests a b → Grown a b
  Grown-turn sizes nests a b turn =
      let d = turn.dequeue in
      Grown-then a turn.dequeued b (Grown-made (Dequeue turn.index turn.ran) d.others a turn.dequeued refl d.not_home d.seen d.log)
      (Grown-then turn.dequeued turn.ended b (Grown-calls turn.index _ turn.ran nests turn.dequeued turn.ended turn.body) (Grown-free turn.index (is_lot sizes turn.index) turn.ended b turn.free))

  Grown-turns : (sizes : Sizes) (nests count : ℕ) (a b : PollPlace) → Turns sizes frame nests count a b → Grown a b
  Grown-turns sizes nests zero a b same = Grown-same a b same
  Grown-turns sizes nests (suc count) a b turns =
      Grown-then a turns.0 b (Grown-turn sizes nests a turns.0 turns.1) (Grown-turns sizes nests count turns.0 b turns.2)

pub Grown-frame : (sizes : Sizes) (depths : ℕ) (a b : PollPlace) → Frame sizes depths a b → Grown a b
unfolding Frame
Grown-frame sizes zero a b frame = absurd frame
Grown-frame sizes (suc deeper) a b frame =
    Grown-then a frame.taken b (Grown-made Take frame.take.others a frame.taken refl frame.take.not_home frame.take.seen frame.take.log)
    (Grown-turns (Frame sizes deeper) (Grown-frame sizes deeper) sizes (nests_above deeper) frame.count frame.taken b frame.turns)
