-- What a poll of home alone leaves: nothing announced, no lot alive, and handles alone in the stack.
use Rattle.std.proofs.Common.{◌≡◌, ◌⊎◌, ℕ, zero, suc, ◌+◌, ◌≤◌, Bool, true, false, not, ◌&&◌, eqb, ltb, MatchBool, Option, None, List, [], ◌∷◌, ◌++◌, arith, inl, inr, refl, sym, ap, ◌∙◌, subst, append_assoc}
use Rattle.std.proofs.lemmas.Bool.{false≢true, eq-eqb, eqb-true, ltb-false}
use Rattle.std.proofs.lemmas.List.{append_cancel_right}
use Rattle.aio_model.specs.declared.scripts.loop_scripts.ActKind.{ActKind}
use Rattle.aio_model.specs.Loop.History.{Sizes, Entry, New, Enqueue, Put, Cancel, Take, Dequeue, Free, SetEvent, ClearEvent, History}
use Rattle.aio_model.specs.Loop.Flags.{is_lot, lives, is_pending, enqueues}
use Rattle.aio_model.specs.Loop.Lists.{is_announced, stack_of, out_of, is_set}
use Rattle.aio_model.specs.Loop.FlagsWord.{bit}
use Rattle.aio_model.specs.Loop.Laws.{times_of}
use Rattle.aio_model.proofs.AnnouncedOnce.{announced_once}
use Rattle.aio_model.specs.Loop.Legal.{IsLegal, MayFollow}
use Rattle.aio_model.specs.Loop.Seats.{home, entries_of}
use Rattle.aio_model.specs.Loop.Frame.{Lent, Answer, Nests, Entered, PollPlace, Makes, EntersRunner, Body, Turn, Turns, Frame, DoesEntries, lent_of, nests_above}
use Rattle.aio_model.specs.Scripts.LoopActs.{Waiting, DoesActs}
use Rattle.aio_model.proofs.Indices.{by_index}
use Rattle.aio_model.proofs.Rounds.{legal_cut}
use Rattle.bell_loop.specs.Running.{IsAlone, NoneAnnounced, Lots, StackBelow}
use Rattle.bell_loop.proofs.Alone.{alone_parts, none_else}
use Rattle.bell_loop.proofs.Depths.{DoesEntries-split}
use Rattle.bell_loop.proofs.Held.{NoneAnnounced-entry, NoneAnnounced-acts, Lots-acts, StackBelow-acts, set-acts}

lot_above : (sizes : Sizes) (i : ℕ) → is_lot sizes i ≡ true → sizes.handles ≤ i
lot_above sizes i lot = ltb-false i sizes.handles (no_handle (ltb i sizes.handles) (ltb i (sizes.handles + sizes.lots)) lot)
  where
    no_handle : (a b : Bool) → (not a && b) ≡ true → a ≡ false
    no_handle false b h = refl
    no_handle true b h = absurd (false≢true h)

-- what lives is a lot
pub lives-lot : (sizes : Sizes) (i : ℕ) (H : History) → IsLegal sizes H → lives i H ≡ true → is_lot sizes i ≡ true
lives-lot sizes i [] legal h = absurd (false≢true h)
lives-lot sizes i (New j s job ∷ P) legal h =
    by_index i j (λ k. MayFollow sizes (New k s job) P → lives i (New k s job ∷ P) ≡ true → is_lot sizes i ≡ true) (λ may _. may.0) (λ e _ alive. lives-lot sizes i P legal.1 (rw e at alive)) legal.0 h
lives-lot sizes i (Enqueue j asked s was ∷ P) legal h = lives-lot sizes i P legal.1 h
lives-lot sizes i (Put j s ∷ P) legal h = lives-lot sizes i P legal.1 h
lives-lot sizes i (Cancel j s was ∷ P) legal h = lives-lot sizes i P legal.1 h
lives-lot sizes i (Take ∷ P) legal h = lives-lot sizes i P legal.1 h
lives-lot sizes i (Dequeue j ran ∷ P) legal h = lives-lot sizes i P legal.1 h
lives-lot sizes i (Free j ∷ P) legal h =
    by_index i j (λ k. lives i (Free k ∷ P) ≡ true → is_lot sizes i ≡ true) (λ alive. let e : eqb i i ≡ true = eq-eqb i i refl in let none : false ≡ true = rw e at alive in absurd (false≢true none)) (λ e alive. lives-lot sizes i P legal.1 (rw e at alive)) h
lives-lot sizes i (SetEvent e s ∷ P) legal h = lives-lot sizes i P legal.1 h
lives-lot sizes i (ClearEvent e was ∷ P) legal h = lives-lot sizes i P legal.1 h

-- one that was dequeued may no longer be pending
Lots-dequeued : (X : ℕ → Type 0) (i : ℕ) (ran : Bool) (h : History) → Lots X h → Lots (λ k. X k ⊎ (k ≡ i)) (Dequeue i ran ∷ h)
Lots-dequeued X i ran h before k alive =
    by_query (eqb k i) refl
  where
    by_query : (b : Bool) → eqb k i ≡ b → (is_pending k (Dequeue i ran ∷ h) ≡ true) ⊎ (X k ⊎ (k ≡ i))
    by_query true same = inr (inr (eqb-true k i same))
    by_query false other =
        elim (before k alive) [
          | inl pending ↦ inl (rw other pending)
          | inr x ↦ inr (inl x)
        ]

Lots-freed : (X : ℕ → Type 0) (i : ℕ) (h : History) → Lots (λ k. X k ⊎ (k ≡ i)) h → Lots X (Free i ∷ h)
Lots-freed X i h before k alive =
    by_query (eqb k i) refl
  where
    by_query : (b : Bool) → eqb k i ≡ b → (is_pending k (Free i ∷ h) ≡ true) ⊎ X k
    by_query true same = let none : false ≡ true = rw same at alive in absurd (false≢true none)
    by_query false other =
        elim (before k (rw other at alive)) [
          | inl pending ↦ inl (rw other pending)
          | inr x ↦ elim x [
            | inl here ↦ inr here
            | inr same ↦ absurd (false≢true (sym other ∙ eq-eqb k i same))
          ]
        ]

Lots-handle : (sizes : Sizes) (X : ℕ → Type 0) (i : ℕ) (h : History) → IsLegal sizes h → is_lot sizes i ≡ false → Lots (λ k. X k ⊎ (k ≡ i)) h → Lots X h
Lots-handle sizes X i h legal handle before k alive =
    elim (before k alive) [
      | inl pending ↦ inl pending
      | inr x ↦ elim x [
        | inl here ↦ inr here
        | inr same ↦ absurd (false≢true (sym handle ∙ subst (λ n. is_lot sizes n ≡ true) same (lives-lot sizes k h legal alive)))
      ]
    ]

-- the callbacks made nothing
abbrev pub MadeNone : List Entered → Type 0
MadeNone [] = Unit {0}
MadeNone (entered ∷ older) = (entered.made ≡ []) × MadeNone older

MadeNone-split : (newer older : List Entered) → MadeNone (newer ++ older) → MadeNone newer × MadeNone older
MadeNone-split [] older h = (tt, h)
MadeNone-split (e ∷ newer) older h =
    let parts = MadeNone-split newer older h.1 in ((h.0, parts.0), parts.1)

module _ (acts : ℕ → List ActKind) (sizes : Sizes) where
  -- from these lots that need not be pending to those
  pub record Holds (X Y : ℕ → Type 0) (a b : PollPlace) : Type 0 where
    pub more : List Entered
    pub added : History
    pub longer : b.log ≡ more ++ a.log
    pub seen : b.seen ≡ added ++ a.seen
    pub runs : IsAlone b.seen → IsLegal sizes b.seen → (w w' : Waiting) → DoesEntries (DoesActs acts) w more w'
        → (NoneAnnounced a.seen → NoneAnnounced b.seen) × (Lots X a.seen → Lots Y b.seen) × (StackBelow sizes a.seen → StackBelow sizes b.seen) × ((e : ℕ) → is_set e b.seen ≡ is_set e a.seen) × (MadeNone more → stack_of a.seen ≡ [] → stack_of b.seen ≡ [])

  Holds-same : (X : ℕ → Type 0) (a b : PollPlace) → b ≡ a → Holds X X a b
  Holds-same X a b same = record {
    more = [];
    added = [];
    longer = ap (λ (p : PollPlace). p.log) same;
    seen = ap (λ (p : PollPlace). p.seen) same;
    runs = λ alone legal w w' runs.
        let is : b.seen ≡ a.seen = ap (λ (p : PollPlace). p.seen) same in
        (subst NoneAnnounced (sym is), subst (Lots X) (sym is), subst (StackBelow sizes) (sym is), λ e. ap (is_set e) is, λ made empty. ap stack_of is ∙ empty);
  }

  Holds-then : (X Y Z : ℕ → Type 0) (a b c : PollPlace) → Holds X Y a b → Holds Y Z b c → Holds X Z a c
  Holds-then X Y Z a b c first then = record {
    more = then.more ++ first.more;
    added = then.added ++ first.added;
    longer = then.longer ∙ ap (λ l. then.more ++ l) first.longer ∙ sym (append_assoc then.more first.more a.log);
    seen = then.seen ∙ ap (λ l. then.added ++ l) first.seen ∙ sym (append_assoc then.added first.added a.seen);
    runs = λ alone legal w w' runs.
        let parts = DoesEntries-split (DoesActs acts) w w' then.more first.more runs in
        let alone_mid : IsAlone b.seen = (alone_parts then.added b.seen (subst IsAlone then.seen alone)).1 in
        let legal_mid : IsLegal sizes b.seen = legal_cut sizes then.added b.seen (subst (IsLegal sizes) then.seen legal) in
        let one = first.runs alone_mid legal_mid w parts.0 parts.1 in
        let two = then.runs alone legal parts.0 w' parts.2 in
        (λ h. two.0 (one.0 h), λ h. two.1 (one.1 h), λ h. two.2 (one.2 h), λ e. two.3 e ∙ one.3 e, λ made empty. let parts = MadeNone-split then.more first.more made in two.4 parts.0 (one.4 parts.1 empty));
  }

  -- home made one entry
  one_entry : (e : Entry) (others : History) (a b : PollPlace) → entries_of home others ≡ [] → b.seen ≡ e ∷ (others ++ a.seen) → IsAlone b.seen → b.seen ≡ e ∷ a.seen
  one_entry e others a b none seen alone =
      let parts = alone_parts (e ∷ []) (others ++ a.seen) (subst IsAlone seen alone) in
      seen ∙ ap (λ l. e ∷ (l ++ a.seen)) (none_else others (alone_parts others a.seen parts.1).0 none)

  Holds-entry : (X Y : ℕ → Type 0) (e : Entry) (others : History) (a b : PollPlace) → ((i : ℕ) → enqueues i e ≡ false) → ((h : History) → Lots X h → Lots Y (e ∷ h)) → ((h : History) → StackBelow sizes h → StackBelow sizes (e ∷ h)) → ((k : ℕ) (h : History) → is_set k (e ∷ h) ≡ is_set k h) → ((h : History) → stack_of h ≡ [] → stack_of (e ∷ h) ≡ []) → entries_of home others ≡ [] → b.seen ≡ e ∷ (others ++ a.seen) → b.log ≡ a.log → Holds X Y a b
  Holds-entry X Y e others a b quiet lots stack events empties none seen log = record {
    more = [];
    added = e ∷ others;
    longer = log;
    seen = seen;
    runs = λ alone legal w w' runs.
        let is : b.seen ≡ e ∷ a.seen = one_entry e others a b none seen alone in
        (λ h. subst NoneAnnounced (sym is) (NoneAnnounced-entry e a.seen quiet h), λ h. subst (Lots Y) (sym is) (lots a.seen h), λ h. subst (StackBelow sizes) (sym is) (stack a.seen h), λ k. ap (is_set k) is ∙ events k a.seen, λ made empty. ap stack_of is ∙ empties a.seen empty);
  }

  Holds-enters : (X : ℕ → Type 0) (lent : Lent) (answer : Answer) (a b : PollPlace) → EntersRunner lent answer a b → Holds X X a b
  Holds-enters X lent answer a b enters = record {
    more = record { lent = lent; answer = answer; made = enters.made } ∷ [];
    added = enters.between;
    longer = enters.log;
    seen = enters.seen;
    runs = λ alone legal w w' runs.
        let parts = alone_parts enters.between a.seen (subst IsAlone enters.seen alone) in
        let just : enters.between ≡ enters.made = sym parts.0 ∙ enters.just_these in
        let is : b.seen ≡ enters.made ++ a.seen = enters.seen ∙ ap (λ l. l ++ a.seen) just in
        let legal_here : IsLegal sizes (enters.made ++ a.seen) = subst (IsLegal sizes) is legal in
        let adds = runs.2.adds in
        (λ h. subst NoneAnnounced (sym is) (NoneAnnounced-acts sizes _ enters.made a.seen adds legal_here h), λ h. subst (Lots X) (sym is) (Lots-acts X _ enters.made a.seen adds h), λ h. subst (StackBelow sizes) (sym is) (StackBelow-acts sizes _ enters.made a.seen adds legal_here h), λ e. ap (is_set e) is ∙ set-acts e _ enters.made a.seen adds, λ made empty. ap stack_of (is ∙ ap (λ m. m ++ a.seen) made.0) ∙ empty);
  }

  module _ (frame : PollPlace → PollPlace → Type 0) (frames : (X : ℕ → Type 0) (a b : PollPlace) → frame a b → Holds X X a b) where
    Holds-body : (X : ℕ → Type 0) (bh : ℕ) (job : Option ℕ) (first : Bool) (nests : ℕ) (a b : PollPlace) → Body frame bh job first nests a b → Holds X X a b
    Holds-body X bh job first zero a b body = Holds-enters X (lent_of bh job first zero) body.0 a b body.1
    Holds-body X bh job first (suc nests) a b body =
        elim body as (λ _. Holds X X a b) [
          | inl enters ↦ Holds-enters X (lent_of bh job first (suc nests)) _ a b enters
          | inr more ↦
              Holds-then X X X a more.0 b (Holds-enters X (lent_of bh job first (suc nests)) Nests a more.0 more.2)
              (Holds-then X X X more.0 more.1 b (frames X more.0 more.1 more.3) (Holds-body X bh None false nests more.1 b more.4))
        ]

    Holds-calls : (X : ℕ → Type 0) (bh : ℕ) (job : Option ℕ) (ran : Bool) (nests : ℕ) (a b : PollPlace) → MatchBool ran (Body frame bh job true nests a b) (b ≡ a) → Holds X X a b
    Holds-calls X bh job true nests a b body = Holds-body X bh job true nests a b body
    Holds-calls X bh job false nests a b same = Holds-same X a b same

    Holds-free : (X : ℕ → Type 0) (i : ℕ) (lot : Bool) (a b : PollPlace) → is_lot sizes i ≡ lot → MatchBool lot (Makes (Free i) a b) (b ≡ a) → Holds (λ k. X k ⊎ (k ≡ i)) X a b
    Holds-free X i true a b is free =
        Holds-entry (λ k. X k ⊎ (k ≡ i)) X (Free i) free.others a b (λ k. refl) (Lots-freed X i) (λ h s. s) (λ k h. refl) (λ h s. s) free.not_home free.seen free.log
    Holds-free X i false a b is same = record {
      more = [];
      added = [];
      longer = ap (λ (p : PollPlace). p.log) same;
      seen = ap (λ (p : PollPlace). p.seen) same;
      runs = λ alone legal w w' runs.
          let here : b.seen ≡ a.seen = ap (λ (p : PollPlace). p.seen) same in
          (subst NoneAnnounced (sym here), λ h. subst (Lots X) (sym here) (Lots-handle sizes X i a.seen (subst (IsLegal sizes) here legal) is h), subst (StackBelow sizes) (sym here), λ e. ap (is_set e) here, λ made empty. ap stack_of here ∙ empty);
    }

    Holds-turn : (X : ℕ → Type 0) (nests : ℕ) (a b : PollPlace) → Turn sizes frame nests a b → Holds X X a b
    Holds-turn X nests a b turn =
        let d = turn.dequeue in
        let i = turn.index in
        let Y : ℕ → Type 0 = λ k. X k ⊎ (k ≡ i) in
        Holds-then X Y X a turn.dequeued b (Holds-entry X Y (Dequeue i turn.ran) d.others a turn.dequeued (λ k. refl) (Lots-dequeued X i turn.ran) (λ h s. s) (λ k h. refl) (λ h s. s) d.not_home d.seen d.log)
        (Holds-then Y Y X turn.dequeued turn.ended b (Holds-calls Y i _ turn.ran nests turn.dequeued turn.ended turn.body) (Holds-free X i (is_lot sizes i) turn.ended b refl turn.free))

    Holds-turns : (X : ℕ → Type 0) (nests count : ℕ) (a b : PollPlace) → Turns sizes frame nests count a b → Holds X X a b
    Holds-turns X nests zero a b same = Holds-same X a b same
    Holds-turns X nests (suc count) a b turns =
        Holds-then X X X a turns.0 b (Holds-turn X nests a turns.0 turns.1) (Holds-turns X nests count turns.0 b turns.2)

  Holds-take : (X : ℕ → Type 0) (a b : PollPlace) → Makes Take a b → Holds X X a b
  Holds-take X a b take =
      Holds-entry X X Take take.others a b (λ k. refl) (λ h l. l) (λ h s i above. refl) (λ k h. refl) (λ h s. refl) take.not_home take.seen take.log

  pub Holds-frame : (depths : ℕ) (X : ℕ → Type 0) (a b : PollPlace) → Frame sizes depths a b → Holds X X a b
  unfolding Frame
  Holds-frame zero X a b frame = absurd frame
  Holds-frame (suc deeper) X a b frame =
      Holds-then X X X a frame.taken b (Holds-take X a frame.taken frame.take)
      (Holds-turns (Frame sizes deeper) (Holds-frame deeper) X (nests_above deeper) frame.count frame.taken b frame.turns)

  -- a poll pushes handles alone
  pub Below-frame : (deeper : ℕ) (a b : PollPlace) → Frame sizes (suc deeper) a b → (w w' : Waiting) (more : List Entered) → b.log ≡ more ++ a.log → DoesEntries (DoesActs acts) w more w' → IsAlone b.seen → IsLegal sizes b.seen → StackBelow sizes b.seen
  unfolding Frame
  Below-frame deeper a b frame w w' more longer runs alone legal =
      let turns = Holds-turns (Frame sizes deeper) (Holds-frame deeper) (λ k. ⊥) (nests_above deeper) frame.count frame.taken b frame.turns in
      let same : more ++ a.log ≡ turns.more ++ a.log = sym longer ∙ turns.longer ∙ ap (λ l. turns.more ++ l) frame.take.log in
      let more_is : more ≡ turns.more = append_cancel_right more turns.more a.log same in
      let alone_taken : IsAlone frame.taken.seen = (alone_parts turns.added frame.taken.seen (subst IsAlone turns.seen alone)).1 in
      let taken : frame.taken.seen ≡ Take ∷ a.seen = one_entry Take frame.take.others a frame.taken frame.take.not_home frame.take.seen alone_taken in
      (turns.runs alone legal w w' (subst (λ l. DoesEntries (DoesActs acts) w l w') more_is runs)).2 (subst (StackBelow sizes) (sym taken) (λ i above. refl))

  -- a poll whose callbacks make nothing leaves nothing in the stack
  pub Empty-frame : (deeper : ℕ) (a b : PollPlace) → Frame sizes (suc deeper) a b → (w w' : Waiting) (more : List Entered) → b.log ≡ more ++ a.log → DoesEntries (DoesActs acts) w more w' → MadeNone more → IsAlone b.seen → IsLegal sizes b.seen → stack_of b.seen ≡ []
  unfolding Frame
  Empty-frame deeper a b frame w w' more longer runs made alone legal =
      let turns = Holds-turns (Frame sizes deeper) (Holds-frame deeper) (λ k. ⊥) (nests_above deeper) frame.count frame.taken b frame.turns in
      let same : more ++ a.log ≡ turns.more ++ a.log = sym longer ∙ turns.longer ∙ ap (λ l. turns.more ++ l) frame.take.log in
      let more_is : more ≡ turns.more = append_cancel_right more turns.more a.log same in
      let alone_taken : IsAlone frame.taken.seen = (alone_parts turns.added frame.taken.seen (subst IsAlone turns.seen alone)).1 in
      let taken : frame.taken.seen ≡ Take ∷ a.seen = one_entry Take frame.take.others a frame.taken frame.take.not_home frame.take.seen alone_taken in
      (turns.runs alone legal w w' (subst (λ l. DoesEntries (DoesActs acts) w l w') more_is runs)).4 (subst MadeNone more_is made) (ap stack_of taken)

-- after it no lot lives
pub none_lives : (sizes : Sizes) (h : History) → IsLegal sizes h → NoneAnnounced h → Lots (λ k. ⊥) h → StackBelow sizes h → out_of h ≡ [] → (i : ℕ) → lives i h ≡ false
none_lives sizes h legal announced lots below none i =
    by_life (lives i h) refl
  where
    pends : lives i h ≡ true → is_pending i h ≡ true
    pends alive = elim (lots i alive) [ inl pending ↦ pending | inr never ↦ absurd never ]

    by_life : (b : Bool) → lives i h ≡ b → lives i h ≡ false
    by_life false is = is
    by_life true is =
        let once : bit (is_announced i h) + times_of i (stack_of h) + times_of i (out_of h) ≡ bit (is_pending i h) = announced_once sizes h i legal in
        let zero_announced : bit (is_announced i h) ≡ 0 = ap bit (announced i) in
        let one_pending : bit (is_pending i h) ≡ 1 = ap bit (pends is) in
        let none_out : times_of i (out_of h) ≡ 0 = ap (times_of i) none in
        let above : sizes.handles ≤ i = lot_above sizes i (lives-lot sizes i h legal is) in
        absurd (omega (arith, once, zero_announced, one_pending, none_out, below i above))

-- where nothing is announced, in the stack or out, nothing is pending
pub none_pends : (sizes : Sizes) (h : History) → IsLegal sizes h → NoneAnnounced h → stack_of h ≡ [] → out_of h ≡ [] → (i : ℕ) → is_pending i h ≡ false
none_pends sizes h legal announced empty none i = by_bit (is_pending i h) refl
  where
    by_bit : (b : Bool) → is_pending i h ≡ b → is_pending i h ≡ false
    by_bit false is = is
    by_bit true is =
        let once : bit (is_announced i h) + times_of i (stack_of h) + times_of i (out_of h) ≡ bit (is_pending i h) = announced_once sizes h i legal in
        let zero_announced : bit (is_announced i h) ≡ 0 = ap bit (announced i) in
        let one_pending : bit (is_pending i h) ≡ 1 = ap bit is in
        let none_there : times_of i (stack_of h) ≡ 0 = ap (times_of i) empty in
        let none_out : times_of i (out_of h) ≡ 0 = ap (times_of i) none in
        absurd (omega (arith, once, zero_announced, one_pending, none_there, none_out))
