-- In a poll no more callbacks wait than polls stand in one another, so each of them finds room to wait, and goes on with what it had
-- left.
use Rattle.std.proofs.Common.{◌≡◌, ℕ, zero, suc, ◌+◌, ◌<◌, ◌≤◌, Bool, true, false, MatchBool, Option, None, Some, List, [], ◌∷◌, ◌++◌, length, arith, inl, inr, refl, sym, ap, ◌∙◌, subst, append_assoc}
use Rattle.std.proofs.lemmas.Bool.{false≢true}
use Rattle.aio_model.specs.declared.scripts.loop_scripts.ActKind.{ActKind}
use Rattle.aio_model.specs.Loop.History.{Sizes, Free}
use Rattle.aio_model.specs.Loop.Flags.{is_lot}
use Rattle.aio_model.specs.Loop.Frame.{Answer, Ended, Nests, Entered, PollPlace, Makes, EntersRunner, Body, Turn, Turns, Frame, DoesEntries, lent_of, nests_above}
use Rattle.aio_model.specs.Scripts.LoopActs.{Waiting, DoesActs, behind_nest, answer_of_acts, waiting_after}
use Rattle.aio_model.proofs.Frames.{DoesEntries-append}
use Rattle.bell_loop.specs.Entering.{DoesEntry, MayEnter, BellNotes}

pub DoesEntries-split : {R : Type 0} (does : R → Entered → R → Type 0) (a c : R) (newer older : List Entered) → DoesEntries does a (newer ++ older) c → (b : R) × DoesEntries does a older b × DoesEntries does b newer c
DoesEntries-split does a c [] older runs = (c, runs, refl)
DoesEntries-split does a c (e ∷ newer) older runs =
    let parts = DoesEntries-split does a runs.0 newer older runs.1 in
    (parts.0, parts.1, (runs.0, parts.2, runs.2))

abbrev behind_front : Waiting → Waiting
behind_front [] = []
behind_front (x ∷ xs) = xs

abbrev is_nesting : Answer → Bool
is_nesting Ended = false
is_nesting Nests = true

module _ (acts : ℕ → List ActKind) (sizes : Sizes) where
  -- from place to place the callbacks were entered some more; with room for so many depths they do their actions, and leave what waits as
  -- it was
  pub record Keeps (depths : ℕ) (a b : PollPlace) : Type 0 where
    pub more : List Entered
    pub longer : b.log ≡ more ++ a.log
    pub runs : (n n' : BellNotes) → DoesEntries (DoesEntry acts) n more n' → length n.waiting + depths ≤ 8 → DoesEntries (DoesActs acts) n.waiting more n'.waiting × (n'.waiting ≡ n.waiting)

  Keeps-quiet : (depths : ℕ) (a b : PollPlace) → b.log ≡ a.log → Keeps depths a b
  Keeps-quiet depths a b same = record {
    more = [];
    longer = same;
    runs = λ n n' runs room. (ap (λ (k : BellNotes). k.waiting) runs, ap (λ (k : BellNotes). k.waiting) runs);
  }

  Keeps-then : (depths : ℕ) (a b c : PollPlace) → Keeps depths a b → Keeps depths b c → Keeps depths a c
  Keeps-then depths a b c first then = record {
    more = then.more ++ first.more;
    longer = then.longer ∙ ap (λ l. then.more ++ l) first.longer ∙ sym (append_assoc then.more first.more a.log);
    runs = λ n n' runs room.
        let parts = DoesEntries-split (DoesEntry acts) n n' then.more first.more runs in
        let one = first.runs n parts.0 parts.1 room in
        let room_then : length parts.0.waiting + depths ≤ 8 = subst (λ w. length w + depths ≤ 8) (sym one.1) room in
        let two = then.runs parts.0 n' parts.2 room_then in
        (DoesEntries-append (DoesActs acts) n.waiting parts.0.waiting n'.waiting then.more first.more one.0 two.0, two.1 ∙ one.1);
  }

  -- what waits at an entry, above what is to wait afterwards
  abbrev At : Bool → Waiting → Waiting → Type 0
  At true base w = w ≡ base
  At false base w = (todo : List ActKind) × (w ≡ todo ∷ base)

  -- the same for the entries of one callback, where its nested polls have so many depths
  record KeepsBody (deeper : ℕ) (first : Bool) (a b : PollPlace) : Type 0 where
    more : List Entered
    longer : b.log ≡ more ++ a.log
    runs : (base : Waiting) (n n' : BellNotes) → DoesEntries (DoesEntry acts) n more n' → length base + suc deeper ≤ 8 → At first base n.waiting → DoesEntries (DoesActs acts) n.waiting more n'.waiting × (n'.waiting ≡ base)

  -- there is room at an entry
  may_enter : (bh : ℕ) (job : Option ℕ) (first : Bool) (nests deeper : ℕ) (base w : Waiting) → (0 < nests → 0 < deeper) → (first ≡ false → 0 < deeper) → length base + suc deeper ≤ 8 → At first base w → MayEnter (lent_of bh job first nests) w
  may_enter bh job true zero deeper base w nest further room at = inl refl
  may_enter bh job true (suc nests) deeper base w nest further room at =
      let some : 0 < deeper = nest (omega arith) in
      let e : length w ≡ length base = ap length at in
      inr (omega (arith, some, room, e))
  may_enter bh job false nests deeper base w nest further room at =
      let some : 0 < deeper = further refl in
      let e : length w ≡ length (at.0 ∷ base) = ap length at.1 in
      (omega (arith, e), omega (arith, e, some, room))

  -- what was below at an entry is what is to wait after it
  below_is : (first : Bool) (todo called : List ActKind) (base below w : Waiting) → MatchBool first ((todo ≡ called) × (below ≡ w)) (w ≡ todo ∷ below) → At first base w → below ≡ base
  below_is true todo called base below w finds at = finds.1 ∙ at
  below_is false todo called base below w finds at =
      let e : todo ∷ below ≡ at.0 ∷ base = sym finds ∙ at.1 in
      ap behind_front e

  -- an entry that ends the body
  KeepsBody-ended : (bh : ℕ) (job : Option ℕ) (first : Bool) (nests deeper : ℕ) (answer : Answer) (a b : PollPlace) → (0 < nests → 0 < deeper) → (first ≡ false → 0 < deeper) → ((o : Option (List ActKind)) (w : Waiting) → answer ≡ answer_of_acts o → waiting_after o nests w ≡ w) → EntersRunner (lent_of bh job first nests) answer a b → KeepsBody deeper first a b
  KeepsBody-ended bh job first nests deeper answer a b nest further stays enters = record {
    more = record { lent = lent_of bh job first nests; answer = answer; made = enters.made } ∷ [];
    longer = enters.log;
    runs = λ base n n' runs room at.
        let same : runs.0.waiting ≡ n.waiting = ap (λ (k : BellNotes). k.waiting) runs.1 in
        let at_mid : At first base runs.0.waiting = subst (At first base) (sym same) at in
        let did = runs.2.does (may_enter bh job first nests deeper base runs.0.waiting nest further room at_mid) in
        let below = below_is first did.todo _ base did.below runs.0.waiting did.finds at_mid in
        ((runs.0.waiting, same, did), did.leaves ∙ stays (behind_nest did.todo) did.below did.answers ∙ below);
  }

  stays_ended : (nests : ℕ) (o : Option (List ActKind)) (w : Waiting) → Ended ≡ answer_of_acts o → waiting_after o nests w ≡ w
  stays_ended nests None w h = refl
  stays_ended nests (Some later) w h = absurd (false≢true (ap is_nesting h))

  stays_cut : (answer : Answer) (o : Option (List ActKind)) (w : Waiting) → answer ≡ answer_of_acts o → waiting_after o zero w ≡ w
  stays_cut answer None w h = refl
  stays_cut answer (Some later) w h = refl

  -- what waits behind a nest
  waits_behind : (o : Option (List ActKind)) (nests : ℕ) (below : Waiting) → Nests ≡ answer_of_acts o → (later : List ActKind) × (waiting_after o (suc nests) below ≡ later ∷ below)
  waits_behind (Some later) nests below h = (later, refl)
  waits_behind None nests below h = absurd (false≢true (sym (ap is_nesting h)))

  module _ (deeper : ℕ) (frames : (a b : PollPlace) → Frame sizes deeper a b → Keeps deeper a b) where
    KeepsBody-of : (bh : ℕ) (job : Option ℕ) (first : Bool) (nests : ℕ) (a b : PollPlace) → (0 < nests → 0 < deeper) → (first ≡ false → 0 < deeper) → Body (Frame sizes deeper) bh job first nests a b → KeepsBody deeper first a b
    KeepsBody-of bh job first zero a b nest further body =
        KeepsBody-ended bh job first zero deeper body.0 a b nest further (stays_cut body.0) body.1
    KeepsBody-of bh job first (suc nests) a b nest further body =
        elim body as (λ _. KeepsBody deeper first a b) [
          | inl enters ↦ KeepsBody-ended bh job first (suc nests) deeper Ended a b nest further (stays_ended (suc nests)) enters
          | inr more ↦
              let asked : List Entered = record { lent = lent_of bh job first (suc nests); answer = Nests; made = more.2.made } ∷ [] in
              let some : 0 < deeper = nest (omega arith) in
              let framed = frames more.0 more.1 more.3 in
              let rest = KeepsBody-of bh None false nests more.1 b (λ _. some) (λ _. some) more.4 in
              record {
                more = rest.more ++ (framed.more ++ asked);
                longer = rest.longer ∙ ap (λ l. rest.more ++ l) (framed.longer ∙ ap (λ l. framed.more ++ l) more.2.log ∙ sym (append_assoc framed.more asked a.log)) ∙ sym (append_assoc rest.more (framed.more ++ asked) a.log);
                runs = λ base n n' runs room at.
                    let outer = DoesEntries-split (DoesEntry acts) n n' rest.more (framed.more ++ asked) runs in
                    let inner = DoesEntries-split (DoesEntry acts) n outer.0 framed.more asked outer.1 in
                    let one = inner.1 in
                    let same : one.0.waiting ≡ n.waiting = ap (λ (k : BellNotes). k.waiting) one.1 in
                    let at_mid : At first base one.0.waiting = subst (At first base) (sym same) at in
                    let did = one.2.does (may_enter bh job first (suc nests) deeper base one.0.waiting nest further room at_mid) in
                    let below = below_is first did.todo _ base did.below one.0.waiting did.finds at_mid in
                    let behind = waits_behind (behind_nest did.todo) nests did.below did.answers in
                    let waits : inner.0.waiting ≡ behind.0 ∷ base = did.leaves ∙ behind.1 ∙ ap (λ l. behind.0 ∷ l) below in
                    let e : length inner.0.waiting ≡ length (behind.0 ∷ base) = ap length waits in
                    let nested = framed.runs inner.0 outer.0 inner.2 (omega (arith, e, room)) in
                    let after = rest.runs base outer.0 n' outer.2 room (behind.0, nested.1 ∙ waits) in
                    let asked_runs : DoesEntries (DoesActs acts) n.waiting asked inner.0.waiting = (one.0.waiting, same, did) in
                    (DoesEntries-append (DoesActs acts) n.waiting outer.0.waiting n'.waiting rest.more (framed.more ++ asked) (DoesEntries-append (DoesActs acts) n.waiting inner.0.waiting outer.0.waiting framed.more asked asked_runs nested.0) after.0, after.1);
              }
        ]

    Keeps-calls : (bh : ℕ) (job : Option ℕ) (ran : Bool) (a b : PollPlace) → MatchBool ran (Body (Frame sizes deeper) bh job true (nests_above deeper) a b) (b ≡ a) → Keeps (suc deeper) a b
    Keeps-calls bh job true a b body =
        let of = KeepsBody-of bh job true (nests_above deeper) a b (above deeper) (λ h. absurd (false≢true (sym h))) body in
        record { more = of.more; longer = of.longer; runs = λ n n' runs room. of.runs n.waiting n n' runs room refl }
      where
        above : (d : ℕ) → 0 < nests_above d → 0 < d
        above zero some = some
        above (suc d) some = omega arith
    Keeps-calls bh job false a b same = Keeps-quiet (suc deeper) a b (ap (λ (p : PollPlace). p.log) same)

    Keeps-free : (index : ℕ) (lot : Bool) (a b : PollPlace) → MatchBool lot (Makes (Free index) a b) (b ≡ a) → Keeps (suc deeper) a b
    Keeps-free index true a b free = Keeps-quiet (suc deeper) a b free.log
    Keeps-free index false a b same = Keeps-quiet (suc deeper) a b (ap (λ (p : PollPlace). p.log) same)

    Keeps-turn : (a b : PollPlace) → Turn sizes (Frame sizes deeper) (nests_above deeper) a b → Keeps (suc deeper) a b
    Keeps-turn a b turn =
        Keeps-then (suc deeper) a turn.dequeued b (Keeps-quiet (suc deeper) a turn.dequeued turn.dequeue.log)
        (Keeps-then (suc deeper) turn.dequeued turn.ended b (Keeps-calls turn.index _ turn.ran turn.dequeued turn.ended turn.body) (Keeps-free turn.index (is_lot sizes turn.index) turn.ended b turn.free))

    Keeps-turns : (count : ℕ) (a b : PollPlace) → Turns sizes (Frame sizes deeper) (nests_above deeper) count a b → Keeps (suc deeper) a b
    Keeps-turns zero a b same = Keeps-quiet (suc deeper) a b (ap (λ (p : PollPlace). p.log) same)
    Keeps-turns (suc count) a b turns =
        Keeps-then (suc deeper) a turns.0 b (Keeps-turn a turns.0 turns.1) (Keeps-turns count turns.0 b turns.2)

  pub Keeps-frame : (depths : ℕ) (a b : PollPlace) → Frame sizes depths a b → Keeps depths a b
  unfolding Frame
  Keeps-frame zero a b frame = absurd frame
  Keeps-frame (suc deeper) a b frame =
      Keeps-then (suc deeper) a frame.taken b (Keeps-quiet (suc deeper) a frame.taken frame.take.log) (Keeps-turns deeper (Keeps-frame deeper) frame.count frame.taken b frame.turns)
