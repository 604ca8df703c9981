-- What actions make of what home knows.
use Rattle.std.proofs.Common.{◌≡◌, ℕ, true, false, List, [], ◌∷◌, ◌++◌, length, take, drop, get_or, ◌-◌, ◌≤◌, arith, refl, sym, ◌∙◌, ap, subst, append_assoc}
use Rattle.std.proofs.Math.Seq.{take-length}
use Rattle.std.proofs.lemmas.Bool.{and_from, and_parts}
use Rattle.table_seats.proofs.Standing.{entries-append}
use Rattle.aio_model.specs.declared.loops.flags.Flags.{Flags}
use Rattle.aio_model.specs.declared.scripts.loop_scripts.ActKind.{ActKind}
use Rattle.aio_model.specs.declared.scripts.loop_scripts.ActKind.TheVariants.{Cancel as CancelOf, Nest}
use Rattle.aio_model.specs.Loop.History.{EnqueueAsks, Cancel, History}
use Rattle.aio_model.specs.Loop.Lists.{seat_of}
use Rattle.aio_model.specs.Loop.Seats.{entries_of}
use Rattle.aio_model.specs.Loop.Legal.{IsLegal}
use Rattle.aio_model.specs.Loop.Frame.{is_of_callback, are_of_callback}
use Rattle.aio_model.specs.Loop.State.{no_flags}
use Rattle.aio_model.specs.Scripts.LoopActs.{enqueue_made, made_by_act, is_nest, before_nest}
use Rattle.aio_model.specs.Loop.InFlight.{AtRest}
use Rattle.aio_core.specs.Known.{Known}
use Rattle.aio_core.specs.Standing.{Cancels}
use Rattle.aio_core.specs.Calls.{TableState, SeatState, IsSeatOf}
use Rattle.aio_bh.specs.Enqueuing.{AddsOnly, enqueue_entries}
use Rattle.aio_bh.specs.Running.{SeatComesBack}
use Rattle.aio_bh.proofs.GivingBack.{SeatComesBack-canceled}
use Rattle.aio_bh.proofs.Lent.{SeatComesBack-enqueued, SeatComesBack-nothing}
use Rattle.bell_loop.specs.Actions.{Acts, ActsAll, IsLent}

pub Acts-enqueue : (what : ActKind) (i : ℕ) (asked : EnqueueAsks) (flags : Flags) (a b : Known) → made_by_act what flags ≡ enqueue_made i asked flags → a.first ≡ 64 → a.phase ≡ AtRest → b.phase ≡ AtRest → AddsOnly (enqueue_entries i asked a.first flags) a b → Acts what a b
Acts-enqueue what i asked flags a b makes number rest still stands = record {
  was = flags;
  back = subst (λ m. SeatComesBack m a b) (ap (λ n. enqueue_entries i asked n flags) number ∙ sym makes) (SeatComesBack-enqueued i asked flags a b rest still stands);
}

pub Acts-cancel : (i : ℕ) (flags : Flags) (a b : Known) → a.first ≡ 64 → a.count ≡ 1 → a.phase ≡ AtRest → Cancels i flags a b → Acts (CancelOf i) a b
Acts-cancel i flags a b number one rest cancels = record {
  was = flags;
  back = subst (λ n. SeatComesBack (Cancel i n flags ∷ []) a b) number (SeatComesBack-canceled i flags a b (omega (arith, one)) rest cancels);
}

pub Acts-nest : (a b : Known) → IsLegal a.sizes a.seen → b ≡ a → Acts Nest a b
Acts-nest a b legal same =
    record { was = no_flags; back = subst (λ k. SeatComesBack [] a k) (sym same) (SeatComesBack-nothing a legal) }

pub Acts-at : (what what' : ActKind) (a b : Known) → what' ≡ what → Acts what a b → Acts what' a b
Acts-at what what' a b same acts = subst (λ w. Acts w a b) (sym same) acts

pub legal_here : (table : TableState) (a : SeatState) → IsLent table a → IsLegal a.known.sizes a.known.seen
legal_here table a lent = subst (λ s. IsLegal s a.known.seen) (sym lent.of.sizes) lent.legal

pub IsLent-back : (table : TableState) (made : History) (a b : SeatState) → IsLent table a → IsSeatOf table b → SeatComesBack made a.known b.known → IsLent table b
IsLent-back table made a b lent of back = record {
  of = of;
  rest = ap (λ (k : Known). k.phase) back.rest ∙ lent.rest;
  first = ap (λ (k : Known). k.first) back.rest ∙ lent.first;
  count = ap (λ (k : Known). k.count) back.rest ∙ lent.count;
  legal = subst (λ s. IsLegal s b.known.seen) lent.of.sizes back.legal;
}

pub IsLent-acts : (table : TableState) (what : ActKind) (a b : SeatState) → IsLent table a → IsSeatOf table b → Acts what a.known b.known → IsLent table b
IsLent-acts table what a b lent of acts = IsLent-back table (made_by_act what acts.was) a b lent of acts.back

are_of_callback-append : (newer older : History) → are_of_callback newer ≡ true → are_of_callback older ≡ true → are_of_callback (newer ++ older) ≡ true
are_of_callback-append [] older n o = o
are_of_callback-append (e ∷ newer) older n o =
    let parts = and_parts (is_of_callback e) (are_of_callback newer) n in
    and_from (is_of_callback e) (are_of_callback (newer ++ older)) parts.0 (are_of_callback-append newer older parts.1 o)

-- what is given back twice
pub SeatComesBack-then : (older newer : History) (a b c : Known) → SeatComesBack older a b → SeatComesBack newer b c → SeatComesBack (newer ++ older) a c
SeatComesBack-then older newer a b c first then =
    let same_first : b.first ≡ a.first = ap (λ (k : Known). k.first) first.rest in
    record {
      between = then.between ++ first.between;
      just_these = entries-append seat_of a.first then.between first.between ∙ ap (λ n. entries_of n then.between ++ entries_of a.first first.between) (sym same_first) ∙ ap (λ l. l ++ entries_of a.first first.between) then.just_these ∙ ap (λ l. newer ++ l) first.just_these;
      of_callback = are_of_callback-append newer older then.of_callback first.of_callback;
      seen = then.seen ∙ ap (λ l. then.between ++ l) first.seen ∙ sym (append_assoc then.between first.between a.seen);
      mine = then.mine ∙ ap (λ l. newer ++ l) first.mine ∙ sym (append_assoc newer older a.mine);
      legal = subst (λ s. IsLegal s c.seen) (ap (λ (k : Known). k.sizes) first.rest) then.legal;
      rest = then.rest ∙ ap (λ (k : Known). record k { seen = c.seen; mine = c.mine; did = c.did; told = c.told }) first.rest;
      steps = then.steps ∙ first.steps;
    }

-- no action
pub ActsAll-none : (todo : List ActKind) (a b : Known) → IsLegal a.sizes a.seen → before_nest todo ≡ [] → b ≡ a → ActsAll (before_nest todo) a b
ActsAll-none todo a b legal none same =
    subst (λ t. ActsAll t a b) (sym none) (subst (λ k. ActsAll [] a k) (sym same) record { made = []; adds = refl; back = SeatComesBack-nothing a legal })

-- one, and then the others
ActsAll-more : (what : ActKind) (todo : List ActKind) (a b c : Known) → Acts what a b → ActsAll todo b c → ActsAll (what ∷ todo) a c
ActsAll-more what todo a b c one others = record {
  made = others.made ++ made_by_act what one.was;
  adds = (one.was, others.made, refl, others.adds);
  back = SeatComesBack-then (made_by_act what one.was) others.made a b c one.back others.back;
}

-- an action that is no nest stands before the next one
before_nest-more : (what : ActKind) (later : List ActKind) → is_nest what ≡ false → before_nest (what ∷ later) ≡ what ∷ before_nest later
before_nest-more what later h = rw h refl

-- the first action, and then those behind it up to the next nest
pub ActsAll-first : (todo : List ActKind) (d : ActKind) (a b c : Known) → 1 ≤ length todo → is_nest (get_or todo 0 d) ≡ false → Acts (get_or todo 0 d) a b → ActsAll (before_nest (take (length todo - 1) (drop 1 todo))) b c → ActsAll (before_nest todo) a c
ActsAll-first [] d a b c some other one others = absurd (omega (arith, some))
ActsAll-first (what ∷ todo) d a b c some other one others =
    let count : length (what ∷ todo) - 1 ≡ length todo = omega arith in
    let rest : ActsAll (before_nest todo) b c = subst (λ l. ActsAll (before_nest l) b c) (ap (λ n. take n todo) count ∙ take-length todo) others in
    subst (λ t. ActsAll t a c) (sym (before_nest-more what todo other)) (ActsAll-more what (before_nest todo) a b c one rest)
