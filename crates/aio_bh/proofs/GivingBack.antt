-- How a callback shows that it gives back the seat that it was lent: by the steps that it made, one after another.
use Rattle.std.proofs.Common.{◌≡◌, ℕ, ◌<◌, Bool, true, false, cond, eqb, MatchBool, List, [], ◌∷◌, ◌++◌, refl, sym, ap, ◌∙◌, subst, append_assoc}
use Rattle.std.proofs.lemmas.Bool.{eq-eqb, and_from, and_parts}
use Rattle.table_seats.proofs.Standing.{entries-append}
use Rattle.aio_model.specs.declared.loops.flags.Flags.{Flags}
use Rattle.aio_model.specs.Loop.History.{Entry, ToCallOnce, New, Enqueue, Put, Cancel, History}
use Rattle.aio_model.specs.Loop.History.{EnqueueAsks}
use Rattle.aio_model.specs.Loop.Lists.{seat_of}
use Rattle.aio_model.specs.Loop.Legal.{IsLegal}
use Rattle.aio_model.specs.Loop.Seats.{entries_of}
use Rattle.aio_model.specs.Loop.Frame.{is_of_callback, are_of_callback}
use Rattle.aio_model.specs.Loop.InFlight.{Phase, AtRest}
use Rattle.aio_core.specs.Known.{Known, Done, numbers_of}
use Rattle.aio_core.specs.Words.{free_word}
use Rattle.aio_core.specs.Standing.{Makes, Claims, Enqueues, Aims, Pushes, Cancels, SetsNotifier, PlacesJob}
use Rattle.aio_notify.specs.Notifying.{Notifies}
use Rattle.aio_bh.specs.HomeSteps.{home_steps}
use Rattle.aio_bh.specs.Running.{SeatComesBack}
use Rattle.aio_bh.proofs.Entries.{none_of_own}

-- as what gives back, but for the phase
pub record GoesThrough (made : History) (before after : Known) : Type 0 where
  pub between : History
  pub just_these : entries_of before.first between ≡ made
  pub of_callback : are_of_callback made ≡ true
  pub seen : after.seen ≡ between ++ before.seen
  pub mine : after.mine ≡ made ++ before.mine
  pub legal : IsLegal before.sizes after.seen
  pub rest : after ≡ record before { seen = after.seen; mine = after.mine; did = after.did; phase = after.phase; told = after.told }
  pub steps : home_steps after.did ≡ home_steps before.did

are_of_callback-append : (newer older : History) → are_of_callback newer ≡ true → are_of_callback older ≡ true → are_of_callback (newer ++ older) ≡ true
are_of_callback-append [] older n o = o
are_of_callback-append (e ∷ newer) older n o =
    let parts = and_parts (is_of_callback e) (are_of_callback newer) n in
    and_from (is_of_callback e) (are_of_callback (newer ++ older)) parts.0 (are_of_callback-append newer older parts.1 o)

pub GoesThrough-then : (older newer : History) (a b c : Known) → GoesThrough older a b → GoesThrough newer b c → GoesThrough (newer ++ older) a c
GoesThrough-then older newer a b c first then =
    let same_first : b.first ≡ a.first = ap (λ (k : Known). k.first) first.rest in
    record {
      between = then.between ++ first.between;
      just_these = entries-append seat_of a.first then.between first.between ∙ ap (λ n. entries_of n then.between ++ entries_of a.first first.between) (sym same_first) ∙ ap (λ l. l ++ entries_of a.first first.between) then.just_these ∙ ap (λ l. newer ++ l) first.just_these;
      of_callback = are_of_callback-append newer older then.of_callback first.of_callback;
      seen = then.seen ∙ ap (λ l. then.between ++ l) first.seen ∙ sym (append_assoc then.between first.between a.seen);
      mine = then.mine ∙ ap (λ l. newer ++ l) first.mine ∙ sym (append_assoc newer older a.mine);
      legal = subst (λ s. IsLegal s c.seen) (ap (λ (k : Known). k.sizes) first.rest) then.legal;
      rest = then.rest ∙ ap (λ (k : Known). record k { seen = c.seen; mine = c.mine; did = c.did; phase = c.phase; told = c.told }) first.rest;
      steps = then.steps ∙ first.steps;
    }

-- one step that made an entry
GoesThrough-made : (e : Entry) (a b : Known) → 0 < a.count → seat_of e ≡ a.first → is_of_callback e ≡ true → Makes e a b → b ≡ record a { seen = b.seen; mine = b.mine; did = b.did; phase = b.phase; told = b.told } → home_steps b.did ≡ home_steps a.did → GoesThrough (e ∷ []) a b
GoesThrough-made e a b some by_it fits makes rest steps =
    let own : eqb (seat_of e) a.first ≡ true = eq-eqb (seat_of e) a.first by_it in
    let none : entries_of a.first makes.others ≡ [] = none_of_own (numbers_of a) makes.others some makes.not_own in
    record {
      between = e ∷ makes.others;
      just_these = ap (λ b. cond b (e ∷ entries_of a.first makes.others) (entries_of a.first makes.others)) own ∙ ap (λ (l : History). e ∷ l) none;
      of_callback = and_from (is_of_callback e) true fits refl;
      seen = makes.seen;
      mine = makes.mine;
      legal = makes.legal;
      rest = rest;
      steps = steps;
    }

-- what a step of a seat changes, in that form
changed : (a b : Known) (steps : List Done) (phase : Phase) → b ≡ record a { seen = b.seen; mine = b.mine; did = steps; phase = phase } → b ≡ record a { seen = b.seen; mine = b.mine; did = b.did; phase = b.phase; told = b.told }
changed a b steps phase h =
    let did_is : b.did ≡ steps = ap (λ (k : Known). k.did) h in
    let phase_is : b.phase ≡ phase = ap (λ (k : Known). k.phase) h in
    let told_is : b.told ≡ a.told = ap (λ (k : Known). k.told) h in
    h ∙ ap (λ d. record a { seen = b.seen; mine = b.mine; did = d; phase = phase }) (sym did_is) ∙ ap (λ p. record a { seen = b.seen; mine = b.mine; did = b.did; phase = p }) (sym phase_is) ∙ ap (λ t. record a { seen = b.seen; mine = b.mine; did = b.did; phase = b.phase; told = t }) (sym told_is)

pub GoesThrough-enqueue : (i : ℕ) (asked : EnqueueAsks) (flags : Flags) (a b : Known) → 0 < a.count → Enqueues i asked flags a b → GoesThrough (Enqueue i asked a.first flags ∷ []) a b
GoesThrough-enqueue i asked flags a b some h =
    GoesThrough-made (Enqueue i asked a.first flags) a b some refl refl h.makes (changed a b _ _ h.rest) (ap (λ (k : Known). home_steps k.did) h.rest)

pub GoesThrough-push : (i found : ℕ) (a b : Known) → 0 < a.count → Pushes i found a b → GoesThrough (Put i a.first ∷ []) a b
GoesThrough-push i found a b some h =
    GoesThrough-made (Put i a.first) a b some refl refl h.makes (changed a b _ _ h.rest) (ap (λ (k : Known). home_steps k.did) h.rest)

pub GoesThrough-claim : (i job : ℕ) (a b : Known) → 0 < a.count → Claims i job free_word a b → GoesThrough (New i a.first job ∷ []) a b
GoesThrough-claim i job a b some h =
    GoesThrough-made (New i a.first job) a b some refl refl h.makes (changed a b _ _ h.rest) (ap (λ (k : Known). home_steps k.did) h.rest)

pub GoesThrough-cancel : (i : ℕ) (flags : Flags) (a b : Known) → 0 < a.count → Cancels i flags a b → GoesThrough (Cancel i a.first flags ∷ []) a b
GoesThrough-cancel i flags a b some h =
    GoesThrough-made (Cancel i a.first flags) a b some refl refl h.makes (changed a b _ a.phase h.rest) (ap (λ (k : Known). home_steps k.did) h.rest)

-- a step that makes no entry
quiet : (a b : Known) (steps : List Done) (phase : Phase) → IsLegal a.sizes a.seen → b ≡ record a { did = steps; phase = phase } → home_steps steps ≡ home_steps a.did → GoesThrough [] a b
quiet a b steps phase legal h none =
    let same_seen : b.seen ≡ a.seen = ap (λ (k : Known). k.seen) h in
    let same_mine : b.mine ≡ a.mine = ap (λ (k : Known). k.mine) h in
    record {
      between = [];
      just_these = refl;
      of_callback = refl;
      seen = same_seen;
      mine = same_mine;
      legal = subst (IsLegal a.sizes) (sym same_seen) legal;
      rest = changed a b steps phase (h ∙ ap (λ l. record a { seen = l; did = steps; phase = phase }) (sym same_seen) ∙ ap (λ m. record a { seen = b.seen; mine = m; did = steps; phase = phase }) (sym same_mine));
      steps = ap (λ (k : Known). home_steps k.did) h ∙ none;
    }

pub GoesThrough-aim : (i found : ℕ) (a b : Known) → IsLegal a.sizes a.seen → Aims i found a b → GoesThrough [] a b
GoesThrough-aim i found a b legal h = quiet a b _ _ legal h.rest refl

notify_steps : (a b : Known) → Notifies a b → home_steps b.did ≡ home_steps a.did
notify_steps a b notifies =
    by (eqb notifies.armed 0) notifies.sets ∙ ap (λ (k : Known). home_steps k.did) notifies.loads.rest ∙ ap (λ (k : Known). home_steps k.did) notifies.stores.rest
  where
    by : (none : Bool) → MatchBool none (b ≡ notifies.loaded) ((was : ℕ) × SetsNotifier was notifies.loaded b) → home_steps b.did ≡ home_steps notifies.loaded.did
    by true same = ap (λ (k : Known). home_steps k.did) same
    by false sets = ap (λ (k : Known). home_steps k.did) sets.1.rest

GoesThrough-notify : (a b : Known) → IsLegal a.sizes a.seen → Notifies a b → b ≡ record a { did = b.did; phase = AtRest } → GoesThrough [] a b
GoesThrough-notify a b legal notifies same =
    quiet a b b.did AtRest legal same (notify_steps a b notifies)

legal_then : {made : History} (a b : Known) → GoesThrough made a b → IsLegal b.sizes b.seen
legal_then a b through =
    subst (λ s. IsLegal s b.seen) (sym (ap (λ (k : Known). k.sizes) through.rest)) through.legal

-- back at rest
pub SeatComesBack-of : (made : History) (a b : Known) → a.phase ≡ AtRest → b.phase ≡ AtRest → GoesThrough made a b → SeatComesBack made a b
SeatComesBack-of made a b rest still through = record {
  between = through.between;
  just_these = through.just_these;
  of_callback = through.of_callback;
  seen = through.seen;
  mine = through.mine;
  legal = through.legal;
  rest = through.rest ∙ ap (λ p. record a { seen = b.seen; mine = b.mine; did = b.did; phase = p; told = b.told }) (still ∙ sym rest);
  steps = through.steps;
}

-- an index was enqueued and pushed, and home was notified
GoesThrough-pushed : (i aimed pushed : ℕ) (asked : EnqueueAsks) (flags : Flags) (a b c d e : Known) → 0 < a.count → Enqueues i asked flags a b → Aims i aimed b c → Pushes i pushed c d → Notifies d e → e ≡ record d { did = e.did; phase = AtRest } → GoesThrough (Put i a.first ∷ (Enqueue i asked a.first flags ∷ [])) a e
GoesThrough-pushed i aimed pushed asked flags a b c d e some enqueues aims pushes notifies same =
    let first = GoesThrough-enqueue i asked flags a b some enqueues in
    let aim = GoesThrough-aim i aimed b c (legal_then a b first) aims in
    let two = GoesThrough-then (Enqueue i asked a.first flags ∷ []) [] a b c first aim in
    let same_count : c.count ≡ a.count = ap (λ (k : Known). k.count) two.rest in
    let same_first : c.first ≡ a.first = ap (λ (k : Known). k.first) two.rest in
    let put : GoesThrough (Put i a.first ∷ []) c d = subst (λ n. GoesThrough (Put i n ∷ []) c d) same_first (GoesThrough-push i pushed c d (subst (λ n. 0 < n) (sym same_count) some) pushes) in
    let three = GoesThrough-then (Enqueue i asked a.first flags ∷ []) (Put i a.first ∷ []) a c d two put in
    GoesThrough-then (Put i a.first ∷ (Enqueue i asked a.first flags ∷ [])) [] a d e three (GoesThrough-notify d e (legal_then a d three) notifies same)

pub SeatComesBack-pushed : (i aimed pushed : ℕ) (asked : EnqueueAsks) (flags : Flags) (a b c d e : Known) → 0 < a.count → a.phase ≡ AtRest → Enqueues i asked flags a b → Aims i aimed b c → Pushes i pushed c d → Notifies d e → e ≡ record d { did = e.did; phase = AtRest } → SeatComesBack (Put i a.first ∷ (Enqueue i asked a.first flags ∷ [])) a e
SeatComesBack-pushed i aimed pushed asked flags a b c d e some rest enqueues aims pushes notifies same =
    SeatComesBack-of (Put i a.first ∷ (Enqueue i asked a.first flags ∷ [])) a e rest (ap (λ (k : Known). k.phase) same)
    (GoesThrough-pushed i aimed pushed asked flags a b c d e some enqueues aims pushes notifies same)

-- an index was enqueued that was pending, and home was notified
pub SeatComesBack-pending : (i : ℕ) (asked : EnqueueAsks) (flags : Flags) (a b c : Known) → 0 < a.count → a.phase ≡ AtRest → Enqueues i asked flags a b → Notifies b c → c ≡ record b { did = c.did; phase = AtRest } → SeatComesBack (Enqueue i asked a.first flags ∷ []) a c
SeatComesBack-pending i asked flags a b c some rest enqueues notifies same =
    let first = GoesThrough-enqueue i asked flags a b some enqueues in
    SeatComesBack-of (Enqueue i asked a.first flags ∷ []) a c rest (ap (λ (k : Known). k.phase) same)
    (GoesThrough-then (Enqueue i asked a.first flags ∷ []) [] a b c first (GoesThrough-notify b c (legal_then a b first) notifies same))

-- a one-shot was placed and pushed, and home was notified
pub SeatComesBack-placed : (i job aimed pushed : ℕ) (a b c d e : Known) → 0 < a.count → a.phase ≡ AtRest → (placed : PlacesJob i job a b) → Aims i aimed b c → Pushes i pushed c d → Notifies d e → e ≡ record d { did = e.did; phase = AtRest } → SeatComesBack (Put i a.first ∷ (Enqueue i ToCallOnce a.first placed.flags ∷ (New i a.first job ∷ []))) a e
SeatComesBack-placed i job aimed pushed a b c d e some rest placed aims pushes notifies same =
    let m : Known = placed.claimed in
    let first = GoesThrough-claim i job a m some placed.claims in
    let same_count : m.count ≡ a.count = ap (λ (k : Known). k.count) first.rest in
    let same_first : m.first ≡ a.first = ap (λ (k : Known). k.first) first.rest in
    let pushed_on = GoesThrough-pushed i aimed pushed ToCallOnce placed.flags m b c d e (subst (λ n. 0 < n) (sym same_count) some) placed.enqueues aims pushes notifies same in
    let then = subst (λ n. GoesThrough (Put i n ∷ (Enqueue i ToCallOnce n placed.flags ∷ [])) m e) same_first pushed_on in
    SeatComesBack-of (Put i a.first ∷ (Enqueue i ToCallOnce a.first placed.flags ∷ (New i a.first job ∷ []))) a e rest (ap (λ (k : Known). k.phase) same)
    (GoesThrough-then (New i a.first job ∷ []) (Put i a.first ∷ (Enqueue i ToCallOnce a.first placed.flags ∷ [])) a m e first then)

pub SeatComesBack-canceled : (i : ℕ) (flags : Flags) (a b : Known) → 0 < a.count → a.phase ≡ AtRest → Cancels i flags a b → SeatComesBack (Cancel i a.first flags ∷ []) a b
SeatComesBack-canceled i flags a b some rest cancels =
    SeatComesBack-of (Cancel i a.first flags ∷ []) a b rest (ap (λ (k : Known). k.phase) cancels.rest ∙ rest) (GoesThrough-cancel i flags a b some cancels)
