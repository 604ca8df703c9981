-- What a poll does for each handle, and where the entries of its callbacks stand.
use Rattle.std.proofs.Common.{◌≡◌, ℕ, zero, suc, ◌<◌, Bool, true, false, cond, ◌||◌, eqb, Option, None, MatchBool, List, [], ◌∷◌, ◌++◌, refl, sym, ap, ◌∙◌, subst, append_assoc, append-nil, arith, inl, inr, ◌⊎◌}
use Rattle.std.proofs.lemmas.Bool.{false≢true, eq-eqb}
use Rattle.aio_model.specs.declared.loops.flags.Flags.{Flags}
use Rattle.aio_model.specs.Loop.History.{Sizes, ToCall, Entry, New, Enqueue, Put, Cancel, Take, Dequeue, Free, SetEvent, ClearEvent, History}
use Rattle.aio_model.specs.Loop.Flags.{is_lot, is_pending, puts}
use Rattle.aio_model.specs.Loop.Lists.{out_of}
use Rattle.aio_model.specs.Loop.Legal.{IsLegal}
use Rattle.aio_model.specs.Loop.Laws.{times_of, some_entry}
use Rattle.aio_model.specs.Loop.Seats.{home, entries_by, entries_of}
use Rattle.aio_model.specs.Loop.Frame.{Lent, Answer, Ended, Nests, Entered, DoesEntries, PollPlace, Makes, EntersRunner, Body, Turn, Turns, nests_above, Frame, are_of_callback, lent_of, start_of}
use Rattle.aio_model.specs.Loop.Calls.{dequeue_times, call_times, entry_times, stops, AwaitsCall}
use Rattle.aio_model.proofs.Indices.{times_of-append}
use Rattle.aio_model.proofs.Rounds.{legal_cut}
use Rattle.aio_model.proofs.Awaiting.{dequeue_times-append, call_times-append, calls_most, none_dequeued, called_once, none_taken, out_most, none_out, enqueued_awaits, two_of_by, or_right, some_entry-parts}
use Rattle.aio_model.proofs.Entering.{Along-frame}
use Rattle.aio_core.specs.Known.{Known}
use Rattle.aio_bh.specs.declared.polled.Polled.{Polled}
use Rattle.aio_bh.specs.Enqueuing.{AddsOnly, enqueue_entries}
use Rattle.aio_bh.specs.Polling.{dequeued_in, Polls}
use Rattle.aio_bh.specs.Serving.{gets_nest, some_nests, WasMade, StandsWithin, PollServes}
use Rattle.aio_bh.proofs.OneTake.{no_take, no_take-append, no_take-callback, out_since}
use Rattle.aio_bh.proofs.Lent.{enqueue_of_callback}

no_take-front : (newer older : History) → no_take (newer ++ older) ≡ true → no_take newer ≡ true
no_take-front [] older n = refl
no_take-front (New i s j ∷ xs) older n = no_take-front xs older n
no_take-front (Enqueue i a s w ∷ xs) older n = no_take-front xs older n
no_take-front (Put i s ∷ xs) older n = no_take-front xs older n
no_take-front (Cancel i s w ∷ xs) older n = no_take-front xs older n
no_take-front (Take ∷ xs) older n = absurd (false≢true n)
no_take-front (Dequeue i r ∷ xs) older n = no_take-front xs older n
no_take-front (Free i ∷ xs) older n = no_take-front xs older n
no_take-front (SetEvent e s ∷ xs) older n = no_take-front xs older n
no_take-front (ClearEvent e w ∷ xs) older n = no_take-front xs older n

-- how often an index was dequeued is how often it stands in the list of what was
pub dequeued_times : (k : ℕ) (xs : History) → dequeue_times k xs ≡ times_of k (dequeued_in xs)
dequeued_times k [] = refl
dequeued_times k (New i s j ∷ xs) = dequeued_times k xs
dequeued_times k (Enqueue i a s w ∷ xs) = dequeued_times k xs
dequeued_times k (Put i s ∷ xs) = dequeued_times k xs
dequeued_times k (Cancel i s w ∷ xs) = dequeued_times k xs
dequeued_times k (Take ∷ xs) = dequeued_times k xs
dequeued_times k (Dequeue i r ∷ xs) = omega (arith, dequeued_times k xs, times_of-append k (dequeued_in xs) (i ∷ []))
dequeued_times k (Free i ∷ xs) = dequeued_times k xs
dequeued_times k (SetEvent e s ∷ xs) = dequeued_times k xs
dequeued_times k (ClearEvent e w ∷ xs) = dequeued_times k xs

-- From place to place without a take, with what callbacks made.

-- the log is longer
record LogGrows (a b : PollPlace) : Type 0 where
  more : List Entered
  log : b.log ≡ more ++ a.log

or_parts : (a b : Bool) → (a || b) ≡ false → (a ≡ false) × (b ≡ false)
or_parts true b h = absurd (false≢true (sym h))
or_parts false b h = (refl, h)

or_from : (a b : Bool) → a ≡ false → b ≡ false → (a || b) ≡ false
or_from true b x y = absurd (false≢true (sym x))
or_from false b x y = y

record Onward (a b : PollPlace) : Type 0 where
  later : History
  none : no_take later ≡ true
  seen : b.seen ≡ later ++ a.seen
  made : (entries : History) → WasMade entries b.log → WasMade entries a.log ⊎ StandsWithin entries later

within_newer : (entries newer older : History) → StandsWithin entries newer → StandsWithin entries (newer ++ older)
within_newer entries newer older at = record {
  newer = at.newer;
  between = at.between;
  older = at.older ++ older;
  is = ap (λ l. l ++ older) at.is ∙ append_assoc at.newer (at.between ++ at.older) older ∙ ap (λ l. at.newer ++ l) (append_assoc at.between at.older older);
  just_these = at.just_these;
}

within_older : (entries newer older : History) → StandsWithin entries older → StandsWithin entries (newer ++ older)
within_older entries newer older at = record {
  newer = newer ++ at.newer;
  between = at.between;
  older = at.older;
  is = ap (λ l. newer ++ l) at.is ∙ sym (append_assoc newer at.newer (at.between ++ at.older));
  just_these = at.just_these;
}

Onward-none : (more : History) (a b : PollPlace) → no_take more ≡ true → b.seen ≡ more ++ a.seen → b.log ≡ a.log → Onward a b
Onward-none more a b none seen log = record { later = more; none = none; seen = seen; made = λ entries was. inl (subst (WasMade entries) log was) }

Onward-same : (a b : PollPlace) → b ≡ a → Onward a b
Onward-same a b same = Onward-none [] a b refl (ap (λ (p : PollPlace). p.seen) same) (ap (λ (p : PollPlace). p.log) same)

Onward-then : (a b c : PollPlace) → Onward a b → Onward b c → Onward a c
Onward-then a b c first then = record {
  later = then.later ++ first.later;
  none = no_take-append then.later first.later then.none first.none;
  seen = then.seen ∙ ap (λ l. then.later ++ l) first.seen ∙ sym (append_assoc then.later first.later a.seen);
  made = λ entries was.
      elim (then.made entries was) as (λ _. WasMade entries a.log ⊎ StandsWithin entries (then.later ++ first.later)) [
        | inl before ↦ elim (first.made entries before) as (λ _. WasMade entries a.log ⊎ StandsWithin entries (then.later ++ first.later)) [
          | inl sooner ↦ inl sooner
          | inr at ↦ inr (within_older entries then.later first.later at)
        ]
        | inr at ↦ inr (within_newer entries then.later first.later at)
      ];
}

-- no entry got a nested poll
some_nests-parts : (newer older : List Entered) → some_nests (newer ++ older) ≡ false → (some_nests newer ≡ false) × (some_nests older ≡ false)
some_nests-parts [] older none = (refl, none)
some_nests-parts (e ∷ newer) older none =
    let both = or_parts (gets_nest e.answer e.lent.nests_left) (some_nests (newer ++ older)) none in
    let rest = some_nests-parts newer older both.1 in
    (or_from (gets_nest e.answer e.lent.nests_left) (some_nests newer) both.0 rest.0, rest.1)

-- so of a runner that never asks for one
pub never_nests : {R : Type 0} (does : R → Entered → R → Type 0) → ((x y : R) (e : Entered) → does x e y → e.answer ≡ Ended) → (log : List Entered) (r s : R) → DoesEntries does r log s → some_nests log ≡ false
never_nests does ends [] r s runs = refl
never_nests does ends (e ∷ log) r s runs =
    or_from (gets_nest e.answer e.lent.nests_left) (some_nests log) (ap (λ x. gets_nest x e.lent.nests_left) (ends runs.0 s e runs.2)) (never_nests does ends log r runs.0 runs.1)

-- Where no entry of a part got a nested poll, it goes on without a take.

record Going (a b : PollPlace) : Type 0 where
  more : List Entered
  log : b.log ≡ more ++ a.log
  onward : some_nests more ≡ false → Onward a b

Going-quiet : (a b : PollPlace) → b.log ≡ a.log → Onward a b → Going a b
Going-quiet a b log onward = record { more = []; log = log; onward = λ _. onward }

Going-then : (a b c : PollPlace) → Going a b → Going b c → Going a c
Going-then a b c first then = record {
  more = then.more ++ first.more;
  log = then.log ∙ ap (λ l. then.more ++ l) first.log ∙ sym (append_assoc then.more first.more a.log);
  onward = λ none.
      let parts = some_nests-parts then.more first.more none in
      Onward-then a b c (first.onward parts.1) (then.onward parts.0);
}

Going-enters : (lent : Lent) (answer : Answer) (a b : PollPlace) → EntersRunner lent answer a b → Going a b
Going-enters lent answer a b enters = record {
  more = record { lent = lent; answer = answer; made = enters.made } ∷ [];
  log = enters.log;
  onward = λ _. record {
    later = enters.between;
    none = no_take-callback enters.between (ap are_of_callback enters.just_these ∙ enters.of_callback);
    seen = enters.seen;
    made = λ entries was.
        elim (subst (WasMade entries) enters.log was) as (λ _. WasMade entries a.log ⊎ StandsWithin entries enters.between) [
          | inl here ↦ inr (record { newer = []; between = enters.between; older = []; is = sym (append-nil enters.between); just_these = enters.just_these ∙ here })
          | inr sooner ↦ inl sooner
        ];
  };
}

module _ (frame : PollPlace → PollPlace → Type 0) (frames : (a b : PollPlace) → frame a b → LogGrows a b) where
  -- what nests is out of the question, but the log grows
  Going-body : (bh : ℕ) (job : Option ℕ) (first : Bool) (nests : ℕ) (a b : PollPlace) → Body frame bh job first nests a b → Going a b
  Going-body bh job first zero a b body = Going-enters (lent_of bh job first zero) body.0 a b body.1
  Going-body bh job first (suc nests) a b body =
      elim body as (λ _. Going a b) [
        | inl enters ↦ Going-enters (lent_of bh job first (suc nests)) _ a b enters
        | inr more ↦
            let asked : List Entered = record { lent = lent_of bh job first (suc nests); answer = Nests; made = more.2.made } ∷ [] in
            let framed = frames more.0 more.1 more.3 in
            let rest = Going-body bh None false nests more.1 b more.4 in
            record {
              more = rest.more ++ (framed.more ++ asked);
              log = rest.log ∙ ap (λ l. rest.more ++ l) (framed.log ∙ ap (λ l. framed.more ++ l) more.2.log ∙ sym (append_assoc framed.more asked a.log)) ∙ sym (append_assoc rest.more (framed.more ++ asked) a.log);
              onward = λ none. absurd (false≢true (sym (some_nests-parts framed.more asked (some_nests-parts rest.more (framed.more ++ asked) none).1).1));
            }
      ]

  Going-calls : (bh : ℕ) (job : Option ℕ) (ran : Bool) (nests : ℕ) (a b : PollPlace) → MatchBool ran (Body frame bh job true nests a b) (b ≡ a) → Going a b
  Going-calls bh job true nests a b body = Going-body bh job true nests a b body
  Going-calls bh job false nests a b same = Going-quiet a b (ap (λ (p : PollPlace). p.log) same) (Onward-same a b same)

  Going-free : (index : ℕ) (lot : Bool) (a b : PollPlace) → MatchBool lot (Makes (Free index) a b) (b ≡ a) → Going a b
  Going-free index true a b free =
      Going-quiet a b free.log (Onward-none (Free index ∷ free.others) a b (no_take-callback free.others (ap are_of_callback free.not_home)) free.seen free.log)
  Going-free index false a b same = Going-quiet a b (ap (λ (p : PollPlace). p.log) same) (Onward-same a b same)

  Going-turn : (sizes : Sizes) (nests : ℕ) (a b : PollPlace) → Turn sizes frame nests a b → Going a b
  Going-turn sizes nests a b turn =
      let d = turn.dequeue in
      let first = Going-quiet a turn.dequeued d.log (Onward-none (Dequeue turn.index turn.ran ∷ d.others) a turn.dequeued (no_take-callback d.others (ap are_of_callback d.not_home)) d.seen d.log) in
      Going-then a turn.dequeued b first (Going-then turn.dequeued turn.ended b (Going-calls turn.index _ turn.ran nests turn.dequeued turn.ended turn.body) (Going-free turn.index (is_lot sizes turn.index) turn.ended b turn.free))

  Going-turns : (sizes : Sizes) (nests count : ℕ) (a b : PollPlace) → Turns sizes frame nests count a b → Going a b
  Going-turns sizes nests zero a b same = Going-quiet a b (ap (λ (p : PollPlace). p.log) same) (Onward-same a b same)
  Going-turns sizes nests (suc count) a b turns =
      Going-then a turns.0 b (Going-turn sizes nests a turns.0 turns.1) (Going-turns sizes nests count turns.0 b turns.2)

LogGrows-frame : (sizes : Sizes) (depth : ℕ) (a b : PollPlace) → Frame sizes depth a b → LogGrows a b
unfolding Frame
LogGrows-frame sizes zero a b frame = absurd frame
LogGrows-frame sizes (suc deeper) a b frame =
    let turns = Going-turns (Frame sizes deeper) (LogGrows-frame sizes deeper) sizes (nests_above deeper) frame.count frame.taken b frame.turns in
    record { more = turns.more; log = turns.log ∙ ap (λ l. turns.more ++ l) frame.take.log }

-- a poll without nested ones, from its one take on
record FromTake (a b : PollPlace) : Type 0 where
  others : History
  not_home : entries_of home others ≡ []
  later : History
  none : no_take later ≡ true
  seen : b.seen ≡ later ++ (Take ∷ (others ++ a.seen))
  made : (entries : History) → WasMade entries b.log → WasMade entries a.log ⊎ StandsWithin entries later

from_take : (sizes : Sizes) (deeper : ℕ) (a b : PollPlace) → Frame sizes (suc deeper) a b → some_nests b.log ≡ false → FromTake a b
unfolding Frame
from_take sizes deeper a b frame alone =
    let take = frame.take in
    let turns = Going-turns (Frame sizes deeper) (LogGrows-frame sizes deeper) sizes (nests_above deeper) frame.count frame.taken b frame.turns in
    let on = turns.onward (some_nests-parts turns.more frame.taken.log (subst (λ l. some_nests l ≡ false) turns.log alone)).0 in
    record {
      others = take.others;
      not_home = take.not_home;
      later = on.later;
      none = on.none;
      seen = on.seen ∙ ap (λ l. on.later ++ l) take.seen;
      made = λ entries was. subst (λ l. WasMade entries l ⊎ StandsWithin entries on.later) take.log (on.made entries was);
    }

-- what wasn't pending at an enqueue isn't dequeued before the next take
none_since : (sizes : Sizes) (k seat : ℕ) (was : Flags) (since older : History) → k < sizes.handles → IsLegal sizes (since ++ (Enqueue k ToCall seat was ∷ older)) → no_take since ≡ true → was.pending ≡ false → dequeue_times k since ≡ 0
none_since sizes k seat was since older handle legal none idle =
    let H : History = Enqueue k ToCall seat was ∷ older in
    let at : IsLegal sizes H = legal_cut sizes since H legal in
    let pending : is_pending k older ≡ false = sym (ap (λ (f : Flags). f.pending) at.0.1) ∙ idle in
    let out : times_of k (out_of older) ≡ 0 = none_out sizes k handle older at.1 pending in
    let split : out_of H ≡ dequeued_in since ++ out_of (since ++ H) = out_since sizes H since none legal in
    omega (arith, out, ap (times_of k) split, times_of-append k (dequeued_in since) (out_of (since ++ H)), dequeued_times k since)

pub served : {R : Type 0} (does : R → Entered → R → Type 0) (polled : Polled) (r s : R) (a b : Known) (polls : Polls does polled r a s b) → some_nests polls.end.log ≡ false → PollServes a.sizes a.seen polls.end.log b.seen
served does polled r s a b polls alone =
    let from = from_take a.sizes 7 (start_of a.seen) polls.end polls.frame alone in
    let P : History = from.others ++ a.seen in
    let seen : b.seen ≡ from.later ++ (Take ∷ P) = polls.seen ∙ from.seen in
    let legal : IsLegal a.sizes (from.later ++ (Take ∷ P)) = subst (IsLegal a.sizes) seen polls.goes_on.legal in
    let legal_take : IsLegal a.sizes (Take ∷ P) = legal_cut a.sizes from.later (Take ∷ P) legal in
    let split = out_since a.sizes (Take ∷ P) from.later from.none legal in
    let nothing : out_of (from.later ++ (Take ∷ P)) ≡ [] = ap out_of (sym seen) ∙ polls.none_out in
    let each : (k : ℕ) → dequeue_times k from.later ≡ times_of k (out_of (Take ∷ P)) = λ k. omega (arith, ap (times_of k) split, times_of-append k (dequeued_in from.later) (out_of (from.later ++ (Take ∷ P))), dequeued_times k from.later, ap (times_of k) nothing) in
    let entered : (k : ℕ) → entry_times k polls.end.log ≡ call_times k from.later = λ k.
    omega (arith, (Along-frame k a.sizes 8 (start_of a.seen) polls.end polls.frame).same, ap (call_times k) from.seen, call_times-append k from.later (Take ∷ P), call_times-append k from.others a.seen, calls_most k from.others, none_dequeued k from.others (ap are_of_callback from.not_home)) in
    record {
      others = from.others;
      not_home = from.not_home;
      later = from.later;
      seen = seen;
      most = λ k handle. omega (arith, entered k, calls_most k from.later, each k, out_most a.sizes k handle (Take ∷ P) legal_take);
      once = λ k handle awaits still. entered k ∙ called_once a.sizes k handle from.later P legal legal_take.1 still (each k) awaits;
      none = λ k handle put. omega (arith, entered k, calls_most k from.later, each k, none_taken a.sizes k handle P legal_take.1 put);
      kept = λ k seat was since older handle is idle.
          let H : History = Enqueue k ToCall seat was ∷ (older ++ (Take ∷ P)) in
          let whole : from.later ++ (Take ∷ P) ≡ since ++ H = ap (λ l. l ++ (Take ∷ P)) is ∙ append_assoc since (Enqueue k ToCall seat was ∷ older) (Take ∷ P) in
          none_since a.sizes k seat was since (older ++ (Take ∷ P)) handle (subst (IsLegal a.sizes) whole legal) (no_take-front since (Enqueue k ToCall seat was ∷ older) (subst (λ l. no_take l ≡ true) is from.none)) idle;
      made = λ entries was.
          elim (from.made entries was) as (λ _. StandsWithin entries from.later) [
            | inl nowhere ↦ absurd nowhere
            | inr at ↦ at
          ];
    }

-- An enqueue stands that found its index neither pending nor deleted: the index awaits its call, unless it was canceled, deleted or
-- dequeued since.
pub enqueue_awaits : (sizes : Sizes) (k seat : ℕ) (was : Flags) (test : ℕ → Bool) (since before : History) → k < sizes.handles → IsLegal sizes (since ++ before) → entries_by test since ≡ enqueue_entries k ToCall seat was → was.pending ≡ false → was.deleted ≡ false → some_entry (stops k) since ≡ false → dequeue_times k since ≡ 0 → AwaitsCall k (since ++ before)
enqueue_awaits sizes k seat was test since before handle legal made idle alive still none =
    let enqueue : Entry = Enqueue k ToCall seat was in
    let pushed : enqueue_entries k ToCall seat was ≡ Put k seat ∷ (enqueue ∷ []) = ap (λ b. cond b (enqueue ∷ []) (Put k seat ∷ (enqueue ∷ []))) idle in
    let two = two_of_by test (Put k seat) enqueue [] since (made ∙ pushed) in
    let whole : since ++ before ≡ two.since ++ (enqueue ∷ (two.before ++ before)) = ap (λ l. l ++ before) two.is ∙ append_assoc two.since (enqueue ∷ two.before) before in
    let calm = some_entry-parts (stops k) two.since (enqueue ∷ two.before) (subst (λ l. some_entry (stops k) l ≡ false) two.is still) in
    let count : dequeue_times k two.since ≡ 0 = omega (arith, none, ap (dequeue_times k) two.is, dequeue_times-append k two.since (enqueue ∷ two.before)) in
    subst (AwaitsCall k) (sym whole)
    (enqueued_awaits sizes k handle seat was two.since (two.before ++ before) (subst (IsLegal sizes) whole legal) alive calm.0 count (two.has (puts k) (eq-eqb k k refl)))

-- so through a seat that does only what a callback may, as each does between two polls: it dequeues nothing
pub stands_awaits : (k : ℕ) (was : Flags) (a b : Known) → k < a.sizes.handles → a.first ≡ 64 → (stands : AddsOnly (enqueue_entries k ToCall a.first was) a b) → was.pending ≡ false → was.deleted ≡ false → some_entry (stops k) stands.stands.stands.rest ≡ false → AwaitsCall k b.seen
stands_awaits k was a b handle home_is stands idle alive still =
    let s = stands.stands.stands in
    let of_home : entries_of home s.rest ≡ enqueue_entries k ToCall a.first was = ap (λ n. entries_of n s.rest) (sym home_is) ∙ s.just_these in
    let none = none_dequeued k s.rest (ap are_of_callback of_home ∙ enqueue_of_callback k ToCall a.first was) in
    subst (AwaitsCall k) (sym s.longer)
    (enqueue_awaits a.sizes k a.first was (λ n. eqb n a.first) s.rest a.seen handle (subst (IsLegal a.sizes) s.longer s.legal) s.just_these idle alive still none)

-- What a callback enqueued anew awaits its call at the end of the poll, unless somebody canceled or deleted it: the next poll calls it.
pub callback_awaits : (sizes : Sizes) (before after : History) (log : List Entered) (k : ℕ) (was : Flags) → (serves : PollServes sizes before log after) → k < sizes.handles → IsLegal sizes after → WasMade (enqueue_entries k ToCall 64 was) log → was.pending ≡ false → was.deleted ≡ false → some_entry (stops k) serves.later ≡ false → AwaitsCall k after
callback_awaits sizes before after log k was serves handle legal made idle alive still =
    let at = serves.made (enqueue_entries k ToCall 64 was) made in
    let P : History = Take ∷ (serves.others ++ before) in
    let enqueue : Entry = Enqueue k ToCall 64 was in
    let pushed : enqueue_entries k ToCall 64 was ≡ Put k 64 ∷ (enqueue ∷ []) = ap (λ b. cond b (enqueue ∷ []) (Put k 64 ∷ (enqueue ∷ []))) idle in
    let two = two_of_by (λ n. eqb n home) (Put k 64) enqueue [] at.between (at.just_these ∙ pushed) in
    let split : serves.later ≡ (at.newer ++ two.since) ++ (enqueue ∷ (two.before ++ at.older)) = at.is ∙ ap (λ l. at.newer ++ (l ++ at.older)) two.is ∙ ap (λ l. at.newer ++ l) (append_assoc two.since (enqueue ∷ two.before) at.older) ∙ sym (append_assoc at.newer two.since (enqueue ∷ (two.before ++ at.older))) in
    let none : dequeue_times k (at.newer ++ two.since) ≡ 0 = serves.kept k 64 was (at.newer ++ two.since) (two.before ++ at.older) handle split idle in
    let calm = some_entry-parts (stops k) (at.newer ++ two.since) (enqueue ∷ (two.before ++ at.older)) (subst (λ l. some_entry (stops k) l ≡ false) split still) in
    let whole : after ≡ (at.newer ++ two.since) ++ (enqueue ∷ ((two.before ++ at.older) ++ P)) = serves.seen ∙ ap (λ l. l ++ P) split ∙ append_assoc (at.newer ++ two.since) (enqueue ∷ (two.before ++ at.older)) P in
    subst (AwaitsCall k) (sym whole)
    (enqueued_awaits sizes k handle 64 was (at.newer ++ two.since) ((two.before ++ at.older) ++ P) (subst (IsLegal sizes) whole legal) alive calm.0 none (has_more (puts k) at.newer two.since (two.has (puts k) (eq-eqb k k refl))))
  where
    has_more : (test : Entry → Bool) (xs ys : History) → some_entry test ys ≡ true → some_entry test (xs ++ ys) ≡ true
    has_more test [] ys h = h
    has_more test (e ∷ xs) ys h = or_right (test e) (some_entry test (xs ++ ys)) (has_more test xs ys h)
