-- The commands of a loop script, from what the steps of home tell.
use Rattle.std.proofs.Common.{◌≡◌, ℕ, zero, suc, ◌≤◌, ◌<◌, ◌+◌, Bool, true, false, ◌||◌, not, ◌&&◌, eqb, ltb, cond, MatchBool, Option, Some, None, List, [], ◌∷◌, length, get_or, set, replicate, get_or-set_same, get_or-set_other, inl, inr, refl, sym, ap, ◌∙◌, subst}
use Rattle.std.proofs.lemmas.Bool.{false≢true, eqb-true, eq-eqb, ltb-true, ltb-false}
use Rattle.aio_model.specs.declared.loops.commits.Commit as commit
use Rattle.aio_model.specs.declared.loops.flags.Flags.{Flags}
use Rattle.aio_model.specs.declared.loops.kinds.Kind as asking
use Rattle.aio_model.specs.declared.loops.kinds.Kind.TheVariants.{Sched, Idle as IdleKind, Del}
use Rattle.aio_model.specs.declared.scripts.loop_scripts.ActKind.{ActKind}
use Rattle.aio_model.specs.declared.scripts.loop_scripts.Command.{Command}
use Rattle.aio_model.specs.declared.scripts.loop_scripts.Command.TheVariants.{Cancel, Set, Clear, Once, Poll, Commit}
use Rattle.aio_model.specs.declared.scripts.loop_scripts.LoopScript.{LoopScript}
use Rattle.aio_model.specs.declared.scripts.loop_replies.LoopReply.{LoopReply}
use Rattle.aio_model.specs.declared.scripts.loop_replies.LoopReply.TheVariants.{Flagged, Placed, WasSet, Cleared, Committed}
use Rattle.aio_model.specs.Loop.History.{Sizes, EnqueueAsks, ToCallOnce, New, Put, SetEvent, ClearEvent, History}
use Rattle.aio_model.specs.Loop.Flags.{is_lot, is_pending, lives}
use Rattle.aio_model.specs.Loop.Lists.{is_set}
use Rattle.aio_model.specs.Loop.Log.{Made, Log, history_of, is_rung, flags_before, asked_log, enqueued_log, canceled_log, set_log, cleared_log, is_set_in, begun_log, first_from, commit_from, committed_log}
use Rattle.aio_model.specs.Loop.Seats.{home}
use Rattle.aio_model.specs.Scripts.LoopReplies.{DoesCommand, sizes_of}
use Rattle.aio_core.specs.Standing.{asks_of_kind}
use Rattle.bell_loop.specs.Running as one
use Rattle.bell_loop.specs.Entering.{acts_at}
use Rattle.bell_loop.specs.Running.{Calm, Finds, IsAlone, GoesTo, OnlyOthers, PlacesTag, living_in}
use Rattle.bell_loop.specs.Machines.{MachineState, Answers, IsNew, enqueue_command}
use Rattle.bell_loop.proofs.Counting.{all_counted, none_counted, same_counted}
use Rattle.bell_loop.proofs.Logs.{enqueued_rings}
use Rattle.bell_loop.proofs.Scanning.{none_came, others-then}
use Rattle.aio_model.proofs.Searches.{first_from-agree}

-- these are the events that are set
abbrev Marked : List Bool → History → Type 0
Marked marks h = (e : ℕ) → get_or marks e false ≡ is_set e h

Answers-goes : (command : Command) (reply : LoopReply) (moves : Log → Log) (Told : Log → Type 0) (old new : MachineState) → new.sizes ≡ old.sizes → new.lists ≡ old.lists → new.living ≡ old.living → GoesTo moves Told old.seen new.seen → ((log : Log) (i : ℕ) → lives i (history_of (moves log)) ≡ lives i (history_of log)) → ((log : Log) → old.rang ≡ is_rung log → new.rang ≡ is_rung (moves log)) → ((log : Log) → Marked old.marks (history_of log) → Marked new.marks (history_of (moves log))) → ((script : LoopScript) (log : Log) → Told log → DoesCommand script command log (moves log) reply) → Answers command reply old new
Answers-goes command reply moves Told old new sizes lists living goes lives_same rung marked does = record {
  same = (sizes, lists);
  between = goes.between;
  longer = goes.longer;
  at = λ alone script log of stands.
      let moved = goes.at alone log stands.history in
      let each : (i : ℕ) → lives i new.seen ≡ lives i old.seen = λ i. ap (lives i) (sym moved.0) ∙ lives_same log i ∙ ap (lives i) stands.history in
      record {
        after = moves log;
        does = does script log moved.1;
        stands = record {
          history = moved.0;
          rung = rung log stands.rung;
          living = living ∙ stands.living ∙ sym (same_counted (λ i. lives i old.seen) (λ i. lives i new.seen) old.sizes.handles old.sizes.lots (λ i above. each i)) ∙ ap (λ s. living_in s new.seen) (sym sizes);
          calm = goes.calm alone stands.calm;
          events = subst (Marked new.marks) moved.0 (marked log (subst (Marked old.marks) (sym stands.history) stands.events));
        };
      };
}

enqueued_lives : (k : ℕ) (asked : EnqueueAsks) (log : Log) (i : ℕ) → lives i (history_of (enqueued_log k asked home log)) ≡ lives i (history_of log)
enqueued_lives k asked log i =
    elim (is_pending k (history_of log)) as (λ b. lives i (history_of (cond b (asked_log k asked home log) (Made (Put k home) ∷ asked_log k asked home log))) ≡ lives i (history_of log)) [ true ↦ refl | false ↦ refl ]

enqueued_marked : (k : ℕ) (asked : EnqueueAsks) (marks : List Bool) (log : Log) → Marked marks (history_of log) → Marked marks (history_of (enqueued_log k asked home log))
enqueued_marked k asked marks log marked e =
    marked e ∙ elim (is_pending k (history_of log)) as (λ b. is_set e (history_of log) ≡ is_set e (history_of (cond b (asked_log k asked home log) (Made (Put k home) ∷ asked_log k asked home log)))) [ true ↦ refl | false ↦ refl ]

-- the same marks
stay_marked : (old new : MachineState) (h : History) → new.marks ≡ old.marks → Marked old.marks h → Marked new.marks h
stay_marked old new h same marked =
    subst (λ m. Marked m h) (sym same) marked

set_marked : (event : ℕ) (marks : List Bool) (h : History) → event < length marks → Marked marks h → Marked (set marks event true) (SetEvent event home ∷ h)
set_marked event marks h below marked e = by_event (eqb e event) refl
  where
    by_event : (b : Bool) → eqb e event ≡ b → get_or (set marks event true) e false ≡ (b || is_set e h)
    by_event true same = ap (λ k. get_or (set marks event true) k false) (eqb-true e event same) ∙ get_or-set_same marks event true false below
    by_event false other = get_or-set_other marks event e true false (λ same. false≢true (sym other ∙ eq-eqb e event same)) ∙ marked e

clear_marked : (event : ℕ) (was : Bool) (marks : List Bool) (h : History) → event < length marks → Marked marks h → Marked (set marks event false) (ClearEvent event was ∷ h)
clear_marked event was marks h below marked e = by_event (eqb e event) refl
  where
    by_event : (b : Bool) → eqb e event ≡ b → get_or (set marks event false) e false ≡ cond b false (is_set e h)
    by_event true same = ap (λ k. get_or (set marks event false) k false) (eqb-true e event same) ∙ get_or-set_same marks event false false below
    by_event false other = get_or-set_other marks event e false false (λ same. false≢true (sym other ∙ eq-eqb e event same)) ∙ marked e

does_enqueue : (kind : asking.Kind) (i : ℕ) (was : Flags) (script : LoopScript) (log : Log) → was ≡ flags_before i log → DoesCommand script (enqueue_command kind i) log (enqueued_log i (asks_of_kind kind) home log) (Flagged (enqueue_command kind i) was)
does_enqueue Sched i was script log told = (64, refl, ap (Flagged (enqueue_command Sched i)) told)
does_enqueue IdleKind i was script log told = (64, refl, ap (Flagged (enqueue_command IdleKind i)) told)
does_enqueue Del i was script log told = (64, refl, ap (Flagged (enqueue_command Del i)) told)

pub Answers-enqueue : (kind : asking.Kind) (i : ℕ) (was : Flags) (old new : MachineState) → new ≡ record old { seen = new.seen; rang = true } → GoesTo (enqueued_log i (asks_of_kind kind) home) (λ log. was ≡ flags_before i log) old.seen new.seen → Answers (enqueue_command kind i) (Flagged (enqueue_command kind i) was) old new
Answers-enqueue kind i was old new rest goes =
    Answers-goes (enqueue_command kind i) (Flagged (enqueue_command kind i) was) (enqueued_log i (asks_of_kind kind) home) (λ log. was ≡ flags_before i log) old new
    (ap (λ (m : MachineState). m.sizes) rest) (ap (λ (m : MachineState). m.lists) rest) (ap (λ (m : MachineState). m.living) rest) goes (enqueued_lives i (asks_of_kind kind))
    (λ log rung. ap (λ (m : MachineState). m.rang) rest ∙ sym (enqueued_rings i (asks_of_kind kind) home log)) (λ log marked. stay_marked old new (history_of (enqueued_log i (asks_of_kind kind) home log)) (ap (λ (m : MachineState). m.marks) rest) (enqueued_marked i (asks_of_kind kind) old.marks log marked)) (does_enqueue kind i was)

pub Answers-cancel : (i : ℕ) (was : Flags) (old new : MachineState) → new ≡ record old { seen = new.seen } → GoesTo (canceled_log i home) (λ log. was ≡ flags_before i log) old.seen new.seen → Answers (Cancel i) (Flagged (Cancel i) was) old new
Answers-cancel i was old new rest goes =
    Answers-goes (Cancel i) (Flagged (Cancel i) was) (canceled_log i home) (λ log. was ≡ flags_before i log) old new
    (ap (λ (m : MachineState). m.sizes) rest) (ap (λ (m : MachineState). m.lists) rest) (ap (λ (m : MachineState). m.living) rest) goes (λ log k. refl)
    (λ log rung. ap (λ (m : MachineState). m.rang) rest ∙ rung) (λ log marked. stay_marked old new (history_of log) (ap (λ (m : MachineState). m.marks) rest) marked) (λ script log told. (64, refl, ap (Flagged (Cancel i)) told))

pub Answers-set : (e : ℕ) (old new : MachineState) → new ≡ record old { seen = new.seen; rang = true; marks = set old.marks e true } → e < length old.marks → GoesTo (set_log e home) (λ _. Unit {0}) old.seen new.seen → Answers (Set e) (WasSet e) old new
Answers-set e old new rest below goes =
    Answers-goes (Set e) (WasSet e) (set_log e home) (λ _. Unit {0}) old new
    (ap (λ (m : MachineState). m.sizes) rest) (ap (λ (m : MachineState). m.lists) rest) (ap (λ (m : MachineState). m.living) rest) goes (λ log k. refl)
    (λ log rung. ap (λ (m : MachineState). m.rang) rest) (λ log marked. subst (λ m. Marked m (SetEvent e home ∷ history_of log)) (sym (ap (λ (m : MachineState). m.marks) rest)) (set_marked e old.marks (history_of log) below marked)) (λ script log told. (64, refl, refl))

pub Answers-clear : (e : ℕ) (was : Bool) (old new : MachineState) → new ≡ record old { seen = new.seen; marks = set old.marks e false } → e < length old.marks → GoesTo (cleared_log e) (λ log. was ≡ is_set_in e log) old.seen new.seen → Answers (Clear e) (Cleared e was) old new
Answers-clear e was old new rest below goes =
    Answers-goes (Clear e) (Cleared e was) (cleared_log e) (λ log. was ≡ is_set_in e log) old new
    (ap (λ (m : MachineState). m.sizes) rest) (ap (λ (m : MachineState). m.lists) rest) (ap (λ (m : MachineState). m.living) rest) goes (λ log k. refl)
    (λ log rung. ap (λ (m : MachineState). m.rang) rest ∙ rung) (λ log marked. subst (λ m. Marked m (ClearEvent e (is_set_in e log) ∷ history_of log)) (sym (ap (λ (m : MachineState). m.marks) rest)) (clear_marked e (is_set_in e log) old.marks (history_of log) below marked)) (λ script log told. (refl, ap (Cleared e) told))

in_lots : (sizes : Sizes) (lot : ℕ) → is_lot sizes lot ≡ true → (sizes.handles ≤ lot) × (lot < sizes.handles + sizes.lots)
in_lots sizes lot is = within (ltb lot sizes.handles) (ltb lot (sizes.handles + sizes.lots)) refl refl is
  where
    within : (a b : Bool) → ltb lot sizes.handles ≡ a → ltb lot (sizes.handles + sizes.lots) ≡ b → (not a && b) ≡ true → (sizes.handles ≤ lot) × (lot < sizes.handles + sizes.lots)
    within true b x y h = absurd (false≢true h)
    within false true x y h = (ltb-false lot sizes.handles x, ltb-true lot (sizes.handles + sizes.lots) y)
    within false false x y h = absurd (false≢true h)

or_placed : (a : Bool) → (a || true) ≡ true
or_placed true = refl
or_placed false = refl

or_not : (a : Bool) → (a || false) ≡ a
or_not true = refl
or_not false = refl

pub Answers-once : (tag : ℕ) (placed : Bool) (old new : MachineState) → new ≡ record old { seen = new.seen; rang = old.rang || placed; living = new.living } → MatchBool placed (PlacesTag old.sizes tag old.living new.living old.seen new.seen) ((new.living ≡ old.living) × (new.seen ≡ old.seen) × (old.living ≡ old.sizes.lots)) → Answers (Once tag) (Placed tag placed) old new
Answers-once tag true old new rest places = record {
  same = (ap (λ (m : MachineState). m.sizes) rest, ap (λ (m : MachineState). m.lists) rest);
  between = places.goes.between;
  longer = places.goes.longer;
  at = λ alone script log of stands.
      let moved = places.goes.at alone log stands.history in
      record {
        after = begun_log places.lot home tag log;
        does = inl (places.lot, 64, subst (λ z. is_lot z places.lot ≡ true) (sym of.sizes_are) moved.1.0, moved.1.1, refl, refl);
        stands = record {
          history = moved.0;
          rung = ap (λ (m : MachineState). m.rang) rest ∙ or_placed old.rang ∙ sym (enqueued_rings places.lot ToCallOnce home (Made (New places.lot home tag) ∷ log));
          living = places.counts alone stands.living ∙ ap (λ s. living_in s new.seen) (sym (ap (λ (m : MachineState). m.sizes) rest));
          calm = places.goes.calm alone stands.calm;
          events = subst (Marked new.marks) moved.0 (stay_marked old new (history_of (begun_log places.lot home tag log)) (ap (λ (m : MachineState). m.marks) rest) (enqueued_marked places.lot ToCallOnce old.marks (Made (New places.lot home tag) ∷ log) (subst (Marked old.marks) (sym stands.history) stands.events)));
        };
      };
}
Answers-once tag false old new rest none = record {
  same = (ap (λ (m : MachineState). m.sizes) rest, ap (λ (m : MachineState). m.lists) rest);
  between = [];
  longer = none.1;
  at = λ alone script log of stands.
      let full : living_in old.sizes old.seen ≡ old.sizes.lots = sym stands.living ∙ none.2 in
      let sizes : new.sizes ≡ old.sizes = ap (λ (m : MachineState). m.sizes) rest in
      record {
        after = log;
        does = inr (
          λ lot is.
              let bounds = in_lots old.sizes lot (subst (λ z. is_lot z lot ≡ true) of.sizes_are is) in
              ap (lives lot) stands.history ∙ all_counted (λ i. lives i old.seen) old.sizes.handles old.sizes.lots full lot bounds.0 bounds.1,
          refl,
          refl,
        );
        stands = record {
          history = stands.history ∙ sym none.1;
          rung = ap (λ (m : MachineState). m.rang) rest ∙ or_not old.rang ∙ stands.rung;
          living = none.0 ∙ stands.living ∙ ap (λ s. living_in old.sizes s) (sym none.1) ∙ ap (λ z. living_in z new.seen) (sym sizes);
          calm = subst Calm (sym none.1) stands.calm;
          events = subst (Marked new.marks) (sym none.1) (stay_marked old new old.seen (ap (λ (m : MachineState). m.marks) rest) stands.events);
        };
      };
}

pub Answers-poll : (reply : LoopReply) (old new : MachineState) → new ≡ record old { seen = new.seen; rang = new.rang; living = 0 } → one.AnswersSeen old.sizes (acts_at old.lists) Poll reply old.rang new.rang old.seen new.seen → (IsAlone new.seen → Calm old.seen → (i : ℕ) → lives i new.seen ≡ false) → (IsAlone new.seen → (e : ℕ) → is_set e new.seen ≡ is_set e old.seen) → Answers Poll reply old new
Answers-poll reply old new rest answers none events = record {
  same = (ap (λ (m : MachineState). m.sizes) rest, ap (λ (m : MachineState). m.lists) rest);
  between = answers.between;
  longer = answers.longer;
  at = λ alone script log of stands.
      let answered = answers.at alone script log of record { history = stands.history; rung = stands.rung; calm = stands.calm } in
      record {
        after = answered.after;
        does = answered.does;
        stands = record {
          history = answered.stands.history;
          rung = answered.stands.rung;
          living = ap (λ (m : MachineState). m.living) rest ∙ sym (none_counted (λ i. lives i new.seen) new.sizes.handles new.sizes.lots (none alone stands.calm));
          calm = answered.stands.calm;
          events = λ e. stay_marked old new old.seen (ap (λ (m : MachineState). m.marks) rest) stands.events e ∙ sym (events alone e);
        };
      };
}

-- a commit, by what its scan found
pub Answers-commit : (answer : commit.Commit) (urgent : Option ℕ) (idle : Bool) (mid : History) (old new : MachineState) → new ≡ record old { seen = new.seen; rang = false } → OnlyOthers old.seen mid → OnlyOthers mid new.seen → (IsAlone mid → Calm old.seen → Finds old.sizes urgent idle mid) → length old.marks ≡ old.sizes.events → answer ≡ commit_from urgent (first_from (λ e. get_or old.marks e false) 0 (length old.marks)) old.rang idle → Answers Commit (Committed answer) old new
Answers-commit answer urgent idle mid old new rest looked slept finds count is = record {
  same = (ap (λ (m : MachineState). m.sizes) rest, ap (λ (m : MachineState). m.lists) rest);
  between = both.between;
  longer = both.longer;
  at = λ alone script log of stands.
      let none : new.seen ≡ mid = none_came mid new.seen slept alone in
      let alone_mid : IsAlone mid = subst IsAlone none alone in
      let mid_is : mid ≡ old.seen = none_came old.seen mid looked alone_mid in
      let seen_is : new.seen ≡ old.seen = none ∙ mid_is in
      let log_is : mid ≡ history_of log = mid_is ∙ sym stands.history in
      let found : Finds (sizes_of script) urgent idle (history_of log) = subst (λ z. Finds z urgent idle (history_of log)) (sym of.sizes_are) (subst (Finds old.sizes urgent idle) log_is (finds alone_mid stands.calm)) in
      let marked : first_from (λ e. get_or old.marks e false) 0 (length old.marks) ≡ first_from (λ e. is_set e (history_of log)) 0 (sizes_of script).events =
      ap (first_from (λ e. get_or old.marks e false) 0) (count ∙ ap (λ (z : Sizes). z.events) (sym of.sizes_are)) ∙ first_from-agree (λ e. get_or old.marks e false) (λ e. is_set e (history_of log)) (λ e. stands.events e ∙ ap (is_set e) (sym stands.history)) 0 (sizes_of script).events in
      record {
        after = committed_log log;
        does = (refl, ap Committed (is ∙ ap (λ s. commit_from urgent s old.rang idle) marked ∙ ap (λ r. commit_from urgent (first_from (λ e. is_set e (history_of log)) 0 (sizes_of script).events) r idle) stands.rung ∙ by_found urgent (first_from (λ e. is_set e (history_of log)) 0 (sizes_of script).events) (is_rung log) idle _ _ found.newest found.due));
        stands = record {
          history = stands.history ∙ sym seen_is;
          rung = ap (λ (m : MachineState). m.rang) rest;
          living = ap (λ (m : MachineState). m.living) rest ∙ stands.living ∙ ap (living_in old.sizes) (sym seen_is) ∙ ap (λ z. living_in z new.seen) (sym (ap (λ (m : MachineState). m.sizes) rest));
          calm = subst Calm (sym seen_is) stands.calm;
          events = λ e. stay_marked old new old.seen (ap (λ (m : MachineState). m.marks) rest) stands.events e ∙ ap (is_set e) (sym seen_is);
        };
      };
}
  where
    both : OnlyOthers old.seen new.seen
    both = others-then old.seen mid new.seen looked slept

    -- whether something is due matters only where nothing is urgent
    by_found : (u : Option ℕ) (event : Option ℕ) (rung idle : Bool) (newest : Option ℕ) (due : Bool) → u ≡ newest → (u ≡ None → idle ≡ due) → commit_from u event rung idle ≡ commit_from newest event rung due
    by_found None event rung idle newest due same is = ap (commit_from None event rung) (is refl) ∙ ap (λ o. commit_from o event rung due) same
    by_found (Some i) event rung idle newest due same is = ap (λ o. commit_from o event rung due) same

none_marked : (n e : ℕ) → get_or (replicate n false) e false ≡ false
none_marked zero e = refl
none_marked (suc n) zero = refl
none_marked (suc n) (suc e) = none_marked n e

pub IsNew-of : (sizes : Sizes) (lists : List (List ActKind)) (machine : MachineState) → machine.sizes ≡ sizes → machine.lists ≡ lists → machine.seen ≡ [] → machine.rang ≡ false → machine.living ≡ 0 → machine.marks ≡ replicate sizes.events false → IsNew sizes lists machine
IsNew-of sizes lists machine same_sizes same_lists nothing quiet none marks = record {
  sizes_are = same_sizes;
  lists_are = same_lists;
  empty = record {
    history = sym nothing;
    rung = quiet;
    living = none ∙ sym (none_counted (λ i. lives i machine.seen) machine.sizes.handles machine.sizes.lots (λ i. ap (lives i) nothing));
    calm = subst Calm (sym nothing) record { announced = λ i. refl; none_out = refl; lots = λ i alive. absurd (false≢true alive) };
    events = λ e. ap (λ m. get_or m e false) marks ∙ none_marked sizes.events e ∙ ap (is_set e) (sym nothing);
  };
}
