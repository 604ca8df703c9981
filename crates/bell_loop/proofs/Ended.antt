-- The end of a run: one poll in which nothing is done, the clearing of each event that is set, and nothing left.
use Rattle.std.proofs.Common.{◌≡◌, ℕ, zero, suc, ◌+◌, ◌<◌, ◌≤◌, Bool, true, false, not, ◌&&◌, cond, eqb, ltb, Some, List, [], ◌∷◌, ◌++◌, length, arith, refl, sym, ap, ◌∙◌, subst, append_assoc}
use Rattle.std.proofs.lemmas.Bool.{false≢true, eqb-true, eq-eqb, ltb-true, ltb-false}
use Rattle.std.specs.List.{AllByRecursion}
use Rattle.table_seats.specs.Seats.{longer_of, everyone}
use Rattle.table_seats.specs.Dividing.{both_numbers}
use Rattle.aio_model.specs.declared.scripts.loop_scripts.ActKind.{ActKind}
use Rattle.aio_model.specs.declared.scripts.loop_scripts.LoopScript.{LoopScript}
use Rattle.aio_model.specs.Scripts.LoopActs.{Waiting}
use Rattle.aio_model.specs.declared.scripts.loop_scripts.Command.TheVariants.{Clear, Poll}
use Rattle.aio_model.specs.declared.scripts.loop_replies.LoopReply.{LoopReply}
use Rattle.aio_model.specs.declared.scripts.loop_replies.LoopReply.TheVariants.{Cleared}
use Rattle.aio_model.specs.Loop.History.{Sizes, Entry, History}
use Rattle.aio_model.specs.Loop.Flags.{is_pending}
use Rattle.aio_model.specs.Loop.Lists.{is_set, seat_of}
use Rattle.aio_model.specs.Loop.Log.{Log, history_of, is_set_in, cleared_log, first_from}
use Rattle.aio_model.specs.Loop.Seats.{Numbers, home, owns, entries_by, entries_of, own_entries}
use Rattle.aio_model.specs.Scripts.LoopReplies.{DoesCommand}
use Rattle.aio_model.proofs.Searches.{first_from-some}
use Rattle.aio_core.specs.Known.{Known, numbers_of}
use Rattle.aio_core.specs.Calls.{first_seat}
use Rattle.aio_core.specs.Words.{index_count}
use Rattle.aio_notify.specs.Settling.{IsWhole, EndsQuiet, FindsPending, FindsSetEvent}
use Rattle.bell_loop.specs.Actions.{AreWithin}
use Rattle.bell_loop.specs.Entering.{acts_at, CanRun}
use Rattle.bell_loop.specs.Running.{Calm, IsAlone, IsScriptOf, OnlyOthers}
use Rattle.bell_loop.specs.Machines.{MachineState, KeepsLog, Answers}
use Rattle.bell_loop.specs.Ending.{without_acts, clearings, clearing, EndsBy, Leads}
use Rattle.bell_loop.proofs.Alone.{alone_parts}
use Rattle.bell_loop.proofs.Scanning.{none_came}

-- Whoever owns all numbers and made all entries, but none by the numbers below the home's, made them by the home's.

fewer_by : (test : ℕ → Bool) (xs : History) → length (entries_by test xs) ≤ length xs
fewer_by test [] = omega arith
fewer_by test (e ∷ xs) = chosen (test (seat_of e)) (fewer_by test xs)
  where
    chosen : (b : Bool) → length (entries_by test xs) ≤ length xs → length (cond b (e ∷ entries_by test xs) (entries_by test xs)) ≤ length (e ∷ xs)
    chosen true h = omega (arith, h)
    chosen false h = omega (arith, h)

abbrev older_of : History → History
older_of [] = []
older_of (e ∷ older) = older

owned_front : (b : Bool) (e : Entry) (es xs : History) → length es ≤ length xs → cond b (e ∷ es) es ≡ e ∷ xs → (b ≡ true) × (es ≡ xs)
owned_front true e es xs few h = (refl, ap older_of h)
owned_front false e es xs few h = let l : length es ≡ length (e ∷ xs) = ap length h in absurd (omega (arith, l, few))

not_owned_front : (b : Bool) (e : Entry) (es : History) → cond b (e ∷ es) es ≡ [] → (b ≡ false) × (es ≡ [])
not_owned_front true e es h = let l : length (e ∷ es) ≡ 0 = ap length h in absurd (omega (arith, l))
not_owned_front false e es h = (refl, h)

abbrev other_numbers : Numbers
other_numbers = record { first = 0; count = 64 }

is_home : (n : ℕ) → owns everyone n ≡ true → owns other_numbers n ≡ false → eqb n home ≡ true
is_home n all others =
    by_bounds (ltb n 0) (ltb n 65) (ltb n 64) refl refl refl all others
  where
    by_bounds : (a b c : Bool) → ltb n 0 ≡ a → ltb n 65 ≡ b → ltb n 64 ≡ c → (not a && b) ≡ true → (not a && c) ≡ false → eqb n home ≡ true
    by_bounds true b c x y z h k = absurd (false≢true h)
    by_bounds false false c x y z h k = absurd (false≢true h)
    by_bounds false true true x y z h k = absurd (false≢true (sym k))
    by_bounds false true false x y z h k =
        let below = ltb-true n 65 y in
        let above = ltb-false n 64 z in
        eq-eqb n home (omega (arith, below, above))

homes_alone : (xs : History) → own_entries everyone xs ≡ xs → own_entries other_numbers xs ≡ [] → IsAlone xs
homes_alone [] all none = refl
homes_alone (e ∷ xs) all none =
    let one = owned_front (owns everyone (seat_of e)) e (own_entries everyone xs) xs (fewer_by (owns everyone) xs) all in
    let two = not_owned_front (owns other_numbers (seat_of e)) e (own_entries other_numbers xs) none in
    let here : eqb (seat_of e) home ≡ true = is_home (seat_of e) one.0 two.0 in
    ap (λ b. cond b (e ∷ entries_of home xs) (entries_of home xs)) here ∙ ap (λ (l : History). e ∷ l) (homes_alone xs one.1 two.1)

none_in : (h : History) → length h ≤ 0 → h ≡ []
none_in [] few = refl
none_in (e ∷ h) few = absurd (omega (arith, few))

longer_is : (h : History) → longer_of [] h ≡ h
longer_is h = by_length (ltb 0 (length h)) refl
  where
    by_length : (b : Bool) → ltb 0 (length h) ≡ b → cond b h [] ≡ h
    by_length true is = refl
    by_length false is = sym (none_in h (ltb-false 0 (length h) is))

pub whole_is : (notifier : Bool) (sizes : Sizes) (seat at_home whole : Known) → seat ≡ first_seat sizes → at_home.first ≡ 64 → at_home.count ≡ 1 → IsWhole notifier seat at_home whole → (whole.seen ≡ at_home.seen) × IsAlone whole.seen
whole_is notifier sizes seat at_home whole new first count is =
    (seen, homes_alone whole.seen all none)
  where
    seen : whole.seen ≡ at_home.seen
    seen =
        ap (λ (k : Known). k.seen) is.loads.rest ∙ ap (λ (k : Known). longer_of k.seen at_home.seen) new ∙ longer_is at_home.seen

    numbers : both_numbers (numbers_of seat) (numbers_of at_home) ≡ everyone
    numbers =
        ap (λ (k : Known). both_numbers (numbers_of k) (numbers_of at_home)) new ∙ ap (λ n. record { first = 0; count = 64 + n }) count

    all : own_entries everyone whole.seen ≡ whole.seen
    all =
        ap (λ n. own_entries n whole.seen) (sym numbers) ∙ ap (λ h. own_entries (both_numbers (numbers_of seat) (numbers_of at_home)) h) (ap (λ (k : Known). k.seen) is.loads.rest) ∙ sym (ap (λ (k : Known). k.mine) is.loads.rest) ∙ is.only

    none : own_entries other_numbers whole.seen ≡ []
    none =
        ap (λ (k : Known). own_entries (numbers_of k) whole.seen) (sym new) ∙ is.parts.made_by_staying ∙ ap (λ (k : Known). k.mine) new

-- What is found pending, or set, contradicts that nothing is.

pub no_first : (test : ℕ → Bool) (count i : ℕ) → ((k : ℕ) → k < count → test k ≡ false) → first_from test 0 count ≡ Some i → ⊥
no_first test count i none found =
    let at = first_from-some test 0 count i found in
    false≢true (sym (none i (omega (arith, at.1))) ∙ at.2)

-- The clearing of events.

abbrev if_set : Bool → ℕ → Log → Log
if_set b e log = cond b (cleared_log e log) log

cleared_one : (b : Bool) (c : ℕ) (log : Log) → is_set_in c log ≡ b → is_set c (history_of (if_set b c log)) ≡ false
cleared_one true c log is = let same : eqb c c ≡ true = eq-eqb c c refl in rw same refl
cleared_one false c log is = is

stays_clear : (b : Bool) (c e : ℕ) (log : Log) → is_set e (history_of log) ≡ false → is_set e (history_of (if_set b c log)) ≡ false
stays_clear true c e log h = by_event (eqb e c)
  where
    by_event : (q : Bool) → cond q false (is_set e (history_of log)) ≡ false
    by_event true = refl
    by_event false = h
stays_clear false c e log h = h

pub cleared_none : (count : ℕ) (log : Log) (e : ℕ) → e < count → is_set e (history_of (clearings count log)) ≡ false
cleared_none zero log e below = absurd (omega (arith, below))
cleared_none (suc c) log e below =
    by_event (eqb e c) refl (λ less. cleared_none c log e less)
  where
    by_event : (q : Bool) → eqb e c ≡ q → (e < c → is_set e (history_of (clearings c log)) ≡ false) → is_set e (history_of (if_set (is_set_in c (clearings c log)) c (clearings c log))) ≡ false
    by_event true same older =
        subst (λ k. is_set k (history_of (if_set (is_set_in c (clearings c log)) c (clearings c log))) ≡ false) (sym (eqb-true e c same)) (cleared_one (is_set_in c (clearings c log)) c (clearings c log) refl)
    by_event false other older =
        let apart : e ≡ c → ⊥ = λ s. false≢true (sym other ∙ eq-eqb e c s) in
        stays_clear (is_set_in c (clearings c log)) c e (clearings c log) (older (omega (arith, below, apart)))

pending_one : (b : Bool) (c i : ℕ) (log : Log) → is_pending i (history_of (if_set b c log)) ≡ is_pending i (history_of log)
pending_one true c i log = refl
pending_one false c i log = refl

pub cleared_pending : (count : ℕ) (log : Log) (i : ℕ) → is_pending i (history_of (clearings count log)) ≡ is_pending i (history_of log)
cleared_pending zero log i = refl
cleared_pending (suc c) log i =
    pending_one (is_set_in c (clearings c log)) c i (clearings c log) ∙ cleared_pending c log i

-- Steps of the machine.

-- a script without commands, whose callbacks do nothing
abbrev bare : Sizes → LoopScript
bare sizes =
    record { handles = sizes.handles; lots = sizes.lots; events = sizes.events; acts = []; commands = [] }

bare_of : (machine : MachineState) → machine.lists ≡ [] → IsScriptOf (bare machine.sizes) machine.sizes (acts_at machine.lists)
bare_of machine none = record { sizes_are = refl; acts_are = λ bh. ap (λ l. acts_at l bh) none }

pub Leads-same : (old new : MachineState) → new ≡ old → Leads (λ log. log) old new
Leads-same old new same = record {
  sizes = ap (λ (m : MachineState). m.sizes) same;
  lists = ap (λ (m : MachineState). m.lists) same;
  between = [];
  longer = ap (λ (m : MachineState). m.seen) same;
  at = λ alone log stands. subst (λ m. KeepsLog m log) (sym same) stands;
}

pub Leads-cleared : (e : ℕ) (was marked : Bool) (old new : MachineState) → old.lists ≡ [] → marked ≡ true → (Answers (Clear e) (Cleared e was) old new) → ((log : Log) → KeepsLog old log → marked ≡ is_set_in e log) → Leads (clearing e) old new
Leads-cleared e was marked old new none on answers is = record {
  sizes = answers.same.0;
  lists = answers.same.1;
  between = answers.between;
  longer = answers.longer;
  at = λ alone log stands.
      let answered = answers.at alone (bare old.sizes) log (bare_of old none) stands in
      let set : is_set_in e log ≡ true = sym (is log stands) ∙ on in
      subst (λ b. KeepsLog new (if_set b e log)) (sym set) (subst (KeepsLog new) answered.does.0 answered.stands);
}

pub Leads-unset : (e : ℕ) (marked : Bool) (old new : MachineState) → new ≡ old → marked ≡ false → ((log : Log) → KeepsLog old log → marked ≡ is_set_in e log) → Leads (clearing e) old new
Leads-unset e marked old new same off is = record {
  sizes = ap (λ (m : MachineState). m.sizes) same;
  lists = ap (λ (m : MachineState). m.lists) same;
  between = [];
  longer = ap (λ (m : MachineState). m.seen) same;
  at = λ alone log stands.
      let unset : is_set_in e log ≡ false = sym (is log stands) ∙ off in
      subst (λ b. KeepsLog new (if_set b e log)) (sym unset) (subst (λ m. KeepsLog m log) (sym same) stands);
}

pub Leads-next : (e : ℕ) (a b c : MachineState) → Leads (clearings e) a b → Leads (clearing e) b c → Leads (clearings (suc e)) a c
Leads-next e a b c first then = record {
  sizes = then.sizes ∙ first.sizes;
  lists = then.lists ∙ first.lists;
  between = then.between ++ first.between;
  longer = then.longer ∙ ap (λ l. then.between ++ l) first.longer ∙ sym (append_assoc then.between first.between a.seen);
  at = λ alone log stands.
      let before : IsAlone b.seen = (alone_parts then.between b.seen (subst IsAlone then.longer alone)).1 in
      then.at alone (clearings e log) (first.at before log stands);
}

-- callbacks without actions can run
pub CanRun-none : (handles : ℕ) (lists : List (List ActKind)) (waiting : Waiting) → lists ≡ [] → waiting ≡ [] → CanRun handles lists waiting
CanRun-none handles lists waiting none nobody = record {
  within = λ bh. subst (λ l. AreWithin handles (acts_at l bh)) (sym none) tt;
  waits = subst (λ w. AllByRecursion (AreWithin handles) w) (sym nobody) tt;
}

-- The whole end.
module _ (reply : LoopReply) (start begun polled cleared : MachineState) (last : History)
    (begins : begun ≡ record start { lists = [] }) (polls : Answers Poll reply begun polled) (quiet : IsAlone polled.seen → Calm begun.seen → (i : ℕ) → is_pending i polled.seen ≡ false)
    (leads : Leads (clearings polled.sizes.events) polled cleared) (others : OnlyOthers cleared.seen last) where
  seen_begun : begun.seen ≡ start.seen
  seen_begun = ap (λ (m : MachineState). m.seen) begins

  sizes_begun : begun.sizes ≡ start.sizes
  sizes_begun = ap (λ (m : MachineState). m.sizes) begins

  lists_begun : begun.lists ≡ []
  lists_begun = ap (λ (m : MachineState). m.lists) begins

  clears : Leads (clearings start.sizes.events) polled cleared
  clears =
      subst (λ n. Leads (clearings n) polled cleared) (ap (λ (z : Sizes). z.events) (polls.same.0 ∙ sizes_begun)) leads

  module _ (alone : IsAlone last) where
    last_is : last ≡ cleared.seen
    last_is = none_came cleared.seen last others alone

    alone_cleared : IsAlone cleared.seen
    alone_cleared = subst IsAlone last_is alone

    alone_polled : IsAlone polled.seen
    alone_polled = (alone_parts clears.between polled.seen (subst IsAlone clears.longer alone_cleared)).1

    module _ (log : Log) (stands : KeepsLog start log) where
      stands_begun : KeepsLog begun log
      stands_begun = subst (λ m. KeepsLog m log) (sym begins) record { history = stands.history; rung = stands.rung; living = stands.living; calm = stands.calm; events = stands.events }

      answered : (after : Log) × DoesCommand (bare begun.sizes) Poll log after reply × KeepsLog polled after
      answered =
          let a = polls.at alone_polled (bare begun.sizes) log (bare_of begun lists_begun) stands_begun in
          (a.after, a.does, a.stands)

      stands_cleared : KeepsLog cleared (clearings start.sizes.events answered.0)
      stands_cleared = clears.at alone_cleared answered.0 answered.2

      last_history : last ≡ history_of (clearings start.sizes.events answered.0)
      last_history = last_is ∙ sym stands_cleared.history

      -- nothing is left
      pub none_pending_left : (i : ℕ) → is_pending i last ≡ false
      none_pending_left i =
          ap (is_pending i) last_history ∙ cleared_pending start.sizes.events answered.0 i ∙ ap (is_pending i) answered.2.history ∙ quiet alone_polled (subst Calm (sym seen_begun) stands.calm) i

      pub none_set_left : (e : ℕ) → e < start.sizes.events → is_set e last ≡ false
      none_set_left e below =
          ap (is_set e) last_history ∙ cleared_none start.sizes.events answered.0 e below

  longer_all : last ≡ (others.between ++ (clears.between ++ polls.between)) ++ start.seen
  longer_all =
      others.longer ∙ ap (λ l. others.between ++ l) (clears.longer ∙ ap (λ l. clears.between ++ l) (polls.longer ∙ ap (λ l. polls.between ++ l) seen_begun) ∙ sym (append_assoc clears.between polls.between start.seen)) ∙ sym (append_assoc others.between (clears.between ++ polls.between) start.seen)

  sizes_cleared : cleared.sizes ≡ start.sizes
  sizes_cleared = clears.sizes ∙ polls.same.0 ∙ sizes_begun

  -- nothing is left, where some log stood for the machine
  module _ (some : IsAlone start.seen → (log : Log) × KeepsLog start log) (alone : IsAlone last) where
    begun_log : (log : Log) × KeepsLog start log
    begun_log =
        some (alone_parts (others.between ++ (clears.between ++ polls.between)) start.seen (subst IsAlone longer_all alone)).1

    pub none_pending : (i : ℕ) → is_pending i last ≡ false
    none_pending i = none_pending_left alone begun_log.0 begun_log.1 i

    pub none_set : (e : ℕ) → e < cleared.sizes.events → is_set e last ≡ false
    none_set e below =
        none_set_left alone begun_log.0 begun_log.1 e (subst (λ (z : Sizes). e < z.events) sizes_cleared below)

  pub EndsBy-of : IsAlone last → EndsBy start last
  EndsBy-of alone = record {
    alone = alone;
    between = others.between ++ (clears.between ++ polls.between);
    longer = longer_all;
    at = λ script log sizes stands.
        let a = polls.at (alone_polled alone) (without_acts script) log record { sizes_are = sizes ∙ sym sizes_begun; acts_are = λ bh. ap (λ l. acts_at l bh) lists_begun } (stands_begun alone log stands) in
        let c = clears.at (alone_cleared alone) a.after a.stands in
        record {
          reply = reply;
          polled = a.after;
          polls = a.does;
          ends = last_is alone ∙ sym c.history ∙ ap (λ z. history_of (clearings z a.after)) (sym (ap (λ (z : Sizes). z.events) sizes));
        };
  }

-- Settling.

pub quiet_end : (sizes : Sizes) (seat at_home end : Known) → seat ≡ first_seat sizes → at_home.first ≡ 64 → at_home.count ≡ 1 → EndsQuiet seat at_home end → (end.seen ≡ at_home.seen) × IsAlone at_home.seen
quiet_end sizes seat at_home end new first count ends =
    let w = whole_is ends.notifier sizes seat at_home ends.whole new first count ends.is_whole in
    (ap (λ (k : Known). k.seen) ends.same ∙ w.0, subst IsAlone w.0 w.1)

pub pending_absurd : (sizes : Sizes) (i : ℕ) (notifier : Bool) (seat at_home seat_after home_after : Known) → seat ≡ first_seat sizes → at_home.first ≡ 64 → at_home.count ≡ 1 → (IsAlone at_home.seen → (k : ℕ) → is_pending k at_home.seen ≡ false) → FindsPending i notifier seat at_home seat_after home_after → ⊥
pending_absurd sizes i notifier seat at_home seat_after home_after new first count none found =
    let w = whole_is notifier sizes seat at_home found.whole new first count found.is_whole in
    no_first (λ k. is_pending k found.whole.seen) (index_count seat.sizes) i (λ k below. ap (is_pending k) w.0 ∙ none (subst IsAlone w.0 w.1) k) found.least

pub event_absurd : (sizes : Sizes) (e : ℕ) (notifier : Bool) (seat at_home seat_after home_after : Known) → seat ≡ first_seat sizes → at_home.first ≡ 64 → at_home.count ≡ 1 → (IsAlone at_home.seen → (k : ℕ) → k < sizes.events → is_set k at_home.seen ≡ false) → FindsSetEvent e notifier seat at_home seat_after home_after → ⊥
event_absurd sizes e notifier seat at_home seat_after home_after new first count none found =
    let w = whole_is notifier sizes seat at_home found.whole new first count found.is_whole in
    let events : seat.sizes.events ≡ sizes.events = ap (λ (k : Known). k.sizes.events) new in
    no_first (λ k. is_set k found.whole.seen) seat.sizes.events e (λ k below. ap (is_set k) w.0 ∙ none (subst IsAlone w.0 w.1) k (omega (arith, below, events))) found.least
