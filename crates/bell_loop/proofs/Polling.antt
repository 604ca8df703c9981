-- A poll over the callbacks of a loop script, where home alone makes the history, is the poll of the script.
use Rattle.std.proofs.Common.{◌≡◌, ℕ, ◌-◌, Bool, true, false, ◌||◌, cond, MatchBool, Option, None, Some, List, [], ◌∷◌, ◌++◌, length, map, take, arith, refl, sym, ◌∙◌, ap, subst}
use Rattle.std.proofs.lemmas.List.{append-nil, append_cancel_right, map-append}
use Rattle.aio_model.specs.declared.scripts.loop_scripts.ActKind.{ActKind}
use Rattle.aio_model.specs.declared.scripts.loop_scripts.LoopScript.{LoopScript}
use Rattle.aio_model.specs.declared.scripts.loop_replies.LoopReply.TheVariants.{Ran}
use Rattle.aio_model.specs.declared.scripts.loop_scripts.Command.TheVariants.{Poll}
use Rattle.aio_model.specs.Loop.History.{Sizes, History}
use Rattle.aio_model.specs.Loop.Legal.{IsLegal}
use Rattle.aio_model.specs.Loop.Log.{Log, history_of, is_rung, rings}
use Rattle.aio_model.specs.Loop.Frame.{Lent, Entered, PollPlace, Frame, DoesEntries, start_of, called_of, cut_nests_of}
use Rattle.aio_model.specs.Scripts.LoopActs.{Waiting, DoesActs, acts_called, acts_of}
use Rattle.aio_model.specs.Scripts.LoopReplies.{PollsInScript, made_log, named_most, called_as, sizes_of}
use Rattle.aio_core.specs.Known.{Known}
use Rattle.aio_bh.specs.declared.polled.Polled.{Polled}
use Rattle.aio_bh.specs.Polling.{Polls}
use Rattle.bell_loop.specs.Actions.{some_rings}
use Rattle.bell_loop.specs.Entering.{DoesEntry, NamesCalled, BellNotes}
use Rattle.aio_core.specs.Known.{is_running}
use Rattle.aio_core.specs.Calls.{TableState, SeatState, IsSeatOf}
use Rattle.bell_loop.specs.Running.{IsAlone, any_rings, AnswersSeen, Calm, Idles, StackBelow}
use Rattle.aio_model.specs.Loop.Flags.{lives, is_pending}
use Rattle.aio_model.specs.Loop.Lists.{out_of, stack_of, is_set}
use Rattle.bell_loop.proofs.Holding.{Holds-frame, Below-frame, Empty-frame, none_lives, none_pends}
use Rattle.bell_loop.proofs.Nothing.{runs_none}
use Rattle.bell_loop.proofs.Alone.{alone_parts, Grown-frame}
use Rattle.bell_loop.proofs.Depths.{Keeps, Keeps-frame}
use Rattle.bell_loop.proofs.Entries.{or_assoc}
use Rattle.bell_loop.proofs.Logs.{history_of-made}
use Rattle.aio_model.specs.Counts.{counted}

other_acts : (f g : ℕ → List ActKind) → ((bh : ℕ) → f bh ≡ g bh) → (bh : ℕ) (job : Option ℕ) → acts_called f bh job ≡ acts_called g bh job
other_acts f g agree bh None = agree bh
other_acts f g agree bh (Some job) = refl

finds_other : (f g : ℕ → List ActKind) → ((bh : ℕ) → f bh ≡ g bh) → (bh : ℕ) (job : Option ℕ) (first : Bool) (todo : List ActKind) (below before : Waiting) → MatchBool first ((todo ≡ acts_called f bh job) × (below ≡ before)) (before ≡ todo ∷ below) → MatchBool first ((todo ≡ acts_called g bh job) × (below ≡ before)) (before ≡ todo ∷ below)
finds_other f g agree bh job true todo below before h = (h.0 ∙ other_acts f g agree bh job, h.1)
finds_other f g agree bh job false todo below before h = h

does_other : (f g : ℕ → List ActKind) → ((bh : ℕ) → f bh ≡ g bh) → (before : Waiting) (entered : Entered) (after : Waiting) → DoesActs f before entered after → DoesActs g before entered after
does_other f g agree before entered after d = record {
  todo = d.todo;
  below = d.below;
  finds = finds_other f g agree entered.lent.bh entered.lent.job entered.lent.first d.todo d.below before d.finds;
  adds = d.adds;
  answers = d.answers;
  leaves = d.leaves;
}

runs_other : (f g : ℕ → List ActKind) → ((bh : ℕ) → f bh ≡ g bh) → (before : Waiting) (log : List Entered) (after : Waiting) → DoesEntries (DoesActs f) before log after → DoesEntries (DoesActs g) before log after
runs_other f g agree before [] after runs = runs
runs_other f g agree before (e ∷ older) after runs =
    (runs.0, runs_other f g agree before older runs.0 runs.1, does_other f g agree runs.0 e after runs.2)

-- what is kept of a runner, whose lists stay
pub runs_noted : {R L : Type 0} (lists_in : R → L) (acts_in : L → ℕ → List ActKind) (noted_in : R → BellNotes) (a : R) (log : List Entered) (b : R)
    → DoesEntries (λ before entered after. (lists_in after ≡ lists_in before) × DoesEntry (acts_in (lists_in before)) (noted_in before) entered (noted_in after)) a log b → (lists_in b ≡ lists_in a) × DoesEntries (DoesEntry (acts_in (lists_in a))) (noted_in a) log (noted_in b)
runs_noted lists_in acts_in noted_in a [] b runs = (ap lists_in runs, ap noted_in runs)
runs_noted lists_in acts_in noted_in a (e ∷ older) b runs =
    let before = runs_noted lists_in acts_in noted_in a older runs.0 runs.1 in
    (runs.2.0 ∙ before.0, (noted_in runs.0, before.1, subst (λ l. DoesEntry (acts_in l) (noted_in runs.0) e (noted_in b)) before.0 runs.2.1))

called_more : (first : Bool) (lent : Lent) (older : List Entered) → cond first (map called_as (called_of older) ++ called_as lent ∷ []) (map called_as (called_of older)) ≡ map called_as (cond first (called_of older ++ lent ∷ []) (called_of older))
called_more true lent older = sym (map-append called_as (called_of older) (lent ∷ []))
called_more false lent older = refl

-- who was called is named
pub names_of : (acts : ℕ → List ActKind) (n : BellNotes) (log : List Entered) (n' : BellNotes) → NamesCalled n.ran n.more [] → DoesEntries (DoesEntry acts) n log n' → NamesCalled n'.ran n'.more (map called_as (called_of log))
names_of acts n [] n' names same =
    subst (λ (k : BellNotes). NamesCalled k.ran k.more []) (sym same) names
names_of acts n (e ∷ older) n' names runs =
    subst (NamesCalled n'.ran n'.more) (called_more e.lent.first e.lent older) (runs.2.names (map called_as (called_of older)) (names_of acts n older runs.0 names runs.1))

-- whether some action notified
pub rang_of : (acts : ℕ → List ActKind) (n : BellNotes) (log : List Entered) (n' : BellNotes) → DoesEntries (DoesEntry acts) n log n' → n'.rang ≡ (n.rang || any_rings log)
rang_of acts n [] n' same = ap (λ (k : BellNotes). k.rang) same ∙ or_false n.rang
  where
    or_false : (b : Bool) → b ≡ (b || false)
    or_false true = refl
    or_false false = refl
rang_of acts n (e ∷ older) n' runs =
    runs.2.rang ∙ ap (λ b. b || some_rings e.made) (rang_of acts n older runs.0 runs.1) ∙ or_assoc n.rang (any_rings older) (some_rings e.made)

rung_made : (added : History) (log : Log) → is_rung (made_log added log) ≡ (is_rung log || some_rings added)
rung_made [] log = or_false (is_rung log)
  where
    or_false : (b : Bool) → b ≡ (b || false)
    or_false true = refl
    or_false false = refl
rung_made (e ∷ older) log =
    ap (λ b. rings e || b) (rung_made older log) ∙ turned (rings e) (is_rung log) (some_rings older)
  where
    turned : (a b c : Bool) → (a || (b || c)) ≡ (b || (a || c))
    turned true true c = refl
    turned true false c = refl
    turned false b c = refl

-- what the home's poll and its callbacks tell
module _ (acts : ℕ → List ActKind) (n n' : BellNotes) (polled : Polled) (a b : Known) (end : PollPlace) (between : History)
    (frame : Frame a.sizes 8 (start_of a.seen) end) (seen : b.seen ≡ end.seen) (runs : DoesEntries (DoesEntry acts) n end.log n')
    (progress : polled.progress ≡ end.progress) (cut : polled.cut_nests ≡ counted (cut_nests_of end.log))
    (longer : b.seen ≡ between ++ a.seen) (legal : IsLegal a.sizes b.seen) (none_waits : n.waiting ≡ []) where
  kept : Keeps acts a.sizes 8 (start_of a.seen) end
  kept = Keeps-frame acts a.sizes 8 (start_of a.seen) end frame

  more_is : end.log ≡ kept.more
  more_is = kept.longer ∙ append-nil kept.more

  ran : DoesEntries (DoesActs acts) n.waiting kept.more n'.waiting × (n'.waiting ≡ n.waiting)
  ran = kept.runs n n' (subst (λ l. DoesEntries (DoesEntry acts) n l n') more_is runs) (let e : length n.waiting ≡ 0 = ap length none_waits in omega (arith, e))

  -- nothing waits again
  pub none_waits_after : n'.waiting ≡ []
  none_waits_after = ran.1 ∙ none_waits

  pub acted : DoesEntries (DoesActs acts) [] end.log []
  acted =
      subst (λ l. DoesEntries (DoesActs acts) [] l []) (sym more_is) (subst (λ w. DoesEntries (DoesActs acts) w kept.more []) none_waits (subst (λ w. DoesEntries (DoesActs acts) n.waiting kept.more w) none_waits_after ran.0))

  pub rung_after : IsAlone b.seen → (log : Log) → n.rang ≡ is_rung log → n'.rang ≡ is_rung (made_log between log)
  rung_after alone log rung =
      let grown = Grown-frame a.sizes 8 (start_of a.seen) end frame in
      let log_is : end.log ≡ grown.more = grown.longer ∙ append-nil grown.more in
      let same : grown.added ++ a.seen ≡ between ++ a.seen = sym grown.seen ∙ sym seen ∙ longer in
      let added_is : grown.added ≡ between = append_cancel_right grown.added between a.seen same in
      rang_of acts n end.log n' runs ∙ ap (λ r. r || any_rings end.log) rung ∙ ap (λ l. is_rung log || any_rings l) log_is
      ∙ ap (λ r. is_rung log || r) (sym (grown.rings (subst IsAlone seen alone)) ∙ ap some_rings added_is) ∙ sym (rung_made between log)

  -- nothing is announced, and each lot that lives is pending; none does
  pub calm_after : IsAlone b.seen → out_of b.seen ≡ [] → Calm a.seen → Calm b.seen
  calm_after alone none calm =
      let held = Holds-frame acts a.sizes 8 (λ _. ⊥) (start_of a.seen) end frame in
      let log_is : end.log ≡ held.more = held.longer ∙ append-nil held.more in
      let kept = held.runs (subst IsAlone seen alone) (subst (IsLegal a.sizes) seen legal) [] [] (subst (λ l. DoesEntries (DoesActs acts) [] l []) log_is acted) in
      subst Calm (sym seen) record { announced = kept.0 calm.announced; none_out = ap out_of (sym seen) ∙ none; lots = kept.1 calm.lots }

  -- no event is set or cleared
  pub events_after : IsAlone b.seen → (e : ℕ) → is_set e b.seen ≡ is_set e a.seen
  events_after alone e =
      let held = Holds-frame acts a.sizes 8 (λ _. ⊥) (start_of a.seen) end frame in
      let log_is : end.log ≡ held.more = held.longer ∙ append-nil held.more in
      let kept = held.runs (subst IsAlone seen alone) (subst (IsLegal a.sizes) seen legal) [] [] (subst (λ l. DoesEntries (DoesActs acts) [] l []) log_is acted) in
      ap (is_set e) seen ∙ kept.3 e

  pub none_lives_after : IsAlone b.seen → Calm a.seen → out_of b.seen ≡ [] → (i : ℕ) → lives i b.seen ≡ false
  none_lives_after alone calm none =
      let after = calm_after alone none calm in
      let below = Below-frame acts a.sizes 7 (start_of a.seen) end frame [] [] end.log (sym (append-nil end.log)) acted (subst IsAlone seen alone) (subst (IsLegal a.sizes) seen legal) in
      none_lives a.sizes b.seen legal after.announced after.lots (subst (StackBelow a.sizes) (sym seen) below) none

  -- where callbacks do nothing, nothing is pending afterwards
  pub none_pending_after : ((bh : ℕ) → acts bh ≡ []) → IsAlone b.seen → Calm a.seen → out_of b.seen ≡ [] → (i : ℕ) → is_pending i b.seen ≡ false
  none_pending_after idle alone calm none i =
      let after = calm_after alone none calm in
      let made = runs_none acts idle end.log [] acted in
      let empty : stack_of b.seen ≡ [] = ap stack_of seen ∙ Empty-frame acts a.sizes 7 (start_of a.seen) end frame [] [] end.log (sym (append-nil end.log)) acted made.0 (subst IsAlone seen alone) (subst (IsLegal a.sizes) seen legal) in
      none_pends a.sizes b.seen legal after.announced empty none i

  pub Polls-script : (script : LoopScript) (log : Log) → NamesCalled n.ran n.more [] → sizes_of script ≡ a.sizes → ((bh : ℕ) → acts bh ≡ acts_of script.acts bh) → IsAlone b.seen → history_of log ≡ a.seen → PollsInScript script log (made_log between log) (Ran n'.ran n'.more polled.progress polled.cut_nests)
  Polls-script script log names sizes agree alone is =
      let told = names_of acts n end.log n' names runs in
      let calls = map called_as (called_of end.log) in
      record {
        end = end;
        added = between;
        frame = subst (λ z. Frame z 8 (start_of (history_of log)) end) (sym sizes) (subst (λ h. Frame a.sizes 8 (start_of h) end) (sym is) frame);
        seen = sym seen ∙ longer ∙ ap (λ h. between ++ h) (sym is);
        alone = (alone_parts between a.seen (subst IsAlone longer alone)).0;
        legal = subst (λ z. IsLegal z end.seen) (sym sizes) (subst (IsLegal a.sizes) seen legal);
        runs = runs_other acts (acts_of script.acts) agree [] end.log [] acted;
        log = refl;
        replies = ap (λ r. Ran r n'.more polled.progress polled.cut_nests) told.first ∙ ap (λ m. Ran (take named_most calls) m polled.progress polled.cut_nests) told.besides
            ∙ ap (λ p. Ran (take named_most calls) (counted (length calls - named_most)) p polled.cut_nests) progress ∙ ap (λ c. Ran (take named_most calls) (counted (length calls - named_most)) end.progress c) cut;
      }

-- the home idles again after a poll
pub Idles-polled : {R : Type 0} (does : R → Entered → R → Type 0) (polled : Polled) (r r' : R) (table : TableState) (a b : SeatState) → Idles table a → IsSeatOf table b → Polls does polled r a.known r' b.known → Idles table b
Idles-polled does polled r r' table a b idles of polls =
    let on = polls.goes_on in
    record {
      of = of;
      rest = ap (λ (k : Known). k.phase) on.rest ∙ idles.rest;
      first = ap (λ (k : Known). k.first) on.rest ∙ idles.first;
      count = ap (λ (k : Known). k.count) on.rest ∙ idles.count;
      stage = polls.stage;
      running = ap (λ (k : Known). is_running k.sleep) on.rest ∙ idles.running;
      legal = subst (λ s. IsLegal s b.known.seen) idles.of.sizes on.legal;
    }

-- a runner whose lists stay, and which keeps such notes
module _ {R L : Type 0} (lists_in : R → L) (acts_in : L → ℕ → List ActKind) (noted_in : R → BellNotes) (polled : Polled) (r r' : R) (a b : Known)
    (polls : Polls (λ before entered after. (lists_in after ≡ lists_in before) × DoesEntry (acts_in (lists_in before)) (noted_in before) entered (noted_in after)) polled r a r' b)
    (none : (noted_in r).waiting ≡ []) where
  the_runs : (lists_in r' ≡ lists_in r) × DoesEntries (DoesEntry (acts_in (lists_in r))) (noted_in r) polls.end.log (noted_in r')
  the_runs = runs_noted lists_in acts_in noted_in r polls.end.log r' polls.runs

  pub lists_stay : lists_in r' ≡ lists_in r
  lists_stay = the_runs.0

  pub none_waits_then : (noted_in r').waiting ≡ []
  none_waits_then =
      none_waits_after (acts_in (lists_in r)) (noted_in r) (noted_in r') polled a b polls.end polls.goes_on.between polls.frame polls.seen the_runs.1 polls.progress polls.cut_nests polls.goes_on.seen polls.goes_on.legal none

  pub none_lives_then : IsAlone b.seen → Calm a.seen → (i : ℕ) → lives i b.seen ≡ false
  none_lives_then alone calm =
      none_lives_after (acts_in (lists_in r)) (noted_in r) (noted_in r') polled a b polls.end polls.goes_on.between polls.frame polls.seen the_runs.1 polls.progress polls.cut_nests polls.goes_on.seen polls.goes_on.legal none alone calm polls.none_out

  pub none_pending_then : ((bh : ℕ) → acts_in (lists_in r) bh ≡ []) → IsAlone b.seen → Calm a.seen → (i : ℕ) → is_pending i b.seen ≡ false
  none_pending_then idle alone calm =
      none_pending_after (acts_in (lists_in r)) (noted_in r) (noted_in r') polled a b polls.end polls.goes_on.between polls.frame polls.seen the_runs.1 polls.progress polls.cut_nests polls.goes_on.seen polls.goes_on.legal none idle alone calm polls.none_out

  pub events_then : IsAlone b.seen → (e : ℕ) → is_set e b.seen ≡ is_set e a.seen
  events_then alone e =
      events_after (acts_in (lists_in r)) (noted_in r) (noted_in r') polled a b polls.end polls.goes_on.between polls.frame polls.seen the_runs.1 polls.progress polls.cut_nests polls.goes_on.seen polls.goes_on.legal none alone e

  pub AnswersSeen-polled : (sizes : Sizes) → a.sizes ≡ sizes → NamesCalled (noted_in r).ran (noted_in r).more [] → AnswersSeen sizes (acts_in (lists_in r)) Poll (Ran (noted_in r').ran (noted_in r').more polled.progress polled.cut_nests) (noted_in r).rang (noted_in r').rang a.seen b.seen
  AnswersSeen-polled sizes same names = record {
    between = polls.goes_on.between;
    longer = polls.goes_on.seen;
    at = λ alone script log of stands. record {
      after = made_log polls.goes_on.between log;
      does =
          Polls-script (acts_in (lists_in r)) (noted_in r) (noted_in r') polled a b polls.end polls.goes_on.between polls.frame polls.seen the_runs.1 polls.progress polls.cut_nests polls.goes_on.seen polls.goes_on.legal none script log names (of.sizes_are ∙ sym same) of.acts_are alone stands.history;
      stands = record {
        history = history_of-made polls.goes_on.between log ∙ ap (λ h. polls.goes_on.between ++ h) stands.history ∙ sym polls.goes_on.seen;
        rung = rung_after (acts_in (lists_in r)) (noted_in r) (noted_in r') polled a b polls.end polls.goes_on.between polls.frame polls.seen the_runs.1 polls.progress polls.cut_nests polls.goes_on.seen polls.goes_on.legal none alone log stands.rung;
        calm = calm_after (acts_in (lists_in r)) (noted_in r) (noted_in r') polled a b polls.end polls.goes_on.between polls.frame polls.seen the_runs.1 polls.progress polls.cut_nests polls.goes_on.seen polls.goes_on.legal none alone polls.none_out stands.calm;
      };
    };
  }
