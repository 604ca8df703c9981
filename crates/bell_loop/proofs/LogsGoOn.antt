-- Where home alone makes the history, a call of home is a step from log to log.
use Rattle.std.proofs.Common.{◌≡◌, ℕ, Bool, true, false, cond, eqb, List, [], ◌∷◌, ◌++◌, arith, refl, sym, ◌∙◌, ap, subst}
use Rattle.aio_model.specs.declared.loops.flags.Flags.{Flags}
use Rattle.aio_model.specs.Loop.History.{Sizes, EnqueueAsks, Entry, Enqueue, Put, Cancel, SetEvent, ClearEvent, History}
use Rattle.aio_model.specs.Loop.Flags.{flags_of, enqueues}
use Rattle.aio_model.specs.Loop.Lists.{is_set, out_of}
use Rattle.aio_model.specs.Loop.Legal.{IsLegal}
use Rattle.aio_model.specs.Loop.Log.{history_of, flags_before, enqueued_log, canceled_log, set_log, is_set_in, cleared_log}
use Rattle.aio_model.specs.Loop.Seats.{home, entries_of}
use Rattle.aio_model.specs.Scripts.LoopActs.{enqueue_made}
use Rattle.aio_model.specs.Loop.InFlight.{AtRest}
use Rattle.aio_core.specs.Known.{Known, Done, numbers_of, is_running}
use Rattle.aio_core.specs.Standing.{Makes, Cancels}
use Rattle.aio_core.specs.SleepSteps.{ClearsEvent}
use Rattle.aio_core.specs.Calls.{TableState, SeatState, IsSeatOf}
use Rattle.aio_bh.specs.Enqueuing.{AddsOnly, enqueue_entries}
use Rattle.aio_bh.proofs.Entries.{none_of_own}
use Rattle.bell_loop.specs.Running.{IsAlone, Calm, Lots, Idles, GoesTo, SameButSeen}
use Rattle.bell_loop.proofs.Held.{NoneAnnounced-entry, NoneAnnounced-enqueue, Lots-enqueue, out-enqueue}
use Rattle.bell_loop.proofs.Alone.{alone_parts, none_else}
use Rattle.bell_loop.proofs.Logs.{history_of-made, enqueued-made}

pub Idles-after : (table : TableState) (a b : SeatState) → Idles table a → IsSeatOf table b → SameButSeen a.known b.known → IsLegal a.known.sizes b.known.seen → Idles table b
Idles-after table a b idles of same legal = record {
  of = of;
  rest = ap (λ (k : Known). k.phase) same ∙ idles.rest;
  first = ap (λ (k : Known). k.first) same ∙ idles.first;
  count = ap (λ (k : Known). k.count) same ∙ idles.count;
  stage = ap (λ (k : Known). k.stage) same ∙ idles.stage;
  running = ap (λ (k : Known). is_running k.sleep) same ∙ idles.running;
  legal = subst (λ s. IsLegal s b.known.seen) idles.of.sizes legal;
}

-- what a call changes, in that form
same-stands : (entries : History) (a b : Known) → a.phase ≡ AtRest → b.phase ≡ AtRest → AddsOnly entries a b → SameButSeen a b
same-stands entries a b rest still stands =
    let told_is : b.told ≡ a.told = ap (λ (k : Known). k.told) stands.rest in
    stands.rest ∙ ap (λ p. record a { seen = b.seen; mine = b.mine; did = b.did; phase = p }) (still ∙ sym rest) ∙ ap (λ t. record a { seen = b.seen; mine = b.mine; did = b.did; told = t }) (sym told_is)

pub same-done : (a b : Known) (steps : List Done) → b ≡ record a { seen = b.seen; mine = b.mine; did = steps } → SameButSeen a b
same-done a b steps h =
    let did_is : b.did ≡ steps = ap (λ (k : Known). k.did) h in
    let told_is : b.told ≡ a.told = ap (λ (k : Known). k.told) h in
    h ∙ ap (λ d. record a { seen = b.seen; mine = b.mine; did = d }) (sym did_is) ∙ ap (λ t. record a { seen = b.seen; mine = b.mine; did = b.did; told = t }) (sym told_is)

were_flags : (sizes : Sizes) (i : ℕ) (asked : EnqueueAsks) (flags : Flags) (b : Bool) (seen : History) → IsLegal sizes (cond b (Enqueue i asked home flags ∷ []) (Put i home ∷ (Enqueue i asked home flags ∷ [])) ++ seen) → flags ≡ flags_of i seen
were_flags sizes i asked flags true seen legal = legal.0.1
were_flags sizes i asked flags false seen legal = legal.1.0.1

pub Goes-enqueued : (i : ℕ) (asked : EnqueueAsks) (flags : Flags) (a b : Known) → a.first ≡ 64 → AddsOnly (enqueue_entries i asked a.first flags) a b → GoesTo (enqueued_log i asked home) (λ log. flags ≡ flags_before i log) a.seen b.seen
Goes-enqueued i asked flags a b number stands =
    let s = stands.stands.stands in
    record {
      between = s.rest;
      longer = s.longer;
      at = λ alone log is.
          let parts = alone_parts s.rest a.seen (subst IsAlone s.longer alone) in
          let just : s.rest ≡ enqueue_made i asked flags = sym parts.0 ∙ ap (λ n. entries_of n s.rest) (sym number) ∙ s.just_these ∙ ap (λ n. enqueue_entries i asked n flags) number in
          let seen_is : b.seen ≡ enqueue_made i asked flags ++ a.seen = s.longer ∙ ap (λ l. l ++ a.seen) just in
          let were : flags ≡ flags_of i a.seen = were_flags a.sizes i asked flags flags.pending a.seen (subst (IsLegal a.sizes) seen_is s.legal) in
          let told : flags ≡ flags_before i log = were ∙ ap (flags_of i) (sym is) in
          (ap history_of (enqueued-made i asked log) ∙ history_of-made (enqueue_made i asked (flags_before i log)) log ∙ ap (λ f. enqueue_made i asked f ++ history_of log) (sym told) ∙ ap (λ h. enqueue_made i asked flags ++ h) is ∙ sym seen_is, told);
      calm = λ alone calm.
          let parts = alone_parts s.rest a.seen (subst IsAlone s.longer alone) in
          let just : s.rest ≡ enqueue_made i asked flags = sym parts.0 ∙ ap (λ n. entries_of n s.rest) (sym number) ∙ s.just_these ∙ ap (λ n. enqueue_entries i asked n flags) number in
          let seen_is : b.seen ≡ enqueue_made i asked flags ++ a.seen = s.longer ∙ ap (λ l. l ++ a.seen) just in
          subst Calm (sym seen_is) record {
            none_out = out-enqueue i asked flags flags.pending a.seen ∙ calm.none_out;
            announced = NoneAnnounced-enqueue a.sizes i asked flags flags.pending a.seen refl (subst (IsLegal a.sizes) seen_is s.legal) calm.announced;
            lots = Lots-enqueue (λ _. ⊥) i asked flags flags.pending a.seen calm.lots;
          };
    }

pub Idles-enqueued : (entries : History) (table : TableState) (a b : SeatState) → Idles table a → IsSeatOf table b → b.known.phase ≡ AtRest → AddsOnly entries a.known b.known → Idles table b × SameButSeen a.known b.known
Idles-enqueued entries table a b idles of still stands =
    let same = same-stands entries a.known b.known idles.rest still stands in
    (Idles-after table a b idles of same stands.stands.stands.legal, same)

-- one entry more, which is no enqueue
calm_more : (e : Entry) (h : History) → ((i : ℕ) → enqueues i e ≡ false) → out_of (e ∷ h) ≡ out_of h → Lots (λ _. ⊥) (e ∷ h) → Calm h → Calm (e ∷ h)
calm_more e h quiet out lots calm =
    record { announced = NoneAnnounced-entry e h quiet calm.announced; none_out = out ∙ calm.none_out; lots = lots }

-- one entry was made
made_alone : (e : Entry) (a b : Known) → a.first ≡ 64 → a.count ≡ 1 → Makes e a b → IsAlone b.seen → b.seen ≡ e ∷ a.seen
made_alone e a b number one makes alone =
    let parts = alone_parts (e ∷ []) (makes.others ++ a.seen) (subst IsAlone makes.seen alone) in
    let none : entries_of home makes.others ≡ [] = ap (λ n. entries_of n makes.others) (sym number) ∙ none_of_own (numbers_of a) makes.others (omega (arith, one)) makes.not_own in
    makes.seen ∙ ap (λ l. e ∷ (l ++ a.seen)) (none_else makes.others (alone_parts makes.others a.seen parts.1).0 none)

pub Goes-canceled : (i : ℕ) (flags : Flags) (a b : Known) → a.first ≡ 64 → a.count ≡ 1 → Cancels i flags a b → GoesTo (canceled_log i home) (λ log. flags ≡ flags_before i log) a.seen b.seen
Goes-canceled i flags a b number one cancels = record {
  between = Cancel i a.first flags ∷ cancels.makes.others;
  longer = cancels.makes.seen;
  at = λ alone log is.
      let seen_is : b.seen ≡ Cancel i home flags ∷ a.seen = made_alone (Cancel i a.first flags) a b number one cancels.makes alone ∙ ap (λ n. Cancel i n flags ∷ a.seen) number in
      let legal : IsLegal a.sizes (Cancel i home flags ∷ a.seen) = subst (IsLegal a.sizes) seen_is cancels.makes.legal in
      let told : flags ≡ flags_before i log = legal.0.1 ∙ ap (flags_of i) (sym is) in
      (ap (λ f. Cancel i home f ∷ history_of log) (sym told) ∙ ap (λ h. Cancel i home flags ∷ h) is ∙ sym seen_is, told);
  calm = λ alone calm. subst Calm (sym (made_alone (Cancel i a.first flags) a b number one cancels.makes alone)) (calm_more (Cancel i a.first flags) a.seen (λ k. refl) refl calm.lots calm);
}

pub Goes-set : (e : ℕ) (a b : Known) → a.first ≡ 64 → a.count ≡ 1 → Makes (SetEvent e a.first) a b → GoesTo (set_log e home) (λ _. Unit {0}) a.seen b.seen
Goes-set e a b number one makes = record {
  between = SetEvent e a.first ∷ makes.others;
  longer = makes.seen;
  at = λ alone log is.
      let seen_is : b.seen ≡ SetEvent e home ∷ a.seen = made_alone (SetEvent e a.first) a b number one makes alone ∙ ap (λ n. SetEvent e n ∷ a.seen) number in
      (ap (λ h. SetEvent e home ∷ h) is ∙ sym seen_is, tt);
  calm = λ alone calm. subst Calm (sym (made_alone (SetEvent e a.first) a b number one makes alone)) (calm_more (SetEvent e a.first) a.seen (λ k. refl) refl calm.lots calm);
}

pub Goes-cleared : (e found : ℕ) (was : Bool) (a b : Known) → a.first ≡ 64 → a.count ≡ 1 → was ≡ eqb found 1 → ClearsEvent e found a b → GoesTo (cleared_log e) (λ log. was ≡ is_set_in e log) a.seen b.seen
Goes-cleared e found was a b number one is_was clears = record {
  between = ClearEvent e (eqb found 1) ∷ clears.makes.others;
  longer = clears.makes.seen;
  at = λ alone log is.
      let seen_is : b.seen ≡ ClearEvent e was ∷ a.seen = made_alone (ClearEvent e (eqb found 1)) a b number one clears.makes alone ∙ ap (λ w. ClearEvent e w ∷ a.seen) (sym is_was) in
      let legal : IsLegal a.sizes (ClearEvent e was ∷ a.seen) = subst (IsLegal a.sizes) seen_is clears.makes.legal in
      let told : was ≡ is_set_in e log = legal.0 ∙ ap (is_set e) (sym is) in
      (ap (λ w. ClearEvent e w ∷ history_of log) (sym told) ∙ ap (λ h. ClearEvent e was ∷ h) is ∙ sym seen_is, told);
  calm = λ alone calm. subst Calm (sym (made_alone (ClearEvent e (eqb found 1)) a b number one clears.makes alone)) (calm_more (ClearEvent e (eqb found 1)) a.seen (λ k. refl) refl calm.lots calm);
}
