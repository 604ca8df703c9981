-- The steps of a loop of one thread follow its log.
use Rattle.std.proofs.Common.{◌≡◌, ℕ, ◌<◌, Bool, true, false, cond, ◌||◌, eqb, ltb, List, [], ◌∷◌, ◌++◌, length, get_or, set, get_or-set_same, get_or-set_other, Option, Some, None, refl, sym, ap, ◌∙◌, subst}
use Rattle.std.proofs.lemmas.Bool.{eq-eqb, lt-ltb, false_from_ne_true}
use Rattle.aio_model.specs.declared.loops.flags.Flags.{Flags}
use Rattle.aio_model.specs.declared.loops.bottom_halves.BottomHalf.{BottomHalf}
use Rattle.aio_model.specs.Loop.History.{Sizes, EnqueueAsks, ToCall, ToCallIdle, ToDelete, ToCallOnce, Enqueue, Put, Dequeue, History}
use Rattle.aio_model.specs.Loop.Flags.{has_life, lives, is_pending, flags_of, is_due, ends_round, enqueues}
use Rattle.aio_model.specs.Loop.Lists.{was_put, announcer_of, or_else, out_of, head_of, seat_of}
use Rattle.aio_model.specs.Loop.Legal.{MayFollow}
use Rattle.aio_model.specs.Loop.Log.{Made, Log, history_of, flags_before, asked_log, enqueued_log, next_of, dequeued_log, taken_count, taken_log}
use Rattle.aio_model.specs.Loop.State.{LoopState, blank, half_at, half_of, StandsFor}
use Rattle.aio_model.specs.Loop.Steps.{added_by, asked_half, enqueued_state, after_dequeue}
use Rattle.aio_model.proofs.Indices.{by_query}
use Rattle.aio_model.proofs.AnnouncedOnce.{fits, out_of-take, out_of-dequeue}

-- an index that is not pending has no announcer
no_announcer-more : (ends here before : Bool) (first : Option ℕ) (seat : ℕ) → (before ≡ false → first ≡ None) → cond ends false (here || before) ≡ false → cond ends None (or_else first (cond here (Some seat) None)) ≡ None
no_announcer-more true here before first seat k h = refl
no_announcer-more false true before first seat k h = absurd cc
no_announcer-more false false before first seat k h = rw (k h) refl

pub no_announcer : (i : ℕ) (H : History) → is_pending i H ≡ false → announcer_of i H ≡ None
no_announcer i [] h = refl
no_announcer i (e ∷ H) h =
    no_announcer-more (ends_round i e) (enqueues i e) (is_pending i H) (announcer_of i H) (seat_of e) (no_announcer i H) h

half_of-enqueue : (i : ℕ) (asked : EnqueueAsks) (seat : ℕ) (was : Flags) (H : History) → asked_half (added_by asked) (half_of i H) ≡ half_of i (Enqueue i asked seat was ∷ H)
half_of-enqueue i ToCall seat was H = let e : eqb i i ≡ true = eq-eqb i i refl in rw e refl
half_of-enqueue i ToCallIdle seat was H = let e : eqb i i ≡ true = eq-eqb i i refl in rw e refl
half_of-enqueue i ToDelete seat was H = let e : eqb i i ≡ true = eq-eqb i i refl in rw e refl
half_of-enqueue i ToCallOnce seat was H = let e : eqb i i ≡ true = eq-eqb i i refl in rw e refl

module _ (st : LoopState) (i : ℕ) (asked : EnqueueAsks) (seat : ℕ) (log : Log) (stands : StandsFor st log) (below : i < length st.halves) (may : MayFollow st.sizes (Enqueue i asked seat (flags_before i log)) (history_of log)) where
  enqueued_halves : (j : ℕ) → get_or (set st.halves i (asked_half (added_by asked) (half_at i st))) j blank ≡ half_of j (history_of (asked_log i asked seat log))
  enqueued_halves j =
      by_query i j (λ k. get_or (set st.halves i (asked_half (added_by asked) (half_at i st))) k blank ≡ half_of k (history_of (asked_log i asked seat log))) (rw (get_or-set_same, stands.halves i) (half_of-enqueue i asked seat (flags_before i log) (history_of log))) (λ ne e. rw (get_or-set_other st.halves i j _ blank ne, e) (stands.halves j))

  abbrev state_at : Bool → LoopState
  state_at p =
      record st { halves = set st.halves i (asked_half (added_by asked) (half_at i st)); stack = cond p st.stack (i ∷ st.stack); rung = true }

  abbrev log_at : Bool → Log
  log_at p = cond p (asked_log i asked seat log) (Made (Put i seat) ∷ asked_log i asked seat log)

  may_put : is_pending i (history_of log) ≡ false → MayFollow st.sizes (Put i seat) (history_of (asked_log i asked seat log))
  may_put idle =
      let e : eqb i i ≡ true = eq-eqb i i refl in
      let f = fits st.sizes (history_of log) i stands.legal in
      let unput : was_put i (history_of log) ≡ false = false_from_ne_true _ (λ q. let p = f.enqueued q in cc) in
      (rw (e, unput) refl, rw (no_announcer i (history_of log) idle, e) refl)

  enqueued_at : (p : Bool) → is_pending i (history_of log) ≡ p → StandsFor (state_at p) (log_at p)
  enqueued_at true h =
      record {
        legal = (may, stands.legal);
        halves = enqueued_halves;
        stack = stands.stack;
        out = stands.out;
        events = stands.events;
        rung = refl;
      }
  enqueued_at false h =
      record {
        legal = (may_put h, (may, stands.legal));
        halves = enqueued_halves;
        stack = ap (λ xs. i ∷ xs) stands.stack;
        out = stands.out;
        events = stands.events;
        rung = refl;
      }

  pub enqueue_follows : ((half_at i st).flags ≡ flags_before i log) × StandsFor (enqueued_state (added_by asked) i st) (enqueued_log i asked seat log)
  enqueue_follows =
      let pending : (half_at i st).flags.pending ≡ is_pending i (history_of log) = ap (λ h. h.flags.pending) (stands.halves i) in
      (ap (λ h. h.flags) (stands.halves i), subst (λ p. StandsFor (state_at p) (enqueued_log i asked seat log)) (sym pending) (enqueued_at (is_pending i (history_of log)) refl))

pub handle_lives : (sizes : Sizes) (i : ℕ) (H : History) → i < sizes.handles → has_life sizes i H ≡ true
handle_lives sizes i H below =
    let e : ltb i sizes.handles ≡ true = lt-ltb i sizes.handles below in
    rw e refl

half_of-dequeue : (i : ℕ) (ran : Bool) (H : History) → record { flags = after_dequeue (flags_of i H); lives = lives i H; dequeued = true } ≡ half_of i (Dequeue i ran ∷ H)
half_of-dequeue i ran H = let e : eqb i i ≡ true = eq-eqb i i refl in rw e refl

abbrev pub dequeued_half : BottomHalf → BottomHalf
dequeued_half half =
    record { flags = after_dequeue half.flags; lives = half.lives; dequeued = true }

module _ (st : LoopState) (log : Log) (stands : StandsFor st log) where
  module _ (i : ℕ) (rest : List ℕ) (next : st.out ≡ i ∷ rest) (below : i < length st.halves) where
    dequeued_halves : (ran : Bool) (j : ℕ) → get_or (set st.halves i (dequeued_half (half_at i st))) j blank ≡ half_of j (Dequeue i ran ∷ history_of log)
    dequeued_halves ran j =
        by_query i j (λ k. get_or (set st.halves i (dequeued_half (half_at i st))) k blank ≡ half_of k (Dequeue i ran ∷ history_of log)) (rw (get_or-set_same, stands.halves i) (half_of-dequeue i ran (history_of log))) (λ ne e. rw (get_or-set_other st.halves i j _ blank ne, e) (stands.halves j))

    pub dequeue_follows : (Some (i, (half_at i st).flags) ≡ next_of log) × StandsFor (record st { halves = set st.halves i (dequeued_half (half_at i st)); out = rest }) (dequeued_log log)
    dequeue_follows =
        let is_out : out_of (history_of log) ≡ i ∷ rest = sym stands.out ∙ next in
        let first : head_of (out_of (history_of log)) ≡ Some i = rw is_out refl in
        let left = out_of-dequeue (history_of log) i (is_due i (history_of log)) first in (
          rw (first, stands.halves i) refl,
          rw first record {
            legal = ((first, refl), stands.legal);
            halves = dequeued_halves (is_due i (history_of log));
            stack = stands.stack;
            out = cc;
            events = stands.events;
            rung = stands.rung;
          },
        )

  pub take_follows : (length st.stack ≡ taken_count log) × StandsFor (record st { stack = []; out = st.out ++ st.stack }) (taken_log log)
  take_follows = (
    ap length stands.stack,
    record {
      legal = (tt, stands.legal);
      halves = stands.halves;
      stack = refl;
      out = rw (out_of-take st.sizes (history_of log) stands.legal, stands.out, stands.stack) refl;
      events = stands.events;
      rung = stands.rung;
    },
  )
