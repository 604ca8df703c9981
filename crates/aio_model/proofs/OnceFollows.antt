-- A one-shot follows the log: a life of the lot begins, and it is enqueued.
use Rattle.std.proofs.Common.{◌≡◌, ℕ, ◌<◌, true, false, eqb, ◌∷◌, length, get_or, set, length-set, get_or-set_same, get_or-set_other, refl, ◌∙◌}
use Rattle.std.proofs.lemmas.Bool.{eq-eqb, or_right}
use Rattle.aio_model.specs.Loop.History.{ToCallOnce, New, Enqueue, History}
use Rattle.aio_model.specs.Loop.Flags.{lives, is_lot}
use Rattle.aio_model.specs.Loop.Legal.{MayFollow}
use Rattle.aio_model.specs.Loop.Log.{Made, Log, history_of, flags_before, begun_log}
use Rattle.aio_model.specs.Loop.State.{LoopState, blank, half_at, half_of, StandsFor}
use Rattle.aio_model.specs.Loop.Steps.{added_by, enqueued_state, begun_state}
use Rattle.aio_model.proofs.Indices.{by_query}
use Rattle.aio_model.proofs.Lifeless.{half_of-lifeless}
use Rattle.aio_model.proofs.LoopFollows.{enqueue_follows}

half_of-new : (i seat job : ℕ) (H : History) → record blank { lives = true } ≡ half_of i (New i seat job ∷ H)
half_of-new i seat job H = let e : eqb i i ≡ true = eq-eqb i i refl in rw e refl

module _ (st : LoopState) (log : Log) (stands : StandsFor st log) (i seat job : ℕ) (lot : is_lot st.sizes i ≡ true) (vacant : lives i (history_of log) ≡ false) (below : i < length st.halves) where
  begun_halves : (j : ℕ) → get_or (set st.halves i (record (half_at i st) { lives = true })) j blank ≡ half_of j (New i seat job ∷ history_of log)
  begun_halves j =
      let bare : half_at i st ≡ blank = stands.halves i ∙ half_of-lifeless st.sizes i (history_of log) stands.legal lot vacant in
      by_query i j (λ k. get_or (set st.halves i (record (half_at i st) { lives = true })) k blank ≡ half_of k (New i seat job ∷ history_of log)) (rw (get_or-set_same, bare) (half_of-new i seat job (history_of log))) (λ ne e. rw (get_or-set_other st.halves i j _ blank ne, e) (stands.halves j))

  begin_follows : StandsFor (begun_state i st) (Made (New i seat job) ∷ log)
  begin_follows =
      record {
        legal = ((lot, vacant), stands.legal);
        halves = begun_halves;
        stack = stands.stack;
        out = stands.out;
        events = stands.events;
        rung = stands.rung;
      }

  may_ask : MayFollow st.sizes (Enqueue i ToCallOnce seat (flags_before i (Made (New i seat job) ∷ log))) (New i seat job ∷ history_of log)
  may_ask =
      let e : eqb i i ≡ true = eq-eqb i i refl in
      (rw e (or_right _ _ refl), refl, (lot, rw e refl))

  pub once_follows : StandsFor (enqueued_state (added_by ToCallOnce) i (begun_state i st)) (begun_log i seat job log)
  once_follows =
      (enqueue_follows (begun_state i st) i ToCallOnce seat (Made (New i seat job) ∷ log) begin_follows (rw length-set below) may_ask).1
