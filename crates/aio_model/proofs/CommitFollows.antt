-- A commit follows the log.
use Rattle.std.proofs.Common.{◌≡◌, ℕ, ◌+◌, false, get_or, refl, ap, ◌∙◌}
use Rattle.std.specs.List.{find}
use Rattle.std.specs.Option.{is_some}
use Rattle.aio_model.specs.Loop.Flags.{are_due, are_urgent, is_due, is_urgent}
use Rattle.aio_model.specs.Loop.Lists.{is_set, stack_of}
use Rattle.aio_model.specs.Loop.Log.{Log, history_of, first_from, commit_from, commit_of, committed_log}
use Rattle.aio_model.specs.Loop.State.{LoopState, half_at, StandsFor}
use Rattle.aio_model.proofs.Searches.{first_from-agree, find-agree}

module _ (st : LoopState) (log : Log) (stands : StandsFor st log) where
  urgent_same : find (λ i. are_urgent (half_at i st).flags) st.stack ≡ find (λ i. is_urgent i (history_of log)) (stack_of (history_of log))
  urgent_same =
      find-agree (λ i. are_urgent (half_at i st).flags) (λ i. is_urgent i (history_of log)) (λ i. ap (λ h. are_urgent h.flags) (stands.halves i)) st.stack ∙ ap (find (λ i. is_urgent i (history_of log))) stands.stack

  set_same : first_from (λ e. get_or st.events e false) 0 st.sizes.events ≡ first_from (λ e. is_set e (history_of log)) 0 st.sizes.events
  set_same =
      first_from-agree (λ e. get_or st.events e false) (λ e. is_set e (history_of log)) stands.events 0 st.sizes.events

  due_same : (n : ℕ) → is_some (first_from (λ i. are_due (half_at i st).flags) 0 n) ≡ is_some (first_from (λ i. is_due i (history_of log)) 0 n)
  due_same n =
      ap is_some (first_from-agree (λ i. are_due (half_at i st).flags) (λ i. is_due i (history_of log)) (λ i. ap (λ h. are_due h.flags) (stands.halves i)) 0 n)

  pub commit_answers : (n : ℕ) → n ≡ st.sizes.handles + st.sizes.lots → commit_from (find (λ i. are_urgent (half_at i st).flags) st.stack) (first_from (λ e. get_or st.events e false) 0 st.sizes.events) st.rung (is_some (first_from (λ i. are_due (half_at i st).flags) 0 n)) ≡ commit_of st.sizes log
  commit_answers n e = rw (urgent_same, set_same, stands.rung, due_same n, e) refl

  pub commit_follows : StandsFor (record st { rung = false }) (committed_log log)
  commit_follows =
      record {
        legal = stands.legal;
        halves = stands.halves;
        stack = stands.stack;
        out = stands.out;
        events = stands.events;
        rung = refl;
      }
