-- Logs with entries added.
use Rattle.std.proofs.Common.{◌≡◌, ℕ, true, false, cond, [], ◌∷◌, ◌++◌, refl, ap}
use Rattle.aio_model.specs.Loop.History.{EnqueueAsks, Enqueue, Put, History}
use Rattle.aio_model.specs.Loop.Flags.{is_pending}
use Rattle.aio_model.specs.Loop.Log.{Made, Log, history_of, flags_before, asked_log, enqueued_log, is_rung}
use Rattle.aio_model.specs.Loop.Seats.{home}
use Rattle.aio_model.specs.Scripts.LoopActs.{enqueue_made}
use Rattle.aio_model.specs.Scripts.LoopReplies.{made_log}

pub history_of-made : (added : History) (log : Log) → history_of (made_log added log) ≡ added ++ history_of log
history_of-made [] log = refl
history_of-made (e ∷ older) log = ap (λ h. e ∷ h) (history_of-made older log)

-- an enqueue by home adds what an action of its kind adds
pub enqueued-made : (i : ℕ) (asked : EnqueueAsks) (log : Log) → enqueued_log i asked home log ≡ made_log (enqueue_made i asked (flags_before i log)) log
enqueued-made i asked log =
    elim (is_pending i (history_of log)) as (λ b. (cond b (asked_log i asked home log) (Made (Put i home) ∷ asked_log i asked home log)) ≡ made_log (cond b (Enqueue i asked home (flags_before i log) ∷ []) (Put i home ∷ (Enqueue i asked home (flags_before i log) ∷ []))) log) [ true ↦ refl | false ↦ refl ]

pub enqueued_rings : (i : ℕ) (asked : EnqueueAsks) (seat : ℕ) (log : Log) → is_rung (enqueued_log i asked seat log) ≡ true
enqueued_rings i asked seat log =
    elim (is_pending i (history_of log)) as (λ b. is_rung (cond b (asked_log i asked seat log) (Made (Put i seat) ∷ asked_log i asked seat log)) ≡ true) [ true ↦ refl | false ↦ refl ]
