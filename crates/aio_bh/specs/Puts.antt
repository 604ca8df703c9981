-- What came of an enqueue that tried once to push.
use Rattle.std.specs.Prelude.{◌≡◌, ℕ, ◌∷◌, []}
use Rattle.aio_model.specs.Loop.History.{EnqueueAsks, Enqueue}
use Rattle.aio_model.specs.Loop.InFlight.{AtRest, Announced}
use Rattle.aio_core.specs.Known.{Known}
use Rattle.aio_bh.specs.declared.put.Put.{Put}
use Rattle.aio_bh.specs.declared.put.Put.TheVariants.{Done, Owed}
use Rattle.aio_bh.specs.Enqueuing.{SchedulesAtOnce, SchedulesLater, enqueue_entries, AddsOnly}

-- done: what there was to push was pushed, home was notified, and the seat is at rest; owed: the try found another head, and nobody was
-- notified
abbrev pub TriedToPut : ℕ → EnqueueAsks → Put → Known → Known → Type 0
TriedToPut i asked (Done flags) before after =
    SchedulesAtOnce i asked flags before after × AddsOnly (enqueue_entries i asked before.first flags) before after × (after.phase ≡ AtRest)
TriedToPut i asked (Owed flags owed) before after =
    SchedulesLater i asked flags before after × AddsOnly (Enqueue i asked before.first flags ∷ []) before after × (owed ≡ i) × (after.phase ≡ Announced i)
