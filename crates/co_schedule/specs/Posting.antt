-- What a post does to the loop of the home.
use Rattle.aio_model.specs.declared.loops.flags.Flags.{Flags}
use Rattle.aio_model.specs.Loop.History.{ToCall}
use Rattle.aio_core.specs.Known.{Known}
use Rattle.aio_bh.specs.Enqueuing.{Schedules, enqueue_entries, AddsOnly}

-- handle 0 of the loop was scheduled, by the clauses of the loop's own schedule
pub record SchedulesHandle (before after : Known) : Type 0 where
  pub flags : Flags
  pub steps : Schedules 0 ToCall flags before after
  pub stands : AddsOnly (enqueue_entries 0 ToCall before.first flags) before after
