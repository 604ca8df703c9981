use Rattle.std.proofs.Common.{[], arith}
use Rattle.aio_timers.specs.Keys.{joint, key_at}
use Rattle.aio_timers.proofs.Rows.{of_rows, joint_none, stamped_none}
use Rattle.aio_timers.proofs.Standing.{stands_from, tell_none}
use Rattle.aio_timers.proofs.timers.Timers.build.Goals as goal

pub returns-in-Ok-clause-stands : goal.returns-in-Ok-clause-stands
returns-in-Ok-clause-stands c =
    let due = c.in-Ok.due in
    let waiting = c.in-Ok.waiting in
    let unset = joint_none due waiting c.in-Ok.ensures.due_empty c.in-Ok.ensures.waiting_empty in
    stands_from (joint due waiting) (key_at due) c.args.room 0 0 (stamped_none (joint due waiting) unset) (omega arith) (of_rows due waiting) [] (tell_none (joint due waiting) (key_at due) unset (λ timer. omega (arith, c.in-Ok.ensures.due_empty timer)))
