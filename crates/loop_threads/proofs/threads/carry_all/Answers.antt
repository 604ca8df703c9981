use denote.Exit.{no}
use denote.Param.Send.{param_send, param_sync, arg_send, arg_sync}
use Rattle.loop_threads.proofs.threads.carry_all.Goals as goal

pub scoped-requires : goal.scoped-requires
scoped-requires g c =
    let asked = c.requires in
    let bounds = c.type_bounds in
    record {
      at = λ a. (
        (asked.lent, asked.flags, asked.waiting, asked.empty.0, asked.empty.1, asked.empty.2, asked.room.0, asked.room.1, asked.room.2),
        (param_send 0 _ (arg_send _ no _ bounds.send-C), param_send 3 _ (arg_send _ no _ bounds.send-K), param_sync 1 _ (arg_sync _ no _ bounds.sync-E), param_sync 2 _ (arg_sync _ no _ bounds.sync-R)),
      );
    }
