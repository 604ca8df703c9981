-- What a thread carries may go to another thread, where the coroutines and the clock may.
use denote.RattleType.{RattleType}
use denote.Param.Send.{IsSend, sendable, struct_send, recorded_send}
use denote.Struct.Declared.{shape}
use denote.Struct.Tuple.{TupleAt, type_at, field_at}
use mir.Syntax.{Sym}
use Rattle.std.proofs.Common.{List, [], ◌∷◌}
use Rattle.aio_bh.below.atomic_table.proofs.shared.Seat.TheSendSync.{the_send as table_seat_send}
use Rattle.aio_core.proofs.seat.Seat.TheSendSync.{the_send as loop_seat_send}
use Rattle.aio_loop.below.slab.proofs.Entry.TheSendSync.{the_send as slab_entry_send}
use Rattle.co_loop.below.chosen.proofs.Chosen.TheSendSync.{the_send as chosen_send}
use Rattle.co_loop.proofs.leaving.Leaving.TheSendSync.{the_send as leaving_send}
use Rattle.co_loop.proofs.naps.Nap.TheSendSync.{the_send as nap_send}
use Rattle.co_schedule.proofs.runs.CoRun.TheSendSync.{the_send as run_send}
use Rattle.co_schedule.proofs.seat.CoSeat.TheSendSync.{the_send as co_seat_send}
use Rattle.co_state.proofs.store.Slot.TheSendSync.{the_send as slot_send}
use Rattle.co_state.proofs.tree.Entry.TheSendSync.{the_field_send as tree_entry_field_send}
use Rattle.co_state.proofs.tree.Tree.TheLaws.TheKnot.{crosses as tree_crosses}
use Rattle.co_waits.proofs.queue.CoQueue.TheSendSync.{the_send as queue_send}
use Rattle.std.proofs.Crossing.{crosses}
use Rattle.std.proofs.boxed.Box.TheSendSync.{the_send as box_send}
use Rattle.std.proofs.option.Option.TheSendSync.{the_field_send as option_field_send, the_send as option_send}
use Rattle.std.proofs.vec.Vec.TheSendSync.{the_send as vec_send}
use Rattle.co_state.specs.declared.co.Origin.{Ghosts}
use Rattle.co_loop.specs.contracts.working.CoWork as CoWork
use Rattle.loop_threads.specs.contracts.parts.Part as Part
use Rattle.loop_threads.proofs.parts.Part.TheSendSync.{the_send}

-- what a closure has that captures so much
pub five_send : (name : Sym) (A B C D E : RattleType) → IsSend A → IsSend B → IsSend C → IsSend D → IsSend E → IsSend (TupleAt name (A ∷ B ∷ C ∷ D ∷ E ∷ []))
five_send name A B C D E a b c d e =
    let all : List RattleType = A ∷ B ∷ C ∷ D ∷ E ∷ [] in
    recorded_send (field_at name all).row _ _ (type_at name all).to_one (struct_send (shape (type_at name all)) (a, (b, (c, (d, (e, tt))))))

module _ (C K O : RattleType) (g : Ghosts C.Denot O.Denot) where
  work_send : IsSend C → IsSend K → IsSend (CoWork.the_row C K O g)
  work_send c k =
      search (loop_seat_send, table_seat_send, chosen_send, leaving_send, nap_send, run_send, co_seat_send, slot_send, tree_entry_field_send, queue_send, option_field_send, option_send, slab_entry_send, box_send, vec_send, crosses, tree_crosses, sendable) depth 60 fits 20000

  pub part_work_send : IsSend C → IsSend K → IsSend (Part.the_row C (CoWork.the_row C K O g) O g)
  part_work_send c k = the_send C (CoWork.the_row C K O g) O g c (work_send c k)
